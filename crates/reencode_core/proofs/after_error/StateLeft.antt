-- The state that the calls leave, after a front part of the visits of what is read.
use Rattle.std.proofs.Common.{◌≡◌, ℕ, suc, List, [], ◌∷◌, ◌++◌, length, map, Bool, true, false, refl, sym, ap, ◌∙◌, append-nil, arith, subst}
use Rattle.std.proofs.lemmas.List.{map-append}
use Rattle.wasm_shapes.specs.declared.Visit.{Visit}
use Rattle.wasm_shapes.specs.Tree.{Tree, visits}
use Rattle.wasm_shapes.specs.Rows.{rows_then}
use Rattle.wasm_read.specs.declared.types.SubType as r
use Rattle.wasm_read.specs.declared.types.Export.{Export}
use Rattle.wasm_read.specs.declared.types.TableType.{TableType}
use Rattle.wasm_read.specs.declared.types.TableInit.{TableInit}
use Rattle.wasm_read.specs.declared.types.TableInit.TheVariants as init
use Rattle.wasm_read.specs.Expressions.{Expression, expr_tree}
use Rattle.wasm_read.specs.Types as read
use Rattle.wasm_write.specs.declared.types.ExportKind.{ExportKind}
use Rattle.wasm_write.specs.Rows as write
use Rattle.reencode_hooks.specs.declared.error.Error.{Error}
use Rattle.reencode_hooks.specs.Run.{Step, accepted, refused, Visited}
use Rattle.reencode_hooks.specs.Walk.{walk}
use Rattle.reencode_items.proofs.Leaving.{first_visited, second_visited}
use Rattle.reencode_core.specs.Rows.{Asks}
use Rattle.reencode_core.proofs.after_error.RowsVisited.{visits_behind}
use Rattle.reencode_core.proofs.rows_walked.TypeGroup.{ItemsDone, rows_then-both}

-- a group, explicit or not, has the visits of its types
group_visits : (explicit : Bool) (types : List r.SubType) → (explicit ≡ false → length types ≡ 1) →
    visits (read.group_parts explicit types) ≡ visits (rows_then (map read.sub_type_tree types) Tree.nil)
group_visits true types bare = refl
group_visits false [] bare = absurd (let one : 0 ≡ 1 = bare refl in omega arith)
group_visits false (x ∷ y ∷ types) bare = absurd (let one : suc (suc (length types)) ≡ 1 = bare refl in omega arith)
group_visits false (x ∷ []) bare = sym (append-nil (visits (read.sub_type_tree x)))

pub never_refused : {S E : Type 0} {s m : S} {t : Tree} {e : Error E} → ◌≡◌ {A = Step S (Error E) Tree} (accepted t s) (refused e m) → ⊥
never_refused h = cc

module _ {S E : Type 0} {asked : Asks S E} where
  -- what was asked behind rows that were accepted
  pub behind_visited : {s0 s m : S} {u : Tree} (c : ℕ) (ts : List Tree) (others : Tree) → walk asked c s0 (rows_then ts Tree.nil) ≡ accepted u s → Visited asked s (visits others) m →
      Visited asked s0 (visits (rows_then ts others)) m
  behind_visited {s0 = s0} {m = m} c ts others h v =
      let P : List Visit → Type 0 = λ z. Visited asked s0 z m in subst P (sym (visits_behind ts others)) (second_visited c (rows_then ts Tree.nil) h v)

  -- ---- a table

  -- its type was asked in part
  pub table_leaves : {s m : S} (ty : TableType) (starts : TableInit) → Visited asked s (visits (read.table_type_tree ty)) m → Visited asked s (visits (read.table_parts starts ty)) m
  table_leaves ty init.RefNull v = v
  table_leaves ty (init.Expr e) v = first_visited (visits (expr_tree e)) v

  -- ---- an export

  pub item_leaves : (row : Export) (s n m : S) (kind : ExportKind) (i : ℕ) → ◌≡◌ {A = Step S (Error E) Tree} (accepted (read.item_tree row.kind i) s) (accepted (write.item_tree kind i) n) →
      Visited asked n (visits (read.item_tree row.kind row.index)) m → Visited asked s (visits (read.export_tree row)) m
  item_leaves row s n m kind i k v =
      let same : s ≡ n = cc in
      let P : S → Type 0 = λ z. Visited asked z (visits (read.export_tree row)) m in subst P (sym same) v

  -- ---- items one behind another

  -- the next item was asked in part
  pub items_leave : {A B : Type 0} {read : A → Tree} {write : B → Tree} {s0 s m : S} {made : List B} (done rest items : List A) (x : A) → ItemsDone asked read write s0 done s made →
      done ++ x ∷ rest ≡ items → Visited asked s (visits (read x)) m → Visited asked s0 (visits (rows_then (map read items) Tree.nil)) m
  items_leave {A = A} {read = read} {s0 = s0} {m = m} done rest items x d parts v =
      let behind : Tree = rows_then (map read rest) Tree.nil in
      let here : rows_then (map read (done ++ x ∷ rest)) Tree.nil ≡ rows_then (map read done) (Tree.cons (read x) behind) =
      ap (λ (ts : List Tree). rows_then ts Tree.nil) (map-append read done (x ∷ rest)) ∙ rows_then-both (map read done) (map read (x ∷ rest)) Tree.nil in
      let P : List A → Type 0 = λ z. Visited asked s0 (visits (rows_then (map read z) Tree.nil)) m in
      let Q : Tree → Type 0 = λ z. Visited asked s0 (visits z) m in
      subst P parts (subst Q (sym here) (behind_visited 0 (map read done) (Tree.cons (read x) behind) (d.walks 0 Tree.nil) (first_visited (visits behind) v)))

  pub group_leaves : {s m : S} (explicit : Bool) (types : List r.SubType) → (explicit ≡ false → length types ≡ 1) →
      Visited asked s (visits (rows_then (map read.sub_type_tree types) Tree.nil)) m → Visited asked s (visits (read.group_parts explicit types)) m
  group_leaves {s = s} {m = m} explicit types bare v =
      let P : List Visit → Type 0 = λ z. Visited asked s z m in subst P (sym (group_visits explicit types bare)) v

-- ---- a row that is refused

module _ {S E : Type 0} (asked : Asks S E) (c : ℕ) (s : S) where
  -- where its type is refused, or the expression of its first value, so is the table
  pub table_refused : {m : S} {e : Error E} (ty : TableType) (starts : TableInit) → walk asked c s (read.table_type_tree ty) ≡ refused e m →
      walk asked c s (read.table_parts starts ty) ≡ refused e m
  table_refused ty init.RefNull h = rw h refl
  table_refused ty (init.Expr e) h = rw h refl

  pub init_refused : {m : S} {e : Error E} (n : S) (u : Tree) (ty : TableType) (expr : Expression) → walk asked c s (read.table_type_tree ty) ≡ accepted u n →
      walk asked c n (expr_tree expr) ≡ refused e m → walk asked c s (read.table_parts (init.Expr expr) ty) ≡ refused e m
  init_refused n u ty expr h k = rw h (rw k refl)

  -- and where the index of an export is, so is the export
  pub item_refused : {m : S} {e : Error E} (row : Export) (n : S) (kind : ExportKind) (i : ℕ) →
      ◌≡◌ {A = Step S (Error E) Tree} (accepted (read.item_tree row.kind i) s) (accepted (write.item_tree kind i) n) → walk asked c n (read.item_tree row.kind row.index) ≡ refused e m →
      walk asked c s (read.export_tree row) ≡ refused e m
  item_refused row n kind i k h = let same : s ≡ n = cc in rw (same, h) refl
