-- Rows that one call maps: what is imported, tables, exports, and rows that are one item.
use Rattle.std.proofs.Common.{◌≡◌, ◌≢◌, ℕ, ◌+◌, ◌-◌, ◌^◌, ◌<◌, List, [], ◌∷◌, ◌++◌, length, Contains, ◌⊎◌, Result, Ok, Err, IsErrAnd, IsTrue, refl, sym, ap, ◌∙◌, subst, inl, inr, arith}
use Rattle.std.proofs.Math.Seq.{take-append_seam, take-length}
use Rattle.std.proofs.lemmas.List.Elements.{Contains-append_left, Contains-append_right}
use Rattle.std.proofs.lemmas.Result.{err_from_is_err_and}
use Rattle.wasm_shapes.specs.declared.Space.{Space}
use Rattle.wasm_shapes.specs.declared.Visit.TheVariants.{Index}
use Rattle.wasm_shapes.specs.Tree.{Tree, visits}
use Rattle.wasm_shapes.specs.Types.{led, expression_of}
use Rattle.wasm_read.specs.declared.types.Export.{Export}
use Rattle.wasm_read.specs.declared.types.Import.{Import}
use Rattle.wasm_read.specs.declared.types.Imports.TheVariants as imported
use Rattle.wasm_read.specs.declared.types.TableType.{TableType}
use Rattle.wasm_read.specs.declared.types.TableInit.TheVariants as init
use Rattle.wasm_read.specs.Expressions.{Expression, expr_tree}
use Rattle.wasm_read.specs.Types as read
use Rattle.wasm_write.specs.declared.fault.WriteFault.{WriteFault}
use Rattle.wasm_write.specs.declared.fault.WriteFault.TheVariants as fault
use Rattle.wasm_write.specs.declared.types.EntityType.{EntityType}
use Rattle.wasm_write.specs.declared.types.TableType as made
use Rattle.wasm_write.specs.declared.types.ExportKind.{ExportKind}
use Rattle.wasm_write.specs.Faults.{IfTooLarge}
use Rattle.wasm_write.specs.Counts.{counts, IsTooLarge}
use Rattle.wasm_write.specs.Rows.{null_table_tree, table_with_init_tree, item_tree, export_tree}
use Rattle.wasm_write.specs.Types as write
use Rattle.reencode_hooks.specs.declared.error.Error.{Error}
use Rattle.reencode_hooks.specs.declared.error.Error.TheVariants.{NoMemory}
use Rattle.reencode_hooks.specs.declared.indices.ReencodeIndices.{Ghosts}
use Rattle.reencode_hooks.specs.Errors.{error_of_write}
use Rattle.reencode_hooks.specs.Hooks.{Replies}
use Rattle.reencode_hooks.specs.Run.{Step, accepted, refused, LeavesVisited, NeverWants}
use Rattle.reencode_hooks.specs.Walk.{walk}
use Rattle.reencode_items.specs.Maps.{Maps}
use Rattle.reencode_items.proofs.Leaving.{accepted_visited, sure_visited}
use Rattle.reencode_core.specs.Rows.{Asks, GivesRow, TooLargeMade}
use Rattle.reencode_core.specs.Clauses.{RowClauses}
pub use Rattle.reencode_core.specs.Clauses.{asks}

-- what a `?` answers is that error
pub answers : {A E : Type 0} {e : Error E} (r : Result A (Error E)) → IsErrAnd r (λ y. y ≡ e) → Err e ≡ r
answers r q = let p = err_from_is_err_and r q in sym (p.1 ∙ ap (λ (z : Error _). Err z) p.2)

-- ---- a row that was mapped

-- a call that maps an item, in a reencoder that keeps the defaults
abbrev pub MapsIf : {S E B : Type 0} → Ghosts S E → S → Tree → (B → Tree) → S → Result B (Error E) → Type 0
MapsIf i s t view m result = IsTrue i.keeps_defaults → Maps i.reply i.next s t view m result

-- the row was mapped, and one of its numbers is too large
large_row : {S E : Type 0} (asked : Asks S E) (c : ℕ) (s m : S) (t u : Tree) (rows : List Tree) (w : WriteFault) → walk asked c s t ≡ accepted u m →
    IfTooLarge w (IsTooLarge (counts u ++ (length rows + 1) ∷ [])) → GivesRow asked c (s, rows) t (m, rows) (Err (error_of_write w))
large_row {E = E} asked c s m t u rows w walked large = (refl, λ other. go w large other)
  where
    go : (w : WriteFault) → IfTooLarge w (IsTooLarge (counts u ++ (length rows + 1) ∷ [])) → error_of_write {E = E} w ≢ NoMemory →
        (walk asked c s t ≡ refused (error_of_write w) m) ⊎ TooLargeMade asked s t (length rows) (error_of_write {E = E} w) m
    go (fault.TooLarge size) q other = inr (record { accepts = record { ceiling = c; made = u; walked = walked }; large = q })
    go fault.NoMemory q other = absurd (other refl)

-- one row too many
pub one_too_many : (u : Tree) (n : ℕ) (w : WriteFault) → IfTooLarge w (λ size. (size ≡ n + 1) × (2 ^ 32 - 1 < size)) → IfTooLarge w (IsTooLarge (counts u ++ (n + 1) ∷ []))
one_too_many u n (fault.TooLarge size) q =
    let last : size ≡ n + 1 = q.0 in
    record { counted = Contains-append_right (counts u) ((n + 1) ∷ []) size (0, omega arith, sym last); large = q.1 }
one_too_many u n fault.NoMemory q = tt

module _ {S E B : Type 0} (i : Ghosts S E) (t : Tree) (view : B → Tree) (s m : S) where
  -- the row was mapped, and added
  pub row_mapped : {old new : List Tree} (b : B) → MapsIf i s t view m (Ok b) → new ≡ old ++ view b ∷ [] → RowClauses i t s old m new (Ok tt)
  row_mapped {old = old} b maps added = record { kept = rw added (take-append_seam old (view b ∷ [])); default = λ k c. (view b, maps k c, added); after_error = λ k sure. tt }

  -- it was refused
  pub row_unmapped : {old new : List Tree} (e : Error E) → MapsIf i s t view m (Err e) → (IsTrue i.keeps_defaults → IsTrue i.sure → LeavesVisited {A = B} (asks i) s (visits t) m (Err e)) →
      new ≡ old → (r : Result (Unit {0}) (Error E)) → IsErrAnd r (λ y. y ≡ e) → RowClauses i t s old m new r
  row_unmapped {old = old} {new = new} e maps visited unchanged r q =
      let P : Result (Unit {0}) (Error E) → Type 0 = λ z. RowClauses i t s old m new z in
      subst P (answers r q) (record { kept = rw unchanged (take-length old); default = λ k c. (unchanged, λ other. inl (maps k c other)); after_error = visited })

  -- it was mapped, and not added
  pub row_not_added : {old new : List Tree} (b : B) (w : WriteFault) → MapsIf i s t view m (Ok b) → new ≡ old → IfTooLarge w (IsTooLarge (counts (view b) ++ (length old + 1) ∷ [])) →
      (r : Result (Unit {0}) (Error E)) → IsErrAnd r (λ y. y ≡ error_of_write w) → RowClauses i t s old m new r
  row_not_added {old = old} {new = new} b w maps unchanged large r q =
      let P : Result (Unit {0}) (Error E) → Type 0 = λ z. RowClauses i t s old m new z in
      let Q : List Tree → Type 0 = λ z. RowClauses i t s old m z (Err (error_of_write w)) in
      subst P (answers r q) (subst Q (sym unchanged) (record {
        kept = take-length old;
        default = λ k c. large_row (asks i) c s m t (view b) old w (maps k c) large;
        after_error = λ k sure. accepted_visited 0 t (maps k 0);
      }))

  -- a call that never wants memory where the reencoder is sure
  pub sure_left : (e : Error E) → MapsIf i s t view m (Err e) → (IsTrue i.keeps_defaults → NeverWants {A = B} i.sure (Err e)) →
      IsTrue i.keeps_defaults → IsTrue i.sure → LeavesVisited {A = B} (asks i) s (visits t) m (Err e)
  sure_left e maps never k sure = sure_visited i.reply i.next t view e (maps k) (never k) sure

-- ---- an index

pub index_maps : {S E : Type 0} (i : Ghosts S E) (s m : S) (p : Space) (n : ℕ) (r : Result ℕ (Error E)) → Replies i.reply i.next s m (Index p n) r → MapsIf i s (Tree.ix p n) (Tree.ix p) m r
index_maps i s m p n (Ok x) h = λ k c. rw h refl
index_maps i s m p n (Err e) h = λ k c other. rw (h other) refl

-- ---- what is imported

abbrev pub import_view : Import → EntityType → Tree
import_view row ty = Tree.pair (Tree.name row.module.now) (Tree.pair (Tree.name row.name.now) (write.entity_tree ty))

pub import_maps : {S E : Type 0} (i : Ghosts S E) (s m : S) (row : Import) (r : Result EntityType (Error E)) → MapsIf i s (read.entity_tree row.ty) write.entity_tree m r →
    MapsIf i s (read.import_tree (imported.Single row)) (import_view row) m r
import_maps i s m row (Ok x) maps = λ k c. rw (maps k c) refl
import_maps i s m row (Err e) maps = λ k c other. rw (maps k c other) refl

-- ---- a type, and the expression of a first value

-- a row of a choice, and what stands behind a byte
module _ {S E B : Type 0} (i : Ghosts S E) (s m : S) (t : Tree) (view : B → Tree) where
  in_row : (j : ℕ) (r : Result B (Error E)) → MapsIf i s t view m r → MapsIf i s (Tree.row j t) (λ b. Tree.row j (view b)) m r
  in_row j (Ok b) maps = λ k c. rw (maps k c) refl
  in_row j (Err e) maps = λ k c other. rw (maps k c other) refl

  behind_byte : (x : ℕ) (r : Result B (Error E)) → MapsIf i s t view m r → MapsIf i s (led x t) (λ b. led x (view b)) m r
  behind_byte x (Ok b) maps = λ k c. rw (maps k c) refl
  behind_byte x (Err e) maps = λ k c other. rw (maps k c other) refl

-- two parts, of which the first was refused
pub first_refused : {S E A B : Type 0} (i : Ghosts S E) (s m : S) (t u : Tree) (front : A → Tree) (view : B → Tree) (e : Error E) → MapsIf i s t front m (Err e) → MapsIf i s (Tree.pair t u) view m (Err e)
first_refused i s m t u front view e maps = λ k c other. rw (maps k c other) refl

-- two parts, of which the first was accepted
pub second_mapped : {S E A B : Type 0} (i : Ghosts S E) (s n m : S) (t u : Tree) (front : A → Tree) (behind : B → Tree) (a : A) (r : Result B (Error E)) →
    MapsIf i s t front n (Ok a) → MapsIf i n u behind m r → MapsIf i s (Tree.pair t u) (λ (b : B). Tree.pair (front a) (behind b)) m r
second_mapped i s n m t u front behind a (Ok b) first maps = λ k c. rw (first k c, maps k c) refl
second_mapped i s n m t u front behind a (Err e) first maps = λ k c other. rw (first k c, maps k c other) refl

-- a table that starts with null references, and one that starts with the value of an expression
pub null_table_mapped : {S E : Type 0} (i : Ghosts S E) (s m : S) (ty : TableType) (r : Result made.TableType (Error E)) → MapsIf i s (read.table_type_tree ty) write.table_type_tree m r →
    MapsIf i s (read.table_parts init.RefNull ty) null_table_tree m r
null_table_mapped i s m ty r maps = in_row i s m (read.table_type_tree ty) write.table_type_tree 0 r maps

pub table_mapped : {S E : Type 0} (i : Ghosts S E) (s n m : S) (ty : TableType) (e : Expression) (made : made.TableType) (r : Result (List Tree) (Error E)) →
    MapsIf i s (read.table_type_tree ty) write.table_type_tree n (Ok made) → MapsIf i n (expr_tree e) expression_of m r →
    MapsIf i s (read.table_parts (init.Expr e) ty) (table_with_init_tree made) m r
table_mapped i s n m ty e made r first maps =
    let parts : Tree = Tree.pair (read.table_type_tree ty) (expr_tree e) in
    let view : List Tree → Tree = λ b. Tree.pair (write.table_type_tree made) (expression_of b) in
    in_row i s m (led 0x40 (led 0x00 parts)) (λ b. led 0x40 (led 0x00 (view b))) 1 r
    (behind_byte i s m (led 0x00 parts) (λ b. led 0x00 (view b)) 0x40 r
    (behind_byte i s m parts view 0x00 r
    (second_mapped i s n m (read.table_type_tree ty) (expr_tree e) write.table_type_tree expression_of made r first maps)))

-- ---- exports

module _ {S E : Type 0} (asked : Asks S E) (c : ℕ) (row : Export) (s n m : S) where
  pub export_accepted : (kind : ExportKind) (i : ℕ) → ◌≡◌ {A = Step S (Error E) Tree} (accepted (read.item_tree row.kind i) s) (accepted (item_tree kind i) n) →
      walk asked c n (read.item_tree row.kind row.index) ≡ accepted (read.item_tree row.kind i) m →
      walk asked c s (read.export_tree row) ≡ accepted (export_tree row.name.now kind i) m
  export_accepted kind i k h =
      let same_item : read.item_tree row.kind i ≡ item_tree kind i = cc in
      let same_state : s ≡ n = cc in
      rw (same_state, h, same_item) refl

pub export_large : (name : List ℕ) (kind : ExportKind) (i n : ℕ) (w : WriteFault) → IfTooLarge w (λ size. ((size ≡ length name) ⊎ (size ≡ n + 1)) × (2 ^ 32 - 1 < size)) →
    IfTooLarge w (IsTooLarge (counts (export_tree name kind i) ++ (n + 1) ∷ []))
export_large name kind i n fault.NoMemory q = tt
export_large name kind i n (fault.TooLarge size) q = record { counted = among q.0; large = q.1 }
  where
    u : Tree
    u = export_tree name kind i

    among : (size ≡ length name) ⊎ (size ≡ n + 1) → Contains (counts u ++ (n + 1) ∷ []) size
    among (inl e) =
        Contains-append_left (counts u) ((n + 1) ∷ []) size (Contains-append_left (length name ∷ []) (counts (item_tree kind i)) size (0, omega arith, sym e))
    among (inr e) = Contains-append_right (counts u) ((n + 1) ∷ []) size (0, omega arith, sym e)
