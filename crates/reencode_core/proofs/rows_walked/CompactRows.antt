-- Compact rows of imports: their items mapped one by one, and their names as they are.
use Rattle.std.proofs.Common.{◌≡◌, ℕ, List, [], ◌∷◌, ◌++◌, map, Result, Ok, Err, refl, sym, ap, ◌∙◌, append_assoc, append-nil, subst}
use Rattle.std.proofs.lemmas.List.{map-append}
use Rattle.std.specs.Borrow.{Bor}
use Rattle.wasm_shapes.specs.Tree.{Tree, visits}
use Rattle.wasm_shapes.specs.Types.{rows_tree, vector_tree, compact_items_of, compact_names_of}
use Rattle.wasm_read.specs.declared.types.ImportCompact as read_item
use Rattle.wasm_read.specs.declared.types.TypeRef.{TypeRef}
use Rattle.wasm_read.specs.Types as read
use Rattle.wasm_write.specs.declared.types.ImportCompact as made_item
use Rattle.wasm_write.specs.declared.types.EntityType.{EntityType}
use Rattle.wasm_write.specs.Rows.{compact_tree, name_tree}
use Rattle.wasm_write.specs.Types as write
use Rattle.reencode_hooks.specs.declared.error.Error.{Error}
use Rattle.reencode_hooks.specs.declared.indices.ReencodeIndices.{Ghosts}
use Rattle.reencode_hooks.specs.Run.{accepted, refused, Visited, ask}
use Rattle.reencode_hooks.specs.Walk.{walk}
use Rattle.reencode_core.specs.Rows.{Asks}
use Rattle.reencode_core.proofs.rows_walked.EachItem.{vector_accepted, vector_refused}
use Rattle.reencode_core.proofs.rows_walked.TypeGroup.{ItemsDone}
use Rattle.reencode_core.proofs.after_error.StateLeft.{items_leave}
use Rattle.reencode_core.proofs.rows_walked.OneRow.{MapsIf}

-- a name, and a mapped type behind it
pub item_maps : {S E : Type 0} (i : Ghosts S E) (s m : S) (item : read_item.ImportCompact) (view : EntityType → made_item.ImportCompact) →
    ((ty : EntityType) → compact_tree (view ty) ≡ Tree.pair (Tree.name item.name.now) (write.entity_tree ty)) → (r : Result EntityType (Error E)) →
    MapsIf i s (read.entity_tree item.ty) write.entity_tree m r → MapsIf i s (read.compact_tree item) (λ ty. compact_tree (view ty)) m r
item_maps i s m item view is (Ok ty) maps = λ k c. rw (is ty, maps k c) refl
item_maps i s m item view is (Err e) maps = λ k c other. rw (maps k c other) refl

-- the list of trees is its own map
pub map_same : (ts : List Tree) → map (λ (t : Tree). t) ts ≡ ts
map_same [] = refl
map_same (t ∷ ts) = ap (λ (z : List Tree). t ∷ z) (map_same ts)

-- a row of items
pub items_map : {S E B : Type 0} (i : Ghosts S E) (s m : S) (from : List ℕ) (items : List Tree) (view : B → List Tree) (r : Result B (Error E)) →
    MapsIf i s (vector_tree items) (λ b. vector_tree (view b)) m r → MapsIf i s (compact_items_of from items) (λ b. compact_items_of from (view b)) m r
items_map i s m from items view (Ok b) maps = λ k c. rw (maps k c) refl
items_map i s m from items view (Err e) maps = λ k c other. rw (maps k c other) refl

-- names are asked for nothing
names_rows : {S E : Type 0} (asked : Asks S E) (c : ℕ) (s : S) (names : List (Bor (List ℕ))) →
    walk asked c s (rows_tree (map name_tree names)) ≡ accepted (rows_tree (map name_tree names)) s
names_rows asked c s [] = refl
names_rows asked c s (x ∷ xs) = rw (names_rows asked c s xs) refl

pub names_walked : {S E : Type 0} (asked : Asks S E) (c : ℕ) (s : S) (names : List (Bor (List ℕ))) →
    walk asked c s (vector_tree (map name_tree names)) ≡ accepted (vector_tree (map name_tree names)) s
names_walked asked c s names = rw (names_rows asked c s names) refl

-- a row of names of one type, where the type was mapped
module _ {S E : Type 0} (i : Ghosts S E) (s m : S) (from : List ℕ) (ty : TypeRef) (names : List Tree) (held : List (Bor (List ℕ))) (same : map name_tree held ≡ names) where
  pub names_map : (made : EntityType) → MapsIf i s (read.entity_tree ty) write.entity_tree m (Ok made) →
      MapsIf i s (compact_names_of from (read.entity_tree ty) names) (λ (made : EntityType). compact_names_of from (write.entity_tree made) (map name_tree held)) m (Ok made)
  names_map made maps = rw (← same) (λ k c. rw (maps k c, names_walked (ask i.reply i.next) c m held) refl)

-- ---- items that are seen as their trees

module _ {S E B : Type 0} (asked : Asks S E) (write : B → Tree) where
  -- all items were mapped
  pub trees_accepted : {s0 s : S} {made : List B} (done items : List Tree) → ItemsDone asked (λ (t : Tree). t) write s0 done s made → done ≡ items →
      (c : ℕ) → walk asked c s0 (vector_tree items) ≡ accepted (vector_tree (map write made)) s
  trees_accepted {s0 = s0} {s = s} {made = made} done items d same c =
      let P : List Tree → Type 0 = λ z. walk asked c s0 (vector_tree z) ≡ accepted (vector_tree (map write made)) s in
      subst P (map_same items) (vector_accepted asked (λ (t : Tree). t) write done items d same c)

  -- the next item was refused
  pub trees_refused : {s0 s m : S} {made : List B} (done rest items : List Tree) (x : Tree) (e : Error E) → ItemsDone asked (λ (t : Tree). t) write s0 done s made → done ++ x ∷ rest ≡ items →
      (c : ℕ) → walk asked c s x ≡ refused e m → walk asked c s0 (vector_tree items) ≡ refused e m
  trees_refused {s0 = s0} {m = m} done rest items x e d parts c stops =
      let P : List Tree → Type 0 = λ z. walk asked c s0 (vector_tree z) ≡ refused e m in
      subst P (map_same items) (vector_refused asked (λ (t : Tree). t) write done rest items x e d parts c stops)

  -- it was asked in part
  pub trees_leave : {s0 s m : S} {made : List B} (done rest items : List Tree) (x : Tree) → ItemsDone asked (λ (t : Tree). t) write s0 done s made → done ++ x ∷ rest ≡ items →
      Visited asked s (visits x) m → Visited asked s0 (visits (vector_tree items)) m
  trees_leave {s0 = s0} {m = m} done rest items x d parts v =
      let P : List Tree → Type 0 = λ z. Visited asked s0 (visits (vector_tree z)) m in
      subst P (map_same items) (items_leave done rest items x d parts v)

-- ---- names that are held

-- one more was taken
pub names_more : (held : List (Bor (List ℕ))) (x : Bor (List ℕ)) {more : List (Bor (List ℕ))} {old rest names : List Tree} → map name_tree held ++ old ≡ names → old ≡ name_tree x ∷ rest →
    more ≡ held ++ x ∷ [] → map name_tree more ++ rest ≡ names
names_more held x {rest = rest} so_far step pushed =
    ap (λ (z : List (Bor (List ℕ))). map name_tree z ++ rest) pushed ∙ ap (λ (z : List Tree). z ++ rest) (map-append name_tree held (x ∷ []))
    ∙ append_assoc (map name_tree held) (name_tree x ∷ []) rest ∙ ap (λ (z : List Tree). map name_tree held ++ z) (sym step) ∙ so_far

-- none is left
pub names_all : (held : List (Bor (List ℕ))) {rest names : List Tree} → map name_tree held ++ rest ≡ names → rest ≡ [] → map name_tree held ≡ names
names_all held so_far none = sym (append-nil (map name_tree held)) ∙ ap (λ (z : List Tree). map name_tree held ++ z) (sym none) ∙ so_far

-- the type was refused
pub names_unmapped : {S E : Type 0} (i : Ghosts S E) (s m : S) (from : List ℕ) (ty : TypeRef) (names : List Tree) (view : EntityType → Tree) (e : Error E) →
    MapsIf i s (read.entity_tree ty) write.entity_tree m (Err e) → MapsIf i s (compact_names_of from (read.entity_tree ty) names) view m (Err e)
names_unmapped i s m from ty names view e maps = λ k c other. rw (maps k c other) refl
