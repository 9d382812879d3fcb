-- Element segments as they are mapped: what one lists, then its table, then its offset.
use Rattle.std.proofs.Common.{◌≡◌, ◌≢◌, ℕ, zero, suc, ◌+◌, ◌-◌, ◌<◌, ◌^◌, Bool, true, false, ◌&&◌, nat_eq, List, [], ◌∷◌, ◌++◌, length, map, Contains, Option, Some, None, ◌⊎◌, inl, inr, Result, Ok, Err, IsErrAnd, IsTrue, refl, sym, ap, ◌∙◌, subst, append-nil, arith}
use Rattle.std.proofs.lemmas.List.Elements.{Contains-append_left, Contains-append_right}
use Rattle.wasm_shapes.specs.declared.Space.TheVariants as space
use Rattle.wasm_shapes.specs.declared.Visit.{Visit}
use Rattle.wasm_shapes.specs.declared.Visit.TheVariants.{Index}
use Rattle.wasm_shapes.specs.Tree.{Tree, Listed, count, visits, aimed_at, funcref}
use Rattle.wasm_shapes.specs.Types.{Items, items_of, passive_of, declared_of, active_of, expression_of, function_index_tree, led, rows_tree, vector_tree, typed_expressions}
use Rattle.wasm_types.specs.declared.types.AbstractHeapType.{AbstractHeapType}
use Rattle.wasm_types.specs.declared.types.AbstractHeapType.TheVariants as abstract
use Rattle.wasm_types.specs.declared.types.HeapType as of_heap
use Rattle.wasm_types.specs.Types as of
use Rattle.wasm_read.specs.Types.{HeapType}
use Rattle.wasm_types.specs.declared.types.HeapType.TheVariants as heap
use Rattle.wasm_read.specs.declared.types.ElementItems.{ElementItems}
use Rattle.wasm_read.specs.declared.types.ElementItems.TheVariants as items
use Rattle.wasm_read.specs.declared.types.ElementKind.{ElementKind}
use Rattle.wasm_read.specs.declared.types.ElementKind.TheVariants as element
use Rattle.wasm_read.specs.Expressions.{Expression, expr_tree}
use Rattle.wasm_read.specs.Types as read
use Rattle.wasm_write.specs.declared.types.Elements.{Elements}
use Rattle.wasm_write.specs.declared.types.Elements.TheVariants as elements
use Rattle.wasm_write.specs.declared.fault.WriteFault.{WriteFault}
use Rattle.wasm_write.specs.declared.fault.WriteFault.TheVariants as fault
use Rattle.wasm_write.specs.Counts.{counts, IsTooLarge}
use Rattle.wasm_write.proofs.Items.{count_map}
use Rattle.wasm_write.specs.Faults.{IfTooLarge}
use Rattle.wasm_write.specs.Types as write_types
use Rattle.wasm_write.specs.Rows as write
use Rattle.reencode_hooks.specs.declared.error.Error.{Error}
use Rattle.reencode_hooks.specs.declared.error.Error.TheVariants.{NoMemory}
use Rattle.reencode_hooks.specs.declared.indices.ReencodeIndices.{Ghosts}
use Rattle.reencode_hooks.specs.Errors.{error_of_write}
use Rattle.reencode_hooks.specs.Run.{Step, accepted, refused, and_then, LeavesVisited, NeverWants, Visited}
use Rattle.reencode_hooks.specs.Walk.{walk}
use Rattle.reencode_hooks.proofs.Agrees.{given, inv}
use Rattle.reencode_items.proofs.Leaving.{first_visited, hook_visited, second_visited}
use Rattle.reencode_core.specs.Rows.{Asks}
use Rattle.reencode_core.specs.Elements.{answered_table, asked_table}
use Rattle.reencode_core.specs.Clauses.{RowClauses, asks}
use Rattle.reencode_core.proofs.rows_walked.OneRow.{one_too_many, row_mapped, row_not_added, row_unmapped, MapsIf}

-- ---- the type that a flag stands for

-- what is told by the numbers of the rows alone
abbrev is_funcref : Tree → Bool
is_funcref (Tree.row j (Tree.spare b (Tree.row k (Tree.row l t)))) = nat_eq j 1 && (nat_eq k 0 && nat_eq l 3)
is_funcref _ = false

module _ {I : Type 0} (indices : of.Indices I) where
  abstract_told : (shared : Bool) (ty : AbstractHeapType) →
      of.are_functions {I = I} (heap.Abstract shared ty) ≡ is_funcref (of.nullable_tree indices (heap.Abstract shared ty))
  abstract_told false abstract.Func = refl
  abstract_told false _ = refl
  abstract_told true _ = refl

  told : (nullable : Bool) (ty : of_heap.HeapType I) → (nullable && of.are_functions ty) ≡ is_funcref (of.reference_parts indices nullable ty)
  told false ty = refl
  told true (heap.Abstract shared ty) = abstract_told shared ty
  told true (heap.Exact i) = refl
  told true (heap.Concrete i) = refl

  abstract_is : (shared : Bool) (ty : AbstractHeapType) → of.are_functions {I = I} (heap.Abstract shared ty) ≡ true → of.nullable_tree indices (heap.Abstract shared ty) ≡ funcref
  abstract_is false abstract.Func h = refl
  abstract_is false _ h = absurd cc
  abstract_is true _ h = absurd cc

  funcref_is : (nullable : Bool) (ty : of_heap.HeapType I) → (nullable && of.are_functions ty) ≡ true → of.reference_parts indices nullable ty ≡ funcref
  funcref_is false ty h = absurd cc
  funcref_is true (heap.Abstract shared ty) h = abstract_is shared ty h
  funcref_is true (heap.Exact i) h = absurd cc
  funcref_is true (heap.Concrete i) h = absurd cc

module _ {S E : Type 0} (asked : Asks S E) (c : ℕ) (s : S) where
  abstract_walks : (ty : AbstractHeapType) → walk asked c s (read.abstract_tree ty) ≡ accepted (read.abstract_tree ty) s
  abstract_walks abstract.Func = refl
  abstract_walks _ = refl

  shared_walks : (shared : Bool) (ty : AbstractHeapType) → walk asked c s (read.nullable_tree (heap.Abstract shared ty)) ≡ accepted (read.nullable_tree (heap.Abstract shared ty)) s
  shared_walks false ty = rw (abstract_walks ty) refl
  shared_walks true ty = rw (abstract_walks ty) refl

  row_walked : (j : ℕ) (t : Tree) {u : Tree} {m : S} → walk asked c s (Tree.row j t) ≡ accepted u m → (v : Tree) × (u ≡ Tree.row j v) × (walk asked c s t ≡ accepted v m)
  row_walked j t h = let i = inv (walk asked c s t) (λ v n. accepted (Tree.row j v) n) h in let g = given i.3 in (i.0, sym g.0, i.2 ∙ ap (accepted i.0) g.1)

  kept_walked : (b : ℕ) (t : Tree) {u : Tree} {m : S} → walk asked c s (Tree.kept b t) ≡ accepted u m → (v : Tree) × (u ≡ Tree.kept b v)
  kept_walked b t h = let i = inv (walk asked c s t) (λ v n. accepted (Tree.kept b v) n) h in (i.0, sym (given i.3).0)

  led_walked : (b : ℕ) (t : Tree) {u : Tree} {m : S} → walk asked c s (led b t) ≡ accepted u m → (v : Tree) × (u ≡ led b v)
  led_walked b t h = let i = inv (walk asked c s t) (λ v n. accepted (led b v) n) h in (i.0, sym (given i.3).0)

  kept_row : (t : Tree) {u : Tree} {m : S} → walk asked c s (Tree.row 1 (Tree.kept 0x63 t)) ≡ accepted u m → is_funcref u ≡ false
  kept_row t h = let r = row_walked 1 (Tree.kept 0x63 t) h in let k = kept_walked 0x63 t r.2 in rw (r.1, k.1) refl

  -- mapping doesn't make it that type, nor another one
  still_told : (nullable : Bool) (ty : HeapType) {u : Tree} {m : S} → walk asked c s (read.reference_parts nullable ty) ≡ accepted u m →
      is_funcref u ≡ is_funcref (read.reference_parts nullable ty)
  still_told false ty h = let r = row_walked 0 (led 0x64 (read.heap_type_tree ty)) h in let l = led_walked 0x64 (read.heap_type_tree ty) r.2 in rw (r.1, l.1) refl
  still_told true (heap.Abstract shared ty) h = ap is_funcref (sym (given (sym (shared_walks shared ty) ∙ h)).0)
  still_told true (heap.Exact i) h = kept_row (Tree.row 0 (led 0x62 (read.type_index i))) h
  still_told true (heap.Concrete i) h = kept_row (Tree.row 1 (read.signed_index i)) h

-- ---- what is listed

-- the type is the one that its flag says
abbrev Honest : Items → Type 0
Honest (Items.functions is) = Unit {0}
Honest (Items.expressions known ty es) = known ≡ true → ty ≡ funcref

-- both list functions, or expressions of which both have that type or neither
abbrev Alike : Items → Items → Type 0
Alike (Items.functions is) (Items.functions js) = Unit {0}
Alike (Items.functions is) (Items.expressions known ty es) = ⊥
Alike (Items.expressions known ty es) (Items.functions js) = ⊥
Alike (Items.expressions known ty es) (Items.expressions known' ty' es') = known' ≡ known

honest : (row : ElementItems) → Honest (read.listed_items row)
honest (items.Functions is) = tt
honest (items.Expressions ty es) = λ h. funcref_is read.indices ty.nullable ty.heap_type h

module _ {S E : Type 0} (asked : Asks S E) (c : ℕ) (s : S) {n : S} where
  -- the expressions are mapped before their type
  swap_walked : (ty v : Tree) {u : Tree} → walk asked c s (Tree.swap ty v) ≡ accepted u n →
      (ty' v' : Tree) × (k : S) × (u ≡ Tree.swap ty' v') × (walk asked c s v ≡ accepted v' k) × (walk asked c k ty ≡ accepted ty' n)
  swap_walked ty v h =
      let i = inv (walk asked c s v) (λ v' m. and_then (walk asked c m ty) (λ t' k. accepted (Tree.swap t' v') k)) h in
      let j = inv (walk asked c i.1 ty) (λ t' k. accepted (Tree.swap t' i.0) k) i.3 in
      let g = given j.3 in (j.0, i.0, i.1, sym g.0, i.2, j.2 ∙ ap (accepted j.0) g.1)

  vec_walked : (t : Tree) {u : Tree} → walk asked c s (Tree.vec t) ≡ accepted u n → (v : Tree) × (u ≡ Tree.vec v)
  vec_walked t h = let i = inv (walk asked c s t) (λ v m. accepted (Tree.vec v) m) h in (i.0, sym (given i.3).0)

  alike : (row : ElementItems) (made : Elements) → walk asked c s (read.element_items_tree row) ≡ accepted (write.elements_tree made) n →
      Alike (read.listed_items row) (write.listed_items made)
  alike (items.Functions is) (elements.Functions js) h = tt
  alike (items.Functions is) (elements.Expressions ty es) h = let v = vec_walked (rows_tree (map function_index_tree is)) h in let swapped = v.1 in absurd cc
  alike (items.Expressions ty es) (elements.Functions js) h = let v = swap_walked (read.ref_type_tree ty) (vector_tree (map expr_tree es)) h in let other = v.3 in absurd cc
  alike (items.Expressions ty es) (elements.Expressions ty' es') h =
      let v = swap_walked (read.ref_type_tree ty) (vector_tree (map expr_tree es)) h in
      let swapped : Tree.swap (write_types.ref_type_tree ty') (vector_tree (map expression_of es')) ≡ Tree.swap v.0 v.1 = v.3 in
      let same : v.0 ≡ write_types.ref_type_tree ty' = cc in
      told write_types.indices ty'.nullable ty'.heap_type ∙ ap is_funcref (sym same) ∙ still_told asked c v.2 ty.nullable ty.heap_type v.5 ∙ sym (told read.indices ty.nullable ty.heap_type)

  -- nothing is asked of that type
  funcref_walked : {ty : Tree} (v : Tree) {ty' v' : Tree} → ty ≡ funcref → walk asked c s (Tree.swap ty v) ≡ accepted (Tree.swap ty' v') n → (ty' ≡ funcref) × (walk asked c s v ≡ accepted v' n)
  funcref_walked {ty = ty} v {ty' = ty'} {v' = v'} e h =
      let w = swap_walked ty v h in
      let swapped : Tree.swap ty' v' ≡ Tree.swap w.0 w.1 = w.3 in
      let first : w.0 ≡ ty' = cc in
      let second : w.1 ≡ v' = cc in
      let P : Tree → Type 0 = λ z. walk asked c w.2 z ≡ accepted w.0 n in
      let g = given (subst P e w.5) in
      (sym first ∙ sym g.0, w.4 ∙ ap (λ (z : Tree). accepted z w.2) second ∙ ap (accepted v') g.1)

  funcref_stops : {ty : Tree} (v : Tree) {e : Error E} → ty ≡ funcref → walk asked c s (Tree.swap ty v) ≡ refused e n → walk asked c s v ≡ refused e n
  funcref_stops {ty = ty} v {e = e} same h =
      let P : Tree → Type 0 = λ z. walk asked c s (Tree.swap z v) ≡ refused e n in go (walk asked c s v) (subst P same h)
    where
      go : (w : Step S (Error E) Tree) → and_then w (λ v' m. accepted (Tree.swap funcref v') m) ≡ refused e n → w ≡ refused e n
      go (accepted u k) h = absurd cc
      go (refused d k) h = h

-- ---- where it goes

module _ {S E : Type 0} (asked : Asks S E) (c : ℕ) (s : S) {n : S} (t : Tree) where
  -- what is listed is refused
  left_unlisted : (j : ℕ) (w : Listed) (o : Tree) {e : Error E} → walk asked c s t ≡ refused e n → walk asked c s (Tree.row j (Tree.left w o t)) ≡ refused e n
  left_unlisted j w o h = rw h refl

  aimed_unlisted : (j : ℕ) (w : Listed) (i : ℕ) (o : Tree) {e : Error E} → walk asked c s t ≡ refused e n → walk asked c s (Tree.row j (Tree.aimed w i o t)) ≡ refused e n
  aimed_unlisted j w i o h = rw h refl

  flagged_unlisted : (j f : ℕ) {e : Error E} → walk asked c s t ≡ refused e n → walk asked c s (Tree.row j (Tree.pair (Tree.flag f) t)) ≡ refused e n
  flagged_unlisted j f h = rw h refl

  kinded_unlisted : (j f : ℕ) {e : Error E} → walk asked c s t ≡ refused e n → walk asked c s (Tree.row j (Tree.pair (Tree.flag f) (led 0x00 t))) ≡ refused e n
  kinded_unlisted j f h = rw h refl

  flagged_walks : (j f : ℕ) {u : Tree} → walk asked c s t ≡ accepted u n → walk asked c s (Tree.row j (Tree.pair (Tree.flag f) t)) ≡ accepted (Tree.row j (Tree.pair (Tree.flag f) u)) n
  flagged_walks j f h = rw h refl

  kinded_walks : (j f : ℕ) {u : Tree} → walk asked c s t ≡ accepted u n →
      walk asked c s (Tree.row j (Tree.pair (Tree.flag f) (led 0x00 t))) ≡ accepted (Tree.row j (Tree.pair (Tree.flag f) (led 0x00 u))) n
  kinded_walks j f h = rw h refl

  module _ {u : Tree} (listed : walk asked c s t ≡ accepted u n) where
    -- the table is refused
    left_untabled : (j : ℕ) (w : Listed) (o : Tree) {m : S} {e : Error E} → asked n (Index space.Table 0) ≡ refused e m → walk asked c s (Tree.row j (Tree.left w o t)) ≡ refused e m
    left_untabled j w o q = rw (listed, q) refl

    aimed_untabled : (j : ℕ) (w : Listed) (i : ℕ) (o : Tree) {m : S} {e : Error E} → asked n (Index space.Table i) ≡ refused e m →
        walk asked c s (Tree.row j (Tree.aimed w i o t)) ≡ refused e m
    aimed_untabled j w i o q = rw (listed, q) refl

    -- the offset is refused
    left_unplaced : (j : ℕ) (w : Listed) (o : Tree) {a : ℕ} {k m : S} {e : Error E} → asked n (Index space.Table 0) ≡ accepted a k → walk asked c k o ≡ refused e m →
        walk asked c s (Tree.row j (Tree.left w o t)) ≡ refused e m
    left_unplaced j w o q r = rw (listed, q, r) refl

    aimed_unplaced : (j : ℕ) (w : Listed) (i : ℕ) (o : Tree) {a : ℕ} {k m : S} {e : Error E} → asked n (Index space.Table i) ≡ accepted a k → walk asked c k o ≡ refused e m →
        walk asked c s (Tree.row j (Tree.aimed w i o t)) ≡ refused e m
    aimed_unplaced j w i o q r = rw (listed, q, r) refl

    left_walks : (j : ℕ) (w : Listed) (o o' : Tree) {a : ℕ} {k m : S} → asked n (Index space.Table 0) ≡ accepted a k → walk asked c k o ≡ accepted o' m →
        walk asked c s (Tree.row j (Tree.left w o t)) ≡ accepted (Tree.row j (aimed_at w a o' u)) m
    left_walks j w o o' q r = rw (listed, q, r) refl

    aimed_walks : (j : ℕ) (w : Listed) (i : ℕ) (o o' : Tree) {a : ℕ} {k m : S} → asked n (Index space.Table i) ≡ accepted a k → walk asked c k o ≡ accepted o' m →
        walk asked c s (Tree.row j (Tree.aimed w i o t)) ≡ accepted (Tree.row j (Tree.aimed w a o' u)) m
    aimed_walks j w i o o' q r = rw (listed, q, r) refl

-- what a table that was left out becomes
left_functions : (a : ℕ) (o : Tree) (is : List ℕ) → Tree.row 0 (aimed_at Listed.functions a o (items_of (Items.functions is))) ≡ active_of (answered_table None a) o (Items.functions is)
left_functions zero o is = refl
left_functions (suc i) o is = refl

left_expressions : (a : ℕ) (o ty : Tree) (es : List Tree) → ty ≡ funcref →
    Tree.row 3 (aimed_at Listed.expressions a o (vector_tree es)) ≡ active_of (answered_table None a) o (Items.expressions true ty es)
left_expressions zero o ty es e = refl
left_expressions (suc i) o ty es e = ap (λ (z : Tree). Tree.row 3 (Tree.aimed Listed.expressions (suc i) o (typed_expressions z es))) (sym e)

written_expressions : (a : ℕ) (o ty : Tree) (es : List Tree) →
    Tree.row 3 (Tree.aimed Listed.expressions a o (typed_expressions ty es)) ≡ active_of (answered_table None a) o (Items.expressions false ty es)
written_expressions zero o ty es = refl
written_expressions (suc i) o ty es = refl

module _ {S E : Type 0} (asked : Asks S E) (c : ℕ) (s : S) {n : S} where
  active_accepted : {k m : S} (table : Option ℕ) (o o' : Tree) (a : ℕ) (row made : Items) → Honest row → Alike row made → walk asked c s (items_of row) ≡ accepted (items_of made) n →
      asked n (Index space.Table (asked_table table)) ≡ accepted a k → walk asked c k o ≡ accepted o' m →
      walk asked c s (active_of table o row) ≡ accepted (active_of (answered_table table a) o' made) m
  active_accepted {m = m} None o o' a (Items.functions is) (Items.functions js) h l w q r =
      left_walks asked c s (items_of (Items.functions is)) w 0 Listed.functions o o' q r ∙ ap (λ (z : Tree). accepted z m) (left_functions a o' js)
  active_accepted (Some i) o o' a (Items.functions is) (Items.functions js) h l w q r =
      aimed_walks asked c s (items_of (Items.functions is)) w 0 Listed.functions i o o' q r
  active_accepted {m = m} None o o' a (Items.expressions true ty es) (Items.expressions true ty' es') h l w q r =
      let f = funcref_walked asked c s (vector_tree es) (h refl) w in
      left_walks asked c s (vector_tree es) f.1 3 Listed.expressions o o' q r ∙ ap (λ (z : Tree). accepted z m) (left_expressions a o' ty' es' f.0)
  active_accepted {m = m} None o o' a (Items.expressions false ty es) (Items.expressions false ty' es') h l w q r =
      aimed_walks asked c s (typed_expressions ty es) w 3 Listed.expressions 0 o o' q r ∙ ap (λ (z : Tree). accepted z m) (written_expressions a o' ty' es')
  active_accepted None o o' a (Items.expressions true ty es) (Items.expressions false ty' es') h l w q r = absurd cc
  active_accepted None o o' a (Items.expressions false ty es) (Items.expressions true ty' es') h l w q r = absurd cc
  active_accepted (Some i) o o' a (Items.expressions known ty es) (Items.expressions known' ty' es') h l w q r =
      aimed_walks asked c s (typed_expressions ty es) w 3 Listed.expressions i o o' q r
  active_accepted table o o' a (Items.functions is) (Items.expressions known ty es) h l w q r = absurd l
  active_accepted table o o' a (Items.expressions known ty es) (Items.functions js) h l w q r = absurd l

  active_unlisted : {e : Error E} (table : Option ℕ) (o : Tree) (row : Items) → Honest row → walk asked c s (items_of row) ≡ refused e n → walk asked c s (active_of table o row) ≡ refused e n
  active_unlisted None o (Items.functions is) h w = left_unlisted asked c s (items_of (Items.functions is)) 0 Listed.functions o w
  active_unlisted (Some i) o (Items.functions is) h w = aimed_unlisted asked c s (items_of (Items.functions is)) 0 Listed.functions i o w
  active_unlisted None o (Items.expressions true ty es) h w = left_unlisted asked c s (vector_tree es) 3 Listed.expressions o (funcref_stops asked c s (vector_tree es) (h refl) w)
  active_unlisted None o (Items.expressions false ty es) h w = aimed_unlisted asked c s (typed_expressions ty es) 3 Listed.expressions 0 o w
  active_unlisted (Some i) o (Items.expressions known ty es) h w = aimed_unlisted asked c s (typed_expressions ty es) 3 Listed.expressions i o w

  -- the expressions were mapped, where their type is that one
  inner_walked : {ty : Tree} (v : Tree) {u : Tree} → ty ≡ funcref → walk asked c s (Tree.swap ty v) ≡ accepted u n → (v' : Tree) × (walk asked c s v ≡ accepted v' n)
  inner_walked {ty = ty} v e w =
      let x = swap_walked asked c s ty v w in
      let P : Tree → Type 0 = λ z. walk asked c s (Tree.swap ty v) ≡ accepted z n in
      (x.1, (funcref_walked asked c s v e (subst P x.3 w)).1)

  active_untabled : {m : S} {e : Error E} {u : Tree} (table : Option ℕ) (o : Tree) (row : Items) → Honest row → walk asked c s (items_of row) ≡ accepted u n →
      asked n (Index space.Table (asked_table table)) ≡ refused e m → walk asked c s (active_of table o row) ≡ refused e m
  active_untabled None o (Items.functions is) h w q = left_untabled asked c s (items_of (Items.functions is)) w 0 Listed.functions o q
  active_untabled (Some i) o (Items.functions is) h w q = aimed_untabled asked c s (items_of (Items.functions is)) w 0 Listed.functions i o q
  active_untabled None o (Items.expressions true ty es) h w q = left_untabled asked c s (vector_tree es) (inner_walked (vector_tree es) (h refl) w).1 3 Listed.expressions o q
  active_untabled None o (Items.expressions false ty es) h w q = aimed_untabled asked c s (typed_expressions ty es) w 3 Listed.expressions 0 o q
  active_untabled (Some i) o (Items.expressions known ty es) h w q = aimed_untabled asked c s (typed_expressions ty es) w 3 Listed.expressions i o q

  active_unplaced : {k m : S} {e : Error E} {u : Tree} {a : ℕ} (table : Option ℕ) (o : Tree) (row : Items) → Honest row → walk asked c s (items_of row) ≡ accepted u n →
      asked n (Index space.Table (asked_table table)) ≡ accepted a k → walk asked c k o ≡ refused e m → walk asked c s (active_of table o row) ≡ refused e m
  active_unplaced None o (Items.functions is) h w q r = left_unplaced asked c s (items_of (Items.functions is)) w 0 Listed.functions o q r
  active_unplaced (Some i) o (Items.functions is) h w q r = aimed_unplaced asked c s (items_of (Items.functions is)) w 0 Listed.functions i o q r
  active_unplaced None o (Items.expressions true ty es) h w q r = left_unplaced asked c s (vector_tree es) (inner_walked (vector_tree es) (h refl) w).1 3 Listed.expressions o q r
  active_unplaced None o (Items.expressions false ty es) h w q r = aimed_unplaced asked c s (typed_expressions ty es) w 3 Listed.expressions 0 o q r
  active_unplaced (Some i) o (Items.expressions known ty es) h w q r = aimed_unplaced asked c s (typed_expressions ty es) w 3 Listed.expressions i o q r

  passive_accepted : (row made : Items) → Alike row made → walk asked c s (items_of row) ≡ accepted (items_of made) n → walk asked c s (passive_of row) ≡ accepted (passive_of made) n
  passive_accepted (Items.functions is) (Items.functions js) l w = kinded_walks asked c s (items_of (Items.functions is)) 1 1 w
  passive_accepted (Items.expressions known ty es) (Items.expressions known' ty' es') l w = flagged_walks asked c s (typed_expressions ty es) 4 5 w
  passive_accepted (Items.functions is) (Items.expressions known ty es) l w = absurd l
  passive_accepted (Items.expressions known ty es) (Items.functions js) l w = absurd l

  declared_accepted : (row made : Items) → Alike row made → walk asked c s (items_of row) ≡ accepted (items_of made) n → walk asked c s (declared_of row) ≡ accepted (declared_of made) n
  declared_accepted (Items.functions is) (Items.functions js) l w = kinded_walks asked c s (items_of (Items.functions is)) 2 3 w
  declared_accepted (Items.expressions known ty es) (Items.expressions known' ty' es') l w = flagged_walks asked c s (typed_expressions ty es) 5 7 w
  declared_accepted (Items.functions is) (Items.expressions known ty es) l w = absurd l
  declared_accepted (Items.expressions known ty es) (Items.functions js) l w = absurd l

  passive_unlisted : {e : Error E} (row : Items) → walk asked c s (items_of row) ≡ refused e n → walk asked c s (passive_of row) ≡ refused e n
  passive_unlisted (Items.functions is) w = kinded_unlisted asked c s (items_of (Items.functions is)) 1 1 w
  passive_unlisted (Items.expressions known ty es) w = flagged_unlisted asked c s (typed_expressions ty es) 4 5 w

  declared_unlisted : {e : Error E} (row : Items) → walk asked c s (items_of row) ≡ refused e n → walk asked c s (declared_of row) ≡ refused e n
  declared_unlisted (Items.functions is) w = kinded_unlisted asked c s (items_of (Items.functions is)) 2 3 w
  declared_unlisted (Items.expressions known ty es) w = flagged_unlisted asked c s (typed_expressions ty es) 5 7 w

  -- whatever its kind
  element_stops : {e : Error E} (kind : ElementKind) (row : Items) → Honest row → walk asked c s (items_of row) ≡ refused e n → walk asked c s (read.element_parts kind row) ≡ refused e n
  element_stops (element.Active table offset) row h w = active_unlisted table (expr_tree offset) row h w
  element_stops element.Passive row h w = passive_unlisted row w
  element_stops element.Declared row h w = declared_unlisted row w

-- ---- visits

active_visits : (table : Option ℕ) (o : Tree) (row : Items) → Honest row →
    visits (active_of table o row) ≡ visits (items_of row) ++ (Index space.Table (asked_table table) ∷ visits o)
active_visits None o (Items.functions is) h = refl
active_visits (Some i) o (Items.functions is) h = refl
active_visits None o (Items.expressions true ty es) h =
    let V : List Visit → Type 0 = λ z. visits (vector_tree es) ++ (Index space.Table 0 ∷ visits o) ≡ z ++ (Index space.Table 0 ∷ visits o) in
    let T : Tree → Type 0 = λ z. visits (vector_tree es) ++ (Index space.Table 0 ∷ visits o) ≡ (visits (vector_tree es) ++ visits z) ++ (Index space.Table 0 ∷ visits o) in
    subst T (sym (h refl)) (subst V (sym (append-nil (visits (vector_tree es)))) refl)
active_visits None o (Items.expressions false ty es) h = refl
active_visits (Some i) o (Items.expressions known ty es) h = refl

passive_visits : (row : Items) → visits (passive_of row) ≡ visits (items_of row)
passive_visits (Items.functions is) = refl
passive_visits (Items.expressions known ty es) = refl

declared_visits : (row : Items) → visits (declared_of row) ≡ visits (items_of row)
declared_visits (Items.functions is) = refl
declared_visits (Items.expressions known ty es) = refl

module _ {S E : Type 0} {asked : Asks S E} {s m : S} where
  -- what it lists was asked in part
  element_leaves : (kind : ElementKind) (row : Items) → Honest row → Visited asked s (visits (items_of row)) m → Visited asked s (visits (read.element_parts kind row)) m
  element_leaves (element.Active table offset) row h v =
      let P : List Visit → Type 0 = λ z. Visited asked s z m in
      subst P (sym (active_visits table (expr_tree offset) row h)) (first_visited (Index space.Table (asked_table table) ∷ visits (expr_tree offset)) v)
  element_leaves element.Passive row h v = let P : List Visit → Type 0 = λ z. Visited asked s z m in subst P (sym (passive_visits row)) v
  element_leaves element.Declared row h v = let P : List Visit → Type 0 = λ z. Visited asked s z m in subst P (sym (declared_visits row)) v

  -- its table and its offset were asked in part
  active_leaves : {n : S} {u : Tree} (table : Option ℕ) (o : Tree) (row : Items) → Honest row → walk asked 0 s (items_of row) ≡ accepted u n →
      Visited asked n (Index space.Table (asked_table table) ∷ visits o) m → Visited asked s (visits (active_of table o row)) m
  active_leaves table o row h w v =
      let P : List Visit → Type 0 = λ z. Visited asked s z m in subst P (sym (active_visits table o row h)) (second_visited 0 (items_of row) w v)

-- ---- the row

-- the number of what a segment lists is one of its counts
counted : {A : Type 0} (f : A → Tree) (xs : List A) (size : ℕ) → size ≡ length xs → Contains (counts (vector_tree (map f xs))) size
counted f xs size e = Contains-append_right (counts (rows_tree (map f xs))) (count (rows_tree (map f xs)) ∷ []) size (0, omega arith, count_map f xs ∙ sym e)

listed_counted : (known : Bool) (table : Option ℕ) (o ty : Tree) (es : List (List Tree)) (size : ℕ) → size ≡ length es →
    Contains (counts (active_of table o (Items.expressions known ty (map expression_of es)))) size
listed_counted true None o ty es size e = Contains-append_right (counts o) (counts (vector_tree (map expression_of es))) size (counted expression_of es size e)
listed_counted false None o ty es size e =
    Contains-append_right (counts o) (counts (typed_expressions ty (map expression_of es))) size
    (Contains-append_right (counts ty) (counts (vector_tree (map expression_of es))) size (counted expression_of es size e))
listed_counted known (Some i) o ty es size e =
    Contains-append_right (counts o) (counts (typed_expressions ty (map expression_of es))) size
    (Contains-append_right (counts ty) (counts (vector_tree (map expression_of es))) size (counted expression_of es size e))

active_counted : (table : Option ℕ) (o : List Tree) (made : Elements) (size : ℕ) → size ≡ write.elements_len made → Contains (counts (write.active_tree table o made)) size
active_counted None o (elements.Functions is) size e =
    Contains-append_right (counts (expression_of o)) (counts (vector_tree (map function_index_tree is))) size (counted function_index_tree is size e)
active_counted (Some i) o (elements.Functions is) size e =
    Contains-append_right (counts (expression_of o)) (counts (vector_tree (map function_index_tree is))) size (counted function_index_tree is size e)
active_counted table o (elements.Expressions ty es) size e = listed_counted (write.is_funcref ty) table (expression_of o) (write_types.ref_type_tree ty) es size e

unplaced_counted : (declared : Bool) (made : Elements) (size : ℕ) → size ≡ write.elements_len made → Contains (counts (write.unplaced_tree declared made)) size
unplaced_counted false (elements.Functions is) size e = counted function_index_tree is size e
unplaced_counted true (elements.Functions is) size e = counted function_index_tree is size e
unplaced_counted false (elements.Expressions ty es) size e =
    Contains-append_right (counts (write_types.ref_type_tree ty)) (counts (vector_tree (map expression_of es))) size (counted expression_of es size e)
unplaced_counted true (elements.Expressions ty es) size e =
    Contains-append_right (counts (write_types.ref_type_tree ty)) (counts (vector_tree (map expression_of es))) size (counted expression_of es size e)

-- a refusal of the section
abbrev TooLargeFor : WriteFault → ℕ → ℕ → Type 0
TooLargeFor w len n = IfTooLarge w (λ size. ((size ≡ len) ⊎ (size ≡ n + 1)) × (2 ^ 32 - 1 < size))

segment_large : (u : Tree) (len n : ℕ) (w : WriteFault) → ((size : ℕ) → size ≡ len → Contains (counts u) size) → TooLargeFor w len n →
    IfTooLarge w (IsTooLarge (counts u ++ (n + 1) ∷ []))
segment_large u len n fault.NoMemory within q = tt
segment_large u len n (fault.TooLarge size) within q = go q.0
  where
    go : (size ≡ len) ⊎ (size ≡ n + 1) → IsTooLarge (counts u ++ (n + 1) ∷ []) size
    go (inl e) = record { counted = Contains-append_left (counts u) ((n + 1) ∷ []) size (within size e); large = q.1 }
    go (inr e) = one_too_many u n (fault.TooLarge size) (e, q.1)

module _ {S E : Type 0} (i : Ghosts S E) (s n : S) (row : ElementItems) where
  abbrev Listed_as : Result Elements (Error E) → Type 0
  Listed_as r = MapsIf i s (read.element_items_tree row) write.elements_tree n r

  -- what it lists was refused
  pub element_unlisted : {old : List Tree} (kind : ElementKind) (e : Error E) → Listed_as (Err e) →
      (IsTrue i.keeps_defaults → IsTrue i.sure → LeavesVisited {A = Elements} (asks i) s (visits (read.element_items_tree row)) n (Err e)) →
      (r : Result (Unit {0}) (Error E)) → IsErrAnd r (λ y. y ≡ e) → RowClauses i (read.element_parts kind (read.listed_items row)) s old n old r
  element_unlisted kind e maps visited r q =
      row_unmapped i (read.element_parts kind (read.listed_items row)) (λ (t : Tree). t) s n e
      (λ k c other. element_stops (asks i) c s kind (read.listed_items row) (honest row) (maps k c other))
      (λ k sure. element_leaves kind (read.listed_items row) (honest row) (visited k sure)) refl r q

  module _ (made : Elements) (listed : Listed_as (Ok made)) where
    passive_maps : MapsIf i s (read.element_parts element.Passive (read.listed_items row)) (λ (t : Tree). t) n (Ok (write.passive_tree made))
    passive_maps = λ k c. passive_accepted (asks i) c s (read.listed_items row) (write.listed_items made) (alike (asks i) c s row made (listed k c)) (listed k c)

    declared_maps : MapsIf i s (read.element_parts element.Declared (read.listed_items row)) (λ (t : Tree). t) n (Ok (write.declared_tree made))
    declared_maps = λ k c. declared_accepted (asks i) c s (read.listed_items row) (write.listed_items made) (alike (asks i) c s row made (listed k c)) (listed k c)

    pub passive_added : {old new : List Tree} → new ≡ old ++ write.passive_tree made ∷ [] → RowClauses i (read.element_parts element.Passive (read.listed_items row)) s old n new (Ok tt)
    passive_added added = row_mapped i (read.element_parts element.Passive (read.listed_items row)) (λ (t : Tree). t) s n (write.passive_tree made) passive_maps added

    pub declared_added : {old new : List Tree} → new ≡ old ++ write.declared_tree made ∷ [] → RowClauses i (read.element_parts element.Declared (read.listed_items row)) s old n new (Ok tt)
    declared_added added = row_mapped i (read.element_parts element.Declared (read.listed_items row)) (λ (t : Tree). t) s n (write.declared_tree made) declared_maps added

    pub passive_too_large : {old new : List Tree} (w : WriteFault) → new ≡ old → TooLargeFor w (write.elements_len made) (length old) →
        (r : Result (Unit {0}) (Error E)) → IsErrAnd r (λ y. y ≡ error_of_write w) → RowClauses i (read.element_parts element.Passive (read.listed_items row)) s old n new r
    passive_too_large {old = old} w same large r q =
        row_not_added i (read.element_parts element.Passive (read.listed_items row)) (λ (t : Tree). t) s n (write.passive_tree made) w passive_maps same
        (segment_large (write.passive_tree made) (write.elements_len made) (length old) w (unplaced_counted false made) large) r q

    pub declared_too_large : {old new : List Tree} (w : WriteFault) → new ≡ old → TooLargeFor w (write.elements_len made) (length old) →
        (r : Result (Unit {0}) (Error E)) → IsErrAnd r (λ y. y ≡ error_of_write w) → RowClauses i (read.element_parts element.Declared (read.listed_items row)) s old n new r
    declared_too_large {old = old} w same large r q =
        row_not_added i (read.element_parts element.Declared (read.listed_items row)) (λ (t : Tree). t) s n (write.declared_tree made) w declared_maps same
        (segment_large (write.declared_tree made) (write.elements_len made) (length old) w (unplaced_counted true made) large) r q

    module _ (table : Option ℕ) (o : Expression) where
      abbrev whole : Tree
      whole = read.element_parts (element.Active table o) (read.listed_items row)

      -- its table was refused
      pub active_table_refused : {m : S} {old : List Tree} (e : Error E) → (e ≢ NoMemory → asks i n (Index space.Table (asked_table table)) ≡ refused e m) →
          NeverWants {A = ℕ} i.sure (Err e) → (r : Result (Unit {0}) (Error E)) → IsErrAnd r (λ y. y ≡ e) → RowClauses i whole s old m old r
      active_table_refused {m = m} e stops never r q =
          row_unmapped i whole (λ (t : Tree). t) s m e
          (λ k c other. active_untabled (asks i) c s table (expr_tree o) (read.listed_items row) (honest row) (listed k c) (stops other))
          (λ k sure. active_leaves table (expr_tree o) (read.listed_items row) (honest row) (listed k 0)
          (first_visited (visits (expr_tree o)) (hook_visited i.reply i.next (Index space.Table (asked_table table)) e stops never sure))) refl r q

      module _ {k m : S} (a : ℕ) (tabled : asks i n (Index space.Table (asked_table table)) ≡ accepted a k) where
        -- its offset was refused
        pub active_offset_refused : {old : List Tree} (e : Error E) → MapsIf i k (expr_tree o) expression_of m (Err e) →
            (IsTrue i.keeps_defaults → IsTrue i.sure → LeavesVisited {A = List Tree} (asks i) k (visits (expr_tree o)) m (Err e)) →
            (r : Result (Unit {0}) (Error E)) → IsErrAnd r (λ y. y ≡ e) → RowClauses i whole s old m old r
        active_offset_refused e maps visited r q =
            let index : walk (asks i) 0 n (Tree.ix space.Table (asked_table table)) ≡ accepted (Tree.ix space.Table a) k = rw tabled refl in
            row_unmapped i whole (λ (t : Tree). t) s m e
            (λ d c other. active_unplaced (asks i) c s table (expr_tree o) (read.listed_items row) (honest row) (listed d c) tabled (maps d c other))
            (λ d sure. active_leaves table (expr_tree o) (read.listed_items row) (honest row) (listed d 0)
            (second_visited 0 (Tree.ix space.Table (asked_table table)) index (visited d sure))) refl r q

        module _ (o' : List Tree) (placed : MapsIf i k (expr_tree o) expression_of m (Ok o')) where
          abbrev becomes : Tree
          becomes = write.active_tree (answered_table table a) o' made

          active_maps : MapsIf i s whole (λ (t : Tree). t) m (Ok becomes)
          active_maps = λ d c. active_accepted (asks i) c s table (expr_tree o) (expression_of o') a (read.listed_items row) (write.listed_items made) (honest row)
              (alike (asks i) c s row made (listed d c)) (listed d c) tabled (placed d c)

          pub active_added : {old new : List Tree} → new ≡ old ++ becomes ∷ [] → RowClauses i whole s old m new (Ok tt)
          active_added added = row_mapped i whole (λ (t : Tree). t) s m becomes active_maps added

          pub active_too_large : {old new : List Tree} (w : WriteFault) → new ≡ old → TooLargeFor w (write.elements_len made) (length old) →
              (r : Result (Unit {0}) (Error E)) → IsErrAnd r (λ y. y ≡ error_of_write w) → RowClauses i whole s old m new r
          active_too_large {old = old} w same large r q =
              row_not_added i whole (λ (t : Tree). t) s m becomes w active_maps same
              (segment_large becomes (write.elements_len made) (length old) w (active_counted (answered_table table a) o' made) large) r q
