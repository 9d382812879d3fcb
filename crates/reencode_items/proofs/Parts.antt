-- The walks over indices and reference types, by those over the parts that have a call of their own.
use Rattle.std.proofs.Common.{◌≡◌, ℕ, zero, suc, Bool, true, false, refl, sym, ap, ◌∙◌}
use Rattle.wasm_shapes.specs.declared.Space.TheVariants as space
use Rattle.wasm_shapes.specs.declared.Visit.{Visit}
use Rattle.wasm_shapes.specs.declared.Visit.TheVariants.{Index}
use Rattle.wasm_shapes.specs.Tree.{Tree}
use Rattle.wasm_read.specs.declared.types.UnpackedIndex.{UnpackedIndex}
use Rattle.wasm_read.specs.declared.types.UnpackedIndex.TheVariants as unpacked
use Rattle.wasm_read.specs.Types.{HeapType as ReadHeapType}
use Rattle.wasm_types.specs.declared.types.HeapType.TheVariants as heap
use Rattle.wasm_read.specs.Types as read
use Rattle.wasm_write.specs.Types.{HeapType as WrittenHeapType}
use Rattle.wasm_write.specs.Types as write
use Rattle.reencode_hooks.specs.declared.error.Error.{Error}
use Rattle.reencode_hooks.specs.Run.{Step, accepted, refused, and_then}
use Rattle.reencode_hooks.specs.Walk.{walk}

-- the same index, spelled with its sign
abbrev pub as_signed : Tree → Tree
as_signed (Tree.ix s i) = Tree.sx s i
as_signed t = t

-- the reference type of a heap type, that may be null or not; of no other tree
abbrev pub as_nullable : Tree → Tree
as_nullable (Tree.row zero t) = Tree.row 1 (Tree.spare 0x63 (Tree.row 0 t))
as_nullable (Tree.row (suc zero) t) = Tree.row 1 (Tree.spare 0x63 (Tree.row 1 t))
as_nullable (Tree.row (suc (suc zero)) t) = Tree.row 1 (Tree.kept 0x63 (Tree.row 0 t))
as_nullable (Tree.row (suc (suc (suc zero))) t) = Tree.row 1 (Tree.kept 0x63 (Tree.row 1 t))
as_nullable _ = Tree.empty

abbrev pub as_reference : Bool → Tree → Tree
as_reference false t = Tree.row 0 (Tree.pair (Tree.fixed 0x64) t)
as_reference true t = as_nullable t

pub reference_written : (b : Bool) (h : WrittenHeapType) → write.reference_parts b h ≡ as_reference b (write.heap_type_tree h)
reference_written false h = refl
reference_written true (heap.Abstract false ty) = refl
reference_written true (heap.Abstract true ty) = refl
reference_written true (heap.Exact i) = refl
reference_written true (heap.Concrete i) = refl

-- it is that of one heap type alone
only_nullable : (h : WrittenHeapType) (u : Tree) → as_nullable u ≡ write.nullable_tree h → u ≡ write.heap_type_tree h
only_nullable (heap.Abstract false ty) (Tree.row (suc (suc (suc zero))) t) e = cc
only_nullable (heap.Abstract true ty) (Tree.row (suc (suc (suc zero))) t) e = cc
only_nullable (heap.Exact i) (Tree.row (suc (suc (suc zero))) t) e = cc
only_nullable (heap.Concrete i) (Tree.row (suc (suc (suc zero))) t) e = cc
only_nullable _ _ e = cc

only_reference : (b n : Bool) (h : WrittenHeapType) (u : Tree) → as_reference b u ≡ write.reference_parts n h → (b ≡ n) × (u ≡ write.heap_type_tree h)
only_reference false false h u e = (refl, cc)
only_reference true true h u e = (refl, only_nullable h u e)
only_reference false true (heap.Abstract false ty) u e = absurd cc
only_reference false true (heap.Abstract true ty) u e = absurd cc
only_reference false true (heap.Exact i) u e = absurd cc
only_reference false true (heap.Concrete i) u e = absurd cc
only_reference true false h (Tree.row (suc (suc (suc zero))) t) e = absurd cc
only_reference true false h _ e = absurd cc

module _ {S E : Type 0} (asked : S → Visit → Step S (Error E) ℕ) (c : ℕ) (s : S) where
  -- a step whose tree is changed
  abbrev changed : (Tree → Tree) → Step S (Error E) Tree → Step S (Error E) Tree
  changed f step = and_then step (λ u m. accepted (f u) m)

  indexed : (step : Step S (Error E) ℕ) → and_then step (λ n m. accepted (Tree.sx space.Type_ n) m)
      ≡ changed as_signed (and_then step (λ n m. accepted (Tree.ix space.Type_ n) m))
  indexed (accepted n m) = refl
  indexed (refused e m) = refl

  pub walk_signed : (i : UnpackedIndex) → walk asked c s (read.signed_index i) ≡ changed as_signed (walk asked c s (read.type_index i))
  walk_signed (unpacked.Module i) = indexed (asked s (Index space.Type_ i))
  walk_signed (unpacked.RecGroup i) = refl

  -- changes one behind another that come to the same
  in_three : (step : Step S (Error E) Tree) (f g h p q : Tree → Tree) → ((u : Tree) → h (g (f u)) ≡ q (p u)) →
      changed h (changed g (changed f step)) ≡ changed q (changed p step)
  in_three (accepted u m) f g h p q e = ap (λ (t : Tree). accepted t m) (e u)
  in_three (refused e m) f g h p q _ = refl

  in_four : (step : Step S (Error E) Tree) (f g h k p q r : Tree → Tree) → ((u : Tree) → k (h (g (f u))) ≡ r (q (p u))) →
      changed k (changed h (changed g (changed f step))) ≡ changed r (changed q (changed p step))
  in_four (accepted u m) f g h k p q r e = ap (λ (t : Tree). accepted t m) (e u)
  in_four (refused e m) f g h k p q r _ = refl

  in_reference : (step : Step S (Error E) Tree) → changed (λ u. Tree.row 0 u) (changed (λ u. Tree.pair (Tree.fixed 0x64) u) step) ≡ changed (as_reference false) step
  in_reference (accepted u m) = refl
  in_reference (refused e m) = refl

  pub walk_reference : (b : Bool) (h : ReadHeapType) → walk asked c s (read.reference_parts b h) ≡ changed (as_reference b) (walk asked c s (read.heap_type_tree h))
  walk_reference false h = in_reference (walk asked c s (read.heap_type_tree h))
  walk_reference true (heap.Abstract false ty) =
      in_three (walk asked c s (read.abstract_tree ty)) (λ u. Tree.row 0 u) (λ u. Tree.spare 0x63 u) (λ u. Tree.row 1 u) (λ u. Tree.row 0 u) as_nullable (λ _. refl)
  walk_reference true (heap.Abstract true ty) =
      in_four (walk asked c s (read.abstract_tree ty)) (λ u. Tree.pair (Tree.fixed 0x65) u) (λ u. Tree.row 1 u) (λ u. Tree.spare 0x63 u) (λ u. Tree.row 1 u)
      (λ u. Tree.pair (Tree.fixed 0x65) u) (λ u. Tree.row 1 u) as_nullable (λ _. refl)
  walk_reference true (heap.Exact i) =
      in_four (walk asked c s (read.type_index i)) (λ u. Tree.pair (Tree.fixed 0x62) u) (λ u. Tree.row 0 u) (λ u. Tree.kept 0x63 u) (λ u. Tree.row 1 u)
      (λ u. Tree.pair (Tree.fixed 0x62) u) (λ u. Tree.row 2 u) as_nullable (λ _. refl)
  walk_reference true (heap.Concrete i) =
      in_three (walk asked c s (read.signed_index i)) (λ u. Tree.row 1 u) (λ u. Tree.kept 0x63 u) (λ u. Tree.row 1 u) (λ u. Tree.row 3 u) as_nullable (λ _. refl)

  accepted_before : (f : Tree → Tree) (step : Step S (Error E) Tree) {v : Tree} {m : S} → changed f step ≡ accepted v m → (u : Tree) × (step ≡ accepted u m) × (f u ≡ v)
  accepted_before f (accepted u n) e = (u, cc, cc)
  accepted_before f (refused x n) e = absurd cc

  refused_before : (f : Tree → Tree) (step : Step S (Error E) Tree) {e : Error E} {m : S} → changed f step ≡ refused e m → step ≡ refused e m
  refused_before f (accepted u n) e = absurd cc
  refused_before f (refused x n) e = e

  -- what becomes of a reference type says what becomes of its heap type
  pub heap_accepted : (b n : Bool) (h : ReadHeapType) (w : WrittenHeapType) {m : S} → walk asked c s (read.reference_parts b h) ≡ accepted (write.reference_parts n w) m →
      (b ≡ n) × (walk asked c s (read.heap_type_tree h) ≡ accepted (write.heap_type_tree w) m)
  heap_accepted b n h w {m = m} e =
      let before = accepted_before (as_reference b) (walk asked c s (read.heap_type_tree h)) (sym (walk_reference b h) ∙ e) in
      let one : (b ≡ n) × (before.0 ≡ write.heap_type_tree w) = only_reference b n w before.0 before.2 in
      (one.0, before.1 ∙ ap (λ (t : Tree). accepted t m) one.1)

  pub heap_refused : (b : Bool) (h : ReadHeapType) {e : Error E} {m : S} → walk asked c s (read.reference_parts b h) ≡ refused e m →
      walk asked c s (read.heap_type_tree h) ≡ refused e m
  heap_refused b h e = refused_before (as_reference b) (walk asked c s (read.heap_type_tree h)) (sym (walk_reference b h) ∙ e)

-- what proves the walk over a reference type
pub ruleset references = (walk_reference, reference_written)
