-- The walks over composite types and subtypes, by those over the parts that have a call of their own.
use Rattle.std.proofs.Common.{◌≡◌, ℕ, Bool, true, false, Option, Some, None, refl}
use Rattle.wasm_shapes.specs.declared.Visit.{Visit}
use Rattle.wasm_shapes.specs.Tree.{Tree, visits}
use Rattle.wasm_shapes.specs.Types.{behind_descriptor, behind_described, shared_composite_tree}
use Rattle.reencode_hooks.specs.declared.error.Error.{Error}
use Rattle.reencode_hooks.specs.Run.{Step, accepted, refused, and_then, Visited}
use Rattle.reencode_hooks.specs.Walk.{walk}
use Rattle.reencode_hooks.proofs.Agrees.{and_then-and_then}
use Rattle.reencode_hooks.proofs.Leaving.{first_visited, walk_left}

-- a tree that may be left out, walked where it is there
abbrev option_walked : {S E : Type 0} → (S → Visit → Step S (Error E) ℕ) → ℕ → S → Option Tree → Step S (Error E) (Option Tree)
option_walked asked c s None = accepted None s
option_walked asked c s (Some t) = and_then (walk asked c s t) (λ u m. accepted (Some u) m)

same_step : {S E A : Type 0} (step : Step S E A) → step ≡ and_then step (λ a m. accepted a m)
same_step (accepted a m) = refl
same_step (refused e m) = refl

module _ {S E : Type 0} (asked : S → Visit → Step S (Error E) ℕ) (c : ℕ) (s : S) where
  pub walk_shared : (b : Bool) (t : Tree) →
      walk asked c s (shared_composite_tree b t) ≡ and_then (walk asked c s t) (λ u m. accepted (shared_composite_tree b u) m)
  walk_shared false t = same_step (walk asked c s t)
  walk_shared true t = simp and_then-and_then

  pub walk_descriptor : (o : Option Tree) (t : Tree) → walk asked c s (behind_descriptor o t) ≡
      and_then (walk asked c s t) (λ u m. and_then (option_walked asked c m o) (λ p n. accepted (behind_descriptor p u) n))
  walk_descriptor None t = same_step (walk asked c s t)
  walk_descriptor (Some i) t = simp and_then-and_then

  pub walk_described : (o : Option Tree) (t : Tree) → walk asked c s (behind_described o t) ≡
      and_then (walk asked c s t) (λ u m. and_then (option_walked asked c m o) (λ p n. accepted (behind_described p u) n))
  walk_described None t = same_step (walk asked c s t)
  walk_described (Some i) t = simp and_then-and_then

-- ---- the state that is left

module _ {S E : Type 0} {asked : S → Visit → Step S (Error E) ℕ} {s m : S} where
  described_leaves : (t : Tree) (o : Option Tree) → Visited asked s (visits t) m → Visited asked s (visits (behind_descriptor o t)) m
  described_leaves t None v = v
  described_leaves t (Some i) v = first_visited (visits i) v

  describing_leaves : (t : Tree) (o : Option Tree) → Visited asked s (visits t) m → Visited asked s (visits (behind_described o t)) m
  describing_leaves t None v = v
  describing_leaves t (Some i) v = first_visited (visits i) v

  shared_leaves : (t : Tree) (b : Bool) → Visited asked s (visits t) m → Visited asked s (visits (shared_composite_tree b t)) m
  shared_leaves t false v = v
  shared_leaves t true v = v

  -- what a composite type holds was asked in part
  pub inner_leaves : (b : Bool) (i j : Option Tree) (t : Tree) → Visited asked s (visits t) m →
      Visited asked s (visits (shared_composite_tree b (behind_described j (behind_descriptor i t)))) m
  inner_leaves b i j t v = shared_leaves (behind_described j (behind_descriptor i t)) b (describing_leaves (behind_descriptor i t) j (described_leaves t i v))

-- what proves the walk over a composite type, and what an error of it leaves
pub ruleset composites = (walk_shared, walk_descriptor, walk_described)

pub ruleset composite_goals = (composites, inner_leaves, walk_left)
