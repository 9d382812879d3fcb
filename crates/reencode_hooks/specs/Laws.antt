-- Laws of walks and runs.
use Rattle.std.specs.Prelude.{◌≡◌, ◌<◌, ◌≤◌, ◌^◌, ◌⊎◌, ℕ, List, All, Result, ◌↔◌}
use Rattle.wasm_shapes.specs.declared.Visit.{Visit}
use Rattle.wasm_shapes.specs.Tree.{Tree, visits, fill}
use Rattle.wasm_shapes.specs.Spells.{Spelled}
use Rattle.wasm_shapes.specs.Fits.{Fits}
use Rattle.reencode_hooks.specs.declared.error.Error.{Error}
use Rattle.reencode_hooks.specs.declared.error.Error.TheVariants.{UserError, TooLarge}
use Rattle.reencode_hooks.specs.Run.{Step, accepted, refused, and_then, ask, run, answers, state_after, Visited}
use Rattle.reencode_hooks.specs.Hooks.{IsInRange}
use Rattle.reencode_hooks.specs.Walk.{walk}
use Rattle.reencode_hooks.specs.Moments.{moments, asked_in, closed_in, closings, NoneLost, passed, Stops}

-- A walk is what happens on it, one moment after another, and gives the tree with the answers filled in.
abbrev pub WalkIsPassed : {S E : Type 0} → (S → Visit → Step S (Error E) ℕ) → Type 0
WalkIsPassed {S} asked = (c : ℕ) (s : S) (t : Tree) →
    walk asked c s t ≡ and_then (passed asked c s (moments t (answers asked s (visits t)))) (λ a m. accepted (fill t a) m)

-- the run over the visits of a tree is accepted, and the filled tree fits the ceiling
pub record Accepts {S E : Type 0} (asked : S → Visit → Step S (Error E) ℕ) (c : ℕ) (s : S) (t u : Tree) (m : S) : Type 0 where
  pub given : List ℕ
  pub ran : run asked s (visits t) ≡ accepted given m
  pub filled : fill t given ≡ u
  pub fits : Fits u c

-- A walk is accepted exactly where the run is, and no frame of the filled tree is above the ceiling; only of a tree that
-- no bytes spell may it be refused there.
pub record WalkIsRun {S E : Type 0} (asked : S → Visit → Step S (Error E) ℕ) : Type 0 where
  pub forth : (c : ℕ) (s m : S) (t u : Tree) → walk asked c s t ≡ accepted u m → Accepts asked c s t u m
  pub back : (c : ℕ) (s m : S) (t u : Tree) (bytes : List ℕ) → Spelled t bytes → Accepts asked c s t u m → walk asked c s t ≡ accepted u m

-- A walk is refused exactly where one of its moments ends it: a refused visit, or a frame above the ceiling, or a lost index,
-- where those before it were accepted and fit.
abbrev pub WalkStops : {S E : Type 0} → (S → Visit → Step S (Error E) ℕ) → Type 0
WalkStops {S} {E} asked = (c : ℕ) (s m : S) (t : Tree) (e : Error E) →
    (walk asked c s t ≡ refused e m) ↔ Stops asked c s (moments t (answers asked s (visits t))) e m

-- a frame of this walk was above the ceiling
pub record FrameRefused {S E : Type 0} (asked : S → Visit → Step S (Error E) ℕ) (c : ℕ) (s : S) (t : Tree) : Type 0 where
  pub size : ℕ
  pub state : S
  pub above : c < size
  pub is : walk asked c s t ≡ refused (TooLarge size) state

-- The reencoder's refusal of a walk is that of the run; and where the run is refused, so is the walk of a tree that bytes
-- spell, unless a frame was above the ceiling before.
pub record WalkRefuses {S E : Type 0} (asked : S → Visit → Step S (Error E) ℕ) : Type 0 where
  pub forth : (c : ℕ) (s m : S) (t : Tree) (x : E) → walk asked c s t ≡ refused (UserError x) m → run asked s (visits t) ≡ refused (UserError x) m
  pub back : (c : ℕ) (s m : S) (t : Tree) (e : Error E) (bytes : List ℕ) → Spelled t bytes → run asked s (visits t) ≡ refused e m →
      (walk asked c s t ≡ refused e m) ⊎ FrameRefused asked c s t

-- The state after a walk is that of the run over a front part of the tree's visits.
abbrev pub WalkVisits : {S E : Type 0} → (S → Visit → Step S (Error E) ℕ) → Type 0
WalkVisits {S} asked = (c : ℕ) (s : S) (t : Tree) → Visited asked s (visits t) (state_after (walk asked c s t))

-- What happens on a walk: the visits of the tree, the frames of the filled tree, and no lost index in a tree that bytes spell.
pub record MomentsAre : Type 0 where
  pub asked : (t : Tree) (given : List ℕ) → asked_in (moments t given) ≡ visits t
  pub closed : (t : Tree) (given : List ℕ) → closed_in (moments t given) ≡ closings (fill t given)
  pub known : (t : Tree) (bytes given : List ℕ) → Spelled t bytes → NoneLost (moments t given)
  pub fit : (t : Tree) (c : ℕ) → All (λ n. n ≤ c) (closings t) ↔ Fits t c

-- The visits of a tree that bytes spell are in range, and so is each answer of a run over them.
pub record AreInRange {S E : Type 0} (reply : S → Visit → Result ℕ E) (next : S → Visit → S) : Type 0 where
  pub asked : (t : Tree) (bytes : List ℕ) → Spelled t bytes → All IsInRange (visits t)
  pub answered : (s m : S) (t : Tree) (bytes given : List ℕ) → Spelled t bytes → run (ask reply next) s (visits t) ≡ accepted given m → All (λ n. n < 2 ^ 32) given
