-- What happens on a walk over a tree, in order: visits, frames that close, and indices that are lost.
use Rattle.std.specs.Prelude.{◌≡◌, ◌<◌, ◌≤◌, ◌++◌, ℕ, List, [], ◌∷◌, length, drop, map, nat_le, All, Option, None, if◌then◌else◌}
use Rattle.wasm_shapes.specs.declared.SectionId.{SectionId}
use Rattle.wasm_shapes.specs.declared.Space.TheVariants as space
use Rattle.wasm_shapes.specs.declared.Visit.{Visit}
use Rattle.wasm_shapes.specs.declared.Visit.TheVariants.{Index, Outer, Section, Push, Pop}
use Rattle.wasm_shapes.specs.Tree.{Tree, normal, before, behind, kind, fill, after, past}
use Rattle.reencode_hooks.specs.declared.error.Error.{Error}
use Rattle.reencode_hooks.specs.declared.error.Error.TheVariants.{TooLarge, CanonicalizedHeapTypeReference}
use Rattle.reencode_hooks.specs.Run.{Step, accepted, refused, and_then, run}

-- a visit, a frame of this length that closes, or an index that no binary spells
pub data Moment : Type 0 where
  asks : Visit → Moment
  closes : ℕ → Moment
  lost : Moment

-- what happens on the walk over a tree, where its visits are answered so; a frame is as long as its filled body
abbrev pub moments_from : Option SectionId → Tree → List ℕ → List Moment
moments_from last (Tree.ix s i) answers = asks (Index s i) ∷ []
moments_from last (Tree.sx s i) answers = asks (Index s i) ∷ []
moments_from last (Tree.outer s c i) answers = asks (Outer s c i) ∷ []
moments_from last (Tree.mem a i o) answers = asks (Index space.Memory i) ∷ []
moments_from last (Tree.canonical i) answers = lost ∷ []
moments_from last (Tree.pair t u) answers = moments_from None t answers ++ moments_from None u (after t answers)
moments_from last (Tree.swap t u) answers = moments_from None u answers ++ moments_from None t (after u answers)
moments_from last (Tree.cons t u) answers = moments_from None t answers ++ moments_from None u (after t answers)
moments_from last (Tree.vec t) answers = moments_from None t answers
moments_from last (Tree.present t) answers = moments_from None t answers
moments_from last (Tree.sized t) answers = moments_from None t answers ++ (closes (length (normal (fill t answers))) ∷ [])
moments_from last (Tree.row k t) answers = moments_from None t answers
moments_from last (Tree.scope t) answers = asks Push ∷ (moments_from None t (drop 1 answers) ++ (asks Pop ∷ []))
moments_from last (Tree.spare b t) answers = moments_from None t answers
moments_from last (Tree.kept b t) answers = moments_from None t answers
moments_from last (Tree.final t u) answers = moments_from None t answers ++ moments_from None u (after t answers)
moments_from last (Tree.until b t) answers = moments_from None t answers
moments_from last (Tree.op c t) answers = moments_from None t answers
moments_from last (Tree.left w o t) answers =
    moments_from None t answers ++ (asks (Index space.Table 0) ∷ moments_from None o (drop 1 (after t answers)))
moments_from last (Tree.aimed w i o t) answers =
    moments_from None t answers ++ (asks (Index space.Table i) ∷ moments_from None o (drop 1 (after t answers)))
moments_from last (Tree.placed i o t) answers =
    asks (Index space.Memory i) ∷ (moments_from None o (drop 1 answers) ++ moments_from None t (after o (drop 1 answers)))
moments_from last (Tree.told k t) answers = moments_from None t answers
moments_from last Tree.finish answers = asks (Section last None) ∷ []
moments_from last (Tree.also t u) answers =
    let own = drop (length (before last t)) answers in
    map asks (before last t) ++ (moments_from None t own ++ (map asks (behind t) ++ moments_from (kind last t) u (past t own)))
moments_from last _ answers = []

abbrev pub moments : Tree → List ℕ → List Moment
moments t answers = moments_from None t answers

-- the visits among them
abbrev pub asked_in : List Moment → List Visit
asked_in [] = []
asked_in (asks v ∷ ms) = v ∷ asked_in ms
asked_in (closes n ∷ ms) = asked_in ms
asked_in (lost ∷ ms) = asked_in ms

-- the lengths of the frames that close
abbrev pub closed_in : List Moment → List ℕ
closed_in [] = []
closed_in (asks v ∷ ms) = closed_in ms
closed_in (closes n ∷ ms) = n ∷ closed_in ms
closed_in (lost ∷ ms) = closed_in ms

-- no index is lost
abbrev pub NoneLost : List Moment → Type 0
NoneLost [] = Unit {0}
NoneLost (asks v ∷ ms) = NoneLost ms
NoneLost (closes n ∷ ms) = NoneLost ms
NoneLost (lost ∷ ms) = ⊥

-- the lengths of the frames of a tree in the order in which they close where its parts are visited in their order
abbrev pub closings : Tree → List ℕ
closings (Tree.pair t u) = closings t ++ closings u
closings (Tree.swap t u) = closings u ++ closings t
closings (Tree.cons t u) = closings t ++ closings u
closings (Tree.vec t) = closings t
closings (Tree.present t) = closings t
closings (Tree.sized t) = closings t ++ (length (normal t) ∷ [])
closings (Tree.row k t) = closings t
closings (Tree.scope t) = closings t
closings (Tree.spare b t) = closings t
closings (Tree.kept b t) = closings t
closings (Tree.final t u) = closings t ++ closings u
closings (Tree.until b t) = closings t
closings (Tree.op c t) = closings t
closings (Tree.left w o t) = closings t ++ closings o
closings (Tree.aimed w i o t) = closings t ++ closings o
closings (Tree.placed i o t) = closings o ++ closings t
closings (Tree.told k t) = closings t
closings (Tree.also t u) = closings t ++ closings u
closings _ = []

-- one after another: a visit is asked, a frame above the ceiling is refused, and so is a lost index
abbrev pub passed : {S E : Type 0} → (S → Visit → Step S (Error E) ℕ) → ℕ → S → List Moment → Step S (Error E) (List ℕ)
passed asked c s [] = accepted [] s
passed asked c s (asks v ∷ ms) = and_then (asked s v) (λ n m. and_then (passed asked c m ms) (λ ns k. accepted (n ∷ ns) k))
passed asked c s (closes n ∷ ms) = if nat_le n c then passed asked c s ms else refused (TooLarge n) s
passed asked c s (lost ∷ ms) = refused CanonicalizedHeapTypeReference s

-- the moment ends a walk in this state with this error, in that state
abbrev pub Ends : {S E : Type 0} → (S → Visit → Step S (Error E) ℕ) → ℕ → S → Moment → Error E → S → Type 0
Ends asked c s (asks v) e m = asked s v ≡ refused e m
Ends asked c s (closes n) e m = (c < n) × (e ≡ TooLarge n) × (m ≡ s)
Ends asked c s lost e m = (e ≡ CanonicalizedHeapTypeReference) × (m ≡ s)

-- one of these moments ends a walk: those before it were passed, to these answers and this state
pub record Stops {S E : Type 0} (asked : S → Visit → Step S (Error E) ℕ) (c : ℕ) (s : S) (moments : List Moment) (e : Error E) (m : S) : Type 0 where
  pub front : List Moment
  pub moment : Moment
  pub rest : List Moment
  pub parts : moments ≡ front ++ moment ∷ rest
  pub so_far : List ℕ
  pub state : S
  pub ran : run asked s (asked_in front) ≡ accepted so_far state
  pub fits : All (λ n. n ≤ c) (closed_in front)
  pub known : NoneLost front
  pub ends : Ends asked c state moment e m
