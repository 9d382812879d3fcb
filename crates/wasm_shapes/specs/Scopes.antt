-- The scopes that are open along some visits.
use Rattle.std.specs.Prelude.{◌≡◌, ◌++◌, ℕ, zero, suc, pred, ◌+◌, max, List, [], ◌∷◌, Option, Some, None}
use Rattle.wasm_shapes.specs.declared.Visit.{Visit}
use Rattle.wasm_shapes.specs.declared.Visit.TheVariants.{Index, Outer, Section, Closed, Push, Pop}
use Rattle.wasm_shapes.specs.Tree.{Tree, visits}
use Rattle.wasm_shapes.specs.Sections.{core_tree}
use Rattle.wasm_shapes.specs.Component.{component_tree}
use Rattle.wasm_shapes.specs.Module.{CoreReading}
use Rattle.wasm_shapes.specs.Depth.{opens}

-- how many scopes are open behind some visits, unless one is closed that they did not open
abbrev pub open_behind : ℕ → List Visit → Option ℕ
open_behind k [] = Some k
open_behind k (Index s i ∷ vs) = open_behind k vs
open_behind k (Outer s c i ∷ vs) = open_behind k vs
open_behind k (Section after before ∷ vs) = open_behind k vs
open_behind k (Closed kind ∷ vs) = open_behind k vs
open_behind k (Push ∷ vs) = open_behind (suc k) vs
open_behind zero (Pop ∷ vs) = None
open_behind (suc k) (Pop ∷ vs) = open_behind k vs

-- the most scopes that are open at once
abbrev pub most_open : ℕ → List Visit → ℕ
most_open k [] = k
most_open k (Index s i ∷ vs) = most_open k vs
most_open k (Outer s c i ∷ vs) = most_open k vs
most_open k (Section after before ∷ vs) = most_open k vs
most_open k (Closed kind ∷ vs) = most_open k vs
most_open k (Push ∷ vs) = max k (most_open (suc k) vs)
most_open k (Pop ∷ vs) = max k (most_open (pred k) vs)

-- how often a scope is opened, and how often one is closed
abbrev pub pushes : List Visit → ℕ
pushes [] = zero
pushes (Push ∷ vs) = suc (pushes vs)
pushes (_ ∷ vs) = pushes vs

abbrev pub pops : List Visit → ℕ
pops [] = zero
pops (Pop ∷ vs) = suc (pops vs)
pops (_ ∷ vs) = pops vs

-- how many scopes stand in a tree
abbrev pub scopes : Tree → ℕ
scopes (Tree.pair t u) = scopes t + scopes u
scopes (Tree.swap t u) = scopes t + scopes u
scopes (Tree.cons t u) = scopes t + scopes u
scopes (Tree.vec t) = scopes t
scopes (Tree.present t) = scopes t
scopes (Tree.sized t) = scopes t
scopes (Tree.row k t) = scopes t
scopes (Tree.scope t) = suc (scopes t)
scopes (Tree.spare b t) = scopes t
scopes (Tree.kept b t) = scopes t
scopes (Tree.final t u) = scopes t + scopes u
scopes (Tree.until b t) = scopes t
scopes (Tree.op c t) = scopes t
scopes (Tree.left w o t) = scopes o + scopes t
scopes (Tree.aimed w i o t) = scopes o + scopes t
scopes (Tree.placed i o t) = scopes o + scopes t
scopes (Tree.told k t) = scopes t
scopes (Tree.also t u) = scopes t + scopes u
scopes _ = zero

-- Each scope has one Push before its own visits and one Pop behind them, these close what they open and no more, and there
-- are no others; the outermost module or component has neither, and in a core module there is none.
pub record AreBracketed : Type 0 where
  pub between : (t : Tree) → visits (Tree.scope t) ≡ Push ∷ visits t ++ (Pop ∷ [])
  pub closed : (t : Tree) → open_behind 0 (visits t) ≡ Some 0
  pub pushed : (t : Tree) → pushes (visits t) ≡ scopes t
  pub popped : (t : Tree) → pops (visits t) ≡ scopes t
  pub core : (t : Tree) → visits (core_tree t) ≡ visits t
  pub component : (t : Tree) → visits (component_tree t) ≡ visits t
  pub in_core : (bytes : List ℕ) (t : Tree) → CoreReading bytes t → scopes t ≡ 0

-- as many scopes are open at once as the tree opens within each other
abbrev pub AreDeepest : Type 0
AreDeepest = (t : Tree) → most_open 0 (visits t) ≡ opens t
