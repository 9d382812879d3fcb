-- The answers that change nothing.
use Rattle.std.specs.Prelude.{◌≡◌, ℕ, List, map}
use Rattle.wasm_shapes.specs.declared.Visit.{Visit}
use Rattle.wasm_shapes.specs.declared.Visit.TheVariants.{Index, Outer}
use Rattle.wasm_shapes.specs.Tree.{Tree, visits, fill}

-- the index that a visit asks, and 0 where it asks none
abbrev pub asked_index : Visit → ℕ
asked_index (Index s i) = i
asked_index (Outer s c i) = i
asked_index _ = 0

-- each visit answered by the index that it asks
abbrev pub own : Tree → List ℕ
own t = map asked_index (visits t)

-- a tree filled with its own indices is the same tree
abbrev pub IsOwn : Type 0
IsOwn = (t : Tree) → fill t (own t) ≡ t
