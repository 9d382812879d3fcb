-- What the test of the rows of a vector says of one row, and what the bytes of rows say beside their trees.
use Rattle.std.proofs.Common.{◌≡◌, true}
use Rattle.std.specs.Prelude.{ℕ, List, [], ◌∷◌, length}
use Rattle.wasm_leb.specs.Place.{BeginsNumber}
use Rattle.wasm_shapes.specs.Tree.{Tree}
use Rattle.wasm_shapes.specs.Shape.{Shape, closed}
use Rattle.wasm_shapes.specs.Sound.{sound}
use Rattle.wasm_shapes.specs.Place.{Begins}
use Rattle.wasm_shapes.proofs.Lists.{both}

pub items_closed : (s : Shape) → sound (Shape.many s) ≡ true → closed s ≡ true
items_closed s h = (both _ _ (both _ _ h).0).0

pub items_sound : (s : Shape) → sound (Shape.many s) ≡ true → sound s ≡ true
items_sound s h = (both _ _ h).1

-- rows stand one behind another at the front of some bytes, and of each holds what the bytes where it begins say beside its tree
abbrev pub RowsBeside : {R : Type 0} → Shape → (R → Tree) → (List ℕ → R → Type 0) → List ℕ → List R → List ℕ → Type 0
RowsBeside shape tree beside bytes [] left = bytes ≡ left
RowsBeside shape tree beside bytes (row ∷ rows) left =
    (rest : List ℕ) × Begins shape bytes (tree row) rest × beside bytes row × RowsBeside shape tree beside rest rows left

-- behind their number, rows stand one behind another at the front of some bytes, and of each holds what the bytes where it begins
-- say beside its tree
abbrev pub VectorBeside : {R : Type 0} → Shape → (R → Tree) → (List ℕ → R → Type 0) → List ℕ → List R → List ℕ → Type 0
VectorBeside shape tree beside bytes rows left =
    (start : List ℕ) × BeginsNumber 128 32 32 bytes (length rows) start × RowsBeside shape tree beside start rows left
