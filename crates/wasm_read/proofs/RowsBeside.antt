-- Rows one behind another, with what their bytes say beside their trees.
use Rattle.std.proofs.Common.{ℕ, List, [], ◌∷◌, ◌++◌, refl}
use Rattle.wasm_shapes.specs.Tree.{Tree}
use Rattle.wasm_shapes.specs.Shape.{Shape}
use Rattle.wasm_shapes.specs.Place.{Begins}
use Rattle.wasm_read.specs.VectorRows.{RowsBeside}

-- one row more behind
pub beside_more : {R : Type 0} (shape : Shape) (tree : R → Tree) (beside : List ℕ → R → Type 0) (bytes : List ℕ) {middle left : List ℕ} (rows : List R) (row : R) →
    RowsBeside shape tree beside bytes rows middle → Begins shape middle (tree row) left → beside middle row → RowsBeside shape tree beside bytes (rows ++ row ∷ []) left
beside_more shape tree beside bytes {left = left} [] row e p b = (left, rw e p, rw e b, refl)
beside_more shape tree beside bytes (first ∷ rows) row r p b = (r.0, r.1, r.2, beside_more shape tree beside r.0 rows row r.3 p b)
