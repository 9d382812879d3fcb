-- The laws of vectors and their rows.
use Rattle.std.specs.Prelude.{◌≡◌, ◌≢◌, ℕ, suc, List, [], true}
use Rattle.wasm_leb.specs.Place.{BeginsNumber, BeginsNoNumber}
use Rattle.wasm_shapes.specs.Tree.{Tree}
use Rattle.wasm_shapes.specs.Shape.{Shape, closed}
use Rattle.wasm_shapes.specs.Sound.{sound}
use Rattle.wasm_shapes.specs.Spells.{Spells}
use Rattle.wasm_shapes.specs.Place.{Begins, BeginsNone}
use Rattle.wasm_shapes.specs.Rows.{RowsLeft, NoRows}

-- A vector is a number and so many rows behind it. Such rows are the one that begins and a row less behind it, or none where none is
-- left; where none begins, or where bytes are left behind the last, the bytes are no such rows.
pub record AreRows : Type 0 where
  pub rows : (s : Shape) (n : ℕ) (body start : List ℕ) (t : Tree) → BeginsNumber 128 32 32 body n start → Spells (Shape.vec s) body t →
      (rows : Tree) × (t ≡ Tree.vec rows) × RowsLeft s n start rows
  pub vector : (s : Shape) (n : ℕ) (body start : List ℕ) (rows : Tree) → BeginsNumber 128 32 32 body n start → RowsLeft s n start rows →
      Spells (Shape.vec s) body (Tree.vec rows)
  pub uncounted : (s : Shape) (body : List ℕ) (t : Tree) → BeginsNoNumber 128 32 32 body → Spells (Shape.vec s) body t → ⊥
  pub first : (s : Shape) → sound s ≡ true → closed s ≡ true → (n : ℕ) (bytes left : List ℕ) (t rows : Tree) →
      Begins s bytes t left → RowsLeft s (suc n) bytes rows → (others : Tree) × (rows ≡ Tree.cons t others) × RowsLeft s n left others
  pub more : (s : Shape) (n : ℕ) (bytes left : List ℕ) (t rows : Tree) → Begins s bytes t left → RowsLeft s n left rows →
      RowsLeft s (suc n) bytes (Tree.cons t rows)
  pub stuck : (s : Shape) (n : ℕ) (bytes : List ℕ) → BeginsNone s bytes → NoRows s (suc n) bytes
  pub ended : (s : Shape) (bytes : List ℕ) → bytes ≢ [] → NoRows s 0 bytes
  pub whole : (s : Shape) → RowsLeft s 0 [] Tree.nil
