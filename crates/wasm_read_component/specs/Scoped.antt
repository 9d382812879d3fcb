-- What readers of rows promise where scopes are open round them.
use Rattle.std.specs.Prelude.{◌≡◌, ◌≢◌, ◌⊎◌, ℕ, ◌+◌, ◌<◌, List, []}
use Rattle.wasm_shapes.specs.Tree.{Tree}
use Rattle.wasm_shapes.specs.Shape.{Shape}
use Rattle.wasm_shapes.specs.Rows.{RowsLeft}
use Rattle.wasm_shapes.specs.Depth.{Shallow, BeginsAt, BeginsNoneAt}
use Rattle.wasm_read.specs.Reading.{Standing}

-- where a reader stands, and how many scopes are open round its rows
pub record ScopedStanding : Type 0 where
  pub rows : Standing
  pub depth : ℕ

-- the bytes begin with a tree for which a row stands, and which opens no scope too many
pub record ReadsAt (shape : Shape) (depth : ℕ) (stands : Tree → Type 0) (bytes left : List ℕ) : Type 0 where
  pub tree : Tree
  pub is : stands tree
  pub begins : BeginsAt shape depth bytes tree left

-- a row was read, and the reader stands behind it
pub record ScopedRead (shape : Shape) (stands : Tree → Type 0) (old new : ScopedStanding) : Type 0 where
  pub reads : ReadsAt shape old.depth stands old.rows.rest new.rows.rest
  pub counted : old.rows.left ≡ new.rows.left + 1
  pub len : new.rows.len ≡ old.rows.len
  pub count : new.rows.count ≡ old.rows.count
  pub depth : new.depth ≡ old.depth

-- no such rows fill some bytes
pub record NoRowsFill (shape : Shape) (left depth : ℕ) (bytes : List ℕ) : Type 0 where
  pub none : (rows : Tree) → RowsLeft shape left bytes rows → Shallow depth rows → ⊥

-- no row begins where one is due, or bytes are left behind the last; and so the bytes are no such rows
pub record ScopedMissing (shape : Shape) (old : ScopedStanding) : Type 0 where
  pub here : ((0 < old.rows.left) × BeginsNoneAt shape old.depth old.rows.rest) ⊎ ((old.rows.left ≡ 0) × (old.rows.rest ≢ []))
  pub rows : NoRowsFill shape old.rows.left old.depth old.rows.rest
