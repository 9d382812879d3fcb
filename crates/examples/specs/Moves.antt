-- Where kept function bodies stand.
use Rattle.std.specs.Prelude.{◌≡◌, ℕ, ◌+◌, ◌-◌, List, [], ◌∷◌, ◌++◌}
use Rattle.wasm_shapes.specs.Module.{core_module}
use Rattle.wasm_shapes.specs.Spells.{Spells}
use Rattle.wasm_shapes.specs.Tree.{Tree, visits}
use Rattle.reencode_hooks.specs.Run.{accepted, run}
use Rattle.reencode_core.specs.declared.pieces.piece.Piece.{Piece}
use Rattle.reencode_core.specs.declared.pieces.piece.Piece.TheVariants as piece
use Rattle.reencode_core.specs.Kept as bodies
use Rattle.reencode_core.specs.Pieces.{joined, kept_ranges, piece_len}
use Rattle.reencode_core.specs.Rows.{Asks}
use Rattle.examples.specs.declared.moves.Moved.{Moved}

-- what a piece tells that begins at this place of the output
abbrev pub moved_at : ℕ → Piece → List Moved
moved_at to (piece.Kept start end) = record { from = start; to = to; len = end - start } ∷ []
moved_at to (piece.Made bytes) = []

-- what pieces tell of which the first begins at this place
abbrev pub moves_from : ℕ → List Piece → List Moved
moves_from to [] = []
moves_from to (p ∷ ps) = moved_at to p ++ moves_from (to + piece_len p) ps

-- The output is some pieces joined, of which exactly the function bodies are kept that stay as they stand, and these are told.
pub record TellsMoves {S E : Type 0} (asked : Asks S E) (bytes : List ℕ) (s m : S) (output : List ℕ) (moves : List Moved) : Type 0 where
  pub pieces : List Piece
  pub joins : output ≡ joined bytes pieces
  pub told : moves ≡ moves_from 0 pieces
  pub kept : (t : Tree) → Spells core_module bytes t
      → (given : List ℕ) × (run asked s (visits t) ≡ accepted given m) × bodies.Kept bytes t given (kept_ranges pieces)
