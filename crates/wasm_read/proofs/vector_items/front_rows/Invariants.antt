use Rattle.std.proofs.Common.{◌+◌, ◌≡◌, length, map}
use Rattle.wasm_read.specs.VectorRows.{RowsBeside}
use Rattle.wasm_read.proofs.Vectors.{ItemsSoFar}
use Rattle.wasm_read.proofs.vector_items.front_rows.Given as goal

abbrev pub invariant-entries : goal.invariant-entries
invariant-entries g l =
    ItemsSoFar g.K.RowKind.shape l.initial.left l.initial.rest (map g.K.ReadRow.tree l.entries) l.left l.rest
    × (length l.entries + l.left ≡ l.initial.left)
    × RowsBeside g.K.RowKind.shape g.K.ReadRow.tree g.K.ReadRow.beside l.initial.rest l.entries l.rest

abbrev pub decreases-entries : goal.decreases-entries
decreases-entries g l = l.left
