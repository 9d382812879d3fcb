use Rattle.std.proofs.Common.{◌≡◌, suc, [], ◌∷◌, ◌++◌, ◌-◌, arith}
use Rattle.wasm_shapes.specs.Tree.{Tree}
use Rattle.wasm_shapes.specs.Rows.{rows_then}
use Rattle.wasm_read.proofs.Vectors.{items_none, items_more, items_stuck, vec_read, none_vec}
use Rattle.wasm_read.proofs.vector_items.behind_rows.Goals as goal

pub rows-init : goal.rows-init
rows-init g c = ([], items_none _ _ _)

pub rows-preserved-in-Ok-Some : goal.rows-preserved-in-Ok-Some
rows-preserved-in-Ok-Some g c =
    let some = rw c.in-Ok-Some.field-0-is at c.in-Ok-Some.ensures.some in
    let more : c.rows.left ≡ suc (c.rows.left - 1) = omega arith in
    (c.rows.invariant.0 ++ _ ∷ [], items_more c.rows.invariant.0 g.K.RowKind.is_sound g.K.RowKind.is_closed more some c.rows.invariant.1)

pub returns-in-Ok-None-clause-none : goal.returns-in-Ok-None-clause-none
returns-in-Ok-None-clause-none g c =
    let none = rw c.in-Ok-None.field-0-is at c.in-Ok-None.ensures.none in
    let more : c.rows.left ≡ suc (c.rows.left - 1) = omega arith in
    none_vec c.in-Some.ensures.some (items_stuck more none c.rows.invariant.1)

pub returns-clause-some : goal.returns-clause-some
returns-clause-some g c =
    let ended : c.rows.left ≡ 0 = omega arith in
    (rows_then c.rows.invariant.0 Tree.nil, vec_read c.in-Some.ensures.some ended c.rows.invariant.1)
