use Rattle.std.proofs.Common.{◌≡◌, [], drop, arith}
use Rattle.std.proofs.Math.ListN.{drop_of_length-le}
use Rattle.wasm_write.proofs.Holding.{held_none, held_none_is}
use Rattle.wasm_write.proofs.row_section.RowSection.with_room.Goals as goal

pub invariant_of-result : goal.invariant_of-result
invariant_of-result g c =
    let none : drop c.len_before-front.result c.in-Ok.bytes.items ≡ [] = drop_of_length-le c.in-Ok.bytes.items (omega (arith, c.in-Ok.ensures)) in
    (omega (arith, c.in-Ok.ensures), (held_none g.K.RowKind.shape none, tt))

pub returns-in-Ok : goal.returns-in-Ok
returns-in-Ok g c =
    let none : drop c.len_before-front.result c.in-Ok.bytes.items ≡ [] = drop_of_length-le c.in-Ok.bytes.items (omega (arith, c.in-Ok.ensures)) in
    held_none_is g.K.RowKind.shape g.K.RowKind.rows_sound _ none
