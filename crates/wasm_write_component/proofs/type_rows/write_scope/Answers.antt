use Rattle.std.proofs.Common.{◌<◌, ◌^◌, length, arith}
use Rattle.wasm_write_component.proofs.TypeSpelling.{scope_spelled, scope_written}
use Rattle.wasm_write_component.proofs.type_rows.write_scope.Goals as goal

pub returns-in-Ok-extend_from_slice-clause-ok : goal.returns-in-Ok-extend_from_slice-clause-ok
returns-in-Ok-extend_from_slice-clause-ok g c =
    scope_written c.args.out.now.items c.args.byte c.args.declarations.now c.in-Ok.ensures.ok c.len.ensures c.in-Ok-write_u32.ensures.ok
    c.in-Ok-extend_from_slice.ensures.items c.as_slice.ensures.value

pub returns-in-Ok-extend_from_slice-clause-spells : goal.returns-in-Ok-extend_from_slice-clause-spells
returns-in-Ok-extend_from_slice-clause-spells g c =
    let small : length c.args.declarations.now < 2 ^ 32 = omega arith in
    scope_spelled c.args.declarations.now small c.as_slice.ensures.spells
