use Rattle.wasm_write.proofs.ShortNumbers.{added_three, added_two, one_byte, two_bytes}
use Rattle.wasm_write.proofs.instructions.write_short.Goals as goal

pub returns-then-number-lt128-clause-ok : goal.returns-then-number-lt128-clause-ok
returns-then-number-lt128-clause-ok c =
    let n = c.args.number in
    rw (c.push_reserved-then-number-lt128.ensures.items, c.push_reserved.ensures.items, c.in-Ok.ensures.items, one_byte n c.if-number-lt128.true)
    (added_two c.args.out.now.items c.args.byte n)

pub returns-else-number-lt128-clause-ok : goal.returns-else-number-lt128-clause-ok
returns-else-number-lt128-clause-ok c =
    let n = c.args.number in
    rw (c.push_reserved-else-number-lt128-2.ensures.items, c.push_reserved-else-number-lt128.ensures.items, c.push_reserved.ensures.items, c.in-Ok.ensures.items, two_bytes n c.if-number-lt128.false c.requires)
    (added_three c.args.out.now.items c.args.byte _ _)
