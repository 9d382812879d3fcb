use Rattle.wasm_shapes.proofs.Begins.{begins_seq, begins_u32}
use Rattle.wasm_read.proofs.Limits.{bounds_as, no_bounds, no_page}
use Rattle.wasm_read.proofs.externals.front_limits.Goals as goal

pub returns-in_default-clause-none : goal.returns-in_default-clause-none
returns-in_default-clause-none c =
    let flags = c.flags_of-flags.result in
    (flags.maximum, flags.shared, flags.wide, flags.page, c.flags_of-flags.ensures, no_bounds flags.maximum flags.page c.in_default.ensures.none)

pub returns-in-Some-front_u32-clause-some : goal.returns-in-Some-front_u32-clause-some
returns-in-Some-front_u32-clause-some c = begins_seq (bounds_as c.in-Some.ensures.has c.in-Some.ensures.some) (begins_u32 c.in-Some-front_u32.ensures.some)

pub returns-in-None-clause-none : goal.returns-in-None-clause-none
returns-in-None-clause-none c =
    let flags = c.flags_of-flags.result in
    (flags.maximum, flags.shared, flags.wide, flags.page, c.flags_of-flags.ensures, no_page flags.maximum flags.page c.if-not-flags.false c.in-Some.ensures.some c.in-None.ensures.none)
