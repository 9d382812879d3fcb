use Rattle.wasm_read.proofs.Limits.{bounds_low, bounds_both, no_high}
use Rattle.wasm_read.proofs.externals.front_bounds.Goals as goal

pub returns-then-not-maximum-clause-some : goal.returns-then-not-maximum-clause-some
returns-then-not-maximum-clause-some c = bounds_low c.args.maximum c.if-not-maximum.true c.in-Some.ensures.some

pub returns-in-Some-front_u64-clause-some : goal.returns-in-Some-front_u64-clause-some
returns-in-Some-front_u64-clause-some c = bounds_both c.args.maximum c.if-not-maximum.false c.in-Some.ensures.some c.in-Some-front_u64.ensures.some

pub returns-in-None-clause-none : goal.returns-in-None-clause-none
returns-in-None-clause-none c = no_high c.args.maximum c.if-not-maximum.false c.in-Some.ensures.some c.in-None.ensures.none
