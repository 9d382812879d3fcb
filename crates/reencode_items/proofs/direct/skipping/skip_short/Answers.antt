use Rattle.reencode_items.proofs.Passing.{skips_short_s32, skips_short_s64}
use Rattle.reencode_items.proofs.direct.skipping.skip_short.Goals as goal

pub returns-in-Some-clause-s32 : goal.returns-in-Some-clause-s32
returns-in-Some-clause-s32 c = skips_short_s32 c.in-Some.ensures.some c.if-first-lt128.true

pub returns-in-Some-clause-s64 : goal.returns-in-Some-clause-s64
returns-in-Some-clause-s64 c = skips_short_s64 c.in-Some.ensures.some c.if-first-lt128.true
