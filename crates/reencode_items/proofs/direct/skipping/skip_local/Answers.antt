use Rattle.reencode_items.proofs.SkippedLocals.{skips_local}
use Rattle.reencode_items.proofs.direct.skipping.skip_local.Goals as goal

pub returns-in-Some-front_byte : goal.returns-in-Some-front_byte
returns-in-Some-front_byte c = skips_local c.in-Some-front_byte.ty c.in-Some.ensures c.in-Some-front_byte.ensures.some c.if-ty-ge123.true c.if-ty-lt128.true
