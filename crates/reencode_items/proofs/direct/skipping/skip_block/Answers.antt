use Rattle.reencode_items.proofs.Passing.{skips_no_type, skips_number_type}
use Rattle.reencode_items.proofs.direct.skipping.skip_block.Goals as goal

pub returns-then-first-eq64 : goal.returns-then-first-eq64
returns-then-first-eq64 c = skips_no_type c.in-Some.ensures.some c.if-first-eq64.true

pub returns-then-first-lt128 : goal.returns-then-first-lt128
returns-then-first-lt128 c = skips_number_type _ c.in-Some.ensures.some c.if-first-lt123.false c.if-first-lt128.true
