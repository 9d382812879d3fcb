use Rattle.reencode_items.proofs.Passing.{skips_long}
use Rattle.reencode_items.proofs.direct.skipping.skip_long.Goals as goal

pub returns-in-Some-default-true-default : goal.returns-in-Some-default-true-default
returns-in-Some-default-true-default c = let s = c.in-Some-default-true-default in skips_long s.field-0-0 s.ensures.begins (s.ensures.short s.field-0-1-test)
