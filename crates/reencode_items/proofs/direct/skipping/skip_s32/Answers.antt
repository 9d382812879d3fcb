use Rattle.reencode_items.proofs.Passing.{skips_s32}
use Rattle.reencode_items.proofs.direct.skipping.skip_s32.Goals as goal

pub returns-in-Some-default-true-default : goal.returns-in-Some-default-true-default
returns-in-Some-default-true-default c = let s = c.in-Some-default-true-default in skips_s32 s.field-0-0 s.ensures.begins (s.ensures.short s.field-0-1-test)
