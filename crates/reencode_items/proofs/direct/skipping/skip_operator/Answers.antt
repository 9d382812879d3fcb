use Rattle.reencode_items.proofs.Passing.{some_skips_plain}
use Rattle.reencode_items.proofs.direct.skipping.skip_operator.Goals as goal

pub returns : goal.returns
returns c = some_skips_plain _ _ c.in-Some.ensures.some c.class_of_byte.ensures c.skip_class.result c.skip_class.ensures
