use Rattle.std.proofs.Common.{arith, rules}
use Rattle.reencode_items.proofs.utils.entity_type.Goals as goal

pub returns-in_err-tag_type-in-Tag : goal.returns-in_err-tag_type-in-Tag
returns-in_err-tag_type-in-Tag g c =
    record { default = λ k ceiling. let tag = c.in_err-tag_type-in-Tag.ensures.default k ceiling in grind (arith, tag); sure = search rules }

pub returns-in_ok-tag_type-in-Tag : goal.returns-in_ok-tag_type-in-Tag
returns-in_ok-tag_type-in-Tag g c =
    record { default = λ k ceiling. let tag = c.in_ok-tag_type-in-Tag.ensures.default k ceiling in grind (arith, tag); sure = search rules }
