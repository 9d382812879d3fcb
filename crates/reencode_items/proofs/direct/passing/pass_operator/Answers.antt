use Rattle.reencode_items.proofs.Passing.{plain_of_class}
use Rattle.reencode_items.proofs.direct.passing.pass_operator.Goals as goal

pub pass_class-requires : goal.pass_class-requires
pass_class-requires g c =
    let h = plain_of_class c.in-Some.first c.class_of_byte.result c.one_byte.ensures c.class_of_byte.ensures c.in_default-class_of_byte.not-Other c.in-Some.ensures.some in
    record { head = h.0; class = h.1 }
