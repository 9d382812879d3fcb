use Rattle.std.proofs.Common.{◌∙◌, sym}
use Rattle.reencode_items.proofs.Passing.{has_class, prefixed_head, skips_class, skips_keeps}
use Rattle.reencode_items.proofs.direct.passing.pass_prefixed.Goals as goal

pub pass_class-requires-clause-head : goal.pass_class-requires-clause-head
pass_class-requires-clause-head g c =
    let s = c.in-Some-default-true-default in
    prefixed_head c.args.prefix (sym c.is_prefix.ensures ∙ c.if-is_prefix.true) c.requires s.ensures.begins (s.ensures.short s.field-0-1-test)

pub pass_class-requires-clause-class : goal.pass_class-requires-clause-class
pass_class-requires-clause-class g c = has_class (record { prefix = c.args.prefix; sub = c.in-Some-default-true-default.sub }) c.class_by_row.ensures

pub returns-in-Some-clause-kept : goal.returns-in-Some-clause-kept
returns-in-Some-clause-kept g c =
    let s = c.in-Some-default-true-default in
    let head = prefixed_head c.args.prefix (sym c.is_prefix.ensures ∙ c.if-is_prefix.true) c.requires s.ensures.begins (s.ensures.short s.field-0-1-test) in
    skips_keeps _ _ (skips_class c.class_by_row.result head (has_class (record { prefix = c.args.prefix; sub = s.sub }) c.class_by_row.ensures) c.in-Some.ensures)

pub pass_rare-requires : goal.pass_rare-requires
pass_rare-requires g c =
    let s = c.in-Some-default-true-default in
    λ _. prefixed_head c.args.prefix (sym c.is_prefix.ensures ∙ c.if-is_prefix.true) c.requires s.ensures.begins (s.ensures.short s.field-0-1-test)
