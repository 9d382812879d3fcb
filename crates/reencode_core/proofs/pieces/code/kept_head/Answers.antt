use Rattle.std.proofs.Common.{sym, ◌∙◌}
use Rattle.reencode_core.proofs.kept_pieces.CodeRowsHeld.{body_begins, body_behind, left_behind, some_left}
use Rattle.reencode_core.proofs.pieces.code.kept_head.Goals as goal

pub returns-in_default-clause-other : goal.returns-in_default-clause-other
returns-in_default-clause-other c = λ u is short one e. body_begins u c.args.rows.now short is c.in_default.ensures.none

pub returns-then-not-are_same-clause-other : goal.returns-then-not-are_same-clause-other
returns-then-not-are_same-clause-other c = λ u is short one e. c.are_same.ensures.apart c.if-not-are_same.true (body_behind u c.args.rows.now c.in-Some.rest.now _ short is c.in-Some.ensures.some ∙ e)

pub returns-clause-some : goal.returns-clause-some
returns-clause-some c =
    let same = c.are_same.ensures.same c.if-not-are_same.false in
    left_behind c.args.rows.now c.in-Some.rest.now c.args.body.now c.split_at.result.0.now c.in-Some.ensures.some c.split_at.ensures.front same

pub returns-clause-kept : goal.returns-clause-kept
returns-clause-kept c = λ u is short. sym (body_behind u c.args.rows.now c.in-Some.rest.now _ short is c.in-Some.ensures.some) ∙ c.are_same.ensures.same c.if-not-are_same.false

pub returns-clause-body : goal.returns-clause-body
returns-clause-body c =
    rw (← c.are_same.ensures.same c.if-not-are_same.false) (some_left (c.requires c.if-count-ne1.false) c.in-Some.ensures.some)
