use Rattle.std.proofs.Common.{length, ap, ◌∙◌, subst}
use Rattle.reencode_c.specs.Ends.{Ends, IsErrorOf, hooks_by}
use Rattle.reencode_c.specs.Outputs.{AreVisits}
use Rattle.reencode_c.specs.Places.{module_placed}
use Rattle.reencode_c.specs.Visits.{Placing, lister_next, lister_reply, listing_none}
use Rattle.reencode_c.proofs.Endings.{as_long, listed_ends, module_visits, wanting}
use Rattle.reencode_c.proofs.calls.visits.Goals as goal

pub put_list-requires : goal.put_list-requires
put_list-requires c =
    let h = c.in-Some.ensures in
    ap length c.list.ensures ∙ as_long (module_placed h.0) (module_visits h.0 h.1) (length c.args.room.now) c.in-Some.lister h.2

pub returns-in-Some-clause-ends : goal.returns-in-Some-clause-ends
returns-in-Some-clause-ends c =
    let h = c.in-Some.ensures in
    listed_ends (module_placed h.0) (module_visits h.0 h.1) (length c.args.room.now) c.in-Some.lister h.2 ⊥ ⊥
    (IsErrorOf (hooks_by lister_reply lister_next) (listing_none (length c.args.room.now)) 4294967295 c.args.bytes.now) c.put_list.new.outcome c.put_list.new.room
    c.list.result.now c.count.result c.list.ensures c.count.ensures c.put_list.ensures.done c.put_list.ensures.small c.put_list.ensures.other

pub returns-in-Ok-clause-ends : goal.returns-in-Ok-clause-ends
returns-in-Ok-clause-ends c =
    subst (λ (l : Placing). Ends (AreVisits c.args.bytes.now) ⊥ ⊥ (IsErrorOf (hooks_by lister_reply lister_next) l 4294967295 c.args.bytes.now) c.visits_by.new.outcome c.visits_by.new.room
    c.visits_by.new.outcome.status) c.in-Ok.ensures c.visits_by.ensures.ends

pub returns-in-Err-clause-ends : goal.returns-in-Err-clause-ends
returns-in-Err-clause-ends c = wanting (AreVisits c.args.bytes.now) ⊥ ⊥ _ c.no_memory.new.self c.args.room.now c.no_memory.ensures
