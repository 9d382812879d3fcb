use Rattle.std.proofs.Common.{length, ap, ◌∙◌}
use Rattle.wasm_shapes.specs.Tree.{visits}
use Rattle.reencode_c.specs.Ends.{IsErrorOf, hooks_by}
use Rattle.reencode_c.specs.Outputs.{AreVisits}
use Rattle.reencode_c.specs.Visits.{lister_next, lister_reply, nowhere, placed}
use Rattle.reencode_c.proofs.Endings.{as_long, component_visits, has_status, listed_ends, stopped, taken, taken_gains, told, wanting}
use Rattle.reencode_c.proofs.calls.visits_by.Goals as goal

pub fail-requires : goal.fail-requires
fail-requires c = has_status (stopped lister_reply lister_next 4294967295 c.args.bytes.now c.args.lister c.output_within.new.r c.in-Err.e c.in-Err.ensures)

pub returns-clause-ends : goal.returns-clause-ends
returns-clause-ends c =
    told (AreVisits c.args.bytes.now) ⊥ ⊥ (IsErrorOf (hooks_by lister_reply lister_next) c.args.lister 4294967295 c.args.bytes.now) c.fail.new.self c.args.room.now c.in-Err.e
    (stopped lister_reply lister_next 4294967295 c.args.bytes.now c.args.lister c.output_within.new.r c.in-Err.e c.in-Err.ensures) c.fail.ensures

pub returns-then-is_module-clause-ends : goal.returns-then-is_module-clause-ends
returns-then-is_module-clause-ends c = wanting (AreVisits c.args.bytes.now) ⊥ ⊥ _ c.no_memory.new.self c.args.room.now c.no_memory.ensures

pub put_list-requires : goal.put_list-requires
put_list-requires c =
    let h = taken lister_reply lister_next 4294967295 c.args.bytes.now c.args.lister c.output_within.new.r c.in-Ok.field-0 c.in-Ok.ensures in
    let none = c.is_module.ensures c.if-is_module.false in
    ap length c.list.ensures
    ∙ as_long (placed nowhere (visits h.tree)) (component_visits none h.tree h.reads) (length c.args.room.now) c.output_within.new.r (taken_gains (length c.args.room.now) c.requires.begun h)

pub returns-in-Ok-clause-ends : goal.returns-in-Ok-clause-ends
returns-in-Ok-clause-ends c =
    let h = taken lister_reply lister_next 4294967295 c.args.bytes.now c.args.lister c.output_within.new.r c.in-Ok.field-0 c.in-Ok.ensures in
    let none = c.is_module.ensures c.if-is_module.false in
    listed_ends (placed nowhere (visits h.tree)) (component_visits none h.tree h.reads) (length c.args.room.now) c.output_within.new.r (taken_gains (length c.args.room.now) c.requires.begun h) ⊥ ⊥
    (IsErrorOf (hooks_by lister_reply lister_next) c.args.lister 4294967295 c.args.bytes.now) c.put_list.new.outcome c.put_list.new.room c.list.result.now c.count.result c.list.ensures
    c.count.ensures c.put_list.ensures.done c.put_list.ensures.small c.put_list.ensures.other
