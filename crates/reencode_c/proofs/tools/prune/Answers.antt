use Rattle.std.proofs.Common.{List, ℕ, sym, subst}
use Rattle.wasm_reach.specs.declared.fault.ReachFault.{ReachFault}
use Rattle.wasm_reach.specs.Prune.{IsMade, IsPruned, IsWhyNot}
use Rattle.reencode_c.specs.Refusals.{TellsReach}
use Rattle.reencode_c.specs.Tools.{Finishes}
use Rattle.reencode_c.proofs.Finishings.{put_both_in}
use Rattle.reencode_c.proofs.tools.prune.Goals as goal

pub returns-in-Ok-clause-ends : goal.returns-in-Ok-clause-ends
returns-in-Ok-clause-ends c =
    put_both_in
    (λ (e : ReachFault). IsWhyNot c.args.bytes.now c.args.ceiling e × IsMade c.args.bytes.now c.args.ceiling e × TellsReach e c.put_both.new.outcome)
    c.put_both.new.outcome c.args.bytes.now c.args.ceiling c.put_both.new.room c.put_both.new.kept_room c.as_slice.result.now c.as_slice-in-Ok.result.now
    (subst (λ (xs : List ℕ). IsPruned c.args.bytes.now c.args.ceiling xs c.as_slice-in-Ok.result.now) (sym c.as_slice.ensures)
    (subst (λ (ks : List ℕ). IsPruned c.args.bytes.now c.args.ceiling c.in-Ok.made.bytes ks) (sym c.as_slice-in-Ok.ensures) c.in-Ok.ensures.ok))
    c.put_both.ensures.done c.put_both.ensures.small c.put_both.ensures.other

pub returns-in-Err-clause-ends : goal.returns-in-Err-clause-ends
returns-in-Err-clause-ends c = Finishes.refused c.in-Err.fault (c.in-Err.ensures.err, c.in-Err.ensures.made, c.tell_reach.ensures)
