use Rattle.wasm_renumber.specs.declared.fault.RenumberFault.{RenumberFault}
use Rattle.wasm_renumber.specs.Renumber.{IsMade, IsRenumbered, IsWhy}
use Rattle.reencode_c.specs.Refusals.{TellsRenumber}
use Rattle.reencode_c.specs.Tools.{Finishes}
use Rattle.reencode_c.proofs.Finishings.{put_in}
use Rattle.reencode_c.proofs.tools.renumber.Goals as goal

pub returns-in-Ok-clause-ends : goal.returns-in-Ok-clause-ends
returns-in-Ok-clause-ends c =
    put_in (IsRenumbered c.args.bytes.now c.args.order.now c.args.ceiling)
    (λ (e : RenumberFault).
    IsWhy c.args.bytes.now c.args.order.now c.args.ceiling e × IsMade c.args.bytes.now c.args.order.now c.args.ceiling e × TellsRenumber e c.put.new.outcome)
    c.put.new.outcome c.put.new.room c.in-Ok.output.items c.as_slice.result.now c.as_slice.ensures.value c.in-Ok.ensures.ok c.put.ensures.done c.put.ensures.small c.put.ensures.other

pub returns-in-Err-clause-ends : goal.returns-in-Err-clause-ends
returns-in-Err-clause-ends c = Finishes.refused c.in-Err.fault (c.in-Err.ensures.err, c.in-Err.ensures.made, c.tell_renumber.ensures)
