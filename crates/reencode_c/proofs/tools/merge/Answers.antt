use Rattle.wasm_merge.specs.declared.fault.MergeFault.{MergeFault}
use Rattle.wasm_merge.specs.Merging.{IsMade, IsMerged}
use Rattle.wasm_merge.specs.Refusals.{IsWhy}
use Rattle.reencode_c.specs.Refusals.{TellsMerge}
use Rattle.reencode_c.specs.Tools.{Finishes}
use Rattle.reencode_c.proofs.Finishings.{put_in}
use Rattle.reencode_c.proofs.tools.merge.Goals as goal

pub returns-in-Ok-clause-ends : goal.returns-in-Ok-clause-ends
returns-in-Ok-clause-ends c =
    put_in (IsMerged c.args.first.now c.args.second.now c.args.ceiling)
    (λ (e : MergeFault).
    IsWhy c.args.first.now c.args.second.now c.args.ceiling e × IsMade c.args.first.now c.args.second.now c.args.ceiling e × TellsMerge e c.put.new.outcome c.args.room.now c.put.new.room)
    c.put.new.outcome c.put.new.room c.in-Ok.output.items c.as_slice.result.now c.as_slice.ensures.value c.in-Ok.ensures.ok c.put.ensures.done c.put.ensures.small c.put.ensures.other

pub returns-in-Err-clause-ends : goal.returns-in-Err-clause-ends
returns-in-Err-clause-ends c = Finishes.refused c.in-Err.fault (c.in-Err.ensures.err, c.in-Err.ensures.made, c.tell_merge.ensures.told)
