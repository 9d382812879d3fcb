use Rattle.std.proofs.Common.{refl}
use Rattle.wasm_reach.specs.declared.fault.ReachFault.{ReachFault}
use Rattle.wasm_reach.specs.declared.fault.ReachFault.TheVariants as fault
use Rattle.wasm_reach.specs.Checks.{IsWhy}
use Rattle.wasm_reach.specs.Graph.{AreTold}
use Rattle.reencode_c.specs.Refusals.{TellsReach}
use Rattle.reencode_c.specs.Tools.{ArePackedCalls, Finishes}
use Rattle.reencode_c.proofs.Finishings.{put_in}
use Rattle.reencode_c.proofs.tools.calls.Goals as goal

pub returns-in-Ok-packed-clause-ends : goal.returns-in-Ok-packed-clause-ends
returns-in-Ok-packed-clause-ends c =
    put_in (ArePackedCalls c.args.bytes.now) (λ (e : ReachFault). IsWhy c.args.bytes.now e × AreTold c.args.bytes.now e × TellsReach e c.put.new.outcome)
    c.put.new.outcome c.put.new.room c.in-Ok-packed.list.items c.as_slice.result.now c.as_slice.ensures.value
    (record { imports = c.in-Ok.calls.imports; roots = c.in-Ok.calls.roots; calls = c.in-Ok.calls.calls; are_calls = c.in-Ok.ensures.ok; is_packed = c.in-Ok-packed.ensures })
    c.put.ensures.done c.put.ensures.small c.put.ensures.other

pub returns-in-Ok-clause-ends : goal.returns-in-Ok-clause-ends
returns-in-Ok-clause-ends c = Finishes.refused fault.NoMemory (tt, λ t reading sound. refl, c.no_memory.ensures)

pub returns-clause-ends : goal.returns-clause-ends
returns-clause-ends c = Finishes.refused c.in-Err.fault (c.in-Err.ensures.err, c.in-Err.ensures.made, c.tell_reach.ensures)
