use Rattle.std.proofs.Common.{refl}
use Rattle.reencode_c.specs.Ends.{IsErrorOf, hooks_by}
use Rattle.reencode_c.specs.Entries.{IsBadRenaming, renaming_reply}
use Rattle.reencode_c.specs.Outputs.{IsRenamed}
use Rattle.reencode_c.proofs.Endings.{has_status, is_renamed, put_as, stopped, taken, told}
use Rattle.reencode_c.proofs.calls.rename_by.Goals as goal

pub fail-requires : goal.fail-requires
fail-requires c = has_status (stopped renaming_reply (λ k _. k) c.args.ceiling c.args.bytes.now c.args.reencoder c.output_within.new.r c.in-Err.e c.in-Err.ensures)

pub returns-in-Ok-clause-ends : goal.returns-in-Ok-clause-ends
returns-in-Ok-clause-ends c =
    put_as (IsRenamed c.args.reencoder c.args.ceiling c.args.bytes.now) (IsBadRenaming c.args.reencoder.entries c.put_output.new.outcome) ⊥
    (IsErrorOf (hooks_by renaming_reply (λ k _. k)) c.args.reencoder c.args.ceiling c.args.bytes.now) c.put_output.new.outcome c.put_output.new.room c.in-Ok.output c.in-Ok.output refl
    (is_renamed (taken renaming_reply (λ k _. k) c.args.ceiling c.args.bytes.now c.args.reencoder c.output_within.new.r c.in-Ok.output c.in-Ok.ensures))
    c.put_output.ensures.done c.put_output.ensures.small c.put_output.ensures.other

pub returns-clause-ends : goal.returns-clause-ends
returns-clause-ends c =
    told (IsRenamed c.args.reencoder c.args.ceiling c.args.bytes.now) (IsBadRenaming c.args.reencoder.entries c.fail.new.self) ⊥
    (IsErrorOf (hooks_by renaming_reply (λ k _. k)) c.args.reencoder c.args.ceiling c.args.bytes.now) c.fail.new.self c.args.room.now c.in-Err.e
    (stopped renaming_reply (λ k _. k) c.args.ceiling c.args.bytes.now c.args.reencoder c.output_within.new.r c.in-Err.e c.in-Err.ensures) c.fail.ensures
