use Rattle.std.proofs.Common.{subst}
use Rattle.reencode_c.specs.Ends.{Ends, IsErrorOf, hooks_by}
use Rattle.reencode_c.specs.Entries.{IsBadRenaming, Renaming, renaming_reply}
use Rattle.reencode_c.specs.Outputs.{IsRenamed}
use Rattle.reencode_c.proofs.Endings.{no_other_fault, told_fault}
use Rattle.reencode_c.proofs.calls.rename.Goals as goal

pub returns-in-Ok-clause-ends : goal.returns-in-Ok-clause-ends
returns-in-Ok-clause-ends c =
    subst (λ (r : Renaming). Ends (IsRenamed r c.args.ceiling c.args.bytes.now) (IsBadRenaming r.entries c.rename_by.new.outcome) ⊥ (IsErrorOf (hooks_by renaming_reply (λ k _. k)) r c.args.ceiling c.args.bytes.now)
    c.rename_by.new.outcome c.rename_by.new.room c.rename_by.new.outcome.status) c.in-Ok.ensures.ok c.rename_by.ensures.ends

pub returns-in-Err-clause-ends : goal.returns-in-Err-clause-ends
returns-in-Err-clause-ends c =
    told_fault (IsRenamed (record { entries = c.args.entries.now; strict = c.args.strict }) c.args.ceiling c.args.bytes.now)
    (IsErrorOf (hooks_by renaming_reply (λ k _. k)) (record { entries = c.args.entries.now; strict = c.args.strict }) c.args.ceiling c.args.bytes.now) c.tell.new.outcome c.args.room.now
    c.args.entries.now c.in-Err.fault c.in-Err.ensures.bad c.tell.ensures

pub returns-in-Ok-clause-known : goal.returns-in-Ok-clause-known
returns-in-Ok-clause-known c wants other = c.in-Ok.ensures.known

pub returns-in-Err-clause-known : goal.returns-in-Err-clause-known
returns-in-Err-clause-known c wants other = no_other_fault c.tell.new.outcome c.args.entries.now c.in-Err.fault c.tell.ensures wants other
