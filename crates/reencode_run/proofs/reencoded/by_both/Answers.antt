use Rattle.reencode_run.specs.declared.renamers.Renamers.TheVariants as renamers
use Rattle.reencode_run.proofs.Outcomes.{given, has_status, made_as, refused_as, still_counts, why_given}
use Rattle.reencode_run.proofs.reencoded.by_both.Goals as goal

pub returns-in-Ok-clause-ok : goal.returns-in-Ok-clause-ok
returns-in-Ok-clause-ok c = given c.args.taken c.args.ceiling (renamers.Both c.args.both) c.args.bytes.now c.reencode_taken.new.r c.in-Ok.output (λ v. v.items) c.in-Ok.ensures

pub returns-in-Ok-clause-counts : goal.returns-in-Ok-clause-counts
returns-in-Ok-clause-counts c h =
    still_counts c.reencode_taken.new.r (given c.args.taken c.args.ceiling (renamers.Both c.args.both) c.args.bytes.now c.reencode_taken.new.r c.in-Ok.output (λ v. v.items) c.in-Ok.ensures) h

pub reencoding_fault-requires : goal.reencoding_fault-requires
reencoding_fault-requires c =
    has_status c.args.taken c.args.ceiling (renamers.Both c.args.both) c.args.bytes.now c.in-Err.e
    (why_given c.args.taken c.args.ceiling (renamers.Both c.args.both) c.args.bytes.now c.reencode_taken.new.r (λ v. v.items) c.in-Err.e c.in-Err.ensures)

pub returns-in-Err-clause-refused : goal.returns-in-Err-clause-refused
returns-in-Err-clause-refused c =
    let why = why_given c.args.taken c.args.ceiling (renamers.Both c.args.both) c.args.bytes.now c.reencode_taken.new.r (λ v. v.items) c.in-Err.e c.in-Err.ensures in
    refused_as c.args.taken c.args.ceiling (renamers.Both c.args.both) c.args.bytes.now c.in-Err.e c.reencoding_fault.result why c.reencoding_fault.ensures

pub returns-in-Err-clause-made : goal.returns-in-Err-clause-made
returns-in-Err-clause-made c =
    made_as c.args.taken c.args.ceiling (renamers.Both c.args.both) c.args.bytes.now c.reencode_taken.new.r (λ v. v.items) c.in-Err.e c.in-Err.ensures c.reencoding_fault.result c.reencoding_fault.ensures
