use Rattle.std.proofs.Common.{ℕ, List, Err, refl, subst}
use Rattle.reencode_core.specs.Clauses.{BytesClauses}
use Rattle.reencode_core.specs.Pieces.{Grown}
use Rattle.reencode_hooks.specs.Renamings.{Renaming}
use Rattle.reencode_run.specs.declared.renamers.Renamers.TheVariants as renamers
use Rattle.reencode_run.specs.declared.binary_taken.Taken.TheVariants.{Modules}
use Rattle.reencode_run.specs.Renamers.{hooks_of}
use Rattle.reencode_run.specs.Tasks.{IsStopped}
use Rattle.reencode_run.proofs.Keeping.{keeps_given}
use Rattle.reencode_run.proofs.Outcomes.{made_as, refused_as, why_given}
use Rattle.reencode_run.proofs.kept.kept_report.Goals as goal

pub returns-in-Err-clause-stops : goal.returns-in-Err-clause-stops
returns-in-Err-clause-stops c =
    let r = c.new-renamer.result in
    let e = c.in-Err.ensures in
    let rs = renamers.Alone r in
    let view : Grown → List ℕ = λ o. o.bytes in
    let g : BytesClauses (hooks_of rs) c.args.ceiling c.args.bytes.now r c.reencode_kept.new.r (Err c.in-Err.e) view = e.bytes in
    let why = why_given Modules c.args.ceiling rs c.args.bytes.now c.reencode_kept.new.r view c.in-Err.e g in
    subst (λ (z : Renaming). IsStopped Modules c.args.ceiling (renamers.Alone z) c.args.bytes.now c.reencoding_fault.result) c.new-renamer.ensures (
      refused_as Modules c.args.ceiling rs c.args.bytes.now c.in-Err.e c.reencoding_fault.result why c.reencoding_fault.ensures,
      made_as Modules c.args.ceiling rs c.args.bytes.now c.reencode_kept.new.r view c.in-Err.e g c.reencoding_fault.result c.reencoding_fault.ensures,
    )

pub returns-in-Ok-lines_of-clause-ok : goal.returns-in-Ok-lines_of-clause-ok
returns-in-Ok-lines_of-clause-ok c =
    let m = c.reencode_kept.new.r in
    let e = c.in-Ok.ensures in
    let o = c.in-Ok.output in
    keeps_given c.args.ceiling c.args.bytes.now c.new-renamer.result m o (λ (z : Grown). z.bytes) c.in-Ok-lines_of.text.items o.kept c.new-renamer.ensures e.bytes (e.kept refl) c.in-Ok-lines_of.ensures
