use Rattle.std.proofs.Common.{◌≡◌, ◌++◌, ℕ, length, refl, sym, ap, ◌∙◌, subst}
use Rattle.reencode_hooks.specs.Renamings.{Renaming}
use Rattle.reencode_run.specs.declared.renamers.Renamers.TheVariants.{Alone}
use Rattle.reencode_run.specs.declared.binary_taken.Taken.TheVariants.{Modules}
use Rattle.reencode_run.specs.Renamers.{AreCounts, counts_in}
use Rattle.reencode_run.specs.Report.{lengths_report, lines_alone, made_line, tail}
use Rattle.reencode_run.specs.Tasks.{Reports}
use Rattle.reencode_run.proofs.Reports.{reports}
use Rattle.reencode_run.proofs.job.lengths.Goals as goal

pub returns-in-Ok-clause-ok : goal.returns-in-Ok-clause-ok
returns-in-Ok-clause-ok c =
    let shown = lengths_report c.args.functions (length c.args.bytes.now) in
    let none = c.new.ensures in
    let made = c.in_ok-made in
    let counted = made.ensures.counts (subst (λ (z : Renaming). AreCounts (Alone z)) (sym none) refl) in
    let T : ℕ → Type 0 = λ n. c.in-Ok.lines.items ≡ made_line c.args.functions (length c.args.bytes.now) n ++ tail (counts_in made.made.1) in
    let told = subst T (c.len.ensures ∙ made.made.0.ok.0) (c.in-Ok.ensures counted) in
    let P : Renaming → Type 0 = λ z. Reports Modules c.args.ceiling (Alone z) c.args.bytes.now shown (lines_alone c.in-Ok.lines.items) in
    subst P none
    (reports Modules c.args.ceiling (Alone c.new.result) c.args.bytes.now shown made.made.0.items (counts_in made.made.1) (lines_alone c.in-Ok.lines.items) made.ensures.ok (ap lines_alone told))
