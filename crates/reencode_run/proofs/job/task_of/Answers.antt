use Rattle.std.proofs.Common.{refl, ap, subst, ◌∙◌, [], ◌∷◌}
use Rattle.reencode_run.specs.declared.renamers.Renamers.TheVariants as renamers
use Rattle.reencode_run.specs.declared.task.Task.TheVariants as task
use Rattle.reencode_run.specs.Answer.{FileSays, Texts}
use Rattle.reencode_run.specs.Words.{of_renaming}
use Rattle.reencode_run.proofs.AnswerLemmas.{both_strictly, second_refused}
use Rattle.reencode_run.proofs.job.task_of.Goals as goal

pub returns-in-Plain-clause-uses : goal.returns-in-Plain-clause-uses
returns-in-Plain-clause-uses g c = rw c.in-Plain.is ([], tt, ap (λ r. task.Reencode (renamers.Alone r)) c.new.ensures)

pub returns-in-Ok-clause-uses : goal.returns-in-Ok-clause-uses
returns-in-Ok-clause-uses g c =
    let a = c.in-Ok in
    let said = a.ensures.says in
    rw c.in-Rename.is (said.0 ∷ [], (said.1, tt), ap (λ r. task.Reencode (renamers.Alone r)) said.2)

pub returns-in-Err-renamer_of_file-2-clause-stops : goal.returns-in-Err-renamer_of_file-2-clause-stops
returns-in-Err-renamer_of_file-2-clause-stops g c =
    let a = c.in-Ok-renamer_of_file in
    rw c.in-Twice.is (second_refused c.in-Twice.strict c.in-Twice.first.now c.in-Twice.second.now _ _ _ _ _ a.ensures.says.0 _ a.ensures.same a.ensures.rises a.ensures.says.1 c.in-Err-renamer_of_file-2.ensures.stops)

pub returns-in-Ok-renamer_of_file-2-clause-uses : goal.returns-in-Ok-renamer_of_file-2-clause-uses
returns-in-Ok-renamer_of_file-2-clause-uses g c =
    let a = c.in-Ok-renamer_of_file in
    let b = c.in-Ok-renamer_of_file-2 in
    let first = a.ensures.says in
    let second = b.ensures.says in
    let says = subst (λ (t : Texts). FileSays of_renaming t c.in-Twice.second.now second.0) a.ensures.same second.1 in
    let both = ap (λ both. task.Reencode (renamers.Both both)) c.new-in-Ok-renamer_of_file-2.ensures in
    let strict = both_strictly c.in-Twice.strict first.0 second.0 first.2 second.2 in
    rw c.in-Twice.is (first.0 ∷ second.0 ∷ [], (first.1, (says, tt)), both ∙ strict)

pub returns-in-Ok-order_of_file-clause-uses : goal.returns-in-Ok-order_of_file-clause-uses
returns-in-Ok-order_of_file-clause-uses g c =
    let o = c.in-Ok-order_of_file in
    rw c.in-Renumber.is (o.order ∷ [], (o.ensures.says, tt), refl)

pub returns-in-Ok-module_of_file-clause-uses : goal.returns-in-Ok-module_of_file-clause-uses
returns-in-Ok-module_of_file-clause-uses g c =
    let m = c.in-Ok-module_of_file in
    rw c.in-Merge.is (m.text ∷ [], (m.ensures.says, tt), refl)
