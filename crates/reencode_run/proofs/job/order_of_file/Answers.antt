use Rattle.std.proofs.Common.{ℕ, ◌≤◌, ap, refl, subst, Err}
use Rattle.reencode_run.specs.Orders.{NoOrderText}
use Rattle.reencode_run.specs.Words.{of_order}
use Rattle.reencode_run.proofs.job.order_of_file.Goals as goal

pub returns-in-Err-clause-stops : goal.returns-in-Err-clause-stops
returns-in-Err-clause-stops g c = c.in-Err.ensures.stops of_order refl

pub returns-in-Err-Bad-clause-stops : goal.returns-in-Err-Bad-clause-stops
returns-in-Err-Bad-clause-stops g c =
    let t = c.in-Ok in
    let within = subst (λ (n : ℕ). n ≤ 1048576) t.text.ok.0 t.ensures.within in
    (t.text.items, t.ensures.text, within, subst NoOrderText c.as_slice.ensures.value (c.in-Err-Bad.ensures.bad (ap Err c.in-Err-Bad.field-0-is)))
