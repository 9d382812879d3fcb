use Rattle.std.proofs.Common.{◌≡◌, ◌≢◌, inl, inr, [], refl, true}
use Rattle.wasm_read_component.proofs.ComponentStart.{start_none, start_short}
use Rattle.wasm_read_component.proofs.sections.read_start.Goals as goal

pub returns-else-is_empty-clause-err : goal.returns-else-is_empty-clause-err
returns-else-is_empty-clause-err c =
    let whole = rw c.in-Ok-Some.field-0-is at c.in-Ok-Some.ensures.some in
    let some : c.in-Ok-Some.rest.now ≢ [] = λ e. let empty : c.is_empty.result ≡ true = rw e at c.is_empty.ensures in absurd cc in record {
      here = inr (record { start = _; rest = _; begins = whole; some = some; place = c.saturating_sub.ensures });
      none = start_short whole some;
    }

pub returns-in-Ok-None-clause-err : goal.returns-in-Ok-None-clause-err
returns-in-Ok-None-clause-err c =
    let none = rw c.in-Ok-None.field-0-is at c.in-Ok-None.ensures.none in
    record { here = inl (refl, none); none = start_none none }
