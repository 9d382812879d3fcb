use Rattle.wasm_visits.proofs.NamesListed.{behind_name, behind_names}
use Rattle.wasm_visits.proofs.names.behind_names.Goals as goal

pub returns-in-Ok-Some : goal.returns-in-Ok-Some
returns-in-Ok-Some c = rw c.if-is_indirect.true (behind_names (rw c.in-Ok-Some.field-0-is at c.in-Ok-Some.ensures.some).1)

pub returns-in-Some : goal.returns-in-Some
returns-in-Some c = rw c.if-is_indirect.false (behind_name c.in-Some.ensures.some)
