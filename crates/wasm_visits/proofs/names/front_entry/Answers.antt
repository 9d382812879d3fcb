use Rattle.wasm_visits.proofs.NamesListed.{front_entry}
use Rattle.wasm_visits.proofs.names.front_entry.Goals as goal

pub returns-in-Some-behind_names : goal.returns-in-Some-behind_names
returns-in-Some-behind_names c = front_entry c.args.is_indirect c.args.space c.in-Some.ensures.some c.in-Some-behind_names.ensures
