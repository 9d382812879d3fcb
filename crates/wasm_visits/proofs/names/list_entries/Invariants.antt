use Rattle.wasm_visits.proofs.NamesListed.{EntriesSoFar}
use Rattle.wasm_visits.proofs.names.list_entries.Given as goal

abbrev pub invariant-entries : goal.invariant-entries
invariant-entries l = EntriesSoFar l.is_indirect l.space l.end l.body l.fn.lister.visits l.lister.visits l.left l.rest

abbrev pub decreases-entries : goal.decreases-entries
decreases-entries l = l.left
