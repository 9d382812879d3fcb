use Rattle.wasm_reencode.proofs.StaleNames.{NamesSoFar}
use Rattle.wasm_reencode.proofs.stale.stale_names.Given as goal

abbrev pub invariant-sections : goal.invariant-sections
invariant-sections l = NamesSoFar l.sections l.section-index l.names.items
