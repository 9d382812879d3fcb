use Rattle.std.proofs.Common.{length}
use Rattle.wasm_shapes.specs.Namings.{plain_indirect}
use Rattle.wasm_strip.specs.Readable.{HasEntries}
use Rattle.wasm_strip.proofs.NameRows.{Same}
use Rattle.wasm_strip.proofs.names.is_indirect_map.Given as goal

abbrev pub invariant-entries : goal.invariant-entries
invariant-entries l = Same (HasEntries plain_indirect l.fn.map) (HasEntries plain_indirect l.rest)

abbrev pub decreases-entries : goal.decreases-entries
decreases-entries l = length l.rest.rest
