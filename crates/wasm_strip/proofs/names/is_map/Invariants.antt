use Rattle.std.proofs.Common.{length}
use Rattle.wasm_shapes.specs.Module.{plain_naming}
use Rattle.wasm_strip.specs.Readable.{HasEntries}
use Rattle.wasm_strip.proofs.NameRows.{Same}
use Rattle.wasm_strip.proofs.names.is_map.Given as goal

abbrev pub invariant-entries : goal.invariant-entries
invariant-entries l = Same (HasEntries plain_naming l.fn.map) (HasEntries plain_naming l.rest)

abbrev pub decreases-entries : goal.decreases-entries
decreases-entries l = length l.rest.rest
