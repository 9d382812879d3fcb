use Rattle.std.proofs.Common.{length}
use Rattle.wasm_strip.specs.Choices.{AreNames}
use Rattle.wasm_strip.proofs.NameRows.{Same}
use Rattle.wasm_strip.proofs.names.are_names.Given as goal

abbrev pub invariant-subsections : goal.invariant-subsections
invariant-subsections l = Same (AreNames l.initial.rest) (AreNames l.rest)

abbrev pub decreases-subsections : goal.decreases-subsections
decreases-subsections l = length l.rest
