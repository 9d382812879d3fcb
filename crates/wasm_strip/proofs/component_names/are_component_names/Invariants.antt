use Rattle.std.proofs.Common.{length}
use Rattle.wasm_strip.specs.Choices.{AreComponentNames}
use Rattle.wasm_strip.proofs.NameRows.{Same}
use Rattle.wasm_strip.proofs.component_names.are_component_names.Given as goal

abbrev pub invariant-subsections : goal.invariant-subsections
invariant-subsections l = Same (AreComponentNames l.initial.rest) (AreComponentNames l.rest)

abbrev pub decreases-subsections : goal.decreases-subsections
decreases-subsections l = length l.rest
