use Rattle.std.proofs.Common.{◌+◌, ◌*◌, length}
use Rattle.wasm_strip.proofs.Adding.{AddedSoFar}
use Rattle.wasm_strip.proofs.sections.+sections.Given as goal

abbrev pub decreases-add_numbered : goal.decreases-add_numbered
decreases-add_numbered g l = 3 * l.depth

abbrev pub decreases-add_section : goal.decreases-add_section
decreases-add_section g l = 3 * l.depth + 1

abbrev pub decreases-add_sections : goal.decreases-add_sections
decreases-add_sections g l = 3 * l.depth + 2

abbrev pub invariant-add_sections-sections : goal.invariant-add_sections-sections
invariant-add_sections-sections g l = AddedSoFar (g.N.StripRule.removed l.rule) l.sorts l.depth l.kind l.bytes l.rest l.initial.out.items l.out.items

abbrev pub decreases-add_sections-sections : goal.decreases-add_sections-sections
decreases-add_sections-sections g l = length l.rest
