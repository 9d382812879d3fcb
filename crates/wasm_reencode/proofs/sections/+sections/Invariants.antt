use Rattle.std.proofs.Common.{◌+◌, ◌-◌, ◌*◌}
use Rattle.wasm_reencode.specs.Sections.{deepest}
use Rattle.wasm_reencode.proofs.ListedSections.{ListedSoFar}
use Rattle.wasm_reencode.proofs.sections.+sections.Given as goal

abbrev pub decreases-add_sections : goal.decreases-add_sections
decreases-add_sections l = 2 * (deepest - l.depth) + 1

abbrev pub decreases-add_inner : goal.decreases-add_inner
decreases-add_inner l = 2 * (deepest - l.depth)

abbrev pub invariant-add_sections-sections : goal.invariant-add_sections-sections
invariant-add_sections-sections l = ListedSoFar l.layer l.depth l.place l.bytes l.rest l.number l.initial.all.items l.all.items
