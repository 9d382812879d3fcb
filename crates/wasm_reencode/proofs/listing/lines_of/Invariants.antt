use Rattle.std.proofs.Common.{drop}
use Rattle.wasm_reencode.proofs.Lines.{LinesSoFar}
use Rattle.wasm_reencode.proofs.listing.lines_of.Given as goal

abbrev pub invariant-sections : goal.invariant-sections
invariant-sections l = LinesSoFar l.sections (drop l.section-index l.sections) l.text.items
