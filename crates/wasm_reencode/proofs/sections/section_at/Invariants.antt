use Rattle.wasm_reencode.proofs.Places.{BehindSoFar}
use Rattle.wasm_reencode.proofs.sections.section_at.Given as goal

abbrev pub invariant-sections : goal.invariant-sections
invariant-sections l = BehindSoFar l.layer l.bytes l.rest l.number l.place
