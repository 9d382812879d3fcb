use Rattle.std.proofs.Common.{length}
use Rattle.wasm_merge.proofs.Finding.{SeekingAll}
use Rattle.wasm_merge.proofs.sections.bodies_by_kind.Given as goal

-- the sections so far were looked through
abbrev pub invariant-sections : goal.invariant-sections
invariant-sections l = SeekingAll l.bytes l.payloads.rest l.found

abbrev pub decreases-sections : goal.decreases-sections
decreases-sections l = length l.payloads.rest
