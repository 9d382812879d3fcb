use Rattle.std.proofs.Common.{length}
use Rattle.wasm_reach.proofs.Seen.{SeenSoFar}
use Rattle.wasm_reach.proofs.once.note_all.Given as goal

abbrev pub invariant-sections : goal.invariant-sections
invariant-sections l = SeenSoFar l.bound l.bytes l.payloads.rest l.seen.roots.items l.seen.calls

abbrev pub decreases-sections : goal.decreases-sections
decreases-sections l = length l.payloads.rest
