use Rattle.std.proofs.Common.{string_bytes}
use Rattle.wasm_reencode.proofs.StaleNames.{QuotedSoFar}
use Rattle.wasm_reencode.proofs.stale.quoted.Given as goal

abbrev pub invariant-names : goal.invariant-names
invariant-names l = QuotedSoFar l.names l.name-index (string_bytes l.text)
