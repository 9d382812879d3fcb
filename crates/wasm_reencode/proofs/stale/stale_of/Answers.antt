use Rattle.std.proofs.Common.{length, sym, arith}
use Rattle.std.proofs.lemmas.Bool.Decides.{nat_tests}
use Rattle.wasm_reencode.proofs.StaleNames.{none_stale}
use Rattle.wasm_reencode.proofs.stale.stale_of.Goals as goal

pub returns-then-is_empty-clause-none : goal.returns-then-is_empty-clause-none
returns-then-is_empty-clause-none c = none_stale c.in_ok-names.names.items (grind (arith, nat_tests, c.if-is_empty.ensures)) c.in_ok-names.ensures
