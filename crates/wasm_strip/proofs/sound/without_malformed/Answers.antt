use Rattle.std.proofs.Common.{inl, inr, refl}
use Rattle.wasm_strip.proofs.Malformed.{malformed_left, no_sections}
use Rattle.wasm_strip.proofs.sound.without_malformed.Goals as goal

pub returns-in-Ok : goal.returns-in-Ok
returns-in-Ok c = inl (malformed_left (rw c.as_slice.ensures.value at c.in-Ok.ensures.ok))

pub returns-in-Read : goal.returns-in-Read
returns-in-Read c = inr (no_sections c.in-Read.is (rw c.as_slice.ensures.value at c.in-Err.ensures.none), refl)
