-- The refusals of writers.
use Rattle.std.specs.Prelude.{ℕ}
use Rattle.wasm_write.specs.declared.fault.WriteFault.{WriteFault}
use Rattle.wasm_write.specs.declared.fault.WriteFault.TheVariants.{TooLarge, NoMemory}

-- the fact of the number that was too large, where one was
abbrev pub IfTooLarge : WriteFault → (ℕ → Type 0) → Type 0
IfTooLarge (TooLarge size) P = P size
IfTooLarge NoMemory P = Unit {0}
