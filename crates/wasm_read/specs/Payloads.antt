-- Why the reader of payloads gives no frame.
use Rattle.std.specs.Prelude.{◌≡◌, ◌≢◌, ℕ, List, []}
use Rattle.wasm_leb.specs.declared.fault.Fault.{Fault}
use Rattle.wasm_leb.specs.declared.fault.Fault.TheVariants as fault
use Rattle.wasm_shapes.specs.Place.{BeginsNone}
use Rattle.wasm_shapes.specs.CodeSize.{InvalidCodeSize}
use Rattle.wasm_shapes.specs.Module.{frame}

-- No frame begins where bytes are left: the size of a code section passes their end; or, in any other case, the error holds
-- the place.
abbrev pub NoFrame : Fault → List ℕ → ℕ → Type 0
NoFrame fault.CodeSize bytes at = BeginsNone frame bytes × InvalidCodeSize bytes
NoFrame (fault.Read e) bytes at = (e.at ≡ at) × BeginsNone frame bytes × (bytes ≢ []) × ¬ InvalidCodeSize bytes
NoFrame _ bytes at = ⊥
