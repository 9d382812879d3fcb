-- The kinds of an operator's immediates.
use Rattle.std.specs.Prelude.{◌≡◌, List, Option, Some, None, map}
use Rattle.wasm_shapes.specs.declared.ImmKind.{ImmKind}
use Rattle.wasm_shapes.specs.declared.Opcode.{Opcode}
use Rattle.wasm_shapes.specs.Operators.{kinds_of}

-- there is a row, and these are its kinds
abbrev pub AreOfRow : Option (List ImmKind) → List (Option ImmKind) → Type 0
AreOfRow (Some row) kinds = kinds ≡ map Some row
AreOfRow None kinds = ⊥

-- the opcode has a row, and these kinds, where each immediate has one, are those of the row
abbrev pub HasKinds : Opcode → List (Option ImmKind) → Type 0
HasKinds opcode kinds = AreOfRow (kinds_of opcode) kinds
