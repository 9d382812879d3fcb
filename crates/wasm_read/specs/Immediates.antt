-- What immediates stand for, and their kinds (WebAssembly Core Specification 3.0, section 5.4).
use Rattle.std.specs.Prelude.{ℕ, ◌≡◌, ⊤, if◌then◌else◌, List, [], ◌∷◌, length, map, Option, Some, None}
use Rattle.std.specs.Borrow.{Bor}
use Rattle.std.specs.Int.{to_le_bytes, w32, w64}
use Rattle.wasm_shapes.specs.declared.Space.TheVariants as space
use Rattle.wasm_shapes.specs.declared.ImmKind.{ImmKind}
use Rattle.wasm_shapes.specs.declared.Opcode.{Opcode}
use Rattle.wasm_shapes.specs.Operators.{code_of}
use Rattle.wasm_shapes.specs.Tree.{Tree}
use Rattle.wasm_types.specs.declared.types.Imm as of_imm
use Rattle.wasm_types.specs.declared.types.Imm.TheVariants as imm
use Rattle.wasm_types.specs.Immediates as of
pub use Rattle.wasm_types.specs.Immediates.{catch_tree, handle_tree}
use Rattle.wasm_types.specs.Types as of_types
use Rattle.wasm_read.specs.declared.types.UnpackedIndex.{UnpackedIndex}
use Rattle.wasm_read.specs.declared.types.BlockType.{BlockType}
use Rattle.wasm_read.specs.declared.types.BlockType.TheVariants as block
use Rattle.wasm_shapes.specs.Types.{are_sixteen}
pub use Rattle.wasm_shapes.specs.Types.{is_core, is_counted, tagged_label, tagged_label_tree, catch_row, handle_row}
use Rattle.wasm_read.specs.Types.{ValType, indices, heap_type_tree, val_type_tree, val_types_tree, vector_tree, no_reading}

-- an immediate
abbrev pub Imm : Type 0
Imm = of_imm.Imm BlockType UnpackedIndex

-- its kind, or none
abbrev pub imm_kind : Imm → Option ImmKind
imm_kind i = of.imm_kind i

-- this stands behind what was read, where something was
abbrev pub IsBehind : Option (Imm × Bor (List ℕ)) → Option (Bor (List ℕ)) → Type 0
IsBehind (Some read) (Some rest) = read.1 ≡ rest
IsBehind (Some read) None = ⊥
IsBehind None (Some rest) = ⊥
IsBehind None None = ⊤

-- ---- trees

-- the type of a block: an index of a function type is spelled with its sign
abbrev pub block_type_tree : BlockType → Tree
block_type_tree block.Empty = Tree.row 0 (Tree.fixed 0x40)
block_type_tree (block.Type_ ty) = Tree.row 1 (val_type_tree ty)
block_type_tree (block.FuncType i) = Tree.row 2 (Tree.sx space.Type_ i)

-- What an immediate stands for. One that has no kind stands for nothing.
abbrev pub imm_tree : Imm → Tree
imm_tree (imm.Block ty) = block_type_tree ty
imm_tree (imm.Label i) = Tree.u32 i
imm_tree (imm.Labels targets default) =
    if is_counted (length targets) then Tree.pair (vector_tree (map Tree.u32 targets)) (Tree.u32 default) else no_reading
imm_tree (imm.Index s i) = if is_core s then Tree.ix s i else no_reading
imm_tree (imm.Local i) = Tree.u32 i
imm_tree (imm.Field i) = Tree.u32 i
imm_tree (imm.Size n) = Tree.u32 n
imm_tree (imm.Types ts) = if is_counted (length ts) then val_types_tree ts else no_reading
imm_tree (imm.Mem m) = Tree.mem m.align m.memory m.offset
imm_tree (imm.S32 z) = Tree.s32 z
imm_tree (imm.S64 z) = Tree.s64 z
imm_tree (imm.Four b) = Tree.raw (to_le_bytes w32 b.0)
imm_tree (imm.Eight b) = Tree.raw (to_le_bytes w64 b.0)
imm_tree (imm.Sixteen b) = if are_sixteen b.now then Tree.raw b.now else no_reading
imm_tree (imm.Lanes b) = if are_sixteen b.now then Tree.raw b.now else no_reading
imm_tree (imm.Lane b) = Tree.byte b
imm_tree (imm.Heap ty) = heap_type_tree ty
imm_tree (imm.Catches cs) = if is_counted (length cs) then vector_tree (map catch_tree cs) else no_reading
imm_tree (imm.Cast label from to) = of.cast_tree indices label from to
imm_tree (imm.Handlers hs) = if is_counted (length hs) then vector_tree (map handle_tree hs) else no_reading
imm_tree imm.Zero = Tree.fixed 0x00

-- immediates one behind another
abbrev pub imms_tree : List Imm → Tree
imms_tree [] = Tree.empty
imms_tree (m ∷ ms) = Tree.pair (imm_tree m) (imms_tree ms)

-- ---- locals

-- so many locals of a type
abbrev pub local_tree : ℕ × ValType → Tree
local_tree l = of_types.local_tree indices l

-- the locals of a function behind their number
abbrev pub locals_tree : List (ℕ × ValType) → Tree
locals_tree ls = vector_tree (map local_tree ls)

-- ---- operators

-- an operator as contracts see it
pub record Operation : Type 0 where
  pub opcode : Opcode
  pub imms : List Imm

-- an operator of these immediates
abbrev pub operation : Opcode → List Imm → Operation
operation op ms = record { opcode = op; imms = ms }

-- what an operator stands for
abbrev pub operator_tree : Operation → Tree
operator_tree o = Tree.op (code_of o.opcode) (imms_tree o.imms)
