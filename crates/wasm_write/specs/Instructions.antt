-- The trees that instructions stand for (WebAssembly Core Specification 3.0, section 5.4).
use Rattle.std.specs.Prelude.{ℕ, List, [], ◌∷◌, map, Option}
use Rattle.std.specs.Int.{to_le_bytes, w32, w64}
use Rattle.wasm_shapes.specs.declared.ImmKind.{ImmKind}
use Rattle.wasm_shapes.specs.declared.Opcode.{Opcode}
use Rattle.wasm_shapes.specs.Operators.{code_of}
use Rattle.wasm_shapes.specs.Tree.{Tree}
use Rattle.wasm_shapes.specs.Types.{vector_tree}
use Rattle.wasm_types.specs.declared.types.Imm as of_imm
use Rattle.wasm_types.specs.declared.types.Imm.TheVariants as imm
use Rattle.wasm_types.specs.Immediates as of
pub use Rattle.wasm_types.specs.Immediates.{catch_tree, handle_tree}
use Rattle.wasm_write.specs.declared.types.BlockType.{BlockType}
use Rattle.wasm_write.specs.declared.types.BlockType.TheVariants as block
use Rattle.wasm_write.specs.Types.{RefType, indices, signed_index, heap_type_tree, val_type_tree, val_types_tree}

-- an immediate
abbrev pub Imm : Type 0
Imm = of_imm.Imm BlockType ℕ

-- its kind, or none
abbrev pub imm_kind : Imm → Option ImmKind
imm_kind i = of.imm_kind i

-- an opcode and its immediates
pub record Parts : Type 0 where
  pub opcode : Opcode
  pub imms : List Imm

-- ---- trees

abbrev pub block_type_tree : BlockType → Tree
block_type_tree block.Empty = Tree.row 0 (Tree.fixed 0x40)
block_type_tree (block.Result ty) = Tree.row 1 (val_type_tree ty)
block_type_tree (block.FunctionType i) = Tree.row 2 (signed_index i)

abbrev pub label_tree : ℕ → Tree
label_tree n = Tree.u32 n

-- labels and the default one
abbrev pub targets_tree : List ℕ → ℕ → Tree
targets_tree targets default = Tree.pair (vector_tree (map label_tree targets)) (Tree.u32 default)

-- the label and the references of a cast
abbrev pub cast_tree : ℕ → RefType → RefType → Tree
cast_tree label from to = of.cast_tree indices label from to

abbrev pub imm_tree : Imm → Tree
imm_tree (imm.Block ty) = block_type_tree ty
imm_tree (imm.Label label) = Tree.u32 label
imm_tree (imm.Labels targets default) = targets_tree targets default
imm_tree (imm.Index s i) = Tree.ix s i
imm_tree (imm.Local i) = Tree.u32 i
imm_tree (imm.Field i) = Tree.u32 i
imm_tree (imm.Size n) = Tree.u32 n
imm_tree (imm.Types types) = val_types_tree types
imm_tree (imm.Mem m) = Tree.mem m.align m.memory m.offset
imm_tree (imm.S32 z) = Tree.s32 z
imm_tree (imm.S64 z) = Tree.s64 z
imm_tree (imm.Four bits) = Tree.raw (to_le_bytes w32 bits.0)
imm_tree (imm.Eight bits) = Tree.raw (to_le_bytes w64 bits.0)
imm_tree (imm.Sixteen bs) = Tree.raw bs.now
imm_tree (imm.Lanes bs) = Tree.raw bs.now
imm_tree (imm.Lane b) = Tree.byte b
imm_tree (imm.Heap ty) = heap_type_tree ty
imm_tree (imm.Catches catches) = vector_tree (map catch_tree catches)
imm_tree (imm.Cast label from to) = cast_tree label from to
imm_tree (imm.Handlers handlers) = vector_tree (map handle_tree handlers)
imm_tree imm.Zero = Tree.fixed 0x00

-- immediates one behind another
abbrev pub imms_tree : List Imm → Tree
imms_tree [] = Tree.empty
imms_tree (i ∷ is) = Tree.pair (imm_tree i) (imms_tree is)

-- the operator of an opcode with these immediates
abbrev pub operator_tree : Opcode → List Imm → Tree
operator_tree op imms = Tree.op (code_of op) (imms_tree imms)

-- the operator with its immediates
abbrev pub instruction_tree : Parts → Tree
instruction_tree i = Tree.op (code_of i.opcode) (imms_tree i.imms)
