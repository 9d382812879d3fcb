-- The kinds of immediates, and what those that hold no type stand for (WebAssembly Core Specification 3.0, section 5.4).
use Rattle.std.specs.Prelude.{ℕ, if◌then◌else◌, length, Option, Some, None}
use Rattle.wasm_shapes.specs.declared.ImmKind.{ImmKind}
use Rattle.wasm_shapes.specs.declared.ImmKind.TheVariants as kind
use Rattle.wasm_shapes.specs.declared.Space.TheVariants as space
use Rattle.wasm_shapes.specs.Tree.{Tree}
use Rattle.wasm_shapes.specs.Types.{are_sixteen, cast_of, is_core, is_counted, led, tagged_label_tree}
use Rattle.wasm_types.specs.declared.types.Catch.{Catch}
use Rattle.wasm_types.specs.declared.types.Catch.TheVariants as catch
use Rattle.wasm_types.specs.declared.types.Handle.{Handle}
use Rattle.wasm_types.specs.declared.types.Handle.TheVariants as handle
use Rattle.wasm_types.specs.declared.types.Imm.{Imm}
use Rattle.wasm_types.specs.declared.types.Imm.TheVariants as imm
use Rattle.wasm_types.specs.declared.types.RefType.{RefType}
use Rattle.wasm_types.specs.Types.{Indices, heap_type_tree}

-- The kind of an immediate. An index of a space that no core module has, sixteen bytes that are not sixteen, and a list
-- whose count has no spelling have none.
abbrev pub imm_kind : {B I : Type 0} → Imm B I → Option ImmKind
imm_kind (imm.Block b) = Some kind.Block
imm_kind (imm.Label i) = Some kind.Label
imm_kind (imm.Labels targets default) = if is_counted (length targets) then Some kind.Labels else None
imm_kind (imm.Index s i) = if is_core s then Some (kind.Index s) else None
imm_kind (imm.Local i) = Some kind.Local
imm_kind (imm.Field i) = Some kind.Field
imm_kind (imm.Size n) = Some kind.Size
imm_kind (imm.Types ts) = if is_counted (length ts) then Some kind.Types else None
imm_kind (imm.Mem m) = Some kind.Mem
imm_kind (imm.S32 z) = Some kind.S32
imm_kind (imm.S64 z) = Some kind.S64
imm_kind (imm.Four b) = Some kind.Four
imm_kind (imm.Eight b) = Some kind.Eight
imm_kind (imm.Sixteen b) = if are_sixteen b.now then Some kind.Sixteen else None
imm_kind (imm.Lanes b) = if are_sixteen b.now then Some kind.Lanes else None
imm_kind (imm.Lane b) = Some kind.Lane
imm_kind (imm.Heap h) = Some kind.Heap
imm_kind (imm.Catches cs) = if is_counted (length cs) then Some kind.Catches else None
imm_kind (imm.Cast label from to) = Some kind.Cast
imm_kind (imm.Handlers hs) = if is_counted (length hs) then Some kind.Handlers else None
imm_kind imm.Zero = Some kind.Zero

-- ---- trees

abbrev pub catch_tree : Catch → Tree
catch_tree (catch.One tag label) = Tree.row 0 (led 0x00 (tagged_label_tree tag label))
catch_tree (catch.OneRef tag label) = Tree.row 1 (led 0x01 (tagged_label_tree tag label))
catch_tree (catch.All label) = Tree.row 2 (led 0x02 (Tree.u32 label))
catch_tree (catch.AllRef label) = Tree.row 3 (led 0x03 (Tree.u32 label))

abbrev pub handle_tree : Handle → Tree
handle_tree (handle.OnLabel tag label) = Tree.row 0 (led 0x00 (tagged_label_tree tag label))
handle_tree (handle.OnSwitch tag) = Tree.row 1 (led 0x01 (Tree.ix space.Tag tag))

-- the label and the references of a cast
abbrev pub cast_tree : {I : Type 0} → Indices I → ℕ → RefType I → RefType I → Tree
cast_tree indices label from to =
    cast_of label from.nullable (heap_type_tree indices from.heap_type) to.nullable (heap_type_tree indices to.heap_type)
