-- The trees of instructions have the shapes of their rows.
use Rattle.std.specs.Prelude.{IsSome}
use Rattle.std.specs.Coded.{Coded-set, coded_bool, le_prop}
use Rattle.std.proofs.Common.{◌≡◌, ℕ, zero, suc, ◌<◌, ◌≤◌, Bool, true, false, if◌then◌else◌, List, [], ◌∷◌, length, map, Option, Some, None, refl, sym, subst, arith, All}
use Rattle.std.proofs.lemmas.Bool.{eqb-true}
use Rattle.std.proofs.lemmas.List.Elements.{All-cons}
use mathlib.Core.HLevel.{Π_prop}
use mathlib.Core.Logic.{∥∥₁_elim}
use Rattle.wasm_shapes.specs.declared.Space.TheVariants as space
use Rattle.wasm_shapes.specs.declared.ImmKind.{ImmKind}
use Rattle.wasm_shapes.specs.declared.ImmKind.TheVariants as kind
use Rattle.wasm_shapes.specs.declared.Opcode.{Opcode}
use Rattle.wasm_shapes.specs.Operators.{code_from, code_of, kinds_among, kinds_of}
use Rattle.wasm_shapes.specs.Immediates.{AreOfRow, HasKinds}
use Rattle.wasm_shapes.specs.Tree.{Tree, normal}
use Rattle.wasm_shapes.specs.Shape.{Shape, block_type, cast, shape_of_kind, shape_of_kinds, shape_of_row}
use Rattle.wasm_shapes.specs.Spells.{Is, Spells}
use Rattle.wasm_shapes.specs.Fits.{InRange, CodeInRange}
use Rattle.wasm_shapes.specs.Types.{are_sixteen, is_core, is_counted, cast_flags}
use Rattle.wasm_shapes.proofs.TableRows.{one_byte_small, code_is}
use Rattle.wasm_shapes.proofs.Frameless.{frameless_spells}
use Rattle.wasm_write.specs.Types.{RefType}
use Rattle.wasm_write.specs.declared.types.BlockType.{BlockType}
use Rattle.wasm_write.specs.declared.types.BlockType.TheVariants as block
use Rattle.wasm_types.specs.declared.types.Catch.{Catch}
use Rattle.wasm_types.specs.declared.types.Catch.TheVariants as catch
use Rattle.wasm_types.specs.declared.types.Handle.{Handle}
use Rattle.wasm_types.specs.declared.types.Handle.TheVariants as handle
use Rattle.wasm_write.specs.Instructions.{Imm, imm_kind, Parts, label_tree, block_type_tree, cast_tree, catch_tree, handle_tree, imm_tree, imms_tree, instruction_tree}
use Rattle.wasm_types.specs.declared.types.Imm.TheVariants as imm
use Rattle.wasm_write.proofs.TypeShapes.{heap_is, value_is, items_are, values_are}

-- ---- the rows of opcodes

-- the row of an opcode, and the kinds of its immediates
row_had : (op : Opcode) (own : List (Option ImmKind)) → HasKinds op own → (kinds : List ImmKind) × (kinds_of op ≡ Some kinds) × (own ≡ map Some kinds)
row_had op own h = go (kinds_of op) refl h
  where
    go : (o : Option (List ImmKind)) → kinds_of op ≡ o → AreOfRow o own → (kinds : List ImmKind) × (kinds_of op ≡ Some kinds) × (own ≡ map Some kinds)
    go (Some kinds) e same = (kinds, e, same)
    go None e same = absurd same

-- a one-byte operator is a byte
opcode_byte : (op : Opcode) (own : List (Option ImmKind)) → HasKinds op own → op.prefix ≡ 0 → op.sub < 256
opcode_byte op own h none = let row = row_had op own h in go row.0 op.prefix none row.1
  where
    go : (kinds : List ImmKind) (p : ℕ) → p ≡ 0 → kinds_among true (code_from p op.sub) ≡ Some kinds → op.sub < 256
    go kinds zero e row = let small : op.sub < 0xfb = one_byte_small op.sub kinds row in omega arith
    go kinds (suc p) e row = absurd (omega arith)

pub opcode_byte_of : (op : Opcode) (own : List (Option ImmKind)) → ∥ HasKinds op own ∥₁ → op.prefix ≡ 0 → op.sub < 256
opcode_byte_of op own h none = ∥∥₁_elim h le_prop (λ k. opcode_byte op own k none)

-- each immediate has a kind
kinds_each : (imms : List Imm) (kinds : List ImmKind) → map imm_kind imms ≡ map Some kinds → All (λ i. IsSome (imm_kind i)) imms
kinds_each [] kinds e = λ k d h. absurd (omega arith)
kinds_each (i ∷ imms) [] e = absurd cc
kinds_each (i ∷ imms) (k ∷ kinds) e =
    let one : imm_kind i ≡ Some k = cc in
    let others : map imm_kind imms ≡ map Some kinds = cc in
    All-cons (λ j. IsSome (imm_kind j)) i imms (rw one refl) (kinds_each imms kinds others)

pub kinds_each_of : (op : Opcode) (imms : List Imm) → ∥ HasKinds op (map imm_kind imms) ∥₁ → All (λ i. IsSome (imm_kind i)) imms
kinds_each_of op imms h =
    ∥∥₁_elim h (Π_prop (λ k. Π_prop (λ d. Π_prop (λ l. Coded-set coded_bool _ _)))) (λ p. let row = row_had op (map imm_kind imms) p in kinds_each imms row.0 row.2)

-- ---- immediates

catch_is : (c : Catch) → Is (Shape.or (Shape.seq (Shape.fixed 0) (Shape.seq (Shape.ix space.Tag) Shape.u32)) (Shape.or (Shape.seq (Shape.fixed 1) (Shape.seq (Shape.ix space.Tag) Shape.u32))
    (Shape.or (Shape.seq (Shape.fixed 2) Shape.u32) (Shape.or (Shape.seq (Shape.fixed 3) Shape.u32) Shape.none)))) (catch_tree c)
catch_is (catch.One tag label) = Is.first (Is.seq Is.fixed (Is.seq Is.ix Is.u32))
catch_is (catch.OneRef tag label) = Is.later {k = 0} (Is.first (Is.seq Is.fixed (Is.seq Is.ix Is.u32)))
catch_is (catch.All label) = Is.later {k = 1} (Is.later {k = 0} (Is.first (Is.seq Is.fixed Is.u32)))
catch_is (catch.AllRef label) = Is.later {k = 2} (Is.later {k = 1} (Is.later {k = 0} (Is.first (Is.seq Is.fixed Is.u32))))

handle_is : (h : Handle) → Is (Shape.or (Shape.seq (Shape.fixed 0) (Shape.seq (Shape.ix space.Tag) Shape.u32)) (Shape.or (Shape.seq (Shape.fixed 1) (Shape.ix space.Tag)) Shape.none)) (handle_tree h)
handle_is (handle.OnLabel tag label) = Is.first (Is.seq Is.fixed (Is.seq Is.ix Is.u32))
handle_is (handle.OnSwitch tag) = Is.later {k = 0} (Is.first (Is.seq Is.fixed Is.ix))

block_is : (ty : BlockType) → Is block_type (block_type_tree ty)
block_is block.Empty = Is.first Is.fixed
block_is (block.Result ty) = Is.later {k = 0} (Is.first (value_is ty))
block_is (block.FunctionType i) = Is.later {k = 1} (Is.later {k = 0} (Is.first Is.sx))

flags_small : (from to : Bool) → cast_flags from to ≤ 3
flags_small false false = omega arith
flags_small true false = omega arith
flags_small false true = omega arith
flags_small true true = omega arith

cast_is : (label : ℕ) (from to : RefType) → Is cast (cast_tree label from to)
cast_is label from to = Is.seq (Is.within (omega arith) (flags_small from.nullable to.nullable)) (Is.seq Is.u32 (Is.seq (heap_is from.heap_type) (heap_is to.heap_type)))

-- the kind that is chosen by a test
chosen : (b : Bool) (j k : ImmKind) → (if b then Some j else None) ≡ Some k → (b ≡ true) × (j ≡ k)
chosen true j k is = (refl, cc)
chosen false j k is = absurd cc

-- an immediate of a kind has its shape
imm_is : (i : Imm) (k : ImmKind) → imm_kind i ≡ Some k → Is (shape_of_kind k) (imm_tree i)
imm_is (imm.Block ty) k e = let P : ImmKind → Type 0 = λ j. Is (shape_of_kind j) (imm_tree (imm.Block ty)) in let same : kind.Block ≡ k = cc in subst P same (block_is ty)
imm_is (imm.Label n) k e = let P : ImmKind → Type 0 = λ j. Is (shape_of_kind j) (imm_tree (imm.Label n)) in let same : kind.Label ≡ k = cc in subst P same (Is.u32)
imm_is (imm.Labels targets default) k e = let P : ImmKind → Type 0 = λ j. Is (shape_of_kind j) (imm_tree (imm.Labels targets default)) in subst P ((chosen (is_counted (length targets)) kind.Labels k e).1) (Is.seq (Is.vec (items_are Shape.u32 label_tree (λ n. Is.u32) targets)) Is.u32)
imm_is (imm.Index x i) k e = let P : ImmKind → Type 0 = λ j. Is (shape_of_kind j) (Tree.ix x i) in subst P (chosen (is_core x) (kind.Index x) k e).1 Is.ix
imm_is (imm.Local n) k e = let P : ImmKind → Type 0 = λ j. Is (shape_of_kind j) (imm_tree (imm.Local n)) in let same : kind.Local ≡ k = cc in subst P same (Is.u32)
imm_is (imm.Field n) k e = let P : ImmKind → Type 0 = λ j. Is (shape_of_kind j) (imm_tree (imm.Field n)) in let same : kind.Field ≡ k = cc in subst P same (Is.u32)
imm_is (imm.Size n) k e = let P : ImmKind → Type 0 = λ j. Is (shape_of_kind j) (imm_tree (imm.Size n)) in let same : kind.Size ≡ k = cc in subst P same (Is.u32)
imm_is (imm.Types types) k e = let P : ImmKind → Type 0 = λ j. Is (shape_of_kind j) (imm_tree (imm.Types types)) in subst P ((chosen (is_counted (length types)) kind.Types k e).1) (values_are types)
imm_is (imm.Mem m) k e = let P : ImmKind → Type 0 = λ j. Is (shape_of_kind j) (imm_tree (imm.Mem m)) in let same : kind.Mem ≡ k = cc in subst P same (Is.mem)
imm_is (imm.S32 z) k e = let P : ImmKind → Type 0 = λ j. Is (shape_of_kind j) (imm_tree (imm.S32 z)) in let same : kind.S32 ≡ k = cc in subst P same (Is.s32)
imm_is (imm.S64 z) k e = let P : ImmKind → Type 0 = λ j. Is (shape_of_kind j) (imm_tree (imm.S64 z)) in let same : kind.S64 ≡ k = cc in subst P same (Is.s64)
imm_is (imm.Four bits) k e = let P : ImmKind → Type 0 = λ j. Is (shape_of_kind j) (imm_tree (imm.Four bits)) in let same : kind.Four ≡ k = cc in subst P same (Is.bytes refl)
imm_is (imm.Eight bits) k e = let P : ImmKind → Type 0 = λ j. Is (shape_of_kind j) (imm_tree (imm.Eight bits)) in let same : kind.Eight ≡ k = cc in subst P same (Is.bytes refl)
imm_is (imm.Sixteen bs) k e = let P : ImmKind → Type 0 = λ j. Is (shape_of_kind j) (Tree.raw bs.now) in let same = chosen (are_sixteen bs.now) kind.Sixteen k e in subst P same.1 (Is.bytes (eqb-true (length bs.now) 16 same.0))
imm_is (imm.Lanes bs) k e = let P : ImmKind → Type 0 = λ j. Is (shape_of_kind j) (Tree.raw bs.now) in let same = chosen (are_sixteen bs.now) kind.Lanes k e in subst P same.1 (Is.bytes (eqb-true (length bs.now) 16 same.0))
imm_is (imm.Lane b) k e = let P : ImmKind → Type 0 = λ j. Is (shape_of_kind j) (imm_tree (imm.Lane b)) in let same : kind.Lane ≡ k = cc in subst P same (Is.byte)
imm_is (imm.Heap ty) k e = let P : ImmKind → Type 0 = λ j. Is (shape_of_kind j) (imm_tree (imm.Heap ty)) in let same : kind.Heap ≡ k = cc in subst P same (heap_is ty)
imm_is (imm.Catches catches) k e = let P : ImmKind → Type 0 = λ j. Is (shape_of_kind j) (imm_tree (imm.Catches catches)) in subst P ((chosen (is_counted (length catches)) kind.Catches k e).1) (Is.vec (items_are _ catch_tree catch_is catches))
imm_is (imm.Cast label from to) k e = let P : ImmKind → Type 0 = λ j. Is (shape_of_kind j) (imm_tree (imm.Cast label from to)) in let same : kind.Cast ≡ k = cc in subst P same (cast_is label from to)
imm_is (imm.Handlers handlers) k e = let P : ImmKind → Type 0 = λ j. Is (shape_of_kind j) (imm_tree (imm.Handlers handlers)) in subst P ((chosen (is_counted (length handlers)) kind.Handlers k e).1) (Is.vec (items_are _ handle_tree handle_is handlers))
imm_is imm.Zero k e = let P : ImmKind → Type 0 = λ j. Is (shape_of_kind j) (imm_tree imm.Zero) in let same : kind.Zero ≡ k = cc in subst P same (Is.fixed)

imms_are : (imms : List Imm) (kinds : List ImmKind) → map imm_kind imms ≡ map Some kinds → Is (shape_of_kinds kinds) (imms_tree imms)
imms_are [] [] e = Is.empty
imms_are [] (k ∷ kinds) e = absurd cc
imms_are (i ∷ imms) [] e = absurd cc
imms_are (i ∷ imms) (k ∷ kinds) e =
    let one : imm_kind i ≡ Some k = cc in
    let others : map imm_kind imms ≡ map Some kinds = cc in
    Is.seq (imm_is i k one) (imms_are imms kinds others)

instruction_is : (i : Parts) → HasKinds i.opcode (map imm_kind i.imms) → Is (Shape.op true) (instruction_tree i)
instruction_is i h =
    let row = row_had i.opcode (map imm_kind i.imms) h in
    let P : Option (List ImmKind) → Type 0 = λ o. Is (shape_of_row o) (imms_tree i.imms) in
    Is.op (code_is (code_of i.opcode) row.0 row.1) (subst P (sym row.1) (imms_are i.imms row.0 row.2))

-- ---- what is in range spells an instruction

pub instruction_spelled : (i : Parts) → HasKinds i.opcode (map imm_kind i.imms) → CodeInRange (code_of i.opcode) → InRange (imms_tree i.imms) →
    Spells (Shape.op true) (normal (instruction_tree i)) (instruction_tree i)
instruction_spelled i h c r = frameless_spells (Shape.op true) refl (instruction_is i h) (c, r)
