-- Operators that are passed by, and those that change.
use Rattle.std.specs.Prelude.{◌≡◌, ◌≢◌, ◌<◌, ◌≤◌, ◌+◌, ◌-◌, ℕ, zero, suc, ℤ, List, [], ◌∷◌, ◌++◌, length, map, true, ◌&&◌, if◌then◌else◌, Option, Some, None}
use Rattle.wasm_leb.specs.Place.{BeginsNumber}
use Rattle.wasm_shapes.specs.declared.ImmKind.{ImmKind}
use Rattle.wasm_shapes.specs.declared.ImmKind.TheVariants as kind
use Rattle.wasm_shapes.specs.declared.Opcode.{Opcode}
use Rattle.wasm_shapes.specs.declared.Space.{Space}
use Rattle.wasm_shapes.specs.Operators.{code_of, is_code, kinds_of, look_up, one_byte_operators}
use Rattle.wasm_shapes.specs.Shape.{Shape, block_type, shape_of_kind}
use Rattle.wasm_shapes.specs.Tree.{Tree, code_bytes, normal}
use Rattle.wasm_shapes.specs.Spells.{Is, Spelled, SpelledCode}
use Rattle.wasm_shapes.specs.Place.{Begins}
use Rattle.wasm_shapes.specs.Module.{local_row}
use Rattle.wasm_shapes.specs.Types.{is_core, vector_tree}
use Rattle.wasm_write.specs.Instructions.{Imm, imm_kind, imms_tree, operator_tree}
use Rattle.wasm_types.specs.declared.types.Imm.TheVariants as imm
use Rattle.wasm_write.specs.Bodies.{AreOperators}
use Rattle.wasm_shapes.specs.Immediates.{HasKinds}
use Rattle.reencode_hooks.specs.declared.error.Error.{Error}
use Rattle.reencode_hooks.specs.declared.error.Error.TheVariants.{NoMemory}
use Rattle.reencode_hooks.specs.Run.{accepted, refused}
use Rattle.reencode_hooks.specs.Walk.{walk}
use Rattle.reencode_items.specs.Rows.{Asks, AcceptsRows}
use Rattle.reencode_items.specs.declared.direct.classes.Class.{Class}
use Rattle.reencode_items.specs.declared.direct.classes.Class.TheVariants as class
use Rattle.reencode_items.specs.declared.direct.classes.Rare.{Rare}
use Rattle.reencode_items.specs.declared.direct.classes.Rare.TheVariants as rare
use Rattle.reencode_items.specs.declared.direct.passing.Fresh.{Fresh}
use Rattle.reencode_items.specs.declared.direct.passing.Fresh.TheVariants as fresh
use Rattle.reencode_items.specs.declared.direct.passing.Next.{Next}
use Rattle.reencode_items.specs.declared.direct.passing.Next.TheVariants as next

-- ---- classes of operators

-- the class of an immediate that stands alone
abbrev pub class_of_kind : ImmKind → Class
class_of_kind kind.Block = class.Block
class_of_kind kind.Label = class.Number
class_of_kind kind.Local = class.Number
class_of_kind kind.Field = class.Number
class_of_kind kind.Size = class.Number
class_of_kind kind.S32 = class.S32
class_of_kind kind.S64 = class.Long
class_of_kind kind.Four = class.Raw 4
class_of_kind kind.Eight = class.Raw 8
class_of_kind kind.Sixteen = class.Raw 16
class_of_kind kind.Lanes = class.Raw 16
class_of_kind kind.Mem = class.Mem
class_of_kind (kind.Index s) = if is_core s then class.Index s else class.Other
class_of_kind _ = class.Other

-- the class of a row of immediates
abbrev pub class_of_row : Option (List ImmKind) → Class
class_of_row None = class.Other
class_of_row (Some []) = class.Bare
class_of_row (Some (k ∷ [])) = class_of_kind k
class_of_row (Some (k ∷ l ∷ ks)) = class.Other

-- the class of an operator
abbrev pub class_of : Opcode → Class
class_of op = class_of_row (kinds_of op)

-- the classes of so many operators of one byte, from one number on
unfoldable pub classes_from : ℕ → ℕ → List Class
classes_from from zero = []
classes_from from (suc n) = class_of_row (look_up (one_byte_operators true) from) ∷ classes_from (suc from) n

-- an immediate of the kind, which stands alone, is of the class
abbrev pub IsOfKind : ImmKind → Class → Type 0
IsOfKind k class.Bare = ⊥
IsOfKind k class.Number = shape_of_kind k ≡ Shape.u32
IsOfKind k class.Long = shape_of_kind k ≡ Shape.s64
IsOfKind k (class.Raw n) = shape_of_kind k ≡ Shape.bytes n
IsOfKind k class.Block = shape_of_kind k ≡ block_type
IsOfKind k class.S32 = k ≡ kind.S32
IsOfKind k (class.Index s) = (k ≡ kind.Index s) × (is_core s ≡ true)
IsOfKind k class.Mem = k ≡ kind.Mem
IsOfKind k class.Other = Unit {0}

-- the operator has one immediate, of a class
pub record HasOne (op : Opcode) (c : Class) : Type 0 where
  pub kind : ImmKind
  pub row : kinds_of op ≡ Some (kind ∷ [])
  pub is : IsOfKind kind c

-- the operator has no immediate, or one of a class
abbrev pub HasClass : Opcode → Class → Type 0
HasClass op class.Bare = kinds_of op ≡ Some []
HasClass op class.Other = Unit {0}
HasClass op c = HasOne op c

-- ---- operators of no class

-- what one immediate alone is
abbrev pub rare_of_kind : ImmKind → Rare
rare_of_kind kind.Labels = rare.Labels
rare_of_kind _ = rare.Other

-- what two immediates are
abbrev pub rare_of_two : ImmKind → ImmKind → Rare
rare_of_two (kind.Index s) (kind.Index p) = if is_core s && is_core p then rare.Two s p else rare.Other
rare_of_two _ _ = rare.Other

-- what a row of immediates is
abbrev pub rare_of_row : Option (List ImmKind) → Rare
rare_of_row None = rare.Other
rare_of_row (Some []) = rare.Other
rare_of_row (Some (k ∷ [])) = rare_of_kind k
rare_of_row (Some (k ∷ l ∷ [])) = rare_of_two k l
rare_of_row (Some (k ∷ l ∷ m ∷ ks)) = rare.Other

-- what the immediates of an operator are
abbrev pub rare_of : Opcode → Rare
rare_of op = rare_of_row (kinds_of op)

-- the labels of a table of branches, and the one for all other numbers
abbrev pub labels : Shape
labels = Shape.seq (Shape.vec Shape.u32) Shape.u32

-- the operator has two immediates, which are indices of these spaces of core modules
pub record HasTwo (op : Opcode) (s p : Space) : Type 0 where
  pub row : kinds_of op ≡ Some (kind.Index s ∷ kind.Index p ∷ [])
  pub first : is_core s ≡ true
  pub second : is_core p ≡ true

-- the operator has such immediates
abbrev pub HasRare : Opcode → Rare → Type 0
HasRare op rare.Labels = kinds_of op ≡ Some (kind.Labels ∷ [])
HasRare op (rare.Two s p) = HasTwo op s p
HasRare op rare.Other = Unit {0}

-- ---- what stands at the front of some bytes

-- the number of an operator, in its normal spelling, and these bytes behind it
pub record IsHead (bytes : List ℕ) (op : Opcode) (rest : List ℕ) : Type 0 where
  pub valid : is_code (code_of op) ≡ true
  pub spelled : SpelledCode (code_of op) (code_bytes (code_of op))
  pub reads : bytes ≡ code_bytes (code_of op) ++ rest

-- the normal spelling of a tree, and these bytes behind it
pub record BeginsNormal (shape : Shape) (bytes : List ℕ) (tree : Tree) (left : List ℕ) : Type 0 where
  pub shaped : Is shape tree
  pub spelled : Spelled tree (normal tree)
  pub reads : bytes ≡ normal tree ++ left

-- two numbers without sign of 32 bits one behind another, and these bytes behind them
pub record BeginsTwo (bytes : List ℕ) (n k : ℕ) (left : List ℕ) : Type 0 where
  pub middle : List ℕ
  pub first : BeginsNumber 128 32 32 bytes n middle
  pub second : BeginsNumber 128 32 32 middle k left

-- an operator, spelled by so many bytes
pub record OperatorThere (bytes : List ℕ) (n : ℕ) : Type 0 where
  pub operator : Tree
  pub left : List ℕ
  pub begins : Begins (Shape.op true) bytes operator left
  pub counted : length begins.text ≡ n

-- ---- what is done with it

-- the immediates that are written
abbrev pub imms_of : Fresh → List Imm
imms_of (fresh.Index s i) = imm.Index s i ∷ []
imms_of (fresh.Two s i p j) = imm.Index s i ∷ imm.Index p j ∷ []
imms_of (fresh.S32 z) = imm.S32 z ∷ []
imms_of (fresh.Mem m) = imm.Mem m ∷ []

-- It stands in its normal spelling with these bytes behind it, and is mapped to itself.
pub record KeepsOperator {S E : Type 0} (asked : Asks S E) (s : S) (bytes left : List ℕ) (m : S) : Type 0 where
  pub operator : Tree
  pub begins : Begins (Shape.op true) bytes operator left
  pub normally : begins.text ≡ normal operator
  pub walks : (c : ℕ) → walk asked c s operator ≡ accepted operator m

-- It is mapped to the operator of an opcode and these immediates.
pub record MakesOperator {S E : Type 0} (asked : Asks S E) (s : S) (bytes : List ℕ) (n : ℕ) (op : Opcode) (imms : List Imm) (m : S) : Type 0 where
  pub there : OperatorThere bytes n
  pub kinds : HasKinds op (map imm_kind imms)
  pub walks : (c : ℕ) → walk asked c s there.operator ≡ accepted (operator_tree op imms) m

-- It is refused.
pub record RefusesOperator {S E : Type 0} (asked : Asks S E) (s : S) (bytes : List ℕ) (e : Error E) (m : S) : Type 0 where
  pub operator : Tree
  pub left : List ℕ
  pub begins : Begins (Shape.op true) bytes operator left
  pub refuses : (c : ℕ) → e ≢ NoMemory → walk asked c s operator ≡ refused e m

-- It is made anew, or nothing was asked of it.
abbrev pub PassesNext : {S E : Type 0} → Asks S E → S → List ℕ → S → Next → Type 0
PassesNext asked s bytes m (next.Made op f n) = MakesOperator asked s bytes n op (imms_of f) m
PassesNext asked s bytes m next.Other = m ≡ s

-- ---- immediates that ask nothing

-- nothing is asked of these
abbrev pub IsUnasked : Tree → Type 0
IsUnasked (Tree.u32 n) = Unit {0}
IsUnasked (Tree.s32 z) = Unit {0}
IsUnasked (Tree.s64 z) = Unit {0}
IsUnasked (Tree.raw bs) = Unit {0}
IsUnasked (Tree.fixed b) = Unit {0}
IsUnasked Tree.empty = Unit {0}
IsUnasked (Tree.row k t) = IsUnasked t
IsUnasked (Tree.pair t u) = IsUnasked t × IsUnasked u
IsUnasked (Tree.op k t) = IsUnasked t
IsUnasked (Tree.vec t) = IsUnasked t
IsUnasked Tree.nil = Unit {0}
IsUnasked (Tree.cons t u) = IsUnasked t × IsUnasked u
IsUnasked _ = ⊥

-- One stands at the front of some bytes in its normal spelling.
pub record SkipsLeaf (shape : Shape) (bytes left : List ℕ) : Type 0 where
  pub tree : Tree
  pub begins : BeginsNormal shape bytes tree left
  pub unasked : IsUnasked tree

-- One of a class does, or none where the class has none.
abbrev pub SkipsClass : Class → List ℕ → List ℕ → Type 0
SkipsClass class.Bare bytes left = bytes ≡ left
SkipsClass class.Number bytes left = SkipsLeaf Shape.u32 bytes left
SkipsClass class.Long bytes left = SkipsLeaf Shape.s64 bytes left
SkipsClass (class.Raw n) bytes left = SkipsLeaf (Shape.bytes n) bytes left
SkipsClass class.Block bytes left = SkipsLeaf block_type bytes left
SkipsClass class.S32 bytes left = SkipsLeaf Shape.s32 bytes left
SkipsClass _ bytes left = ⊥

-- An operator of which nothing is asked stands there in its normal spelling.
pub record SkipsOperator (bytes left : List ℕ) : Type 0 where
  pub operator : Tree
  pub begins : Begins (Shape.op true) bytes operator left
  pub normally : begins.text ≡ normal operator
  pub unasked : IsUnasked operator

-- A number of 32 bits with sign stands behind an operator's number, and is written anew.
pub record MakesS32 (bytes rest : List ℕ) (made : Fresh) (n : ℕ) : Type 0 where
  pub number : ℤ
  pub left : List ℕ
  pub begins : Begins Shape.s32 rest (Tree.s32 number) left
  pub counted : n ≡ length bytes - length left
  pub tree : imms_tree (imms_of made) ≡ Tree.pair (Tree.s32 number) Tree.empty
  pub kind : map imm_kind (imms_of made) ≡ Some kind.S32 ∷ []

-- the number is written anew, or nothing was done
abbrev pub PassesS32 : Opcode → List ℕ → List ℕ → Next → Type 0
PassesS32 op bytes rest (next.Made o f n) = (o ≡ op) × MakesS32 bytes rest f n
PassesS32 op bytes rest next.Other = Unit {0}

-- ---- runs

-- Operators stand at the front of some bytes in their normal spelling, with these bytes behind them, and each is mapped to
-- itself.
pub record KeepsOperators {S E : Type 0} (asked : Asks S E) (s : S) (bytes left : List ℕ) (m : S) : Type 0 where
  pub operators : List Tree
  pub text : List ℕ
  pub reads : bytes ≡ text ++ left
  pub are : AreOperators text operators
  pub walks : (c : ℕ) → AcceptsRows asked c s operators operators m

-- The next operator stands within so many bytes, and has some.
abbrev pub IsWithin : ℕ → Next → ℕ → Type 0
IsWithin n (next.Made op f k) len = (n + k ≤ len) × (0 < k)
IsWithin n next.Other len = n ≤ len

-- so many bytes of such operators, and what is done with the next one
pub record Run : Type 0 where
  pub kept : ℕ
  pub next : Next

-- A run of such operators in so many bytes, and what is done with the next one.
pub record PassesRun {S E : Type 0} (asked : Asks S E) (s : S) (bytes : List ℕ) (m : S) (run : Run) : Type 0 where
  pub mid : S
  pub left : List ℕ
  pub kept : KeepsOperators asked s bytes left mid
  pub counted : length kept.text ≡ run.kept
  pub onward : PassesNext asked mid left m run.next

-- A run of such operators, and the next one is refused.
pub record StopsRun {S E : Type 0} (asked : Asks S E) (s : S) (bytes : List ℕ) (e : Error E) (m : S) : Type 0 where
  pub mid : S
  pub left : List ℕ
  pub kept : KeepsOperators asked s bytes left mid
  pub stops : RefusesOperator asked mid left e m

-- ---- locals

-- Locals stand at the front of some bytes in their normal spelling, and nothing is asked of them.
pub record SkipsLocals (bytes left : List ℕ) : Type 0 where
  pub rows : List Tree
  pub begins : BeginsNormal (Shape.vec local_row) bytes (vector_tree rows) left
  pub unasked : IsUnasked (vector_tree rows)
