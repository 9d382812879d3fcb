-- The shapes of the tables (WebAssembly Core Specification 3.0, sections 5.3 to 5.5).
use Rattle.std.specs.Prelude.{ℕ, ◌+◌, List, [], ◌∷◌, Bool, true, false, ◌&&◌, ◌||◌, nat_eq, Option, Some, None}
use Rattle.wasm_shapes.specs.declared.SectionId.{SectionId}
use Rattle.wasm_shapes.specs.declared.Space.{Space}
use Rattle.wasm_shapes.specs.declared.Space.TheVariants as space
use Rattle.wasm_shapes.specs.declared.ImmKind.{ImmKind}
use Rattle.wasm_shapes.specs.declared.ImmKind.TheVariants as kind
use Rattle.wasm_shapes.specs.Operators.{Code, kinds_among}
use Rattle.wasm_shapes.specs.Tree.{Listed}

-- the shapes that others name
pub data Named : Type 0 where
  value composite sub group item expression : Named
  -- those of components: the last one is a component in its frame
  component_value core_type component_type alias type_ref nested : Named

-- neither a frame nor a section stands in it
abbrev pub flat : Named → Bool
flat Named.nested = false
flat _ = true

-- What the tables of the formats are made of, as data.
pub data Shape : Type 0 where
  -- ---- leaves
  empty : Shape
  fixed : ℕ → Shape
  byte : Shape
  bytes : ℕ → Shape
  rest : Shape
  u32 : Shape
  u64 : Shape
  s32 : Shape
  s64 : Shape
  ix : Space → Shape
  sx : Space → Shape
  outer : Space → Shape
  name : Shape
  content : Shape
  alike : ℕ → ℕ → Shape
  mem : Shape
  flag : ℕ → Shape
  -- a byte of a range, both ends within
  within : ℕ → ℕ → Shape
  -- ---- parts
  seq : Shape → Shape → Shape
  swap : Shape → Shape → Shape
  many : Shape → Shape
  vec : Shape → Shape
  opt : Shape → Shape
  sized : Shape → Shape
  -- no row; a row or one of the others
  none : Shape
  or : Shape → Shape → Shape
  ref : Named → Shape
  scope : Shape → Shape
  -- the first behind a byte that may be left out, or the second behind the byte
  spare : ℕ → Shape → Shape → Shape
  -- items and what stands behind them
  final : Shape → Shape → Shape
  until : ℕ → Shape → Shape
  -- an operator of the tables, where `end` is one or is none
  op : Bool → Shape
  -- an active element segment: its offset, the type of its expressions, and what it lists
  active : Listed → Shape → Shape → Shape → Shape
  -- an active data segment: its offset and its bytes
  placed : Shape → Shape → Shape
  -- a name, and the first shape where it is this one, or else the second
  by_name : List ℕ → Shape → Shape → Shape
  -- the shape where the bytes begin with one of these texts, or else any bytes
  begun : List (List ℕ) → Shape → Shape
  told : SectionId → Shape → Shape
  sections : Shape → Shape

-- a choice of one byte
abbrev pub one_of : List ℕ → Shape
one_of [] = Shape.none
one_of (b ∷ bs) = Shape.or (Shape.fixed b) (one_of bs)

abbrev pub choice : List Shape → Shape
choice [] = Shape.none
choice (s ∷ ss) = Shape.or s (choice ss)

abbrev pub lead : ℕ → Shape → Shape
lead b s = Shape.seq (Shape.fixed b) s

-- a list begins with a text, and with one of some texts
abbrev pub begins_with : List ℕ → List ℕ → Bool
begins_with [] xs = true
begins_with (f ∷ fs) [] = false
begins_with (f ∷ fs) (x ∷ xs) = nat_eq f x && begins_with fs xs

abbrev pub begins_with_one : List (List ℕ) → List ℕ → Bool
begins_with_one [] xs = false
begins_with_one (f ∷ fs) xs = begins_with f xs || begins_with_one fs xs

-- what an element segment lists, behind the type where it lists expressions
abbrev pub listing : Listed → Shape → Shape → Shape
listing Listed.functions r b = b
listing Listed.expressions r b = Shape.swap r b

-- ---- types

-- heap types that name no type of the module
abbrev pub abstract_heap : Shape
abstract_heap = one_of (0x73 ∷ 0x72 ∷ 0x71 ∷ 0x70 ∷ 0x6f ∷ 0x6e ∷ 0x6d ∷ 0x6c ∷ 0x6b ∷ 0x6a ∷ 0x69 ∷ 0x74 ∷ 0x68 ∷ 0x75 ∷ [])

-- those and the shared ones
abbrev pub abstract_rows : Shape
abstract_rows = choice (abstract_heap ∷ lead 0x65 abstract_heap ∷ [])

-- what names a type of the module
abbrev pub concrete_rows : Shape
concrete_rows = choice (lead 0x62 (Shape.ix space.Type_) ∷ Shape.sx space.Type_ ∷ [])

-- what a reference points to
abbrev pub heap : Shape
heap = choice (abstract_heap ∷ lead 0x65 abstract_heap ∷ lead 0x62 (Shape.ix space.Type_) ∷ Shape.sx space.Type_ ∷ [])

-- reference types: one that may be null is spelled as its heap type alone where that is abstract
abbrev pub reference : Shape
reference = choice (lead 0x64 heap ∷ Shape.spare 0x63 abstract_rows concrete_rows ∷ [])

abbrev pub storage : Shape
storage = choice (Shape.fixed 0x78 ∷ Shape.fixed 0x77 ∷ Shape.ref Named.value ∷ [])

-- a field, and whether it may change
abbrev pub field : Shape
field = Shape.seq storage (one_of (0x00 ∷ 0x01 ∷ []))

-- value types behind their number
abbrev pub values : Shape
values = Shape.vec (Shape.ref Named.value)

-- functions, arrays, structures and continuations
abbrev pub inner_rows : List Shape
inner_rows = lead 0x60 (Shape.seq values values) ∷ lead 0x5e field ∷ lead 0x5f (Shape.vec field) ∷ lead 0x5d (Shape.sx space.Type_) ∷ []

-- the rows of the second list stand behind those of the first
abbrev pub rows_and : List Shape → List Shape → List Shape
rows_and [] others = others
rows_and (s ∷ ss) others = s ∷ rows_and ss others

-- the same with a descriptor, with what it describes, and shared
abbrev pub described_rows : List Shape
described_rows = rows_and inner_rows (Shape.swap (lead 0x4d (Shape.ix space.Type_)) (choice inner_rows) ∷ [])

abbrev pub describing_rows : List Shape
describing_rows = rows_and described_rows (Shape.swap (lead 0x4c (Shape.ix space.Type_)) (choice described_rows) ∷ [])

abbrev pub composite_rows : List Shape
composite_rows = rows_and describing_rows (lead 0x65 (choice describing_rows) ∷ [])

-- A composite type with its supertypes: final or open. A final one without supertypes is spelled as the composite type
-- alone.
abbrev pub final_sub : Shape
final_sub = Shape.final (Shape.ix space.Type_) (Shape.ref Named.composite)

abbrev pub open_sub : Shape
open_sub = lead 0x50 (Shape.seq (Shape.vec (Shape.ix space.Type_)) (Shape.ref Named.composite))

abbrev pub sub_rows : List Shape
sub_rows = final_sub ∷ open_sub ∷ []

-- types that may refer to each other
abbrev pub explicit_group : Shape
explicit_group = lead 0x4e (Shape.vec (Shape.ref Named.sub))

-- those, and a type alone
abbrev pub group_rows : List Shape
group_rows = rows_and sub_rows (explicit_group ∷ [])

-- ---- limits

-- a minimum, and a maximum behind it
abbrev pub bounds : Bool → Shape
bounds false = Shape.u64
bounds true = Shape.seq Shape.u64 Shape.u64

-- the logarithm of the page size behind the limits
abbrev pub paged : Bool → Shape → Shape
paged false s = s
paged true s = Shape.seq s Shape.u32

-- The rows of the limits by their flags byte: bit 0 says that there is a maximum, bit 1 that they are shared, bit 2 that
-- they count in 64 bits, and bit 3 that the logarithm of the page size is written. These are four of them from a multiple
-- of four on, and others behind them. A row's number is its flags.
abbrev pub four_limits : ℕ → Bool → List Shape → List Shape
four_limits flags page others =
    lead flags (paged page (bounds false)) ∷ lead (flags + 1) (paged page (bounds true)) ∷
    lead (flags + 2) (paged page (bounds false)) ∷ lead (flags + 3) (paged page (bounds true)) ∷ others

-- the limits of a table
abbrev pub table_limits : Shape
table_limits = choice (four_limits 0 false (four_limits 4 false []))

-- a memory
abbrev pub memory_type : Shape
memory_type = choice (four_limits 0 false (four_limits 4 false (four_limits 8 true (four_limits 12 true []))))

-- ---- what is imported

-- a table: its elements and its limits
abbrev pub table_type : Shape
table_type = Shape.seq reference table_limits

-- a global, and whether it may change (bit 0) and is shared (bit 1)
abbrev pub global_type : Shape
global_type = Shape.seq (Shape.ref Named.value) (one_of (0x00 ∷ 0x01 ∷ 0x02 ∷ 0x03 ∷ []))

-- a tag, by the index of its type
abbrev pub tag_type : Shape
tag_type = lead 0x00 (Shape.ix space.Type_)

-- the type of what is imported: the last row is a function of exactly its type
abbrev pub entity_rows : List Shape
entity_rows =
    lead 0x00 (Shape.ix space.Type_) ∷ lead 0x01 table_type ∷ lead 0x02 memory_type ∷ lead 0x03 global_type ∷
    lead 0x04 tag_type ∷ lead 0x20 (Shape.ix space.Type_) ∷ []

abbrev pub entity : Shape
entity = choice entity_rows

-- ---- immediates

-- what a block takes and gives: nothing, one value, or by the index of a function type
abbrev pub block_type : Shape
block_type = choice (Shape.fixed 0x40 ∷ Shape.ref Named.value ∷ Shape.sx space.Type_ ∷ [])

-- a cast to another type: its flags, its label, and what the two references point to
abbrev pub cast : Shape
cast = Shape.seq (Shape.within 0 3) (Shape.seq Shape.u32 (Shape.seq heap heap))

-- the shape of each kind of immediate
abbrev pub shape_of_kind : ImmKind → Shape
shape_of_kind kind.Block = block_type
shape_of_kind kind.Label = Shape.u32
shape_of_kind kind.Labels = Shape.seq (Shape.vec Shape.u32) Shape.u32
shape_of_kind (kind.Index s) = Shape.ix s
shape_of_kind kind.Local = Shape.u32
shape_of_kind kind.Field = Shape.u32
shape_of_kind kind.Size = Shape.u32
shape_of_kind kind.Types = Shape.vec (Shape.ref Named.value)
shape_of_kind kind.Mem = Shape.mem
shape_of_kind kind.S32 = Shape.s32
shape_of_kind kind.S64 = Shape.s64
shape_of_kind kind.Four = Shape.bytes 4
shape_of_kind kind.Eight = Shape.bytes 8
shape_of_kind kind.Sixteen = Shape.bytes 16
shape_of_kind kind.Lanes = Shape.bytes 16
shape_of_kind kind.Lane = Shape.byte
shape_of_kind kind.Heap = heap
shape_of_kind kind.Catches = Shape.vec (choice (
    lead 0x00 (Shape.seq (Shape.ix space.Tag) Shape.u32) ∷ lead 0x01 (Shape.seq (Shape.ix space.Tag) Shape.u32) ∷
    lead 0x02 Shape.u32 ∷ lead 0x03 Shape.u32 ∷ []))
shape_of_kind kind.Cast = cast
shape_of_kind kind.Handlers = Shape.vec (choice (lead 0x00 (Shape.seq (Shape.ix space.Tag) Shape.u32) ∷ lead 0x01 (Shape.ix space.Tag) ∷ []))
shape_of_kind kind.Zero = Shape.fixed 0x00

-- immediates one behind another
abbrev pub shape_of_kinds : List ImmKind → Shape
shape_of_kinds [] = Shape.empty
shape_of_kinds (k ∷ ks) = Shape.seq (shape_of_kind k) (shape_of_kinds ks)

abbrev pub shape_of_row : Option (List ImmKind) → Shape
shape_of_row (Some ks) = shape_of_kinds ks
shape_of_row None = Shape.none

-- the immediates of an operator
abbrev pub immediates : Bool → Code → Shape
immediates ends c = shape_of_row (kinds_among ends c)

-- where a spelling ends is seen from its bytes
abbrev pub closed : Shape → Bool
closed Shape.rest = false
closed (Shape.many a) = false
closed (Shape.sections a) = false
closed (Shape.by_name n a b) = closed a && closed b
closed (Shape.begun fs a) = false
closed (Shape.told k a) = closed a
closed (Shape.seq a b) = closed a && closed b
closed (Shape.swap a b) = closed a && closed b
closed (Shape.opt a) = closed a
closed (Shape.or a b) = closed a && closed b
closed (Shape.scope a) = closed a
closed (Shape.spare b a c) = closed a && closed c
closed (Shape.final a b) = closed b
closed (Shape.placed a b) = closed b
closed (Shape.active w a r b) = closed r && closed b
closed _ = true
