-- What the trees of a reader's types and of a writer's are made of, and what both say of immediates (WebAssembly Core
-- Specification 3.0, sections 5.3 and 5.4). Nothing here names a type of either.
use Rattle.std.specs.Prelude.{◌≡◌, ℕ, ◌+◌, ◌^◌, Bool, true, false, nat_lt, nat_eq, List, [], ◌∷◌, length, map, Option, Some, None}
use Rattle.std.specs.Option.{is_some}
use Rattle.std.proofs.Common.{refl, ap}
use Rattle.wasm_shapes.specs.declared.Space.{Space}
use Rattle.wasm_shapes.specs.declared.Space.TheVariants as space
use Rattle.wasm_shapes.specs.Tree.{Tree, Listed}
use Rattle.wasm_shapes.specs.Shape.{Shape, choice, lead}
use Rattle.wasm_shapes.specs.Rows.{rows_then}

-- what has no table stands for this tree, which no shape has
abbrev pub no_reading : Tree
no_reading = Tree.canonical 0

-- ---- rows and vectors

-- a row that begins with its byte
abbrev pub led : ℕ → Tree → Tree
led b t = Tree.pair (Tree.fixed b) t

-- items one behind another
abbrev pub rows_tree : List Tree → Tree
rows_tree ts = rows_then ts Tree.nil

-- the same behind their number
abbrev pub vector_tree : List Tree → Tree
vector_tree ts = Tree.vec (rows_tree ts)

-- rows that are one tree are one list
abbrev pub listed : Tree → List Tree
listed (Tree.cons t u) = t ∷ listed u
listed _ = []

pub listed_rows : (rows : List Tree) → listed (rows_tree rows) ≡ rows
listed_rows [] = refl
listed_rows (t ∷ rows) = ap (λ (z : List Tree). t ∷ z) (listed_rows rows)

-- an expression: its operators, and the byte of `end` behind them
abbrev pub expression_of : List Tree → Tree
expression_of operators = Tree.until 0x0b (rows_tree operators)

-- ---- heap types and fields

-- an abstract heap type, shared or not
abbrev pub shared_tree : Bool → Tree → Tree
shared_tree false t = Tree.row 0 t
shared_tree true t = Tree.row 1 (led 0x65 t)

-- whether a field may change
abbrev pub mutable_of : Bool → Tree
mutable_of false = Tree.row 0 (Tree.fixed 0x00)
mutable_of true = Tree.row 1 (Tree.fixed 0x01)

-- ---- composite types

-- behind its descriptor, where it has one
abbrev pub behind_descriptor : Option Tree → Tree → Tree
behind_descriptor None t = t
behind_descriptor (Some i) t = Tree.row 4 (Tree.swap (led 0x4d i) t)

-- behind what it describes, where it describes a type
abbrev pub behind_described : Option Tree → Tree → Tree
behind_described None t = t
behind_described (Some i) t = Tree.row 5 (Tree.swap (led 0x4c i) t)

abbrev pub shared_composite_tree : Bool → Tree → Tree
shared_composite_tree false t = t
shared_composite_tree true t = Tree.row 6 (led 0x65 t)

-- ---- subtypes and groups

-- A final type, whose supertypes are left out with their number where there are none, or an open one.
abbrev pub sub_type_of : Bool → List Tree → Tree → Tree
sub_type_of true supertypes t = Tree.row 0 (Tree.final (rows_tree supertypes) t)
sub_type_of false supertypes t = Tree.row 1 (led 0x50 (Tree.pair (vector_tree supertypes) t))

-- A group that is not explicit holds one type, and is spelled as that type alone.
abbrev pub group_of : Bool → List Tree → Tree
group_of true types = Tree.row 2 (led 0x4e (vector_tree types))
group_of false (t ∷ types) = t
group_of false [] = Tree.nil

-- ---- limits

-- so much where it is set
abbrev pub flag : ℕ → Bool → ℕ
flag n false = 0
flag n true = n

-- The flags of limits: whether there is a maximum, whether they are shared, whether they count in 64 bits, and whether the
-- logarithm of the page size is written.
abbrev pub limits_flags : Bool → Bool → Bool → Bool → ℕ
limits_flags maximum shared wide page = flag 1 maximum + flag 2 shared + flag 4 wide + flag 8 page

-- the minimum, and the maximum behind it
abbrev pub bounds_tree : ℕ → Option ℕ → Tree
bounds_tree minimum None = Tree.u64 minimum
bounds_tree minimum (Some maximum) = Tree.pair (Tree.u64 minimum) (Tree.u64 maximum)

-- the logarithm of the page size behind them
abbrev pub paged_tree : Option ℕ → Tree → Tree
paged_tree None t = t
paged_tree (Some page) t = Tree.pair t (Tree.u32 page)

-- limits behind their flags, which are the row's number
abbrev pub limits_tree : ℕ → Tree → Tree
limits_tree flags t = Tree.row flags (led flags t)

-- ---- what is imported

-- a table: its elements, whether it is shared, whether it counts in 64 bits, and its bounds
abbrev pub table_of : Tree → Bool → Bool → ℕ → Option ℕ → Tree
table_of elements shared wide minimum maximum =
    Tree.pair elements (limits_tree (limits_flags (is_some maximum) shared wide false) (bounds_tree minimum maximum))

-- a memory: the same of it, and the logarithm of its page size
abbrev pub memory_of : Bool → Bool → ℕ → Option ℕ → Option ℕ → Tree
memory_of shared wide minimum maximum page =
    limits_tree (limits_flags (is_some maximum) shared wide (is_some page)) (paged_tree page (bounds_tree minimum maximum))

-- whether a global may change, and whether it is shared
abbrev pub global_flags : Bool → Bool → ℕ
global_flags mutable shared = flag 1 mutable + flag 2 shared

-- a global: the type of its value, and these flags
abbrev pub global_of : Tree → Bool → Bool → Tree
global_of value mutable shared =
    Tree.pair value (Tree.row (global_flags mutable shared) (Tree.fixed (global_flags mutable shared)))

-- a tag, by the index of its type
abbrev pub tag_of : ℕ → Tree
tag_of i = led 0x00 (Tree.ix space.Type_ i)

-- ---- rows of sections

-- a function, by the index of its type
abbrev pub function_tree : ℕ → Tree
function_tree i = Tree.ix space.Type_ i

-- a table that starts with null references
abbrev pub null_table_of : Tree → Tree
null_table_of table = Tree.row 0 table

-- a table that starts with the value of an expression
abbrev pub table_with_init_of : Tree → Tree → Tree
table_with_init_of table init = Tree.row 1 (led 0x40 (led 0x00 (Tree.pair table init)))

-- a global and the expression of its first value
abbrev pub global_with_init_of : Tree → Tree → Tree
global_with_init_of global init = Tree.pair global init

-- a module's name, a name in it, and what is imported
abbrev pub import_of : List ℕ → List ℕ → Tree → Tree
import_of from name t = Tree.pair (Tree.name from) (Tree.pair (Tree.name name) t)

-- a name in a module, and what is imported under it
abbrev pub item_import_of : List ℕ → Tree → Tree
item_import_of name t = Tree.pair (Tree.name name) t

-- imports from one module: by their names with a type each, and by their names of one type
abbrev pub compact_items_of : List ℕ → List Tree → Tree
compact_items_of from items = import_of from [] (Tree.row 6 (led 0x7f (vector_tree items)))

abbrev pub compact_names_of : List ℕ → Tree → List Tree → Tree
compact_names_of from t names = import_of from [] (Tree.row 7 (led 0x7e (Tree.pair t (vector_tree names))))

-- what is exported, of a space and by its index: a function's first byte is the normal one of two
abbrev pub item_of : Space → ℕ → Tree
item_of space.Function i = Tree.row 0 (Tree.pair (Tree.alike 0x00 0x20) (Tree.ix space.Function i))
item_of space.Table i = Tree.row 1 (led 0x01 (Tree.ix space.Table i))
item_of space.Memory i = Tree.row 2 (led 0x02 (Tree.ix space.Memory i))
item_of space.Global i = Tree.row 3 (led 0x03 (Tree.ix space.Global i))
item_of space.Tag i = Tree.row 4 (led 0x04 (Tree.ix space.Tag i))
item_of _ i = no_reading

-- ---- element segments

-- What one lists: functions by their indices, or expressions with their type, and whether this type is the one that the
-- flag 4 stands for, a reference to functions that may be null.
pub data Items : Type 0 where
  functions : List ℕ → Items
  expressions : Bool → Tree → List Tree → Items

abbrev pub function_index_tree : ℕ → Tree
function_index_tree i = Tree.ix space.Function i

-- expressions behind their type, which is visited after them
abbrev pub typed_expressions : Tree → List Tree → Tree
typed_expressions ty es = Tree.swap ty (vector_tree es)

abbrev pub items_of : Items → Tree
items_of (Items.functions is) = vector_tree (map function_index_tree is)
items_of (Items.expressions funcref ty es) = typed_expressions ty es

-- those that are copied to a table by instructions alone
abbrev pub passive_of : Items → Tree
passive_of (Items.functions is) = Tree.row 1 (Tree.pair (Tree.flag 1) (led 0x00 (items_of (Items.functions is))))
passive_of (Items.expressions funcref ty es) = Tree.row 4 (Tree.pair (Tree.flag 5) (items_of (Items.expressions funcref ty es)))

-- those whose functions may be referred to
abbrev pub declared_of : Items → Tree
declared_of (Items.functions is) = Tree.row 2 (Tree.pair (Tree.flag 3) (led 0x00 (items_of (Items.functions is))))
declared_of (Items.expressions funcref ty es) = Tree.row 5 (Tree.pair (Tree.flag 7) (items_of (Items.expressions funcref ty es)))

-- Those that are copied to a table at an offset. A table that is left out is the table 0, which is written where the
-- expressions are of a type that no flag stands for.
abbrev pub active_of : Option ℕ → Tree → Items → Tree
active_of None offset (Items.functions is) = Tree.row 0 (Tree.left Listed.functions offset (items_of (Items.functions is)))
active_of (Some i) offset (Items.functions is) = Tree.row 0 (Tree.aimed Listed.functions i offset (items_of (Items.functions is)))
active_of None offset (Items.expressions true ty es) = Tree.row 3 (Tree.left Listed.expressions offset (vector_tree es))
active_of None offset (Items.expressions false ty es) = Tree.row 3 (Tree.aimed Listed.expressions 0 offset (typed_expressions ty es))
active_of (Some i) offset (Items.expressions funcref ty es) = Tree.row 3 (Tree.aimed Listed.expressions i offset (typed_expressions ty es))

-- a data segment that is placed in a memory, where an expression says
abbrev pub active_data_of : ℕ → Tree → List ℕ → Tree
active_data_of memory offset bytes = Tree.row 0 (Tree.placed memory offset (Tree.content bytes))

-- a passive data segment, of its bytes alone
abbrev pub passive_data_tree : List ℕ → Tree
passive_data_tree bytes = Tree.row 1 (Tree.pair (Tree.flag 1) (Tree.content bytes))

-- ---- immediates

-- the spaces of core modules
abbrev pub is_core : Space → Bool
is_core space.Data = true
is_core space.Element = true
is_core space.Function = true
is_core space.Global = true
is_core space.Memory = true
is_core space.Table = true
is_core space.Tag = true
is_core space.Type_ = true
is_core _ = false

-- a list whose count has a spelling
abbrev pub is_counted : ℕ → Bool
is_counted n = nat_lt n (2 ^ 32)

-- sixteen bytes
abbrev pub are_sixteen : List ℕ → Bool
are_sixteen bs = nat_eq (length bs) 16

-- a tag and a label
abbrev pub tagged_label : Shape
tagged_label = Shape.seq (Shape.ix space.Tag) Shape.u32

abbrev pub tagged_label_tree : ℕ → ℕ → Tree
tagged_label_tree tag label = Tree.pair (Tree.ix space.Tag tag) (Tree.u32 label)

-- what a block catches: the rows of `Catches`
abbrev pub catch_row : Shape
catch_row = choice (lead 0x00 tagged_label ∷ lead 0x01 tagged_label ∷ lead 0x02 Shape.u32 ∷ lead 0x03 Shape.u32 ∷ [])

-- how a tag is handled: the rows of `Handlers`
abbrev pub handle_row : Shape
handle_row = choice (lead 0x00 tagged_label ∷ lead 0x01 (Shape.ix space.Tag) ∷ [])

-- bit 0 says that the first reference of a cast may be null, and bit 1 that the second may
abbrev pub cast_flags : Bool → Bool → ℕ
cast_flags false false = 0
cast_flags true false = 1
cast_flags false true = 2
cast_flags true true = 3

-- a cast: its label, and of each of the two references whether it may be null and what it points to
abbrev pub cast_of : ℕ → Bool → Tree → Bool → Tree → Tree
cast_of label from_nullable from to_nullable to =
    Tree.pair (Tree.byte (cast_flags from_nullable to_nullable)) (Tree.pair (Tree.u32 label) (Tree.pair from to))
