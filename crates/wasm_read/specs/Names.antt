-- What the readers of maps of names promise (WebAssembly Core Specification 3.0, section 7.4.1).
use Rattle.std.specs.Prelude.{◌≡◌, ℕ, ◌+◌, ◌-◌, ◌^◌, ◌<◌, ◌⊎◌, List, [], length, Option, Some, None}
use Rattle.wasm_leb.specs.Place.{BeginsNumber, BeginsNoNumber}
use Rattle.wasm_shapes.specs.Tree.{Tree}
use Rattle.wasm_shapes.specs.Shape.{Shape}
use Rattle.wasm_shapes.specs.Place.{Begins}
use Rattle.wasm_shapes.specs.Rows.{RowsLeft}
use Rattle.wasm_shapes.specs.Types.{rows_tree}
use Rattle.wasm_shapes.specs.Module.{plain_naming}
use Rattle.wasm_shapes.specs.Namings.{Entry, Outer, plain_indirect, entries_trees, outer_tree, outers_trees}
use Rattle.wasm_read.specs.Reading.{Standing, RowMissing}

-- Where a reader of a map stands: the bytes that are left, the number of entries that are left in them, or none where the count
-- stands in front of them, and how long the whole map is.
pub record MapStanding : Type 0 where
  pub rest : List ℕ
  pub left : Option ℕ
  pub len : ℕ

-- a map of these bytes, of which nothing was read
abbrev pub whole_map : List ℕ → MapStanding
whole_map bytes = record { rest = bytes; left = None; len = length bytes }

-- its place in the map
abbrev pub map_place : MapStanding → ℕ
map_place m = m.len - length m.rest

-- so many entries are due in these bytes
abbrev pub DueFrom : List ℕ → Option ℕ → ℕ → List ℕ → Type 0
DueFrom rest None n bytes = BeginsNumber 128 32 32 rest n bytes
DueFrom rest (Some k) n bytes = (n ≡ k) × (bytes ≡ rest)

abbrev pub Due : MapStanding → ℕ → List ℕ → Type 0
Due m n bytes = DueFrom m.rest m.left n bytes

-- what the map still has is these entries of a shape, and nothing is left behind them
pub record EntriesLeft (row : Shape) (m : MapStanding) (rows : Tree) : Type 0 where
  pub count : ℕ
  pub bytes : List ℕ
  pub due : Due m count bytes
  pub rows_left : RowsLeft row count bytes rows

-- the same, by their values
abbrev pub NamesLeft : MapStanding → List Entry → Type 0
NamesLeft m es = EntriesLeft plain_naming m (rows_tree (entries_trees es))

abbrev pub IndirectLeft : MapStanding → List Outer → Type 0
IndirectLeft m os = EntriesLeft plain_indirect m (rows_tree (outers_trees os))

-- An entry was read, and the reader stands behind it.
pub record EntryRead (row : Shape) (old : MapStanding) (tree : Tree) (new : MapStanding) : Type 0 where
  pub left : ℕ
  pub bytes : List ℕ
  pub due : Due old (left + 1) bytes
  pub fits : left + 1 < 2 ^ 32
  pub begins : Begins row bytes tree new.rest
  pub counts : new.left ≡ Some left
  pub len : new.len ≡ old.len

-- An entry begins there, and its names are this map, of which nothing was read.
pub record IndirectBegins (bytes : List ℕ) (index : ℕ) (names : MapStanding) (behind : List ℕ) : Type 0 where
  pub entries : List Entry
  pub body : List ℕ
  pub fresh : names ≡ whole_map body
  pub whole : NamesLeft names entries
  pub begins : Begins plain_indirect bytes (outer_tree (record { index = index; names = entries })) behind

-- An entry was read, and its names are this map, of which nothing was read.
pub record IndirectRead (old : MapStanding) (index : ℕ) (names : MapStanding) (new : MapStanding) : Type 0 where
  pub entries : List Entry
  pub body : List ℕ
  pub fresh : names ≡ whole_map body
  pub whole : NamesLeft names entries
  pub read : EntryRead plain_indirect old (outer_tree (record { index = index; names = entries })) new

-- where a reader of rows stands that has so many entries of a map to read from these bytes
abbrev pub standing_due : MapStanding → ℕ → List ℕ → Standing
standing_due m n bytes = record { rest = bytes; left = n; len = m.len; count = n }

-- The fault stands here: the count is due and no number begins, or no entry begins where one is due, or bytes are left where none
-- is due.
abbrev pub FaultHere : Shape → MapStanding → Type 0
FaultHere row m = ((m.left ≡ None) × BeginsNoNumber 128 32 32 m.rest) ⊎ ((count : ℕ) × (bytes : List ℕ) × Due m count bytes × RowMissing row (standing_due m count bytes))

-- No count or no entry begins where one is due, or bytes are left behind the last; and so what the map still has is no entries
-- with nothing behind them.
pub record EntryMissing (row : Shape) (old : MapStanding) : Type 0 where
  pub here : FaultHere row old
  pub none : (rows : Tree) → EntriesLeft row old rows → ⊥

-- No entry is left, nor anything else.
pub record EntriesEnded (old : MapStanding) : Type 0 where
  pub due : Due old 0 []

-- ---- name sections

-- Where a reader of a name section stands: the bytes that are left, and how long its whole body is.
pub record NamesStanding : Type 0 where
  pub rest : List ℕ
  pub len : ℕ

-- its place in its body
abbrev pub names_place : NamesStanding → ℕ
names_place reader = reader.len - length reader.rest
