-- What the walks over maps of names promise: which calls were made, what became of them, and the state that they left.
--
-- `step f i r g`: a call of f at the index i may answer r and leave f as g. Under a bound `F` it is `F.step`.
use Rattle.std.specs.Prelude.{◌≡◌, ◌⊎◌, ℕ, List, map, Result, Ok, Err}
use Rattle.std.specs.List.{FoldsTo}
use Rattle.wasm_shapes.specs.Shape.{Shape}
use Rattle.wasm_shapes.specs.Tree.{Tree}
use Rattle.wasm_shapes.specs.Types.{rows_tree}
use Rattle.wasm_shapes.specs.Namings.{Entry, entries_trees}
use Rattle.wasm_read.specs.Names.{MapStanding, map_place, EntryRead, EntryMissing, EntriesLeft, NamesLeft}
use Rattle.reencode_hooks.specs.declared.error.Error.{Error}
use Rattle.reencode_hooks.specs.declared.error.Error.TheVariants.{ParseError, NoMemory}

-- an index, what it names, and the answer to the index
pub record Asked : Type 0 where
  pub index : ℕ
  pub named : Tree
  pub answer : ℕ

abbrev pub entry_of : ℕ → Tree → Tree
entry_of i t = Tree.pair (Tree.u32 i) t

-- the entries that were asked for
abbrev pub entries_of : List Asked → List Tree
entries_of = map (λ a. entry_of a.index a.named)

-- the same, each index replaced by its answer
abbrev pub renamed : List Asked → List Tree
renamed = map (λ a. entry_of a.answer a.named)

-- One call for each of these entries, in order, and no other: each answered Ok, and they left the second state.
abbrev pub Calls : {F E : Type 0} → (F → ℕ → Result ℕ (Error E) → F → Type 0) → F → List Asked → F → Type 0
Calls step = FoldsTo (λ f a g. step f a.index (Ok a.answer) g)

-- these entries were read one behind another, and this is left
abbrev pub ReadTo : Shape → MapStanding → List Asked → MapStanding → Type 0
ReadTo row = FoldsTo (λ m a n. EntryRead row m (entry_of a.index a.named) n)

-- What the map still had is entries and nothing behind them, there was one call for each, and these are the entries with the
-- answers.
pub record Mapped {F E : Type 0} (row : Shape) (step : F → ℕ → Result ℕ (Error E) → F → Type 0) (m : MapStanding) (old new : F) (entries : List Tree) : Type 0 where
  pub asked : List Asked
  pub whole : EntriesLeft row m (rows_tree (entries_of asked))
  pub calls : Calls step old asked new
  pub answers : entries ≡ renamed asked

-- The next entry was read, and the call for it was refused.
pub record CallRefused {F E : Type 0} (row : Shape) (step : F → ℕ → Result ℕ (Error E) → F → Type 0) (rest : MapStanding) (between new : F) (e : Error E) : Type 0 where
  pub index : ℕ
  pub named : Tree
  pub behind : MapStanding
  pub read : EntryRead row rest (entry_of index named) behind
  pub call : step between index (Err e) new

-- No call was refused, and what the map had is no entries with nothing behind them: the fault stands right behind those that were
-- asked for, and the error tells of that place in the map.
pub record Unread {F E : Type 0} (row : Shape) (m rest : MapStanding) (between new : F) (e : Error E) : Type 0 where
  pub parse : e ≡ ParseError (record { at = map_place rest })
  pub none : (rows : Tree) → EntriesLeft row m rows → ⊥
  pub missing : EntryMissing row rest
  pub state : new ≡ between

-- No call was refused, and memory runs out.
pub record Wants {F E : Type 0} (between new : F) (e : Error E) : Type 0 where
  pub memory : e ≡ NoMemory
  pub state : new ≡ between

-- There was one call for each entry of a front of the map, all answered Ok; and then there was one more, which refused, or the
-- map is no such, or memory runs out.
pub record Stopped {F E : Type 0} (row : Shape) (step : F → ℕ → Result ℕ (Error E) → F → Type 0) (m : MapStanding) (old new : F) (e : Error E) : Type 0 where
  pub asked : List Asked
  pub rest : MapStanding
  pub reads : ReadTo row m asked rest
  pub between : F
  pub calls : Calls step old asked between
  pub why : CallRefused row step rest between new e ⊎ Unread row m rest between new e ⊎ Wants between new e

-- what the walk answers, and the state that it leaves
abbrev pub MapsEntries : {F E : Type 0} → Shape → (F → ℕ → Result ℕ (Error E) → F → Type 0) → MapStanding → F → F → Result (List Tree) (Error E) → Type 0
MapsEntries row step m old new (Ok entries) = Mapped row step m old new entries
MapsEntries row step m old new (Err e) = Stopped row step m old new e

-- What a map that is whole became: its entries as they are; or memory runs out.
abbrev pub KeepsNames : {E : Type 0} → MapStanding → Result (List Tree) (Error E) → Type 0
KeepsNames m (Ok trees) = (es : List Entry) → NamesLeft m es → trees ≡ entries_trees es
KeepsNames m (Err e) = (es : List Entry) → NamesLeft m es → e ≡ NoMemory
