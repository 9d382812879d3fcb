-- What a call that maps rows promises where scopes are open round them, and no row may open one too many.
use Rattle.std.specs.Prelude.{◌≡◌, ◌≢◌, ◌⊎◌, ◌-◌, ◌<◌, ℕ, List, [], ◌++◌, length, Result, IfOk, IfErr, IsTrue}
use Rattle.wasm_shapes.specs.Shape.{Shape}
use Rattle.wasm_shapes.specs.Tree.{Tree, count}
use Rattle.wasm_shapes.specs.Place.{Begins}
use Rattle.wasm_shapes.specs.Depth.{Shallow, BeginsNoneAt}
use Rattle.wasm_shapes.specs.Rows.{RowsLeft}
use Rattle.wasm_shapes.specs.Types.{rows_tree}
use Rattle.wasm_read.specs.Reading.{Standing}
use Rattle.wasm_read_component.specs.Scoped.{ScopedStanding}
use Rattle.reencode_hooks.specs.declared.error.Error.{Error}
use Rattle.reencode_hooks.specs.declared.indices.ReencodeIndices.{Ghosts}
use Rattle.reencode_core.specs.Clauses.{asks}
use Rattle.reencode_core.specs.Errors.{IfParse, IfRefused}
use Rattle.reencode_core.specs.Holds.{HoldsRows}
use Rattle.reencode_core.specs.Leaves.{LeavesMade, Text}
use Rattle.reencode_core.specs.Rows.{AcceptsRows, Asks, GivesAll, KeepsFront, RowsBefore, StopsAtRow}

-- a reader of rows round which so many scopes are open
abbrev pub standing_at : ℕ → Standing → ScopedStanding
standing_at depth reader = record { rows = reader; depth = depth }

-- where so many scopes are open round them, none of these rows opens one too many
abbrev pub AllShallow : ℕ → Tree → Type 0
AllShallow depth rows = 0 < count rows → Shallow depth rows

-- the rows that a reader has still to read, none of which opens a scope too many
pub record ShallowRows (row : Shape) (reader : ScopedStanding) (rows : Tree) : Type 0 where
  pub left : RowsLeft row reader.rows.left reader.rows.rest rows
  pub shallow : AllShallow reader.depth rows

-- Rows stand there, none of which opens a scope too many, and then the next one is due and no such row begins, or bytes are left
-- behind the last.
pub record ShallowUpTo (row : Shape) (reader : ScopedStanding) (t : Tree) (rest : List ℕ) : Type 0 where
  pub rows : List Tree
  pub are : t ≡ rows_tree rows
  pub front : RowsBefore row reader.rows.rest rows rest
  pub shallow : AllShallow reader.depth t
  pub missing : ((length rows < reader.rows.left) × BeginsNoneAt row reader.depth rest) ⊎ ((length rows ≡ reader.rows.left) × (rest ≢ []))

-- rows that a reader still has
abbrev pub shallow_rows_in : Shape → ScopedStanding → Text
shallow_rows_in row reader = record { bytes = reader.rows.rest; reads = ShallowRows row reader; faulty = ShallowUpTo row reader }

-- At this place such rows end, and the bytes are none. The rows before it were accepted, and what they became was added.
pub record ShallowFault {S E : Type 0} (asked : Asks S E) (c : ℕ) (row : Shape) (reader : ScopedStanding) (before after : S × List Tree) (at : ℕ) : Type 0 where
  pub none : (rows : Tree) → ShallowRows row reader rows → ⊥
  pub front : Tree
  pub rest : List ℕ
  pub up_to : ShallowUpTo row reader front rest
  pub made : List Tree
  pub state : S
  pub place : at ≡ reader.rows.len - length rest
  pub accepts : AcceptsRows asked c before.0 up_to.rows made state
  pub gains : after.1 ≡ before.1 ++ made

-- Rows stand there, none of which opens a scope too many, and were accepted, and what they became was added; the next one, which is due
-- and opens none too many either, is refused, or is one too many.
pub record StopsShallow {S E : Type 0} (asked : Asks S E) (c : ℕ) (row : Shape) (reader : ScopedStanding) (before : S × List Tree) (e : Error E) (after : S × List Tree) : Type 0 where
  pub stops : StopsAtRow asked c row reader.rows before e after
  pub shallow : AllShallow reader.depth (rows_tree stops.read)
  pub next : (t : Tree) (left : List ℕ) → Begins row stops.rest t left → Shallow reader.depth t

-- Each row became another and was added, or the first that is refused ends it, or bytes without such a row are told by their place.
pub record GivesShallow {S E : Type 0} (asked : Asks S E) (c : ℕ) (row : Shape) (reader : ScopedStanding) (before after : S × List Tree)
    (result : Result (Unit {0}) (Error E)) : Type 0 where
  pub reading : (rows : Tree) → ShallowRows row reader rows → GivesAll asked c before rows after result
  pub readable : IfOk result (λ _. (rows : Tree) × ShallowRows row reader rows)
  pub unreadable : IfErr result (λ e. IfParse e (ShallowFault asked c row reader before after))
  pub refusal : IfErr result (λ e. IfRefused e (StopsShallow asked c row reader before e after))

-- The rows that a reader still has are mapped, and each is added once it is mapped.
abbrev pub ShallowRowsClauses : {S E : Type 0} → Ghosts S E → Shape → ScopedStanding → S → List Tree → S → List Tree → Result (Unit {0}) (Error E) → Type 0
ShallowRowsClauses i row reader s old m new result =
    record {
      kept : KeepsFront old new;
      default : IsTrue i.keeps_defaults → (c : ℕ) → GivesShallow (asks i) c row reader (s, old) (m, new) result;
      after_error : IsTrue i.keeps_defaults → LeavesMade i.sure (asks i) (shallow_rows_in row reader) s m result;
      wants : IsTrue i.keeps_defaults → IsTrue i.sure → (c : ℕ) → HoldsRows (asks i) c row reader.rows (s, old) (m, new) result;
    }
