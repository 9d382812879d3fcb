-- What the calls that map rows give.
use Rattle.std.specs.Prelude.{◌≡◌, ◌≢◌, ◌+◌, ◌-◌, ◌^◌, ◌<◌, ◌⊎◌, ℕ, List, [], ◌∷◌, ◌++◌, length, take, true, Result, Ok, Err, IfOk, IfErr}
use Rattle.wasm_shapes.specs.Shape.{Shape}
use Rattle.wasm_shapes.specs.Tree.{Tree}
use Rattle.wasm_shapes.specs.Spells.{Is, Spelled}
use Rattle.wasm_shapes.specs.Place.{Begins, BeginsNone}
use Rattle.wasm_shapes.specs.Rows.{RowsLeft, NoRows, rows_then}
use Rattle.wasm_shapes.specs.Module.{local_row, code_row}
use Rattle.wasm_read.specs.Operations.{frame_row}
use Rattle.wasm_read.specs.Reading.{Standing}
use Rattle.wasm_write.specs.Counts.{counts, IsTooLarge}
use Rattle.reencode_hooks.specs.declared.error.Error.{Error}
use Rattle.reencode_hooks.specs.declared.error.Error.TheVariants.{TooLarge, NoMemory}
use Rattle.reencode_hooks.specs.Run.{accepted, refused}
use Rattle.reencode_hooks.specs.Walk.{walk}
pub use Rattle.reencode_items.specs.Rows.{Asks, onto_rows, AcceptsRows}
use Rattle.reencode_core.specs.Errors.{IfParse, IfRefused}

-- the second begins with the first
abbrev pub KeepsFront : {R : Type 0} → List R → List R → Type 0
KeepsFront old new = take (length old) new ≡ old

-- all visits of the row are accepted: under some ceiling the walk of it is
pub record AcceptedHooks {S E : Type 0} (asked : Asks S E) (s : S) (row : Tree) (m : S) : Type 0 where
  pub ceiling : ℕ
  pub made : Tree
  pub walked : walk asked ceiling s row ≡ accepted made m

-- a section of so many rows holds no further one
abbrev pub TooMany : {E : Type 0} → Error E → ℕ → Type 0
TooMany (TooLarge size) n = (size ≡ n + 1) × (2 ^ 32 - 1 < size)
TooMany _ n = ⊥

-- the first of these rows is refused; or its visits are accepted, and it is one too many
pub record RefusesFirst {S E : Type 0} (asked : Asks S E) (c : ℕ) (s : S) (rows : Tree) (n : ℕ) (e : Error E) (m : S) : Type 0 where
  pub row : Tree
  pub behind : Tree
  pub parts : rows ≡ Tree.cons row behind
  pub refusal : (walk asked c s row ≡ refused e m) ⊎ (AcceptedHooks asked s row m × TooMany e n)

-- The rows before the refused one were accepted, and what they became was added, and no more.
pub record StopsRows {S E : Type 0} (asked : Asks S E) (c : ℕ) (before : S × List Tree) (rows : Tree) (after : S × List Tree) (e : Error E) : Type 0 where
  pub read : List Tree
  pub others : Tree
  pub made : List Tree
  pub at : S
  pub parts : rows ≡ rows_then read others
  pub accepts : AcceptsRows asked c before.0 read made at
  pub counted : length made ≡ length read
  pub gains : after.1 ≡ before.1 ++ made
  pub refuses : e ≢ NoMemory → RefusesFirst asked c at others (length after.1) e after.0

-- The rows became others, which were added, or one of them was refused.
abbrev pub GivesAll : {S E : Type 0} → Asks S E → ℕ → S × List Tree → Tree → S × List Tree → Result (Unit {0}) (Error E) → Type 0
GivesAll asked c before rows after (Ok _) =
    (made : List Tree) × (walk asked c before.0 rows ≡ accepted (rows_then made Tree.nil) after.0) × (after.1 ≡ before.1 ++ made)
GivesAll asked c before rows after (Err e) = StopsRows asked c before rows after e

-- ---- one row

-- a count or a length of this row is too large, or the section holds no further one
abbrev pub TooLargeRow : {E : Type 0} → Error E → Tree → ℕ → Type 0
TooLargeRow (TooLarge size) u n = IsTooLarge (counts u ++ (n + 1) ∷ []) size
TooLargeRow _ u n = ⊥

-- all visits of the row are accepted, and what it became is too large
pub record TooLargeMade {S E : Type 0} (asked : Asks S E) (s : S) (row : Tree) (n : ℕ) (e : Error E) (m : S) : Type 0 where
  pub accepts : AcceptedHooks asked s row m
  pub large : TooLargeRow e accepts.made n

-- The row became another, which was added, or it was refused, and nothing was added.
abbrev pub GivesRow : {S E : Type 0} → Asks S E → ℕ → S × List Tree → Tree → S × List Tree → Result (Unit {0}) (Error E) → Type 0
GivesRow asked c before t after (Ok _) = (u : Tree) × (walk asked c before.0 t ≡ accepted u after.0) × (after.1 ≡ before.1 ++ u ∷ [])
GivesRow asked c before t after (Err e) =
    (after.1 ≡ before.1)
    × (e ≢ NoMemory → (walk asked c before.0 t ≡ refused e after.0) ⊎ TooLargeMade asked before.0 t (length before.1) e after.0)

-- ---- bytes that are no rows

-- these rows stand in front of what is left
pub record RowsBefore (row : Shape) (bytes : List ℕ) (rows : List Tree) (rest : List ℕ) : Type 0 where
  pub text : List ℕ
  pub shaped : Is (Shape.many row) (rows_then rows Tree.nil)
  pub spelled : Spelled (rows_then rows Tree.nil) text
  pub stands : bytes ≡ text ++ rest

-- At this place a row is due and none begins, or bytes are left behind the last row. All rows before it were accepted, and
-- what they became was added.
pub record RowsFault {S E : Type 0} (asked : Asks S E) (c : ℕ) (row : Shape) (reader : Standing) (before after : S × List Tree) (at : ℕ) : Type 0 where
  pub none : NoRows row reader.left reader.rest
  pub read : List Tree
  pub rest : List ℕ
  pub made : List Tree
  pub state : S
  pub front : RowsBefore row reader.rest read rest
  pub missing : ((length read < reader.left) × BeginsNone row rest) ⊎ ((length read ≡ reader.left) × (rest ≢ []))
  pub place : at ≡ reader.len - length rest
  pub accepts : AcceptsRows asked c before.0 read made state
  pub gains : after.1 ≡ before.1 ++ made

-- ---- what was refused

abbrev pub locals : Shape
locals = Shape.vec local_row

-- Items of a shape stand there and were accepted, and the next one stands whole and is refused.
pub record StopsEach {S E : Type 0} (asked : Asks S E) (c : ℕ) (item : Shape) (start : List ℕ) (s : S) (e : Error E) (m : S) : Type 0 where
  pub read : List Tree
  pub rest : List ℕ
  pub made : List Tree
  pub state : S
  pub before : RowsBefore item start read rest
  pub accepts : AcceptsRows asked c s read made state
  pub next : Tree
  pub left : List ℕ
  pub begins : Begins item rest next left
  pub refuses : walk asked c state next ≡ refused e m

-- the same of operators
abbrev pub StopsOperators : {S E : Type 0} → Asks S E → ℕ → List ℕ → S → Error E → S → Type 0
StopsOperators asked c start s e m = StopsEach asked c (Shape.op true) start s e m

-- The locals that a body begins with are refused; or they are accepted, and an operator behind them is refused.
abbrev pub StopsBody : {S E : Type 0} → Asks S E → ℕ → List ℕ → S → Error E → S → Type 0
StopsBody {S} asked c bytes s e m =
    ((t : Tree) × (start : List ℕ) × Begins locals bytes t start × (walk asked c s t ≡ refused e m))
    ⊎ ((t : Tree) × (start : List ℕ) × (u : Tree) × (n : S) × Begins locals bytes t start × (walk asked c s t ≡ accepted u n) × StopsOperators asked c start n e m)

-- A row stands whole there, and it is refused.
pub record RefusesRow {S E : Type 0} (asked : Asks S E) (c : ℕ) (row : Shape) (bytes : List ℕ) (s : S) (e : Error E) (m : S) : Type 0 where
  pub tree : Tree
  pub left : List ℕ
  pub begins : Begins row bytes tree left
  pub refusal : walk asked c s tree ≡ refused e m

-- The same; or its visits are accepted, and it is one too many behind so many rows.
pub record RefusesWhole {S E : Type 0} (asked : Asks S E) (c : ℕ) (row : Shape) (bytes : List ℕ) (s : S) (n : ℕ) (e : Error E) (m : S) : Type 0 where
  pub tree : Tree
  pub left : List ℕ
  pub begins : Begins row bytes tree left
  pub refusal : (walk asked c s tree ≡ refused e m) ⊎ (AcceptedHooks asked s tree m × TooMany e n)

-- The frame of a function body stands there, and a part of that body is refused.
pub record RefusesInside {S E : Type 0} (asked : Asks S E) (c : ℕ) (row : Shape) (bytes : List ℕ) (s : S) (e : Error E) (m : S) : Type 0 where
  pub framed : row ≡ code_row
  pub body : List ℕ
  pub left : List ℕ
  pub begins : Begins frame_row bytes (Tree.sized (Tree.raw body)) left
  pub stops : StopsBody asked c body s e m

-- Rows stand there and were accepted, and what they became was added; the next one, which is due, is refused, or is one too many.
pub record StopsAtRow {S E : Type 0} (asked : Asks S E) (c : ℕ) (row : Shape) (reader : Standing) (before : S × List Tree) (e : Error E)
    (after : S × List Tree) : Type 0 where
  pub read : List Tree
  pub rest : List ℕ
  pub made : List Tree
  pub state : S
  pub front : RowsBefore row reader.rest read rest
  pub due : length read < reader.left
  pub accepts : AcceptsRows asked c before.0 read made state
  pub counted : length made ≡ length read
  pub gains : after.1 ≡ before.1 ++ made
  pub refuses : RefusesWhole asked c row rest state (length after.1) e after.0 ⊎ RefusesInside asked c row rest state e after.0

-- Rows stand there and were accepted, and the next one, which is due, is refused.
pub record StopsDue {S E : Type 0} (asked : Asks S E) (c : ℕ) (row : Shape) (reader : Standing) (s : S) (e : Error E) (m : S) : Type 0 where
  pub read : List Tree
  pub rest : List ℕ
  pub made : List Tree
  pub state : S
  pub front : RowsBefore row reader.rest read rest
  pub due : length read < reader.left
  pub accepts : AcceptsRows asked c s read made state
  pub refuses : RefusesRow asked c row rest state e m ⊎ RefusesInside asked c row rest state e m

-- ---- a section of rows

-- Each row became another and was added, or the first that is refused ends it, or bytes without a row are told by their
-- place.
pub record GivesRows {S E : Type 0} (asked : Asks S E) (c : ℕ) (row : Shape) (reader : Standing) (before after : S × List Tree)
    (result : Result (Unit {0}) (Error E)) : Type 0 where
  pub reading : (rows : Tree) → RowsLeft row reader.left reader.rest rows → GivesAll asked c before rows after result
  pub readable : IfOk result (λ _. (rows : Tree) × RowsLeft row reader.left reader.rest rows)
  pub unreadable : IfErr result (λ e. IfParse e (RowsFault asked c row reader before after))
  pub refusal : IfErr result (λ e. IfRefused e (StopsAtRow asked c row reader before e after))
