-- What a sink holds after `NoMemory`: what the rows or the sections before the one at which it ran out became, and no more.
use Rattle.std.specs.Prelude.{◌≡◌, ◌+◌, ◌<◌, ℕ, List, ◌++◌, length, Result, IfErr}
use Rattle.wasm_shapes.specs.declared.Visit.{Visit}
use Rattle.wasm_shapes.specs.Drawn.{Drawn}
use Rattle.wasm_shapes.specs.Shape.{Shape}
use Rattle.wasm_shapes.specs.Tree.{Tree, normal, visits}
use Rattle.wasm_shapes.specs.Place.{Begins}
use Rattle.wasm_shapes.specs.Rows.{RowsLeft, rows_then}
use Rattle.wasm_shapes.specs.Module.{code_row, frame, alsos, InFrame, CoreReading}
use Rattle.wasm_read.specs.Operations.{frame_row}
use Rattle.wasm_read.specs.Reading.{Standing}
use Rattle.wasm_write.specs.Sections.{Sections, SectionRow, sections_bytes}
use Rattle.reencode_hooks.specs.declared.error.Error.{Error}
use Rattle.reencode_hooks.specs.declared.error.Error.TheVariants.{NoMemory}
use Rattle.reencode_hooks.specs.Hooks.{Gains}
use Rattle.reencode_hooks.specs.Run.{Visited}
use Rattle.reencode_core.specs.Rows.{Asks, AcceptsRows, RowsBefore}
use Rattle.reencode_core.specs.Leaves.{EndsBy, IsFront, Leaves, body_in}
use Rattle.reencode_core.specs.Weave.{Puts}
use Rattle.reencode_core.specs.Woven.{AddedBefore, WovenFront}

-- the fact, where memory ran out
abbrev pub IfWants : {E A : Type 0} → Result A (Error E) → Type 0 → Type 0
IfWants result P = IfErr result (λ e. e ≡ NoMemory → P)

-- ---- rows

-- Of what stands there, where so many rows are due, nothing was asked; or a row stands there, and a front part of its visits was made;
-- or the frame of a function body does, and that body was asked in part, whether it has a reading or not.
pub data AskedRow {S E : Type 0} (asked : Asks S E) (row : Shape) (due : ℕ) (rest : List ℕ) (s m : S) : Type 0 where
  nothing : m ≡ s → AskedRow asked row due rest s m
  whole : (t : Tree) (left : List ℕ) → 0 < due → Begins row rest t left → Visited asked s (visits t) m → AskedRow asked row due rest s m
  framed : (body left : List ℕ) → 0 < due → row ≡ code_row → Begins frame_row rest (Tree.sized (Tree.raw body)) left → Leaves asked (body_in body) s NoMemory m →
      AskedRow asked row due rest s m

-- Rows stand there and were accepted, and what they became was added, and no more; the next one was asked in part, or nothing was asked
-- behind them. Of a reading they are the first rows.
pub record HoldsMade {S E : Type 0} (asked : Asks S E) (c : ℕ) (row : Shape) (reader : Standing) (before after : S × List Tree) : Type 0 where
  pub read : List Tree
  pub rest : List ℕ
  pub due : ℕ
  pub made : List Tree
  pub state : S
  pub front : RowsBefore row reader.rest read rest
  pub numbered : reader.left ≡ length read + due
  pub parts : (rows : Tree) → RowsLeft row reader.left reader.rest rows → (others : Tree) × (rows ≡ rows_then read others)
  pub accepts : AcceptsRows asked c before.0 read made state
  pub counted : length made ≡ length read
  pub gains : after.1 ≡ before.1 ++ made
  pub next : AskedRow asked row due rest state after.0

-- the same after a call in which memory ran out
abbrev pub HoldsRows : {S E : Type 0} → Asks S E → ℕ → Shape → Standing → S × List Tree → S × List Tree → Result (Unit {0}) (Error E) → Type 0
HoldsRows asked c row reader before after result = IfWants result (HoldsMade asked c row reader before after)

-- ---- sections

-- A section in a frame was asked in part: these visits were made, drawn from these bytes, and of each reading of it they are a front part.
pub record FrameLeaves {S E : Type 0} (asked : Asks S E) (bytes : List ℕ) (f : Tree) (s : S) (e : Error E) (m : S) : Type 0 where
  pub made : List Visit
  pub ended : EndsBy asked s made e m
  pub drawn : Drawn bytes made
  pub reading : (t : Tree) → InFrame t f → IsFront made (visits t)

-- Sections stand behind the header and were accepted, and what they became was added, with what the section hook adds before each and
-- the closing hook behind it; the next one stands in its frame, all that the section hook adds before it was added, and no more, and
-- that section was asked in part. Of a reading they are the first sections.
pub record HoldsSections {S E : Type 0} (asked : Asks S E) (adds : Puts S SectionRow) (c : ℕ) (bytes : List ℕ) (before after : S × Sections) : Type 0 where
  pub front : WovenFront asked adds c bytes before.0
  pub parts : (t : Tree) → CoreReading bytes t → (others : Tree) × (t ≡ alsos front.read others)
  pub rows : List SectionRow
  pub own : List SectionRow
  pub next : Tree
  pub left : List ℕ
  pub state : S
  pub framed : Begins frame front.rest next left
  pub hooked : AddedBefore asked adds front.last front.at next state own
  pub spelled : sections_bytes rows ≡ normal (alsos front.made Tree.finish)
  pub gains : Gains before.1 after.1 (rows ++ own)
  pub inside : FrameLeaves asked framed.text next state NoMemory after.0

-- the same after a call in which memory ran out
abbrev pub HoldsCore : {S E : Type 0} → Asks S E → Puts S SectionRow → List ℕ → S × Sections → S × Sections → Result (Unit {0}) (Error E) → Type 0
HoldsCore asked adds bytes before after result = IfWants result (HoldsSections asked adds before.1.ceiling bytes before after)
