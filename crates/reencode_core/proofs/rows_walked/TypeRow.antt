-- A group of types that is mapped from bytes to bytes, as a row of a section.
use Rattle.std.proofs.Common.{◌≡◌, ℕ, ◌+◌, ◌^◌, true, false, List, length, None, Result, Ok, Err, IsErrAnd, refl, arith}
use Rattle.wasm_shapes.specs.Tree.{Tree}
use Rattle.wasm_shapes.specs.Shape.{Named, Shape}
use Rattle.wasm_shapes.specs.Place.{Begins}
use Rattle.wasm_read.specs.Reading.{Standing, RowRead}
use Rattle.wasm_write.specs.Held.{AddsIf}
use Rattle.wasm_write.specs.declared.fault.WriteFault.TheVariants as fault
use Rattle.reencode_hooks.specs.declared.error.Error.{Error}
use Rattle.reencode_hooks.specs.declared.error.Error.TheVariants.{TooLarge}
use Rattle.reencode_hooks.specs.declared.indices.ReencodeIndices.{Ghosts}
use Rattle.reencode_items.specs.Streams.{Streams}
use Rattle.reencode_core.specs.Clauses.{RowClauses, RowsClauses}
use Rattle.reencode_core.specs.Direct.{GroupMapped, GroupRefused}
use Rattle.reencode_core.proofs.rows_walked.EachRow.{RowsKept, rows_added, rows_refused_at}
use Rattle.reencode_core.proofs.rows_walked.OneRow.{one_too_many, row_mapped, row_not_added, row_unmapped}

abbrev pub group : Shape
group = Shape.ref Named.group

module _ {S E : Type 0} (i : Ghosts S E) {bytes : List ℕ} {s m : S} where
  -- none stands there
  pub group_absent : {old new : List ℕ} (e : Error E) → Streams i group bytes s old m new (Ok None) → GroupRefused i bytes s e m
  group_absent e g = record { refuses = λ keeps t l p other c. absurd (g.gives.1 t l p); visited = λ keeps sure t l p. absurd (g.gives.1 t l p) }

  -- ---- the row

  module _ {old new : List Tree} (t : Tree) (left : List ℕ) (p : Begins group bytes t left) where
    pub row_added : AddsIf (λ u. GroupMapped i bytes s u m) old new true → RowClauses i t s old m new (Ok tt)
    row_added h = row_mapped i t (λ (u : Tree). u) s m h.0 (λ keeps c. h.1 keeps t left p c) h.2

    -- it is one too many
    pub row_too_many : AddsIf (λ u. GroupMapped i bytes s u m) old new false → RowClauses i t s old m new (Err (TooLarge (2 ^ 32)))
    row_too_many h =
        row_not_added i t (λ (u : Tree). u) s m h.0 (fault.TooLarge (2 ^ 32)) (λ keeps c. h.1 keeps t left p c) h.2
        (one_too_many h.0 (length old) (fault.TooLarge (2 ^ 32)) (let all : length old + 1 ≡ 2 ^ 32 = h.3 in (omega (arith, all), omega arith))) (Err (TooLarge (2 ^ 32))) refl

    pub row_refused : (e : Error E) → new ≡ old → GroupRefused i bytes s e m → RowClauses i t s old m new (Err e)
    row_refused e same g =
        row_unmapped i t (λ (u : Tree). u) s m e (λ keeps c other. g.refuses keeps t left p other c) (λ keeps sure. g.visited keeps sure t left p) same (Err e) refl

-- ---- the rows

-- the bytes where a reader's next row begins, and the reader behind it
abbrev pub GroupGiven : List ℕ → Standing → Standing → Type 0
GroupGiven bytes old new = (bytes ≡ old.rest) × ((t : Tree) × RowRead group old t new)

-- a call that maps the row that begins there
abbrev pub GroupClauses : {S E : Type 0} → Ghosts S E → List ℕ → S → List Tree → S → List Tree → Result (Unit {0}) (Error E) → Type 0
GroupClauses i bytes s old m new r = (t : Tree) (left : List ℕ) → Begins group bytes t left → RowClauses i t s old m new r

module _ {S E : Type 0} (i : Ghosts S E) {start reader reader' : Standing} {s0 s : S} {old new : List Tree} {bytes : List ℕ} (inv : RowsKept i group start s0 old reader s new)
    (row : GroupGiven bytes reader reader') where
  there : Begins group bytes row.1.0 reader'.rest
  there = rw row.0 row.1.1.begins

  pub group_added : {m : S} {new' : List Tree} → GroupClauses i bytes s new m new' (Ok tt) → RowsKept i group start s0 old reader' m new'
  group_added given = rows_added i inv row.1.1 (given row.1.0 reader'.rest there)

  pub group_refused : {m : S} {new' : List Tree} (e : Error E) → GroupClauses i bytes s new m new' (Err e) → (r : Result (Unit {0}) (Error E)) → IsErrAnd r (λ y. y ≡ e) → RowsClauses i group start s0 old m new' r
  group_refused e given r q = rows_refused_at i inv row.1.1 e (given row.1.0 reader'.rest there) r q
