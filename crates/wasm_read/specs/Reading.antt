-- What the readers of sections promise.
use Rattle.std.specs.Prelude.{◌≡◌, ◌≢◌, ℕ, ◌+◌, ◌-◌, ◌<◌, ◌⊎◌, Bool, true, false, List, [], length}
use Rattle.wasm_leb.specs.declared.fault.Fault.{Fault}
use Rattle.wasm_leb.specs.declared.fault.Fault.TheVariants as fault
use Rattle.wasm_leb.specs.Place.{BeginsNumber}
use Rattle.wasm_shapes.specs.Tree.{Tree}
use Rattle.wasm_shapes.specs.Shape.{Shape}
use Rattle.wasm_shapes.specs.Place.{Begins, BeginsNone}
use Rattle.wasm_shapes.specs.Rows.{NoRows}

-- Where a reader of rows stands: the bytes and the number of rows that are left, how long its whole body is, and how many
-- rows it says it has.
pub record Standing : Type 0 where
  pub rest : List ℕ
  pub left : ℕ
  pub len : ℕ
  pub count : ℕ

-- its place in its body
abbrev pub place_of : Standing → ℕ
place_of reader = reader.len - length reader.rest

-- ---- refusals

-- Nothing is read at a place, and the fact says why.
abbrev pub ReadsNone : Fault → ℕ → Type 0 → Type 0
ReadsNone (fault.Read e) at why = (e.at ≡ at) × why
ReadsNone _ at why = ⊥

-- The same, or memory runs out, of which nothing is said.
abbrev pub ReadsNoneOrWants : Fault → ℕ → Type 0 → Type 0
ReadsNoneOrWants (fault.Read e) at why = (e.at ≡ at) × why
ReadsNoneOrWants fault.NoMemory at why = Unit {0}
ReadsNoneOrWants _ at why = ⊥

-- The one, or the other where memory may run out.
abbrev pub ReadsNoneIf : Bool → Fault → ℕ → Type 0 → Type 0
ReadsNoneIf true e at why = ReadsNoneOrWants e at why
ReadsNoneIf false e at why = ReadsNone e at why

-- ---- a reader of rows

-- The count was read, and so many rows are left in the bytes behind it.
pub record CountRead (body : List ℕ) (new : Standing) : Type 0 where
  pub counted : BeginsNumber 128 32 32 body new.left new.rest
  pub len : new.len ≡ length body
  pub count : new.count ≡ new.left

-- A row was read, and the reader stands behind it.
pub record RowRead (shape : Shape) (old : Standing) (row : Tree) (new : Standing) : Type 0 where
  pub begins : Begins shape old.rest row new.rest
  pub counted : old.left ≡ new.left + 1
  pub len : new.len ≡ old.len
  pub count : new.count ≡ old.count

-- No row begins where one is due, or bytes are left behind the last; and so the bytes are no such rows.
pub record RowMissing (shape : Shape) (old : Standing) : Type 0 where
  pub here : ((0 < old.left) × BeginsNone shape old.rest) ⊎ ((old.left ≡ 0) × (old.rest ≢ []))
  pub rows : NoRows shape old.left old.rest

-- All rows were read, nothing is left, and the reader stands where it stood.
pub record RowsEnded (old new : Standing) : Type 0 where
  pub counted : old.left ≡ 0
  pub filled : old.rest ≡ []
  pub stays : new ≡ old
