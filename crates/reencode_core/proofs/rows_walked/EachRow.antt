-- The loop over the rows of a section, and what the call gives at each of its ends.
use Rattle.std.proofs.Common.{◌≡◌, arith, refl, ℕ, List, Result, Ok, Err, IsErrAnd, IsTrue, true, subst}
use Rattle.std.proofs.Math.Seq.{take-length}
use Rattle.wasm_leb.specs.declared.fault.Fault.{Fault}
use Rattle.wasm_shapes.specs.Tree.{Tree}
use Rattle.wasm_shapes.specs.Shape.{Shape, closed}
use Rattle.wasm_shapes.specs.Drawn.{IsItem}
use Rattle.wasm_shapes.specs.Sound.{sound}
use Rattle.wasm_read.specs.Reading.{Standing, place_of, ReadsNoneOrWants, RowRead, RowMissing, RowsEnded}
use Rattle.reencode_hooks.specs.declared.error.Error.{Error}
use Rattle.reencode_hooks.specs.declared.indices.ReencodeIndices.{Ghosts}
use Rattle.reencode_hooks.specs.Errors.{error_of_fault}
use Rattle.reencode_core.specs.Rows.{KeepsFront}
use Rattle.reencode_core.specs.Holds.{AskedRow}
use Rattle.reencode_core.specs.Clauses.{RowClauses, RowsClauses, asks}
use Rattle.reencode_core.proofs.after_error.VisitsMade.{tells_none}
use Rattle.reencode_core.proofs.after_error.RowsVisited.{row_made, rows_held, rows_leave_next, rows_leave_none}
use Rattle.reencode_core.proofs.rows_walked.OneRow.{answers}
use Rattle.reencode_core.proofs.rows_walked.RowLoop.{RowsDone, kept_on, row_refused, row_usual, rows_all, rows_begin, rows_more, rows_unread}

-- the rows so far are walked and added
pub record RowsKept {S E : Type 0} (i : Ghosts S E) (row : Shape) (start : Standing) (s0 : S) (old : List Tree) (reader : Standing) (s : S) (new : List Tree) : Type 0 where
  pub item : IsItem row
  pub is_sound : sound row ≡ true
  pub is_closed : closed row ≡ true
  pub kept : KeepsFront old new
  pub default : IsTrue i.keeps_defaults → (c : ℕ) → RowsDone (asks i) c row start s0 old reader s new

module _ {S E : Type 0} (i : Ghosts S E) {row : Shape} {start : Standing} {s0 : S} {old : List Tree} where
  pub rows_begun : IsItem row → sound row ≡ true → closed row ≡ true → RowsKept i row start s0 old start s0 old
  rows_begun item is_sound is_closed = record { item = item; is_sound = is_sound; is_closed = is_closed; kept = take-length old; default = λ k c. rows_begin (asks i) c row start s0 old }

  module _ {reader : Standing} {s : S} {new : List Tree} (inv : RowsKept i row start s0 old reader s new) where
    pub rows_ended : {reader' : Standing} → RowsEnded reader reader' → RowsClauses i row start s0 old s new (Ok tt)
    rows_ended ended = record { kept = inv.kept; default = λ k c. rows_all (asks i) (inv.default k c) ended; after_error = λ k. tt; wants = λ k sure c. tt }

    -- no row is there
    pub rows_stuck : (f : Fault) → ReadsNoneOrWants f (place_of reader) (RowMissing row reader) → (r : Result (Unit {0}) (Error E)) → IsErrAnd r (λ y. y ≡ error_of_fault f) →
        RowsClauses i row start s0 old s new r
    rows_stuck f missing r q =
        let P : Result (Unit {0}) (Error E) → Type 0 = λ z. RowsClauses i row start s0 old s new z in
        subst P (answers r q) (record {
          kept = inv.kept;
          default = λ k c. rows_unread (asks i) f (inv.default k c) missing;
          after_error = λ k told. rows_leave_none (inv.default k 0) inv.item inv.is_sound inv.is_closed f missing;
          wants = λ k sure c h. rows_held (inv.default k c) refl (AskedRow.nothing refl);
        })

    module _ {reader' : Standing} {t : Tree} (read : RowRead row reader t reader') {m : S} {new' : List Tree} where
      -- the next row was mapped, and added
      pub rows_added : RowClauses i t s new m new' (Ok tt) → RowsKept i row start s0 old reader' m new'
      rows_added given = record {
        item = inv.item;
        is_sound = inv.is_sound;
        is_closed = inv.is_closed;
        kept = kept_on old new new' inv.kept given.kept;
        default = λ k c. let g = given.default k c in rows_more (asks i) inv.is_sound inv.is_closed (inv.default k c) read g.1 g.2;
      }

      -- the next row is refused
      pub rows_refused_at : (e : Error E) → RowClauses i t s new m new' (Err e) → (r : Result (Unit {0}) (Error E)) → IsErrAnd r (λ y. y ≡ e) → RowsClauses i row start s0 old m new' r
      rows_refused_at e given r q =
          let P : Result (Unit {0}) (Error E) → Type 0 = λ z. RowsClauses i row start s0 old m new' z in
          subst P (answers r q) (record {
            kept = kept_on old new new' inv.kept given.kept;
            default = λ k c. row_refused i.reply i.next inv.is_sound inv.is_closed (inv.default k c) read (given.default k c);
            after_error = λ k told.
                let stops = (given.default k 0).1 in
                rows_leave_next (inv.default k 0) inv.item inv.is_sound inv.is_closed e read
                (row_made i.reply i.next 0 e stops (λ h. given.after_error k (told h))) (tells_none e (row_usual i.reply i.next 0 e read stops));
            wants = λ k sure c h. let less = read.counted in rows_held (inv.default k c) (given.default k c).0 (AskedRow.whole t reader'.rest (omega arith) read.begins (given.after_error k sure));
          })
