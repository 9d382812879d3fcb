-- The loops over the rows of a section that list what each asks, by its number.
use Rattle.std.proofs.Common.{◌≡◌, ℕ, suc, ◌+◌, ◌-◌, List, [], ◌++◌, refl, sym, ap, ◌∙◌, arith, append_assoc, append-nil}
use Rattle.wasm_shapes.specs.declared.SectionId.{SectionId}
use Rattle.wasm_shapes.specs.Tree.{Tree, visits}
use Rattle.wasm_shapes.specs.Shape.{Shape}
use Rattle.wasm_shapes.specs.Spells.{Spells}
use Rattle.wasm_shapes.specs.Rows.{RowsLeft}
use Rattle.wasm_shapes.proofs.Rows.{rows_cons, rows_end, vec_spelled}
use Rattle.wasm_read.specs.Reading.{Standing, CountRead, RowRead, RowsEnded}
use Rattle.reencode_c.specs.declared.outcome.ListedVisit.{ListedVisit}
use Rattle.reencode_c.specs.declared.places.Place.{Place}
use Rattle.reencode_c.specs.Places.{Gains, Lists, body_placed, rows_placed}
use Rattle.reencode_c.specs.Visits.{Listing, Placing, in_row, placed, put_all}
use Rattle.reencode_c.proofs.Lists.{put_all-append}

-- These were listed of the rows so far, which are so many; and whatever rows the others are, the body has a reading.
pub record RowsSoFar (shape : Shape) (k : SectionId) (text : List ℕ) (begun now : Placing) (reader : Standing) : Type 0 where
  pub done : List ListedVisit
  pub gains : Gains begun now done
  pub passed : ℕ
  pub counted : passed + reader.left ≡ reader.count
  pub ahead : (others : Tree) → RowsLeft shape reader.left reader.rest others →
      (t : Tree) × Spells (Shape.vec shape) text t × (body_placed k t ≡ done ++ rows_placed k passed others)

pub rows_begin : {shape : Shape} (k : SectionId) {text : List ℕ} (begun : Placing) {reader : Standing} → CountRead text reader → RowsSoFar shape k text begun begun reader
rows_begin k begun {reader = reader} read = record {
  done = [];
  gains = refl;
  passed = 0;
  counted = let same : reader.count ≡ reader.left = read.count in omega (arith, same);
  ahead = λ others r. (Tree.vec others, vec_spelled read.counted r, refl);
}

-- what is listed of a tree by a lister that moved there
pub listed_at : (t : Tree) (now there after : Placing) {p q : Place} → there ≡ record now { place = p } → p ≡ q → Lists t there after → Gains now after (placed q (visits t))
listed_at t now there after moves is lists =
    lists ∙ ap (λ (z : Placing). put_all z.listing (placed z.place (visits t))) (moves ∙ ap (λ (x : Place). record now { place = x }) is)

-- one row more
pub rows_more : {shape : Shape} (k : SectionId) {text : List ℕ} {begun now after : Placing} {reader reader' : Standing} {t : Tree} → RowsSoFar shape k text begun now reader →
    RowRead shape reader t reader' → Gains now after (placed (in_row k (reader.count - reader.left)) (visits t)) → RowsSoFar shape k text begun after reader'
rows_more {shape} k {begun = begun} {reader = reader} {reader' = reader'} {t = t} so_far read lists =
    let more : reader.left ≡ suc reader'.left = omega (arith, read.counted) in
    let number : reader.count - reader.left ≡ so_far.passed = omega (arith, so_far.counted) in
    let row = placed (in_row k so_far.passed) (visits t) in
    record {
      done = so_far.done ++ row;
      gains =
          lists ∙ ap (λ (n : ℕ). put_all _ (placed (in_row k n) (visits t))) number
          ∙ ap (λ (l : Listing). put_all l row) so_far.gains ∙ sym (put_all-append so_far.done begun.listing row);
      passed = suc so_far.passed;
      counted = omega (arith, so_far.counted, read.counted, read.count);
      ahead = λ others r.
          let a = so_far.ahead (Tree.cons t others) (rows_cons more read.begins r) in
          (a.0, a.1, a.2 ∙ sym (append_assoc so_far.done row (rows_placed k (suc so_far.passed) others)));
    }

pub rows_ended : {shape : Shape} {k : SectionId} {text : List ℕ} {begun now : Placing} {reader reader' : Standing} → RowsSoFar shape k text begun now reader → RowsEnded reader reader' →
    (t : Tree) × Spells (Shape.vec shape) text t × Gains begun now (body_placed k t)
rows_ended {begun = begun} so_far ended =
    let a = so_far.ahead Tree.nil (rows_end ended.counted ended.filled) in
    (a.0, a.1, so_far.gains ∙ ap (put_all begun.listing) (sym (a.2 ∙ append-nil so_far.done)))
