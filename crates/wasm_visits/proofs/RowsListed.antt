-- The loops over rows that list what each asks, where it begins.
use Rattle.std.proofs.Common.{◌≡◌, ℕ, suc, ◌+◌, ◌-◌, ◌≤◌, List, [], ◌++◌, refl, sym, ap, ◌∙◌, arith, append_assoc, append-nil, length, length-append, subst}
use Rattle.wasm_shapes.specs.declared.SectionId.{SectionId}
use Rattle.wasm_shapes.specs.Tree.{Tree, visits}
use Rattle.wasm_shapes.specs.Shape.{Shape}
use Rattle.wasm_shapes.specs.Place.{Begins}
use Rattle.wasm_shapes.specs.Rows.{RowsLeft}
use Rattle.wasm_shapes.proofs.Rows.{rows_cons, rows_end, vec_spelled}
use Rattle.wasm_leb.specs.Place.{BeginsNumber}
use Rattle.wasm_read.specs.Reading.{Standing, CountRead, RowRead, RowsEnded, place_of}
use Rattle.wasm_visits.specs.declared.lister.PlacedVisit.{PlacedVisit}
use Rattle.wasm_visits.specs.Placed.{ListsRows, RowsAt, VectorAt}
use Rattle.wasm_visits.specs.Visits.{all_listed}

-- These were listed of the rows so far; and whatever rows the others are, with their visits the body has a reading.
pub record RowsSoFar (k : SectionId) (s : Shape) (end : ℕ) (text : List ℕ) (begun now : List PlacedVisit) (left : ℕ) (rest : List ℕ) : Type 0 where
  pub done : List PlacedVisit
  pub gains : now ≡ begun ++ done
  pub ahead : (others : Tree) (list : List PlacedVisit) → RowsLeft s left rest others → RowsAt k s end rest others list →
      (t : Tree) × VectorAt k s end text t (done ++ list)

pub rows_begin : {k : SectionId} {s : Shape} {end : ℕ} {text start : List ℕ} {n : ℕ} (begun : List PlacedVisit) → BeginsNumber 128 32 32 text n start →
    RowsSoFar k s end text begun begun n start
rows_begin {start = start} {n = n} begun counted = record {
  done = [];
  gains = sym (append-nil begun);
  ahead = λ others list r a. (Tree.vec others, record { spells = vec_spelled counted r; rows = others; count = n; start = start; are = refl; counted = counted; placed = a });
}

-- one row more
pub rows_more : {k : SectionId} {s : Shape} {end : ℕ} {text rest left : List ℕ} {begun now after : List PlacedVisit} {m n : ℕ} {t : Tree} → RowsSoFar k s end text begun now m rest →
    m ≡ suc n → Begins s rest t left → after ≡ now ++ all_listed k (end - length rest) (visits t) → RowsSoFar k s end text begun after n left
rows_more {k} {s} {end} {rest = rest} {left = left} {begun = begun} {t = t} so_far counted begins lists =
    let row = all_listed k (end - length rest) (visits t) in
    record {
      done = so_far.done ++ row;
      gains = lists ∙ ap (λ (z : List PlacedVisit). z ++ row) so_far.gains ∙ append_assoc begun so_far.done row;
      ahead = λ others list r a.
          let v = so_far.ahead (Tree.cons t others) (row ++ list) (rows_cons counted begins r) (RowsAt.more rest left t others list begins a) in
          (v.0, rw (append_assoc so_far.done row list) v.1);
    }

pub rows_ended : {k : SectionId} {s : Shape} {end : ℕ} {text rest : List ℕ} {begun now : List PlacedVisit} {n : ℕ} → RowsSoFar k s end text begun now n rest → n ≡ 0 → rest ≡ [] →
    ListsRows k s end text begun now
rows_ended {k} {s} {end} {text} {rest} {begun} {now} {n} so_far none empty =
    let P : List ℕ → Type 0 = λ z. RowsAt k s end z Tree.nil [] in
    let v = so_far.ahead Tree.nil [] (rows_end none empty) (subst P (sym empty) RowsAt.none) in
    (v.0, so_far.done, rw (append-nil so_far.done) at v.1, so_far.gains)

-- what is left is no longer
pub shorter : (y z : List ℕ) {x : List ℕ} → x ≡ y ++ z → length z ≤ length x
shorter y z {x} e = let all : length x ≡ length y + length z = ap length e ∙ length-append y z in omega arith

-- ---- by a reader

-- the rows so far, where a reader of a body that begins at a place stands
pub record ReaderSoFar (k : SectionId) (s : Shape) (end start : ℕ) (text : List ℕ) (begun now : List PlacedVisit) (reader : Standing) : Type 0 where
  pub rows : RowsSoFar k s end text begun now reader.left reader.rest
  pub inside : length reader.rest ≤ length text
  pub len : reader.len ≡ length text
  pub from : start ≡ end - length text

pub reader_begin : {k : SectionId} {s : Shape} {end start : ℕ} {text : List ℕ} (begun : List PlacedVisit) {reader : Standing} → CountRead text reader → start ≡ end - length text →
    ReaderSoFar k s end start text begun begun reader
reader_begin begun read from = record { rows = rows_begin begun read.counted; inside = shorter _ _ read.counted.2; len = read.len; from = from }

pub reader_more : {k : SectionId} {s : Shape} {end start : ℕ} {text : List ℕ} {begun now after : List PlacedVisit} {reader reader' : Standing} {t : Tree} →
    ReaderSoFar k s end start text begun now reader → RowRead s reader t reader' → after ≡ now ++ all_listed k (end - length reader.rest) (visits t) →
    ReaderSoFar k s end start text begun after reader'
reader_more {reader = reader} {reader' = reader'} so_far read lists =
    let more : reader.left ≡ suc reader'.left = omega (arith, read.counted) in
    let less : length reader'.rest ≤ length reader.rest = shorter _ _ read.begins.reads in
    record { rows = rows_more so_far.rows more read.begins lists; inside = omega (arith, so_far.inside, less); len = read.len ∙ so_far.len; from = so_far.from }

pub reader_ended : {k : SectionId} {s : Shape} {end start : ℕ} {text : List ℕ} {begun now : List PlacedVisit} {reader reader' : Standing} → ReaderSoFar k s end start text begun now reader →
    RowsEnded reader reader' → ListsRows k s end text begun now
reader_ended so_far ended = rows_ended so_far.rows ended.counted ended.filled

-- its place, counted where the body's end is
pub reader_place : {k : SectionId} {s : Shape} {end start : ℕ} {text : List ℕ} {begun now : List PlacedVisit} {reader : Standing} → ReaderSoFar k s end start text begun now reader →
    length text ≤ end → start + place_of reader ≡ end - length reader.rest
reader_place so_far fits = omega (arith, so_far.inside, so_far.len, so_far.from, fits)

pub reader_fits : {k : SectionId} {s : Shape} {end start : ℕ} {text : List ℕ} {begun now : List PlacedVisit} {reader : Standing} → ReaderSoFar k s end start text begun now reader →
    length text ≤ end → start + place_of reader ≤ end
reader_fits so_far fits = omega (arith, so_far.inside, so_far.len, so_far.from, fits)
