-- Maps of names, entry by entry.
use Rattle.std.proofs.Common.{◌≡◌, ℕ, suc, ◌+◌, ◌-◌, ◌<◌, ◌≤◌, List, take, [], ◌∷◌, ◌++◌, length, length-append, map, true, false, Option, Some, None, refl, sym, ap, ap₂, ◌∙◌, subst, arith, inl, inr}
use Rattle.std.proofs.Math.Seq.{take-append_seam}
use Rattle.std.proofs.lemmas.List.{append_cancel_left}
use Rattle.wasm_leb.specs.Place.{BeginsNumber, BeginsNoNumber}
use Rattle.wasm_shapes.specs.declared.Space.{Space}
use Rattle.wasm_shapes.specs.Tree.{Tree, count}
use Rattle.wasm_shapes.specs.Shape.{Shape, closed}
use Rattle.wasm_shapes.specs.Sound.{sound, nullable}
use Rattle.wasm_shapes.specs.Spells.{Is, Spelled, Spells}
use Rattle.wasm_shapes.specs.Place.{Begins, BeginsNone}
use Rattle.wasm_shapes.specs.Rows.{RowsLeft}
use Rattle.wasm_shapes.specs.Types.{rows_tree, vector_tree, listed, listed_rows}
use Rattle.wasm_shapes.specs.Module.{plain_naming}
use Rattle.wasm_shapes.specs.Namings.{Entry, Outer, plain_indirect, entry_tree, entries_trees, outer_tree, outers_trees, asked_in}
use Rattle.wasm_shapes.proofs.Begins.{begins_u32, begins_seq}
use Rattle.wasm_shapes.proofs.Rows.{rows_end, rows_cons, rows_first, rows_one, no_rows_behind, vec_spelled}
use Rattle.wasm_read.proofs.DataSegments.{one_number}
use Rattle.wasm_read.proofs.Missing.{row_missing}
use Rattle.wasm_read.proofs.Placed.{takes_bytes}
use Rattle.wasm_read.specs.Reading.{RowMissing}
use Rattle.wasm_read.specs.Names.{MapStanding, whole_map, Due, DueFrom, EntriesLeft, NamesLeft, IndirectLeft, IndirectBegins, EntryRead, standing_due, EntryMissing, EntriesEnded}

-- ---- what is due

-- a reader is due one thing
due_from_one : (rest : List ℕ) (left : Option ℕ) (n k : ℕ) (b c : List ℕ) → DueFrom rest left n b → DueFrom rest left k c → (n ≡ k) × (b ≡ c)
due_from_one rest None n k b c p q = one_number p q
due_from_one rest (Some l) n k b c p q = (p.0 ∙ sym q.0, p.1 ∙ sym q.1)

pub due_one : (m : MapStanding) (n k : ℕ) (b c : List ℕ) → Due m n b → Due m k c → (n ≡ k) × (b ≡ c)
due_one m n k b c p q = due_from_one m.rest m.left n k b c p q

-- behind an entry that was read
pub due_behind : {row : Shape} {m n : MapStanding} {t : Tree} → (r : EntryRead row m t n) → Due n r.left n.rest
due_behind {n = n} r = let D : Option ℕ → Type 0 = λ o. DueFrom n.rest o r.left n.rest in subst D (sym r.counts) (refl, refl)

-- all that is left, at the count and the bytes that are due
left_at : {row : Shape} {m : MapStanding} {rows : Tree} (n : ℕ) (b : List ℕ) → Due m n b → EntriesLeft row m rows → RowsLeft row n b rows
left_at {row = row} {m = m} {rows = rows} n b d w =
    let same = due_one m w.count n w.bytes b w.due d in
    let R : ℕ → Type 0 = λ k. RowsLeft row k w.bytes rows in
    let S : List ℕ → Type 0 = λ c. RowsLeft row n c rows in
    subst S same.1 (subst R same.0 w.rows_left)

-- ---- steps and whole maps

-- an entry that was read and all the others are a whole map
pub left_more : {row : Shape} {m n : MapStanding} {t rows : Tree} → EntryRead row m t n → EntriesLeft row n rows → EntriesLeft row m (Tree.cons t rows)
left_more {n = n} r w = record {
  count = r.left + 1;
  bytes = r.bytes;
  due = r.due;
  rows_left = rows_cons (omega arith) r.begins (left_at r.left n.rest (due_behind r) w);
}

-- the first entry of a whole map is the one that was read
pub left_less : {row : Shape} {m n : MapStanding} {t all : Tree} → sound row ≡ true → closed row ≡ true → EntryRead row m t n → EntriesLeft row m all →
    (rows : Tree) × (all ≡ Tree.cons t rows) × EntriesLeft row n rows
left_less {n = n} {all = all} k h r w =
    let p = rows_first {n = r.left} k h (omega arith) r.begins all (left_at (r.left + 1) r.bytes r.due w) in
    (p.0, p.1, record { count = r.left; bytes = n.rest; due = due_behind r; rows_left = p.2 })

-- nothing is left
pub left_none : {row : Shape} {m : MapStanding} → EntriesEnded m → EntriesLeft row m Tree.nil
left_none r = record { count = 0; bytes = []; due = r.due; rows_left = rows_end refl refl }

pub left_ended : {row : Shape} {m : MapStanding} {all : Tree} → EntriesEnded m → EntriesLeft row m all → all ≡ Tree.nil
left_ended {row = row} {all = all} r w = let rows = left_at 0 [] r.due w in go all rows.shaped rows.counted
  where
    go : (all : Tree) → Is (Shape.many row) all → count all ≡ 0 → all ≡ Tree.nil
    go all Is.nil e = refl
    go all (Is.cons {u = u} d d') e = let some : suc (count u) ≡ 0 = e in absurd (omega arith)

-- a map has one list of entries
pub left_one : {row : Shape} {m : MapStanding} {t u : Tree} → sound row ≡ true → closed row ≡ true → EntriesLeft row m t → EntriesLeft row m u → t ≡ u
left_one k h w v =
    let r = left_at v.count v.bytes v.due w in
    rows_one k h r v.rows_left

-- a step takes bytes
due_within : (rest : List ℕ) (left : Option ℕ) (n : ℕ) (b : List ℕ) → DueFrom rest left n b → length b < length rest + 1
due_within rest None n b d = let long : length rest ≡ length d.0 + length b = ap length d.2 ∙ length-append d.0 b in omega arith
due_within rest (Some k) n b d = let long = ap length d.1 in omega arith

pub left_shrinks : {row : Shape} {m n : MapStanding} {t : Tree} → nullable row ≡ false → EntryRead row m t n → length n.rest < length m.rest
left_shrinks {m = m} {n = n} fills r =
    let within = due_within m.rest m.left (r.left + 1) r.bytes r.due in
    let text = r.begins.text in
    let long : length r.bytes ≡ length text + length n.rest = ap length r.begins.reads ∙ length-append text n.rest in
    let some = takes_bytes text fills r.begins.spells in
    omega arith

-- ---- no whole map

pub missing_count : {row : Shape} {m : MapStanding} → m.left ≡ None → BeginsNoNumber 128 32 32 m.rest → EntryMissing row m
missing_count {row = row} {m = m} e none = record { here = inl (e, none); none = λ rows w. go m.left e w.count w.bytes w.due }
  where
    go : (left : Option ℕ) → left ≡ None → (n : ℕ) (b : List ℕ) → DueFrom m.rest left n b → ⊥
    go None e n b d = none d.0 b n d.1 d.2
    go (Some k) e n b d = cc

missing_due : {row : Shape} (m : MapStanding) (n : ℕ) (b : List ℕ) → Due m n b → RowMissing row (standing_due m n b) → EntryMissing row m
missing_due m n b d r = record { here = inr (n, b, d, r); none = λ rows w. r.rows.none rows (left_at n b d w) }

pub missing_filled : {row : Shape} (m : MapStanding) (n : ℕ) (b : List ℕ) → Due m n b → n ≡ 0 → 1 ≤ length b → EntryMissing row m
missing_filled m n b d e more = missing_due m n b d (record { here = inr (e, filled); rows = no_rows_behind e filled })
  where
    filled : b ≡ [] → ⊥
    filled none = let empty = ap length none in omega arith

pub missing_entry : {row : Shape} (m : MapStanding) (n : ℕ) (b : List ℕ) → Due m (n + 1) b → BeginsNone row b → EntryMissing row m
missing_entry m n b d none = missing_due m (n + 1) b d (row_missing (standing_due m (n + 1) b) b refl (omega arith) none)

-- ---- typed lists

-- trees of entries are of one list
pub entries_one : (es fs : List Entry) → entries_trees es ≡ entries_trees fs → es ≡ fs
entries_one [] [] e = refl
entries_one [] (f ∷ fs) e = absurd cc
entries_one (x ∷ es) [] e = absurd cc
entries_one (x ∷ es) (f ∷ fs) e =
    let heads : entry_tree x ≡ entry_tree f = cc in
    let tails : entries_trees es ≡ entries_trees fs = cc in
    let indices : Tree.u32 x.index ≡ Tree.u32 f.index = cc in
    let names : Tree.name x.name ≡ Tree.name f.name = cc in
    let i : x.index ≡ f.index = cc in
    let n : x.name ≡ f.name = cc in
    let entry : ℕ → List ℕ → Entry = λ j b. record { index = j; name = b } in
    let same : x ≡ f = ap₂ entry i n in
    ap₂ (λ (z : Entry) (zs : List Entry). z ∷ zs) same (entries_one es fs tails)

-- rows are of one list
pub lists_one : (ts us : List Tree) → rows_tree ts ≡ rows_tree us → ts ≡ us
lists_one ts us e = sym (listed_rows ts) ∙ ap listed e ∙ listed_rows us

pub outers_one : (os ps : List Outer) → outers_trees os ≡ outers_trees ps → os ≡ ps
outers_one [] [] e = refl
outers_one [] (p ∷ ps) e = absurd cc
outers_one (o ∷ os) [] e = absurd cc
outers_one (o ∷ os) (p ∷ ps) e =
    let heads : outer_tree o ≡ outer_tree p = cc in
    let tails : outers_trees os ≡ outers_trees ps = cc in
    let indices : Tree.u32 o.index ≡ Tree.u32 p.index = cc in
    let maps : vector_tree (entries_trees o.names) ≡ vector_tree (entries_trees p.names) = cc in
    let i : o.index ≡ p.index = cc in
    let rows : rows_tree (entries_trees o.names) ≡ rows_tree (entries_trees p.names) = cc in
    let lists = lists_one (entries_trees o.names) (entries_trees p.names) rows in
    let outer : ℕ → List Entry → Outer = λ j ns. record { index = j; names = ns } in
    let same : o ≡ p = ap₂ outer i (entries_one o.names p.names lists) in
    ap₂ (λ (z : Outer) (zs : List Outer). z ∷ zs) same (outers_one os ps tails)

-- rows of namings are entries
pub entries_are : {rows : Tree} → Is (Shape.many plain_naming) rows → (es : List Entry) × (rows ≡ rows_tree (entries_trees es))
entries_are Is.nil = ([], refl)
entries_are (Is.cons {u = u} (Is.seq (Is.u32 {n = i}) (Is.name {bs = bs})) d) =
    let others = entries_are d in
    let e : Entry = record { index = i; name = bs } in
    (e ∷ others.0, ap (λ (z : Tree). Tree.cons (entry_tree e) z) others.1)

pub outers_are : {rows : Tree} → Is (Shape.many plain_indirect) rows → (os : List Outer) × (rows ≡ rows_tree (outers_trees os))
outers_are Is.nil = ([], refl)
outers_are (Is.cons {u = u} (Is.seq (Is.u32 {n = i}) (Is.vec d)) d') =
    let names = entries_are d in
    let others = outers_are d' in
    let o : Outer = record { index = i; names = names.0 } in
    (o ∷ others.0, ap₂ Tree.cons (ap (λ (z : Tree). Tree.pair (Tree.u32 i) (Tree.vec z)) names.1) others.1)

pub entries_of : (ts : List Tree) → Is (Shape.many plain_naming) (rows_tree ts) → (es : List Entry) × (ts ≡ entries_trees es)
entries_of ts d =
    let es = entries_are d in
    (es.0, lists_one ts (entries_trees es.0) es.1)

pub outers_of : (ts : List Tree) → Is (Shape.many plain_indirect) (rows_tree ts) → (os : List Outer) × (ts ≡ outers_trees os)
outers_of ts d =
    let os = outers_are d in
    (os.0, lists_one ts (outers_trees os.0) os.1)

-- A map of names by the values of its entries: the first is the one that was read, nothing is left at the end, and there is
-- one list.
pub names_less : {m n : MapStanding} {e : Entry} {all : List Entry} → EntryRead plain_naming m (entry_tree e) n → NamesLeft m all →
    (es : List Entry) × (all ≡ e ∷ es) × NamesLeft n es
names_less {n = n} {e = e} {all = all} r w =
    let p = left_less refl refl r w in
    let es = entries_are p.2.rows_left.shaped in
    let rows : rows_tree (entries_trees all) ≡ rows_tree (entries_trees (e ∷ es.0)) = p.1 ∙ ap (λ (z : Tree). Tree.cons (entry_tree e) z) es.1 in
    let L : Tree → Type 0 = λ z. EntriesLeft plain_naming n z in
    (es.0, entries_one all (e ∷ es.0) (lists_one _ _ rows), subst L es.1 p.2)

pub names_ended : {m : MapStanding} (all : List Entry) → EntriesEnded m → NamesLeft m all → all ≡ []
names_ended all r w = entries_one all [] (lists_one _ _ (left_ended r w))

pub names_one : {m : MapStanding} (es fs : List Entry) → NamesLeft m es → NamesLeft m fs → es ≡ fs
names_one es fs w v = entries_one es fs (lists_one _ _ (left_one refl refl w v))

pub outers_less : {m n : MapStanding} {o : Outer} {all : List Outer} → EntryRead plain_indirect m (outer_tree o) n → IndirectLeft m all →
    (os : List Outer) × (all ≡ o ∷ os) × IndirectLeft n os
outers_less {n = n} {o = o} {all = all} r w =
    let p = left_less refl refl r w in
    let os = outers_are p.2.rows_left.shaped in
    let rows : rows_tree (outers_trees all) ≡ rows_tree (outers_trees (o ∷ os.0)) = p.1 ∙ ap (λ (z : Tree). Tree.cons (outer_tree o) z) os.1 in
    let L : Tree → Type 0 = λ z. EntriesLeft plain_indirect n z in
    (os.0, outers_one all (o ∷ os.0) (lists_one _ _ rows), subst L os.1 p.2)

pub outers_ended : {m : MapStanding} (all : List Outer) → EntriesEnded m → IndirectLeft m all → all ≡ []
outers_ended all r w = outers_one all [] (lists_one _ _ (left_ended r w))

pub outers_left_one : {m : MapStanding} (os ps : List Outer) → IndirectLeft m os → IndirectLeft m ps → os ≡ ps
outers_left_one os ps w v = outers_one os ps (lists_one _ _ (left_one refl refl w v))

-- ---- indices that are asked for

-- rows by an index that is not asked for, and the same rows by one that is
abbrev pub plain_row : Shape → Shape
plain_row c = Shape.seq Shape.u32 c

abbrev pub asked_row : Space → Shape → Shape
asked_row s c = Shape.seq (Shape.ix s) c

-- they are spelled alike
pub asked_left : (s : Space) {c : Shape} (ts : List Tree) {n : ℕ} {bytes : List ℕ} → RowsLeft (plain_row c) n bytes (rows_tree ts) →
    RowsLeft (asked_row s c) n bytes (rows_tree (map (asked_in s) ts))
asked_left s {c = c} ts r = go ts r.shaped r.counted r.spelled
  where
    go : (ts : List Tree) {n : ℕ} {bytes : List ℕ} → Is (Shape.many (plain_row c)) (rows_tree ts) → count (rows_tree ts) ≡ n → Spelled (rows_tree ts) bytes →
        RowsLeft (asked_row s c) n bytes (rows_tree (map (asked_in s) ts))
    go [] d k p = record { shaped = Is.nil; counted = k; spelled = p }
    go (t ∷ ts) (Is.cons (Is.seq Is.u32 d) d') k p =
        let others = go ts d' refl p.4 in record {
          shaped = Is.cons (Is.seq Is.ix d) others.shaped;
          counted = ap suc others.counted ∙ k;
          spelled = (p.0, p.1, p.2, p.3, others.spelled);
        }

-- rows by an index that is asked for are such rows
pub record Asked (s : Space) (c : Shape) (n : ℕ) (bytes : List ℕ) (rows : Tree) : Type 0 where
  pub plain : List Tree
  pub same : rows ≡ rows_tree (map (asked_in s) plain)
  pub left : RowsLeft (plain_row c) n bytes (rows_tree plain)

pub asked_from : {s : Space} {c : Shape} {rows : Tree} {n : ℕ} {bytes : List ℕ} → RowsLeft (asked_row s c) n bytes rows → Asked s c n bytes rows
asked_from {s = s} {c = c} r = go r.shaped r.counted r.spelled
  where
    go : {rows : Tree} {n : ℕ} {bytes : List ℕ} → Is (Shape.many (asked_row s c)) rows → count rows ≡ n → Spelled rows bytes → Asked s c n bytes rows
    go Is.nil k p = record { plain = []; same = refl; left = record { shaped = Is.nil; counted = k; spelled = p } }
    go (Is.cons (Is.seq {u = u} (Is.ix {i = i}) d) d') k p =
        let others = go d' refl p.4 in record {
          plain = Tree.pair (Tree.u32 i) u ∷ others.plain;
          same = ap (λ (z : Tree). Tree.cons (Tree.pair (Tree.ix s i) u) z) others.same;
          left = record {
            shaped = Is.cons (Is.seq Is.u32 d) others.left.shaped;
            counted = ap suc others.left.counted ∙ k;
            spelled = (p.0, p.1, p.2, p.3, others.left.spelled);
          };
        }

-- A whole map is the vector that fills its bytes: by plain rows, and by rows whose index is asked for.
pub whole_spelled : {row : Shape} {body : List ℕ} {rows : Tree} → EntriesLeft row (whole_map body) rows → Spells (Shape.vec row) body (Tree.vec rows)
whole_spelled w = vec_spelled w.due w.rows_left

pub spelled_whole : {row : Shape} {body : List ℕ} {rows : Tree} → Spells (Shape.vec row) body (Tree.vec rows) → EntriesLeft row (whole_map body) rows
spelled_whole {row = row} {body = body} {rows = rows} p = go p.shaped p.spelled
  where
    go : Is (Shape.vec row) (Tree.vec rows) → Spelled (Tree.vec rows) body → EntriesLeft row (whole_map body) rows
    go (Is.vec d) q = record { count = count rows; bytes = q.1; due = (q.0, q.3, q.2); rows_left = record { shaped = d; counted = refl; spelled = q.4 } }

pub asked_spelled : (s : Space) {c : Shape} {body : List ℕ} (ts : List Tree) → EntriesLeft (plain_row c) (whole_map body) (rows_tree ts) →
    Spells (Shape.vec (asked_row s c)) body (vector_tree (map (asked_in s) ts))
asked_spelled s ts w = vec_spelled w.due (asked_left s ts w.rows_left)

pub spelled_asked : {s : Space} {c : Shape} {body : List ℕ} {t : Tree} → Spells (Shape.vec (asked_row s c)) body t →
    (ts : List Tree) × (t ≡ vector_tree (map (asked_in s) ts)) × EntriesLeft (plain_row c) (whole_map body) (rows_tree ts)
spelled_asked {s = s} {c = c} {body = body} p = go p.shaped p.spelled
  where
    go : {t : Tree} → Is (Shape.vec (asked_row s c)) t → Spelled t body →
        (ts : List Tree) × (t ≡ vector_tree (map (asked_in s) ts)) × EntriesLeft (plain_row c) (whole_map body) (rows_tree ts)
    go (Is.vec {t = rows} d) q =
        let a = asked_from (record { shaped = d; counted = refl; spelled = q.4 }) in
        (a.plain, ap Tree.vec a.same, record { count = count rows; bytes = q.1; due = (q.0, q.3, q.2); rows_left = a.left })

-- ---- an index and a map behind it

pub indirect_begins : {i : ℕ} {bytes start left : List ℕ} {t : Tree} {names : MapStanding} → BeginsNumber 128 32 32 bytes i start → Begins (Shape.vec plain_naming) start t left →
    names ≡ whole_map (take (length start - length left) start) → IndirectBegins bytes i names left
indirect_begins {i = i} {bytes = bytes} {start = start} {left = left} {t = t} {names = names} n p fresh = go t p.spells.shaped p.spells.spelled p.reads
  where
    go : (t : Tree) → Is (Shape.vec plain_naming) t → Spelled t p.text → start ≡ p.text ++ left → IndirectBegins bytes i names left
    go t (Is.vec {t = rows} d) q e =
        let es = entries_are d in
        let here : Begins (Shape.vec plain_naming) start (Tree.vec rows) left = record { text = p.text; spells = record { shaped = Is.vec d; spelled = q }; reads = e } in
        let long : length start ≡ length p.text + length left = ap length e ∙ length-append p.text left in
        let size : length start - length left ≡ length p.text = omega arith in
        let text : take (length start - length left) start ≡ p.text = ap (λ (k : ℕ). take k start) size ∙ ap (take (length p.text)) e ∙ take-append_seam p.text left in
        let body : names ≡ whole_map p.text = fresh ∙ ap whole_map text in
        let whole : EntriesLeft plain_naming (whole_map p.text) rows = spelled_whole here.spells in
        let W : MapStanding → Tree → Type 0 = λ m u. EntriesLeft plain_naming m u in
        let B : Tree → Type 0 = λ u. Begins plain_indirect bytes (Tree.pair (Tree.u32 i) (Tree.vec u)) left in
        record {
          entries = es.0;
          body = p.text;
          fresh = body;
          whole = subst (λ (m : MapStanding). W m (rows_tree (entries_trees es.0))) (sym body) (subst (W (whole_map p.text)) es.1 whole);
          begins = subst B es.1 (begins_seq (begins_u32 n) here);
        }
