-- The loop over the rows of a section.
use Rattle.std.proofs.Common.{◌≡◌, ◌≢◌, ℕ, suc, ◌+◌, ◌-◌, ◌<◌, List, [], ◌∷◌, ◌++◌, length, length-append, take, None, Result, Ok, Err, ◌≤◌, refl, sym, ap, ◌∙◌, append_assoc, append-nil, arith, subst, ◌⊎◌, inl, inr, true, Bool, false}
use Rattle.std.proofs.lemmas.List.{take-take, length-take}
use Rattle.wasm_shapes.specs.declared.Visit.{Visit}
use Rattle.wasm_shapes.specs.Tree.{Tree, count}
use Rattle.wasm_shapes.specs.Shape.{Shape, closed}
use Rattle.wasm_shapes.specs.Sound.{sound}
use Rattle.wasm_shapes.specs.Spells.{Is, Spelled}
use Rattle.wasm_shapes.specs.Place.{Begins, BeginsNone}
use Rattle.wasm_shapes.specs.Rows.{RowsLeft, rows_then}
use Rattle.wasm_shapes.proofs.Rows.{RowsSoFar, so_far_none, so_far_more, so_far_stuck, rows_end, rows_then-append, rows_first}
use Rattle.wasm_leb.specs.declared.fault.Fault.{Fault}
use Rattle.wasm_leb.specs.declared.fault.Fault.TheVariants as fault
use Rattle.wasm_read.specs.Reading.{Standing, place_of, ReadsNone, ReadsNoneIf, ReadsNoneOrWants, RowRead, RowMissing, RowsEnded}
use Rattle.reencode_hooks.specs.Errors.{error_of_fault}
use Rattle.reencode_hooks.specs.declared.error.Error.{Error}
use Rattle.reencode_hooks.specs.declared.error.Error.TheVariants.{CanonicalizedHeapTypeReference, InvalidConstExpr, InvalidCodeSectionSize, UnexpectedNonCoreModuleSection, UnexpectedNonComponentSection, UnsupportedCoreTypeInComponent, ParseError, UserError, TooLarge, NoMemory}
use Rattle.reencode_hooks.specs.Run.{Step, accepted, refused, and_then, ask}
use Rattle.reencode_hooks.specs.Walk.{walk}
use Rattle.reencode_core.specs.Errors.{IfParse, IfRefused}
use Rattle.reencode_core.specs.Rows.{Asks, KeepsFront, AcceptedHooks, TooLargeMade, TooLargeRow, GivesRow, onto_rows, AcceptsRows, TooMany, RowsBefore, RowsFault, RefusesWhole, RefusesInside, StopsAtRow, GivesRows}
use Rattle.reencode_core.proofs.faults.WalkRefusals.{IfParse-map, IfRefused-map, unless_wanting, fault_unrefused, usual_walk, stops_usual}
use Rattle.reencode_core.proofs.rows_walked.SmallCounts.{only_rows}

-- Rows were read and walked, what they became was added, and the others are read and walked from here.
pub record RowsDone {S E : Type 0} (asked : Asks S E) (c : ℕ) (row : Shape) (start : Standing) (s0 : S) (old : List Tree)
    (reader : Standing) (s : S) (new : List Tree) : Type 0 where
  pub read : List Tree
  pub made : List Tree
  pub so_far : RowsSoFar row start.left start.rest read reader.left reader.rest
  pub before : RowsBefore row start.rest read reader.rest
  pub numbered : start.left ≡ length read + reader.left
  pub len : reader.len ≡ start.len
  pub accepts : AcceptsRows asked c s0 read made s
  pub counted : length made ≡ length read
  pub gains : new ≡ old ++ made

-- rows, and others behind them
rows_joined : {row : Shape} (ts : List Tree) {u : Tree} (x y : List ℕ) → Is (Shape.many row) (rows_then ts Tree.nil) → Spelled (rows_then ts Tree.nil) x →
    Is (Shape.many row) u → Spelled u y → Is (Shape.many row) (rows_then ts u) × Spelled (rows_then ts u) (x ++ y)
rows_joined [] {u = u} x y d p d' q =
    let none : x ≡ [] = p in
    let P : List ℕ → Type 0 = λ z. Spelled u (z ++ y) in
    (d', subst P (sym none) q)
rows_joined {row = row} (t ∷ ts) {u = u} x y d p d' q = go d (λ e. rows_joined ts p.1 y e p.4 d' q)
  where
    go : Is (Shape.many row) (Tree.cons t (rows_then ts Tree.nil)) → (Is (Shape.many row) (rows_then ts Tree.nil) → Is (Shape.many row) (rows_then ts u) × Spelled (rows_then ts u) (p.1 ++ y)) →
        Is (Shape.many row) (Tree.cons t (rows_then ts u)) × Spelled (Tree.cons t (rows_then ts u)) (x ++ y)
    go (Is.cons e e') again =
        let r = again e' in
        (Is.cons e r.0, (p.0, p.1 ++ y, ap (λ (z : List ℕ). z ++ y) p.2 ∙ append_assoc p.0 p.1 y, p.3, r.1))

pub before_more : {row : Shape} {bytes rest left : List ℕ} {ts : List Tree} {t : Tree} → RowsBefore row bytes ts rest → Begins row rest t left → RowsBefore row bytes (ts ++ t ∷ []) left
before_more {ts = ts} {t = t} b there =
    let one : Is _ (Tree.cons t Tree.nil) = Is.cons there.spells.shaped Is.nil in
    let r = rows_joined ts b.text there.text b.shaped b.spelled one (there.text, [], sym (append-nil there.text), there.spells.spelled, refl) in record {
      text = b.text ++ there.text;
      shaped = rw (rows_then-append ts t Tree.nil) r.0;
      spelled = rw (rows_then-append ts t Tree.nil) r.1;
      stands = b.stands ∙ ap (λ (z : List ℕ). b.text ++ z) there.reads ∙ sym (append_assoc b.text there.text _);
    }

-- the number of rows in front of others
length_more : (ts : List Tree) (t : Tree) → length (ts ++ t ∷ []) ≡ length ts + 1
length_more ts t = length-append ts (t ∷ [])

-- where a row is missing, by the number of those before it
missing_after : {row : Shape} (n total : ℕ) (reader : Standing) → total ≡ n + reader.left → ((0 < reader.left) × BeginsNone row reader.rest) ⊎ ((reader.left ≡ 0) × (reader.rest ≢ [])) →
    ((n < total) × BeginsNone row reader.rest) ⊎ ((n ≡ total) × (reader.rest ≢ []))
missing_after n total reader k (inl h) = let some : 0 < reader.left = h.0 in inl (omega arith, h.1)
missing_after n total reader k (inr h) = let none : reader.left ≡ 0 = h.0 in inr (omega arith, h.1)

-- rows under one ceiling
pub at_ceiling : {S E : Type 0} {asked : Asks S E} {row : Shape} {reader : Standing} {s m : S} {old new : List Tree} {result : Result (Unit {0}) (Error E)} (a b : ℕ) → a ≡ b →
    GivesRows asked a row reader (s, old) (m, new) result → GivesRows asked b row reader (s, old) (m, new) result
at_ceiling {asked = asked} {row = row} {reader = reader} {s = s} {m = m} {old = old} {new = new} {result = result} a b e g =
    let P : ℕ → Type 0 = λ n. GivesRows asked n row reader (s, old) (m, new) result in subst P e g

-- a reader that takes no memory
pub none_or_wants : (f : Fault) (at : ℕ) (P : Type 0) → ReadsNone f at P → ReadsNoneOrWants f at P
none_or_wants (fault.Read x) at P h = h
none_or_wants fault.NoMemory at P h = tt
none_or_wants fault.CodeSize at P h = h
none_or_wants (fault.Header k) at P h = h

-- a reader that may take memory or not
pub none_if : (wants : Bool) (f : Fault) (at : ℕ) (P : Type 0) → ReadsNoneIf wants f at P → ReadsNoneOrWants f at P
none_if true f at P h = h
none_if false f at P h = none_or_wants f at P h

module _ {S E : Type 0} (asked : Asks S E) where
  pub onto_nothing : (step : Step S (Error E) Tree) → step ≡ onto_rows [] step
  onto_nothing (accepted u m) = refl
  onto_nothing (refused e m) = refl

  pub rows_begin : (c : ℕ) (row : Shape) (start : Standing) (s : S) (old : List Tree) → RowsDone asked c row start s old start s old
  rows_begin c row start s old = record {
    read = [];
    made = [];
    so_far = so_far_none row start.left start.rest;
    before = record { text = []; shaped = Is.nil; spelled = refl; stands = refl };
    numbered = omega arith;
    len = refl;
    accepts = λ others. onto_nothing (walk asked c s others);
    counted = refl;
    gains = sym (append-nil old);
  }

  -- one row more in front of a step
  pub one_onto : (made : List Tree) (v : Tree) (step : Step S (Error E) Tree) →
      onto_rows made (and_then step (λ u m. accepted (Tree.cons v u) m)) ≡ onto_rows (made ++ v ∷ []) step
  one_onto made v (accepted u m) = ap (λ (t : Tree). accepted t m) (sym (rows_then-append made v u))
  one_onto made v (refused e m) = refl

  pub rows_more : {c : ℕ} {row : Shape} {start reader reader' : Standing} {s0 s s' : S} {old new new' : List Tree} {t v : Tree} → sound row ≡ true → closed row ≡ true →
      RowsDone asked c row start s0 old reader s new → RowRead row reader t reader' →
      walk asked c s t ≡ accepted v s' → new' ≡ new ++ v ∷ [] → RowsDone asked c row start s0 old reader' s' new'
  rows_more {c = c} {s = s} {s' = s'} {t = t} {v = v} k h d r e g =
      let less = r.counted in record {
        read = d.read ++ t ∷ [];
        made = d.made ++ v ∷ [];
        so_far = so_far_more d.read k h (omega arith) r.begins d.so_far;
        before = before_more d.before r.begins;
        numbered = let one = length_more d.read t in let all = d.numbered in omega arith;
        len = r.len ∙ d.len;
        accepts = λ others.
            let step : walk asked c s (Tree.cons t others) ≡ and_then (walk asked c s' others) (λ u m. accepted (Tree.cons v u) m) = rw e refl in
            rw (rows_then-append d.read t others)
            (d.accepts (Tree.cons t others) ∙ ap (λ (r : Step S (Error E) Tree). onto_rows d.made r) step ∙ one_onto d.made v (walk asked c s' others));
        counted = let one = length_more d.read t in let other = length_more d.made v in let all = d.counted in omega arith;
        gains = g ∙ ap (λ (z : List Tree). z ++ v ∷ []) d.gains ∙ append_assoc _ d.made (v ∷ []);
      }

  -- ---- the ends of the loop

  pub rows_all : {c : ℕ} {row : Shape} {start reader reader' : Standing} {s0 s : S} {old new : List Tree} → RowsDone asked c row start s0 old reader s new →
      RowsEnded reader reader' → GivesRows asked c row start (s0, old) (s, new) (Ok tt)
  rows_all {row = row} {s = s} d ended = record {
    reading = λ t r.
        let b = d.so_far.back t r in
        let last : b.0 ≡ Tree.nil = none_left b.0 b.2 ended.counted in
        (d.made, rw (b.1, last) (d.accepts Tree.nil), d.gains);
    readable = (rows_then d.read Tree.nil, d.so_far.forth Tree.nil (rows_end ended.counted ended.filled));
    unreadable = tt;
    refusal = tt;
  }
    where
      none_left : {n : ℕ} {bytes : List ℕ} (t : Tree) → RowsLeft row n bytes t → n ≡ 0 → t ≡ Tree.nil
      none_left {n = n} t r k = go t r.shaped r.counted
        where
          go : (t : Tree) → Is (Shape.many row) t → count t ≡ n → t ≡ Tree.nil
          go t Is.nil counted = refl
          go t (Is.cons {u = u} e e') counted = let some : suc (count u) ≡ n = counted in absurd (omega arith)

  -- no row is there
  pub rows_fault : {c : ℕ} {row : Shape} {start reader : Standing} {s0 s m : S} {old new new' : List Tree} (at : ℕ) → RowsDone asked c row start s0 old reader s new →
      RowMissing row reader → at ≡ place_of reader → new' ≡ new → RowsFault asked c row start (s0, old) (m, new') at
  rows_fault {start = start} {reader = reader} {s = s} at d missing place unchanged = record {
    none = so_far_stuck d.so_far missing.rows;
    read = d.read;
    rest = reader.rest;
    made = d.made;
    state = s;
    front = d.before;
    missing = missing_after (length d.read) start.left reader d.numbered missing.here;
    place = place ∙ ap (λ (n : ℕ). n - length reader.rest) d.len;
    accepts = d.accepts;
    gains = unchanged ∙ d.gains;
  }

  pub rows_unread : {c : ℕ} {row : Shape} {start reader : Standing} {s0 s : S} {old new : List Tree} (f : Fault) → RowsDone asked c row start s0 old reader s new →
      ReadsNoneOrWants f (place_of reader) (RowMissing row reader) → GivesRows asked c row start (s0, old) (s, new) (Err (error_of_fault f))
  rows_unread {c = c} {row = row} {start = start} {reader = reader} {s0 = s0} {s = s} {old = old} {new = new} f d missing = record {
    reading = λ t r.
        let b = d.so_far.back t r in record {
          read = d.read;
          others = b.0;
          made = d.made;
          at = s;
          parts = b.1;
          accepts = d.accepts;
          counted = d.counted;
          gains = d.gains;
          refuses = λ other. absurd (never f missing other b.0 b.2);
        };
    readable = tt;
    unreadable = parse f missing;
    refusal = fault_unrefused E _ f;
  }
    where
      never : (f : Fault) → ReadsNoneOrWants f (place_of reader) (RowMissing row reader) → error_of_fault {E = E} f ≢ NoMemory → (t : Tree) → RowsLeft row reader.left reader.rest t → ⊥
      never (fault.Read x) h other t r = h.1.rows.none t r
      never fault.NoMemory h other t r = other refl
      never fault.CodeSize h other t r = h
      never (fault.Header k) h other t r = h

      parse : (f : Fault) → ReadsNoneOrWants f (place_of reader) (RowMissing row reader) → IfParse (error_of_fault {E = E} f) (RowsFault asked c row start (s0, old) (s, new))
      parse (fault.Read x) h = rows_fault x.at d h.1 h.0 refl
      parse fault.NoMemory h = tt
      parse fault.CodeSize h = absurd h
      parse (fault.Header k) h = absurd h

  -- the next row, which is due, is refused
  pub stops_at : {c : ℕ} {row : Shape} {start reader : Standing} {s0 s s' : S} {old new : List Tree} (e : Error E) → RowsDone asked c row start s0 old reader s new → 0 < reader.left →
      RefusesWhole asked c row reader.rest s (length new) e s' ⊎ RefusesInside asked c row reader.rest s e s' → StopsAtRow asked c row start (s0, old) e (s', new)
  stops_at {c = c} {row = row} {reader = reader} {s = s} {s' = s'} e d due refuses = record {
    read = d.read;
    rest = reader.rest;
    made = d.made;
    state = s;
    front = d.before;
    due = let all = d.numbered in omega arith;
    accepts = d.accepts;
    counted = d.counted;
    gains = d.gains;
    refuses = refuses;
  }

  -- the next row is refused
  pub rows_refused : {c : ℕ} {row : Shape} {start reader reader' : Standing} {s0 s s' : S} {old new : List Tree} {t : Tree} (e : Error E) → sound row ≡ true → closed row ≡ true →
      RowsDone asked c row start s0 old reader s new → RowRead row reader t reader' →
      (e ≢ NoMemory → (walk asked c s t ≡ refused e s') ⊎ (AcceptedHooks asked s t s' × TooMany e (length new))) → IfParse e (λ at. ⊥) →
      GivesRows asked c row start (s0, old) (s', new) (Err e)
  rows_refused {reader' = reader'} {s = s} {s' = s'} {t = t} e k h d r stops parse = record {
    reading = λ rows all.
        let b = d.so_far.back rows all in
        let less = r.counted in
        let f = rows_first {n = reader'.left} k h (omega arith) r.begins b.0 b.2 in record {
          read = d.read;
          others = b.0;
          made = d.made;
          at = s;
          parts = b.1;
          accepts = d.accepts;
          counted = d.counted;
          gains = d.gains;
          refuses = λ other. record { row = t; behind = f.0; parts = f.1; refusal = stops other };
        };
    readable = tt;
    unreadable = IfParse-map e (λ at never. absurd never) parse;
    refusal =
        let less = r.counted in
        unless_wanting e (λ other. stops_at e d (omega arith) (inl (record { tree = t; left = reader'.rest; begins = r.begins; refusal = stops other })));
  }

-- a sink that gained rows twice
pub kept_on : (old mid new : List Tree) → KeepsFront old mid → KeepsFront mid new → KeepsFront old new
kept_on old mid new p q =
    let short : length old ≤ length mid = let taken : length (take (length old) mid) ≡ length old = ap length p in omega (arith, length-take (length old) mid, taken) in
    sym (take-take (length old) (length mid) new short) ∙ ap (take (length old)) q ∙ p

-- a row that was read is refused as its walk is, or is too large
row_usual_at : {S E : Type 0} (reply : S → Visit → Result ℕ E) (next : S → Visit → S) (c : ℕ) (s m : S) (t : Tree) (x : List ℕ) (n : ℕ) (e : Error E) → Spelled t x →
    (walk (ask reply next) c s t ≡ refused e m) ⊎ TooLargeMade (ask reply next) s t n e m → ((u : Tree) → TooLargeRow e u n → ⊥) →
    IfParse e (λ at. ⊥)
row_usual_at reply next c s m t x n e p (inl h) never = stops_usual (λ at. ⊥) (walk (ask reply next) c s t) e m (usual_walk reply next c None s t x p) (λ other. h)
row_usual_at reply next c s m t x n e p (inr h) never = absurd (never h.accepts.made h.large)

-- a row that was read, and that is too large, is one too many
pub large_is_many : {S E : Type 0} (asked : Asks S E) (c : ℕ) (s m : S) (t : Tree) (x : List ℕ) (n : ℕ) (e : Error E) → Spelled t x →
    (walk asked c s t ≡ refused e m) ⊎ TooLargeMade asked s t n e m → (walk asked c s t ≡ refused e m) ⊎ (AcceptedHooks asked s t m × TooMany e n)
large_is_many asked c s m t x n e p (inl q) = inl q
large_is_many {E = E} asked c s m t x n e p (inr q) = inr (q.accepts, many e q.accepts.ceiling q.accepts.made q.accepts.walked q.large)
  where
    many : (e : Error E) (k : ℕ) (u : Tree) → walk asked k s t ≡ accepted u m → TooLargeRow e u n → TooMany e n
    many (TooLarge size) k u h q = only_rows asked k s m t u x (n + 1) size p h q
    many _ k u h q = absurd q

-- its refusal says nothing of the bytes
pub row_usual : {S E : Type 0} (reply : S → Visit → Result ℕ E) (next : S → Visit → S) {n : ℕ} {row : Shape} {reader reader' : Standing} {s m : S} {t : Tree} (c : ℕ) (e : Error E) → RowRead row reader t reader' →
    (e ≢ NoMemory → (walk (ask reply next) c s t ≡ refused e m) ⊎ TooLargeMade (ask reply next) s t n e m) → IfParse e (λ at. ⊥)
row_usual reply next c (TooLarge size) r q = tt
row_usual reply next c (UserError x) r q = tt
row_usual reply next c NoMemory r q = tt
row_usual reply next {n = n} {s = s} {m = m} {t = t} c (ParseError x) r q = row_usual_at reply next c s m t r.begins.text n (ParseError x) r.begins.spells.spelled (q (λ b. cc)) (λ u b. b)
row_usual reply next {n = n} {s = s} {m = m} {t = t} c CanonicalizedHeapTypeReference r q = row_usual_at reply next c s m t r.begins.text n CanonicalizedHeapTypeReference r.begins.spells.spelled (q (λ b. cc)) (λ u b. b)
row_usual reply next {n = n} {s = s} {m = m} {t = t} c InvalidConstExpr r q = row_usual_at reply next c s m t r.begins.text n InvalidConstExpr r.begins.spells.spelled (q (λ b. cc)) (λ u b. b)
row_usual reply next {n = n} {s = s} {m = m} {t = t} c InvalidCodeSectionSize r q = row_usual_at reply next c s m t r.begins.text n InvalidCodeSectionSize r.begins.spells.spelled (q (λ b. cc)) (λ u b. b)
row_usual reply next {n = n} {s = s} {m = m} {t = t} c UnexpectedNonCoreModuleSection r q = row_usual_at reply next c s m t r.begins.text n UnexpectedNonCoreModuleSection r.begins.spells.spelled (q (λ b. cc)) (λ u b. b)
row_usual reply next {n = n} {s = s} {m = m} {t = t} c UnexpectedNonComponentSection r q = row_usual_at reply next c s m t r.begins.text n UnexpectedNonComponentSection r.begins.spells.spelled (q (λ b. cc)) (λ u b. b)
row_usual reply next {n = n} {s = s} {m = m} {t = t} c UnsupportedCoreTypeInComponent r q = row_usual_at reply next c s m t r.begins.text n UnsupportedCoreTypeInComponent r.begins.spells.spelled (q (λ b. cc)) (λ u b. b)

-- the next row is refused, by the call that maps it
pub row_refused : {S E : Type 0} (reply : S → Visit → Result ℕ E) (next : S → Visit → S) {c : ℕ} {row : Shape} {start reader reader' : Standing} {s0 s s' : S} {old new new' : List Tree} {t : Tree}
    {e : Error E} → sound row ≡ true → closed row ≡ true → RowsDone (ask reply next) c row start s0 old reader s new → RowRead row reader t reader' →
    GivesRow (ask reply next) c (s, new) t (s', new') (Err e) → GivesRows (ask reply next) c row start (s0, old) (s', new') (Err e)
row_refused {E = E} reply next {c = c} {row = row} {start = start} {reader = reader} {s0 = s0} {s = s} {s' = s'} {old = old} {new = new} {new' = new'} {t = t} {e = e} k h d r given =
    let P : List Tree → Type 0 = λ z. GivesRows (ask reply next) c row start (s0, old) (s', z) (Err e) in
    subst P (sym given.0) (rows_refused (ask reply next) e k h d r (λ other. either (given.1 other)) (row_usual reply next c e r given.1))
  where
    either : (walk (ask reply next) c s t ≡ refused e s') ⊎ TooLargeMade (ask reply next) s t (length new) e s' →
        (walk (ask reply next) c s t ≡ refused e s') ⊎ (AcceptedHooks (ask reply next) s t s' × TooMany e (length new))
    either q = large_is_many (ask reply next) c s s' t r.begins.text (length new) e r.begins.spells.spelled q

-- ---- a row that is read in part

-- where rows are left, the first of them begins there
pub first_of : {row : Shape} {n m : ℕ} {bytes : List ℕ} (rows : Tree) → m ≡ suc n → RowsLeft row m bytes rows → (t : Tree) × (behind : Tree) × (left : List ℕ) × (rows ≡ Tree.cons t behind) × Begins row bytes t left
first_of {row = row} {n = n} {m = m} {bytes = bytes} rows k r = go rows r.shaped r.counted r.spelled
  where
    go : (rows : Tree) → Is (Shape.many row) rows → count rows ≡ m → Spelled rows bytes → (t : Tree) × (behind : Tree) × (left : List ℕ) × (rows ≡ Tree.cons t behind) × Begins row bytes t left
    go rows Is.nil counted p = absurd (omega arith)
    go rows (Is.cons {t = t} {u = u} d d') counted p = (t, u, p.1, refl, record { text = p.0; spells = record { shaped = d; spelled = p.3 }; reads = p.2 })

module _ {S E : Type 0} (reply : S → Visit → Result ℕ E) (next : S → Visit → S) {c : ℕ} {row : Shape} {start reader : Standing} {s0 s s' : S} {old new new' : List Tree}
    (d : RowsDone (ask reply next) c row start s0 old reader s new) where
  -- no row is there, as what stands in it showed
  pub rows_faulty : (at : ℕ) → RowMissing row reader → at ≡ place_of reader → new' ≡ new →
      GivesRows (ask reply next) c row start (s0, old) (s', new') (Err (ParseError (record { at = at })))
  rows_faulty at missing place unchanged = record {
    reading = λ t r. absurd ((so_far_stuck d.so_far missing.rows).none t r);
    readable = tt;
    unreadable = rows_fault (ask reply next) at d missing place unchanged;
    refusal = tt;
  }

  -- the next row is refused, if there is one
  pub rows_refused_if : (e : Error E) (n : ℕ) → reader.left ≡ suc n → ((t : Tree) (left : List ℕ) → Begins row reader.rest t left → GivesRow (ask reply next) c (s, new) t (s', new') (Err e)) → new' ≡ new →
      IfParse e (λ at. ⊥) → IfRefused e (RefusesWhole (ask reply next) c row reader.rest s (length new) e s' ⊎ RefusesInside (ask reply next) c row reader.rest s e s') →
      GivesRows (ask reply next) c row start (s0, old) (s', new') (Err e)
  rows_refused_if e n left given unchanged usual refuses = record {
    reading = λ rows all.
        let b = d.so_far.back rows all in
        let f = first_of b.0 left b.2 in record {
          read = d.read;
          others = b.0;
          made = d.made;
          at = s;
          parts = b.1;
          accepts = d.accepts;
          counted = d.counted;
          gains = unchanged ∙ d.gains;
          refuses = λ other. record {
            row = f.0;
            behind = f.1;
            parts = f.3;
            refusal = rw unchanged (either f.0 f.4.text f.4.spells.spelled ((given f.0 f.2 f.4).1 other));
          };
        };
    readable = tt;
    unreadable = IfParse-map e (λ at never. absurd never) usual;
    refusal =
        let some : 0 < reader.left = omega arith in
        let P : List Tree → Type 0 = λ z. StopsAtRow (ask reply next) c row start (s0, old) e (s', z) in
        IfRefused-map e (λ h. subst P (sym unchanged) (stops_at (ask reply next) e d some h)) refuses;
  }
    where
      either : (t : Tree) (x : List ℕ) → Spelled t x → (walk (ask reply next) c s t ≡ refused e s') ⊎ TooLargeMade (ask reply next) s t (length new) e s' →
          (walk (ask reply next) c s t ≡ refused e s') ⊎ (AcceptedHooks (ask reply next) s t s' × TooMany e (length new))
      either t x p q = large_is_many (ask reply next) c s s' t x (length new) e p q
