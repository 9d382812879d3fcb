-- The visits that were made when a row of a section is at fault, or refused.
use Rattle.std.proofs.Common.{◌≡◌, ◌≢◌, ◌<◌, ◌+◌, ℕ, suc, List, [], ◌∷◌, ◌++◌, length, length-append, true, Result, refl, sym, ap, ◌∙◌, append_assoc, arith, subst, ◌⊎◌, inl, inr}
use Rattle.std.proofs.lemmas.List.{append_cancel_left}
use Rattle.wasm_leb.specs.declared.fault.Fault.{Fault}
use Rattle.wasm_leb.specs.declared.fault.Fault.TheVariants as fault
use Rattle.wasm_shapes.specs.declared.Visit.{Visit}
use Rattle.wasm_shapes.specs.Drawn.{Drawn, IsItem}
use Rattle.wasm_shapes.specs.Tree.{Tree, visits}
use Rattle.wasm_shapes.specs.Shape.{Shape, closed}
use Rattle.wasm_shapes.specs.Sound.{sound}
use Rattle.wasm_shapes.specs.Spells.{Is, Spelled}
use Rattle.wasm_shapes.specs.Place.{Begins, BeginsNone}
use Rattle.wasm_shapes.specs.Rows.{RowsLeft, rows_then}
use Rattle.wasm_shapes.specs.Types.{rows_tree}
use Rattle.wasm_shapes.proofs.Drawn.{drawn_behind, drawn_begun, drawn_front, drawn_item, drawn_joined, drawn_none}
use Rattle.wasm_shapes.proofs.Rows.{rows_first}
use Rattle.wasm_shapes.proofs.Unique.{unique}
use Rattle.wasm_read.specs.Reading.{Standing, place_of, ReadsNoneOrWants, RowMissing, RowRead}
use Rattle.reencode_hooks.specs.declared.error.Error.{Error}
use Rattle.reencode_hooks.specs.declared.error.Error.TheVariants.{NoMemory, TooLarge, UserError, ParseError, CanonicalizedHeapTypeReference, InvalidConstExpr, InvalidCodeSectionSize, UnexpectedNonCoreModuleSection, UnexpectedNonComponentSection, UnsupportedCoreTypeInComponent}
use Rattle.reencode_hooks.specs.Errors.{error_of_fault}
use Rattle.reencode_hooks.specs.Run.{refused, ask, Visited}
use Rattle.reencode_hooks.specs.Walk.{walk}
use Rattle.reencode_hooks.proofs.Walks.{walk_is_run}
use Rattle.reencode_core.specs.Leaves.{EndsBy, IsFront, Leaves, MadeUpTo, RowsUpTo, TellsFault, rows_in}
use Rattle.reencode_core.specs.Holds.{AskedRow, HoldsMade}
use Rattle.reencode_core.specs.Rows.{Asks, RowsBefore, TooLargeMade}
use Rattle.reencode_core.proofs.rows_walked.TypeGroup.{rows_then-both}
use Rattle.reencode_core.proofs.after_error.VisitsMade.{PartMade, drawn_made, ended_all, ended_behind, fault_unasked, front_first, front_none, front_same, front_then, is_wanting, refused_made, tree_made, wants_made}
use Rattle.reencode_core.proofs.rows_walked.RowLoop.{RowsDone}

-- ---- two fronts of the same rows

-- rows, and others behind them
pub visits_behind : (ts : List Tree) (u : Tree) → visits (rows_then ts u) ≡ visits (rows_tree ts) ++ visits u
visits_behind [] u = refl
visits_behind (t ∷ ts) u = ap (λ (z : List Visit). visits t ++ z) (visits_behind ts u) ∙ sym (append_assoc (visits t) (visits (rows_tree ts)) (visits u))

pub visits_more : (ts : List Tree) (t : Tree) (us : List Tree) → visits (rows_tree (ts ++ t ∷ us)) ≡ visits (rows_tree ts) ++ (visits t ++ visits (rows_tree us))
visits_more ts t us = ap visits (rows_then-both ts (t ∷ us) Tree.nil) ∙ visits_behind ts (Tree.cons t (rows_tree us))

-- the second rows are the first; or the first and others behind them, of which one begins where these end
pub data RowsAhead (row : Shape) (read : List Tree) (rest : List ℕ) (read' : List Tree) (rest' : List ℕ) : Type 0 where
  same : read' ≡ read → rest' ≡ rest → RowsAhead row read rest read' rest'
  more : (t : Tree) (others : List Tree) (left : List ℕ) → read' ≡ read ++ t ∷ others → Begins row rest t left → RowsAhead row read rest read' rest'

ahead_cons : {row : Shape} {ts us : List Tree} {rest rest' : List ℕ} (t : Tree) → RowsAhead row ts rest us rest' → RowsAhead row (t ∷ ts) rest (t ∷ us) rest'
ahead_cons t (same e r) = same (ap (λ (z : List Tree). t ∷ z) e) r
ahead_cons t (more u others left e b) = more u others left (ap (λ (z : List Tree). t ∷ z) e) b

abbrev Stands : Shape → List Tree → List ℕ → Type 0
Stands row ts x = Is (Shape.many row) (rows_tree ts) × Spelled (rows_tree ts) x

module _ {row : Shape} (is_sound : sound row ≡ true) (is_closed : closed row ≡ true) {rest rest' : List ℕ} where
  ahead_from : (read read' : List Tree) (start text text' : List ℕ) → Stands row read text → start ≡ text ++ rest → Stands row read' text' → start ≡ text' ++ rest' →
      (length read' < length read → BeginsNone row rest') → RowsAhead row read rest read' rest'
  ahead_from [] [] start text text' p e q f none =
      let left : text ≡ [] = p.1 in
      let right : text' ≡ [] = q.1 in
      same refl (sym (f ∙ ap (λ (z : List ℕ). z ++ rest') right) ∙ (e ∙ ap (λ (z : List ℕ). z ++ rest) left))
  ahead_from [] (u ∷ us) start text text' p e q f none = go q.0 q.1
    where
      go : Is (Shape.many row) (Tree.cons u (rows_tree us)) → Spelled (Tree.cons u (rows_tree us)) text' → RowsAhead row [] rest (u ∷ us) rest'
      go (Is.cons d d') s =
          let left : text ≡ [] = p.1 in
          more u us (s.1 ++ rest') refl (record {
            text = s.0;
            spells = record { shaped = d; spelled = s.3 };
            reads = sym (e ∙ ap (λ (z : List ℕ). z ++ rest) left) ∙ f ∙ ap (λ (z : List ℕ). z ++ rest') s.2 ∙ append_assoc s.0 s.1 rest';
          })
  ahead_from (t ∷ ts) [] start text text' p e q f none = go p.0 p.1
    where
      go : Is (Shape.many row) (Tree.cons t (rows_tree ts)) → Spelled (Tree.cons t (rows_tree ts)) text → RowsAhead row (t ∷ ts) rest [] rest'
      go (Is.cons d d') s =
          let right : text' ≡ [] = q.1 in
          let fewer : length {A = Tree} [] < length (t ∷ ts) = omega arith in
          let there : rest' ≡ s.0 ++ (s.1 ++ rest) =
          sym (f ∙ ap (λ (z : List ℕ). z ++ rest') right) ∙ e ∙ ap (λ (z : List ℕ). z ++ rest) s.2 ∙ append_assoc s.0 s.1 rest in
          absurd ((none fewer).none s.0 (s.1 ++ rest) t (record { shaped = d; spelled = s.3 }) there)
  ahead_from (t ∷ ts) (u ∷ us) start text text' p e q f none =
      go p.0 p.1 q.0 q.1 (λ start text text' p e q f none. ahead_from ts us start text text' p e q f none)
    where
      go : Is (Shape.many row) (Tree.cons t (rows_tree ts)) → Spelled (Tree.cons t (rows_tree ts)) text → Is (Shape.many row) (Tree.cons u (rows_tree us)) → Spelled (Tree.cons u (rows_tree us)) text' →
          ((start text text' : List ℕ) → Stands row ts text → start ≡ text ++ rest → Stands row us text' → start ≡ text' ++ rest' → (length us < length ts → BeginsNone row rest') → RowsAhead row ts rest us rest') →
          RowsAhead row (t ∷ ts) rest (u ∷ us) rest'
      go (Is.cons d d') s (Is.cons c c') r again =
          let left : start ≡ s.0 ++ (s.1 ++ rest) = e ∙ ap (λ (z : List ℕ). z ++ rest) s.2 ∙ append_assoc s.0 s.1 rest in
          let right : start ≡ r.0 ++ (r.1 ++ rest') = f ∙ ap (λ (z : List ℕ). z ++ rest') r.2 ∙ append_assoc r.0 r.1 rest' in
          let both_ways : s.0 ++ (s.1 ++ rest) ≡ r.0 ++ (r.1 ++ rest') = sym left ∙ right in
          let agree = unique d c s.0 r.0 (s.1 ++ rest) (r.1 ++ rest') is_sound (inl is_closed) s.3 r.3 both_ways in
          let shifted : r.0 ++ (s.1 ++ rest) ≡ r.0 ++ (r.1 ++ rest') = ap (λ (z : List ℕ). z ++ (s.1 ++ rest)) (sym agree.0) ∙ both_ways in
          let behind : s.1 ++ rest ≡ r.1 ++ rest' = append_cancel_left r.0 (s.1 ++ rest) (r.1 ++ rest') shifted in
          let next = again (s.1 ++ rest) s.1 r.1 (d', s.4) refl (c', r.4) behind (λ h. none (omega arith)) in
          let P : Tree → Type 0 = λ z. RowsAhead row (t ∷ ts) rest (z ∷ us) rest' in
          subst P agree.1 (ahead_cons t next)

  pub rows_ahead : {start : List ℕ} {read read' : List Tree} → RowsBefore row start read rest → RowsBefore row start read' rest' → (length read' < length read → BeginsNone row rest') →
      RowsAhead row read rest read' rest'
  rows_ahead {start = start} {read = read} {read' = read'} a b none = ahead_from read read' start a.text b.text (a.shaped, a.spelled) a.stands (b.shaped, b.spelled) b.stands none

-- ---- what is drawn

pub drawn_rows : {row : Shape} → IsItem row → (t : Tree) (x : List ℕ) → Is (Shape.many row) t → Spelled t x → Drawn x (visits t)
drawn_rows item t x Is.nil p = drawn_none
drawn_rows item t x (Is.cons {t = v} {u = u} d d') p =
    drawn_joined x (visits v) (visits u) (drawn_front p.0 p.1 p.2 (drawn_item item (record { shaped = d; spelled = p.3 }))) (drawn_behind p.0 p.1 p.2 (drawn_rows item u p.1 d' p.4))

-- the visits of rows that stand in front
pub drawn_before : {row : Shape} {bytes rest : List ℕ} {ts : List Tree} → IsItem row → RowsBefore row bytes ts rest → Drawn bytes (visits (rows_tree ts))
drawn_before {rest = rest} {ts = ts} item b = drawn_front b.text rest b.stands (drawn_rows item (rows_tree ts) b.text b.shaped b.spelled)

-- visits behind those of rows that stand in front
pub drawn_then : {row : Shape} {bytes rest : List ℕ} {ts : List Tree} {vs : List Visit} → IsItem row → RowsBefore row bytes ts rest → Drawn rest vs → Drawn bytes (visits (rows_tree ts) ++ vs)
drawn_then {bytes = bytes} {rest = rest} {ts = ts} {vs = vs} item b d = drawn_joined bytes (visits (rows_tree ts)) vs (drawn_before item b) (drawn_behind b.text rest b.stands d)

-- ---- the rows of a section

module _ {S E : Type 0} {asked : Asks S E} {c : ℕ} {row : Shape} {start reader : Standing} {s0 s : S} {old new : List Tree} (d : RowsDone asked c row start s0 old reader s new)
    (item : IsItem row) (is_sound : sound row ≡ true) (is_closed : closed row ≡ true) where
  -- these visits were made behind the rows so far
  pub rows_leave : {m : S} (e : Error E) (mid : List Visit) → EndsBy asked s mid e m → Drawn reader.rest mid →
      ((others : Tree) → RowsLeft row reader.left reader.rest others → IsFront mid (visits others)) →
      ((t : Tree) (left : List ℕ) → 0 < reader.left → Begins row reader.rest t left → (¬ TellsFault e) × IsFront mid (visits t)) → Leaves asked (rows_in row start) s0 e m
  rows_leave {m = m} e mid ended drawn whole next = record {
    made = visits (rows_tree d.read) ++ mid;
    ended = ended_behind asked e (visits (rows_tree d.read)) mid ((walk_is_run asked).forth c s0 s (rows_tree d.read) (rows_tree d.made) (d.accepts Tree.nil)).ran ended;
    drawn = drawn_then item d.before drawn;
    reading = λ rows all.
        let b = d.so_far.back rows all in
        front_same (sym (ap visits b.1 ∙ visits_behind d.read b.0)) (front_then (visits (rows_tree d.read)) (whole b.0 b.2));
    fault = λ none t rest f. up_to t rest f;
  }
    where
      up_to : (t : Tree) (rest : List ℕ) → RowsUpTo row start t rest → MadeUpTo e (visits (rows_tree d.read) ++ mid) (visits t) rest
      up_to t rest f = go (rows_ahead is_sound is_closed d.before f.front short)
        where
          short : length f.rows < length d.read → BeginsNone row rest
          short h = by f.missing
            where
              by : ((length f.rows < start.left) × BeginsNone row rest) ⊎ ((length f.rows ≡ start.left) × (rest ≢ [])) → BeginsNone row rest
              by (inl q) = q.1
              by (inr q) = let all = d.numbered in let full : length f.rows ≡ start.left = q.0 in absurd (omega arith)

          go : RowsAhead row d.read reader.rest f.rows rest → MadeUpTo e (visits (rows_tree d.read) ++ mid) (visits t) rest
          go (same p q) =
              let P : List ℕ → Type 0 = λ z. Drawn z mid in
              let are : visits t ≡ visits (rows_tree d.read) = ap visits f.are ∙ ap (λ (z : List Tree). visits (rows_tree z)) p in
              inr (mid, ap (λ (z : List Visit). z ++ mid) (sym are), subst P (sym q) drawn)
          go (more u others left p b) =
              let n = next u left (due f.missing) b in
              let are : visits t ≡ visits (rows_tree d.read) ++ (visits u ++ visits (rows_tree others)) =
              ap visits f.are ∙ ap (λ (z : List Tree). visits (rows_tree z)) p ∙ visits_more d.read u others in
              inl (n.0, front_same (sym are) (front_then (visits (rows_tree d.read)) (front_first (visits (rows_tree others)) n.1)))
            where
              due : ((length f.rows < start.left) × BeginsNone row rest) ⊎ ((length f.rows ≡ start.left) × (rest ≢ [])) → 0 < reader.left
              due (inl q) =
                  let all = d.numbered in
                  let longer : length f.rows ≡ length d.read + suc (length others) = ap length p ∙ length-append d.read (u ∷ others) in
                  let fits : length f.rows < start.left = q.0 in omega arith
              due (inr q) =
                  let all = d.numbered in
                  let longer : length f.rows ≡ length d.read + suc (length others) = ap length p ∙ length-append d.read (u ∷ others) in
                  let full : length f.rows ≡ start.left = q.0 in omega arith

  -- no further row was asked
  pub rows_leave_none : (f : Fault) → ReadsNoneOrWants f (place_of reader) (RowMissing row reader) → Leaves asked (rows_in row start) s0 (error_of_fault f) s
  rows_leave_none f missing =
      rows_leave (error_of_fault f) [] (ended_all {a = []} (error_of_fault f) (fault_unasked E f) refl) drawn_none (λ others all. front_none (visits others)) (λ t left due there. (known f missing t left due there, front_none (visits t)))
    where
      known : (f : Fault) → ReadsNoneOrWants f (place_of reader) (RowMissing row reader) → (t : Tree) (left : List ℕ) → 0 < reader.left → Begins row reader.rest t left → ¬ TellsFault (error_of_fault {E = E} f)
      known (fault.Read x) h t left due there = absurd (by h.1.here)
        where
          by : ((0 < reader.left) × BeginsNone row reader.rest) ⊎ ((reader.left ≡ 0) × (reader.rest ≢ [])) → ⊥
          by (inl q) = q.1.none there.text left t there.spells there.reads
          by (inr q) = let zero : reader.left ≡ 0 = q.0 in omega arith
      known fault.NoMemory h t left due there = λ p. p
      known fault.CodeSize h t left due there = absurd h
      known (fault.Header k) h t left due there = absurd h

  -- the next row was asked in part
  pub rows_leave_next : {m : S} {reader' : Standing} {t : Tree} (e : Error E) → RowRead row reader t reader' → PartMade asked s (visits t) e m → ¬ TellsFault e →
      Leaves asked (rows_in row start) s0 e m
  rows_leave_next {reader' = reader'} {t = t} e r p tells =
      rows_leave e p.part p.ended (drawn_made p.front (drawn_begun item r.begins)) whole next
    where
      whole : (others : Tree) → RowsLeft row reader.left reader.rest others → IsFront p.part (visits others)
      whole others all =
          let less = r.counted in
          let f = rows_first {n = reader'.left} is_sound is_closed (omega arith) r.begins others all in
          front_same (sym (ap visits f.1)) (front_first (visits f.0) p.front)

      next : (u : Tree) (left : List ℕ) → 0 < reader.left → Begins row reader.rest u left → (¬ TellsFault e) × IsFront p.part (visits u)
      next u left due there =
          let one = unique r.begins.spells.shaped there.spells.shaped r.begins.text there.text reader'.rest left is_sound (inl is_closed) r.begins.spells.spelled there.spells.spelled (sym r.begins.reads ∙ there.reads) in
          (tells, front_same (ap visits one.1) p.front)

-- ---- a row that stands whole

-- a row was refused, or is too large, or memory ran out
pub row_made : {S E : Type 0} (reply : S → Visit → Result ℕ E) (next : S → Visit → S) {n : ℕ} {s m : S} {t : Tree} (c : ℕ) (e : Error E) →
    (e ≢ NoMemory → (walk (ask reply next) c s t ≡ refused e m) ⊎ TooLargeMade (ask reply next) s t n e m) → (e ≡ NoMemory → Visited (ask reply next) s (visits t) m) →
    PartMade (ask reply next) s (visits t) e m
row_made {S = S} {E = E} reply next {n = n} {s = s} {m = m} {t = t} c e stops wants = go (is_wanting e)
  where
    large : (e : Error E) → TooLargeMade (ask reply next) s t n e m → PartMade (ask reply next) s (visits t) e m
    large (TooLarge size) q = tree_made (ask reply next) q.accepts.ceiling (TooLarge size) t tt q.accepts.walked
    large (UserError x) q = absurd q.large
    large (ParseError x) q = absurd q.large
    large NoMemory q = absurd q.large
    large CanonicalizedHeapTypeReference q = absurd q.large
    large InvalidConstExpr q = absurd q.large
    large InvalidCodeSectionSize q = absurd q.large
    large UnexpectedNonCoreModuleSection q = absurd q.large
    large UnexpectedNonComponentSection q = absurd q.large
    large UnsupportedCoreTypeInComponent q = absurd q.large

    either : (walk (ask reply next) c s t ≡ refused e m) ⊎ TooLargeMade (ask reply next) s t n e m → PartMade (ask reply next) s (visits t) e m
    either (inl h) = refused_made reply next c t e h
    either (inr h) = large e h

    go : (e ≡ NoMemory) ⊎ (e ≢ NoMemory) → PartMade (ask reply next) s (visits t) e m
    go (inl h) = let P : Error E → Type 0 = λ z. PartMade (ask reply next) s (visits t) z m in subst P (sym h) (wants_made (ask reply next) (wants h))
    go (inr h) = either (stops h)

-- ---- what the sink holds

-- what the rows so far became, and no more
pub rows_held : {S E : Type 0} {asked : Asks S E} {c : ℕ} {row : Shape} {start reader : Standing} {s0 s m : S} {old new new' : List Tree} → RowsDone asked c row start s0 old reader s new → new' ≡ new →
    AskedRow asked row reader.left reader.rest s m → HoldsMade asked c row start (s0, old) (m, new')
rows_held {reader = reader} {s = s} d unchanged next = record {
  read = d.read;
  rest = reader.rest;
  due = reader.left;
  made = d.made;
  state = s;
  front = d.before;
  numbered = d.numbered;
  parts = λ rows all. let b = d.so_far.back rows all in (b.0, b.1);
  accepts = d.accepts;
  counted = d.counted;
  gains = unchanged ∙ d.gains;
  next = next;
}
