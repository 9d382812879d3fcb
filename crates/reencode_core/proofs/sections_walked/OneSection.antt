-- A section, from its rows or its one item.
use Rattle.std.proofs.Common.{◌≡◌, ◌≢◌, ℕ, suc, ◌+◌, ◌-◌, ◌<◌, ◌≤◌, ◌^◌, List, [], ◌∷◌, ◌++◌, length, Ok, Err, refl, sym, ap, ◌∙◌, append-nil, arith, subst, inl, inr, ◌⊎◌}
use Rattle.std.proofs.lemmas.List.{append_cancel_left}
use Rattle.wasm_leb.specs.declared.fault.ReadError.{ReadError}
use Rattle.wasm_leb.specs.declared.fault.Fault.{Fault}
use Rattle.wasm_leb.specs.declared.fault.Fault.TheVariants as fault
use Rattle.wasm_leb.specs.Leb.{IsUnsigned}
use Rattle.wasm_leb.specs.Place.{BeginsNoNumber}
use Rattle.wasm_leb.proofs.Unique.{unsigned_unique}
use Rattle.wasm_shapes.specs.declared.SectionId.{SectionId}
use Rattle.wasm_shapes.specs.declared.Space.{Space}
use Rattle.wasm_shapes.specs.Tree.{Tree, count, normal}
use Rattle.wasm_shapes.specs.Shape.{Shape}
use Rattle.wasm_shapes.specs.Spells.{Is, Spelled, Spells}
use Rattle.wasm_shapes.specs.Rows.{RowsLeft, rows_then}
use Rattle.wasm_shapes.proofs.Rows.{vec_spelled, vec_counted, vec_is}
use Rattle.wasm_read.specs.Reading.{Standing, CountRead, ReadsNone}
use Rattle.wasm_shapes.specs.Module.{body_of, row_of, tree_of}
use Rattle.wasm_shapes.specs.SectionTable.{number}
use Rattle.wasm_write.specs.declared.fault.WriteFault.{WriteFault}
use Rattle.wasm_write.specs.declared.fault.WriteFault.TheVariants as write
use Rattle.wasm_write.specs.Faults.{IfTooLarge}
use Rattle.wasm_shapes.specs.Types.{vector_tree}
use Rattle.wasm_write.specs.Sections.{Sections, section_row, with_section}
use Rattle.reencode_hooks.specs.declared.error.Error.{Error}
use Rattle.reencode_hooks.specs.declared.error.Error.TheVariants.{ParseError, TooLarge, NoMemory}
use Rattle.reencode_hooks.specs.Errors.{error_of_fault, error_of_write}
use Rattle.reencode_hooks.specs.Run.{Step, accepted, refused}
use Rattle.reencode_hooks.specs.Walk.{walk}
use Rattle.reencode_core.specs.Errors.{IfParse}
use Rattle.reencode_core.specs.Rows.{Asks, onto_rows, AcceptedHooks, TooMany, RefusesFirst, RefusesInside, RefusesRow, RefusesWhole, StopsAtRow, StopsDue, StopsRows, GivesRows}
use Rattle.reencode_core.specs.Sections.{HasItem, HasRows, LeftBehind, NoItem, ReadsAs, RowsFaultIn, BodyFault, GivesSection}
use Rattle.reencode_core.proofs.faults.WalkRefusals.{IfParse-map, IfRefused-map, unless_wanting, fault_unrefused, write_usual}
use Rattle.reencode_core.proofs.sections_walked.KnownKind.{section_spelled, section_refuses, section_fits, section_large}

-- ---- a body that is accepted

-- The body has a reading, and of each the tree is accepted and becomes this.
pub record BodyMade {S E : Type 0} (asked : Asks S E) (k : SectionId) (body : List ℕ) (c : ℕ) (s m : S) (made : Tree) : Type 0 where
  pub reading : (t : Tree) × ReadsAs k body t
  pub becomes : (t : Tree) → ReadsAs k body t → (u : Tree) × (t ≡ tree_of k u) × (walk asked c s u ≡ accepted made m)

module _ {S E : Type 0} (asked : Asks S E) (k : SectionId) (s m : S) (body : List ℕ) (made : Tree) (old : Sections) (b : BodyMade asked k body old.ceiling s m made) where
  pub section_given : (new : Sections) → new ≡ with_section old (section_row (number k) (normal made)) → length (normal made) ≤ old.ceiling →
      GivesSection asked k body (s, old) (m, new) (Ok tt)
  section_given new gains fits = record {
    reading = λ t r.
        let v = b.becomes t r in
        (tree_of k made, normal made, rw v.1 (section_fits k asked old.ceiling s m v.0 made v.2 fits), gains, section_spelled k made);
    readable = b.reading;
    unreadable = tt;
    refusal = tt;
    unchanged = tt;
  }

  pub section_not_given : (w : WriteFault) → IfTooLarge w (λ size. (size ≡ length (normal made)) × (old.ceiling < size)) →
      GivesSection asked k body (s, old) (m, old) (Err (error_of_write w))
  section_not_given w large = record {
    reading = λ t r. let v = b.becomes t r in (refl, rw v.1 (stops w large v.0 v.2));
    readable = tt;
    unreadable = write_usual E _ w;
    refusal = unless_wanting (error_of_write w) (λ other. inl b.reading);
    unchanged = refl;
  }
    where
      stops : (w : WriteFault) → IfTooLarge w (λ size. (size ≡ length (normal made)) × (old.ceiling < size)) → (u : Tree) →
          walk asked old.ceiling s u ≡ accepted made m → error_of_write {E = E} w ≢ NoMemory → walk asked old.ceiling s (tree_of k u) ≡ refused (error_of_write w) m
      stops (write.TooLarge size) q u h other =
          let same : size ≡ length (normal made) = q.0 in
          let above : old.ceiling < length (normal made) = let p : old.ceiling < size = q.1 in omega arith in
          section_large k asked old.ceiling s m u made h above ∙ ap (λ (n : ℕ). refused (TooLarge n) m) (sym same)
      stops write.NoMemory q u h other = absurd (other refl)

-- ---- rows

-- a section that was empty never holds too many
never_many : {E : Type 0} (e : Error E) (n : ℕ) → n < 2 ^ 32 - 1 → TooMany e n → ⊥
never_many (TooLarge size) n few q = let one : size ≡ n + 1 = q.0 in let more : 2 ^ 32 - 1 < size = q.1 in omega arith
never_many _ n few q = q

-- so many rows stand in front of others
rows_count : (ts : List Tree) (u : Tree) → count (rows_then ts u) ≡ length ts + count u
rows_count [] u = omega arith
rows_count (t ∷ ts) u = let again : count (rows_then ts u) ≡ length ts + count u = rows_count ts u in omega arith

module _ {S E : Type 0} (asked : Asks S E) (k : SectionId) (known : HasRows k) where
  -- the rows of the section's body
  pub rows_read : {body : List ℕ} {reader : Standing} → CountRead body reader → (t : Tree) → ReadsAs k body t →
      (rows : Tree) × (t ≡ tree_of k (Tree.vec rows)) × RowsLeft (row_of k) reader.left reader.rest rows
  rows_read {body = body} there t r =
      let P : Shape → Type 0 = λ s. Spells s body r.0 in
      let v = vec_is there.counted r.0 (subst P known r.2) in
      (v.0, r.1 ∙ ap (tree_of k) v.1, v.2)

  pub section_read : {body : List ℕ} {reader : Standing} → CountRead body reader → (rows : Tree) → RowsLeft (row_of k) reader.left reader.rest rows → (t : Tree) × ReadsAs k body t
  section_read {body = body} there rows r =
      let P : Shape → Type 0 = λ s. Spells s body (Tree.vec rows) in
      (tree_of k (Tree.vec rows), (Tree.vec rows, refl, subst P (sym known) (vec_spelled there.counted r)))

  -- ---- no count

  pub section_uncounted : (s : S) (body : List ℕ) (old : Sections) (f : Fault) → ReadsNone f 0 (BeginsNoNumber 128 32 32 body) →
      GivesSection asked k body (s, old) (s, old) (Err (error_of_fault f))
  section_uncounted s body old f none = record {
    reading = λ t r. absurd (never f none t r);
    readable = tt;
    unreadable = parse f none;
    refusal = fault_unrefused E _ f;
    unchanged = refl;
  }
    where
      never : (f : Fault) → ReadsNone f 0 (BeginsNoNumber 128 32 32 body) → (t : Tree) → ReadsAs k body t → ⊥
      never (fault.Read x) h t r = let P : Shape → Type 0 = λ s. Spells s body r.0 in vec_counted h.1 r.0 (subst P known r.2)
      never fault.NoMemory h t r = h
      never fault.CodeSize h t r = h
      never (fault.Header k) h t r = h

      parse : (f : Fault) → ReadsNone f 0 (BeginsNoNumber 128 32 32 body) → IfParse (error_of_fault {E = E} f) (BodyFault asked old.ceiling k body s s)
      parse (fault.Read x) h = (never (fault.Read x) h, inl (h.0, inl h.1, refl))
      parse fault.NoMemory h = absurd h
      parse fault.CodeSize h = absurd h
      parse (fault.Header k) h = absurd h

  -- ---- the rows were refused

  -- the walk stops where its rows do
  rows_stopped : (c n : ℕ) (s m : S) (rows : Tree) (new : List Tree) (e : Error E) → count rows ≡ n → n < 2 ^ 32 → StopsRows asked c (s, []) rows (m, new) e → e ≢ NoMemory →
      walk asked c s rows ≡ refused e m
  rows_stopped c n s m rows new e counted small g other = go (g.refuses other).refusal
    where
      first : RefusesFirst asked c g.at g.others (length new) e m
      first = g.refuses other

      few : length new < 2 ^ 32 - 1
      few =
          let all : count rows ≡ length g.read + suc (count first.behind) = ap count g.parts ∙ rows_count g.read g.others ∙ ap (λ (u : Tree). length g.read + count u) first.parts in
          let made : length new ≡ length g.made = ap length g.gains in
          let same : length g.made ≡ length g.read = g.counted in
          omega arith

      stops : walk asked c g.at first.row ≡ refused e m → walk asked c g.at g.others ≡ refused e m
      stops h = rw (first.parts, h) refl

      go : (walk asked c g.at first.row ≡ refused e m) ⊎ (AcceptedHooks asked g.at first.row m × TooMany e (length new)) → walk asked c s rows ≡ refused e m
      go (inl h) = rw g.parts (g.accepts g.others ∙ ap (λ (r : Step S (Error E) Tree). onto_rows g.made r) (stops h))
      go (inr h) = absurd (never_many e (length new) few h.1)

  -- so does a part of a body without a reading
  row_stopped : {c : ℕ} {s m : S} {reader : Standing} {new : List Tree} (e : Error E) → reader.left < 2 ^ 32 → StopsAtRow asked c (row_of k) reader (s, []) e (m, new) →
      StopsDue asked c (row_of k) reader s e m
  row_stopped {c = c} {m = m} {reader = reader} {new = new} e small g = record {
    read = g.read;
    rest = g.rest;
    made = g.made;
    state = g.state;
    front = g.front;
    due = g.due;
    accepts = g.accepts;
    refuses = go g.refuses;
  }
    where
      few : length new < 2 ^ 32 - 1
      few =
          let made : length new ≡ length g.made = ap length g.gains in
          let same : length g.made ≡ length g.read = g.counted in
          let due : length g.read < reader.left = g.due in
          omega arith

      whole : (w : RefusesWhole asked c (row_of k) g.rest g.state (length new) e m) → (walk asked c g.state w.tree ≡ refused e m) ⊎ (AcceptedHooks asked g.state w.tree m × TooMany e (length new)) →
          RefusesRow asked c (row_of k) g.rest g.state e m
      whole w (inl h) = record { tree = w.tree; left = w.left; begins = w.begins; refusal = h }
      whole w (inr h) = absurd (never_many e (length new) few h.1)

      go : RefusesWhole asked c (row_of k) g.rest g.state (length new) e m ⊎ RefusesInside asked c (row_of k) g.rest g.state e m →
          RefusesRow asked c (row_of k) g.rest g.state e m ⊎ RefusesInside asked c (row_of k) g.rest g.state e m
      go (inl w) = inl (whole w w.refusal)
      go (inr w) = inr w

  pub rows_stop : (s m : S) (body : List ℕ) (reader : Standing) (start rows : List Tree) (old : Sections) (e : Error E) → start ≡ [] → CountRead body reader →
      GivesRows asked old.ceiling (row_of k) reader (s, start) (m, rows) (Err e) → GivesSection asked k body (s, old) (m, old) (Err e)
  rows_stop s m body reader start rows old e empty there given =
      let P : List Tree → Type 0 = λ z. GivesRows asked old.ceiling (row_of k) reader (s, z) (m, rows) (Err e) in
      let g = subst P empty given in record {
        reading = λ t r.
            let v = rows_read there t r in
            (refl, λ other. rw v.1 (section_refuses k asked old.ceiling s m (Tree.vec v.0) e (vec_refused v.0 (rows_stopped old.ceiling reader.left s m v.0 rows e v.2.counted there.counted.1.fits (g.reading v.0 v.2) other))));
        readable = tt;
        unreadable = IfParse-map e (λ at f. ((λ t r. let v = rows_read there t r in f.none.none v.0 v.2), inr (inl (record { has_rows = known; reader = reader; made = rows; counted = there; fault = f })))) g.unreadable;
        refusal = IfRefused-map e (λ f. inr (record { reader = reader; counted = there; stops = row_stopped e there.counted.1.fits f })) g.refusal;
        unchanged = refl;
      }
    where
      vec_refused : (u : Tree) → walk asked old.ceiling s u ≡ refused e m → walk asked old.ceiling s (Tree.vec u) ≡ refused e m
      vec_refused u h = rw h refl

  -- ---- the rows were accepted

  vec_accepted : (c : ℕ) (s m : S) (u v : Tree) → walk asked c s u ≡ accepted v m → walk asked c s (Tree.vec u) ≡ accepted (Tree.vec v) m
  vec_accepted c s m u v h = rw h refl

  pub rows_made : {c : ℕ} {s m : S} {body : List ℕ} {reader : Standing} {start made : List Tree} → start ≡ [] → CountRead body reader →
      GivesRows asked c (row_of k) reader (s, start) (m, made) (Ok tt) → BodyMade asked k body c s m (vector_tree made)
  rows_made {c = c} {s = s} {m = m} {made = made} empty there g = record {
    reading = section_read there g.readable.0 g.readable.1;
    becomes = λ t r.
        let v = rows_read there t r in
        let q = g.reading v.0 v.2 in
        let same : made ≡ q.0 = q.2 ∙ ap (λ (z : List Tree). z ++ q.0) empty in
        (Tree.vec v.0, v.1, vec_accepted c s m v.0 (rows_then made Tree.nil) (q.1 ∙ ap (λ (z : List Tree). accepted (rows_then z Tree.nil) m) (sym same)));
  }

-- ---- one item

module _ {S E : Type 0} (asked : Asks S E) (k : SectionId) {space : Space} (one : HasItem k space) where
  -- the one reading of a body that the item fills
  pub item_read : {body : List ℕ} {n : ℕ} → IsUnsigned 32 body n → ReadsAs k body (tree_of k (Tree.ix space n))
  item_read {body = body} {n = n} filled =
      let P : Shape → Type 0 = λ z. Spells z body (Tree.ix space n) in (Tree.ix space n, refl, subst P (sym one) (record { shaped = Is.ix; spelled = filled }))

  item_is : {body : List ℕ} (t : Tree) → ReadsAs k body t → (n : ℕ) × (t ≡ tree_of k (Tree.ix space n)) × IsUnsigned 32 body n
  item_is {body = body} t r =
      let P : Shape → Type 0 = λ z. Spells z body r.0 in
      let p = subst P one r.2 in
      let u = go r.0 p.shaped p.spelled in (u.0, r.1 ∙ ap (tree_of k) u.1, u.2)
    where
      go : (u : Tree) → Is (Shape.ix space) u → Spelled u body → (n : ℕ) × (u ≡ Tree.ix space n) × IsUnsigned 32 body n
      go u (Is.ix {i = i}) p = (i, refl, p)

  pub same_item : {body : List ℕ} {n : ℕ} → IsUnsigned 32 body n → (t : Tree) → ReadsAs k body t → t ≡ tree_of k (Tree.ix space n)
  same_item {body = body} filled t r =
      let v = item_is t r in v.1 ∙ ap (λ (i : ℕ). tree_of k (Tree.ix space i)) (unsigned_unique [] [] v.2 filled refl).1

  no_item : {body : List ℕ} {at : ℕ} → NoItem body at → (t : Tree) → ReadsAs k body t → ⊥
  no_item {body = body} (inl h) t r = let v = item_is t r in h.1 body [] v.0 v.2 (sym (append-nil body))
  no_item {body = body} (inr h) t r =
      let v = item_is t r in
      let text : List ℕ = h.begins.0 in
      let both_ways : text ++ h.rest ≡ body ++ [] = sym h.begins.2 ∙ sym (append-nil body) in
      let same : text ≡ body = (unsigned_unique h.rest [] h.begins.1 v.2 both_ways).0 in
      h.some (append_cancel_left text h.rest [] (both_ways ∙ ap (λ (z : List ℕ). z ++ []) (sym same)))

  -- it is missing, or bytes are left behind it
  pub item_missing : (s : S) (body : List ℕ) (old : Sections) (e : ReadError) → NoItem body e.at → GivesSection asked k body (s, old) (s, old) (Err (ParseError e))
  item_missing s body old e none = record { reading = λ t r. absurd (no_item none t r); readable = tt; unreadable = (no_item none, place none); refusal = tt; unchanged = refl }
    where
      place : NoItem body e.at →
          ((e.at ≡ 0) × (BeginsNoNumber 128 32 32 body ⊎ (body_of k ≡ Shape.none)) × (s ≡ s)) ⊎ RowsFaultIn asked old.ceiling k body s s e.at
          ⊎ ((space : Space) × HasItem k space × LeftBehind body e.at × (s ≡ s))
      place (inl h) = inl (h.0, inl h.1, refl)
      place (inr h) = inr (inr (space, one, h, refl))

  -- it was refused
  pub item_stops : (s m : S) (body : List ℕ) (n : ℕ) (old : Sections) (e : Error E) → IsUnsigned 32 body n →
      (e ≢ NoMemory → walk asked old.ceiling s (Tree.ix space n) ≡ refused e m) → IfParse e (λ at. ⊥) → GivesSection asked k body (s, old) (m, old) (Err e)
  item_stops s m body n old e filled stops usual = record {
    reading = λ t r. (refl, λ other. rw (same_item filled t r) (section_refuses k asked old.ceiling s m (Tree.ix space n) e (stops other)));
    readable = tt;
    unreadable = IfParse-map e (λ at never. absurd never) usual;
    refusal = unless_wanting e (λ other. inl (tree_of k (Tree.ix space n), item_read filled));
    unchanged = refl;
  }

  -- it was accepted
  pub item_made : {c : ℕ} {s m : S} {body : List ℕ} {n : ℕ} {made : Tree} → IsUnsigned 32 body n → walk asked c s (Tree.ix space n) ≡ accepted made m → BodyMade asked k body c s m made
  item_made {n = n} filled h = record { reading = (tree_of k (Tree.ix space n), item_read filled); becomes = λ t r. (Tree.ix space n, same_item filled t r, h) }

-- ---- a kind that is not in force

pub gives_none : {S E : Type 0} (asked : Asks S E) (k : SectionId) (s : S) (body : List ℕ) (old : Sections) → body_of k ≡ Shape.none →
    GivesSection asked k body (s, old) (s, old) (Err (ParseError (record { at = 0 })))
gives_none asked k s body old e = record {
  reading = λ t r. absurd (none r.2);
  readable = tt;
  unreadable = ((λ t r. none r.2), inl (refl, inr e, refl));
  refusal = tt;
  unchanged = refl;
}
  where
    none : {u : Tree} → Spells (body_of k) body u → ⊥
    none {u = u} p = let P : Shape → Type 0 = λ s. Is s u in elim (subst P e p.shaped) [ ]
