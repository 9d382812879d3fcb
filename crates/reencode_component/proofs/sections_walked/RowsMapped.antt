-- A section of a component, as its rows are mapped and it is added.
use Rattle.std.proofs.Common.{◌≡◌, ◌≢◌, ◌+◌, ◌-◌, ◌^◌, ◌≤◌, ◌<◌, ℕ, suc, zero, List, [], ◌∷◌, ◌++◌, length, true, Ok, Err, refl, sym, ap, ◌∙◌, subst, arith, ◌⊎◌, inl, inr}
use Rattle.wasm_leb.specs.declared.fault.Fault.{Fault}
use Rattle.wasm_leb.specs.declared.fault.Fault.TheVariants as fault
use Rattle.wasm_leb.specs.Place.{BeginsNoNumber}
use Rattle.wasm_shapes.specs.Component.{component_bodies, component_body_of, component_section_tree, row_at}
use Rattle.wasm_shapes.specs.ComponentReadings.{InComponentFrame}
use Rattle.wasm_shapes.specs.Depth.{Shallow, opens}
use Rattle.wasm_shapes.specs.Module.{numbered_frame}
use Rattle.wasm_shapes.specs.Rows.{rows_then}
use Rattle.wasm_shapes.specs.Shape.{Shape, closed}
use Rattle.wasm_shapes.specs.Sound.{sound}
use Rattle.wasm_shapes.specs.Spells.{Is, Spells}
use Rattle.wasm_shapes.specs.Tree.{Tree, count, normal}
use Rattle.wasm_shapes.specs.Types.{rows_tree, vector_tree}
use Rattle.wasm_shapes.proofs.Rows.{vec_counted, vec_spelled, vec_is}
use Rattle.wasm_read.specs.Reading.{Standing, CountRead}
use Rattle.wasm_write.specs.declared.fault.WriteFault.{WriteFault}
use Rattle.wasm_write.specs.declared.fault.WriteFault.TheVariants as write
use Rattle.wasm_write.specs.Faults.{IfTooLarge}
use Rattle.wasm_write.specs.Sections.{Sections, SectionRow, section_row, with_section}
use Rattle.reencode_hooks.specs.declared.error.Error.{Error}
use Rattle.reencode_hooks.specs.declared.error.Error.TheVariants.{CanonicalizedHeapTypeReference, InvalidConstExpr, InvalidCodeSectionSize, UnexpectedNonCoreModuleSection, UnexpectedNonComponentSection, UnsupportedCoreTypeInComponent, ParseError, UserError, TooLarge, NoMemory}
use Rattle.reencode_hooks.specs.Errors.{error_of_write}
use Rattle.reencode_hooks.specs.Run.{Step, accepted, refused}
use Rattle.reencode_hooks.specs.Walk.{walk}
use Rattle.reencode_core.specs.Errors.{placed_at}
use Rattle.reencode_core.specs.Rows.{AcceptedHooks, Asks, RefusesFirst, RefusesInside, RefusesRow, RefusesWhole, StopsAtRow, StopsDue, StopsRows, TooMany, onto_rows}
use Rattle.reencode_core.specs.Weave.{Puts, added}
use Rattle.reencode_core.proofs.sections_walked.KnownKind.{closed_fits, closed_large}
use Rattle.reencode_component.specs.Components.{NestedFault, ReadsSection}
use Rattle.reencode_component.specs.WeaveIn.{weave_in}
use Rattle.reencode_component.specs.Causes.{IsNestedFrame, Stops, StopsInRows, room}
use Rattle.reencode_component.specs.Gives.{FaultIn, GivesSectionBy}
use Rattle.reencode_component.proofs.sections_walked.NoHooks.{not_nested, plain_fits}
use Rattle.reencode_component.specs.ScopedRows.{AllShallow, GivesShallow, ShallowRows, StopsShallow, standing_at}

-- ---- a section and its frame

-- what stands in a frame of an id below 12 is a section of that id
pub in_numbered : (id : ℕ) (body : List ℕ) (t : Tree) → id ≤ 11 → InComponentFrame t (numbered_frame id body) →
    (u : Tree) × (t ≡ component_section_tree id u) × Spells (component_body_of id) body u
in_numbered id body t high i = go t (numbered_frame id body) i refl
  where
    go : (t f : Tree) → InComponentFrame t f → f ≡ numbered_frame id body → (u : Tree) × (t ≡ component_section_tree id u) × Spells (component_body_of id) body u
    go t f (InComponentFrame.of_id id' u body' low' high' r) e =
        let same : id' ≡ id = cc in
        let bytes : body' ≡ body = cc in
        let P : ℕ → Type 0 = λ z. Spells (component_body_of z) body u in
        let Q : List ℕ → Type 0 = λ z. Spells (component_body_of id') z u in
        (u, ap (λ (z : ℕ). component_section_tree z u) same, subst P same (subst Q bytes r))
    go t f (InComponentFrame.of_custom name contents u r) e = absurd cc
    go t f (InComponentFrame.of_unknown id' contents low' high') e = let same : id' ≡ id = cc in absurd (omega (arith, same, low', high))

-- ---- the walk

module _ {S E : Type 0} (asked : Asks S E) (put : Puts S Tree) (id c : ℕ) (s m : S) where
  pub section_refuses : (rows : Tree) (e : Error E) → walk asked c s rows ≡ refused e m → weave_in asked put c s (component_section_tree id (Tree.vec rows)) ≡ refused e m
  section_refuses rows e h = rw h refl

  pub section_fits : (rows made : Tree) → walk asked c s rows ≡ accepted made m → length (normal (Tree.vec made)) ≤ c →
      weave_in asked put c s (component_section_tree id (Tree.vec rows)) ≡ accepted (component_section_tree id (Tree.vec made)) m
  section_fits rows made h l = rw (h, closed_fits {E = E} c (Tree.vec made) m l) refl

  pub section_large : (rows made : Tree) → walk asked c s rows ≡ accepted made m → c < length (normal (Tree.vec made)) →
      weave_in asked put c s (component_section_tree id (Tree.vec rows)) ≡ refused (TooLarge (length (normal (Tree.vec made)))) m
  section_large rows made h l = rw (h, closed_large {E = E} c (Tree.vec made) m l) refl

-- ---- rows that were refused

-- a section that was empty never holds too many
never_many : {E : Type 0} (e : Error E) (n : ℕ) → n < 2 ^ 32 - 1 → TooMany e n → ⊥
never_many (TooLarge size) n few q = let one : size ≡ n + 1 = q.0 in let more : 2 ^ 32 - 1 < size = q.1 in omega arith
never_many _ n few q = q

-- so many rows stand in front of others
rows_count : (ts : List Tree) (u : Tree) → count (rows_then ts u) ≡ length ts + count u
rows_count [] u = omega arith
rows_count (t ∷ ts) u = let again : count (rows_then ts u) ≡ length ts + count u = rows_count ts u in omega arith

module _ {S E : Type 0} (asked : Asks S E) where
  -- the walk stops where its rows do
  rows_stopped : (c n : ℕ) (s m : S) (rows : Tree) (new : List Tree) (e : Error E) → count rows ≡ n → n < 2 ^ 32 → StopsRows asked c (s, []) rows (m, new) e → e ≢ NoMemory →
      walk asked c s rows ≡ refused e m
  rows_stopped c n s m rows new e counted small g other = go (g.refuses other).refusal
    where
      first : RefusesFirst asked c g.at g.others (length new) e m
      first = g.refuses other

      few : length new < 2 ^ 32 - 1
      few =
          let all : count rows ≡ length g.read + suc (count first.behind) = ap count g.parts ∙ rows_count g.read g.others ∙ ap (λ (u : Tree). length g.read + count u) first.parts in
          let made : length new ≡ length g.made = ap length g.gains in
          let same : length g.made ≡ length g.read = g.counted in
          omega arith

      stops : walk asked c g.at first.row ≡ refused e m → walk asked c g.at g.others ≡ refused e m
      stops h = rw (first.parts, h) refl

      go : (walk asked c g.at first.row ≡ refused e m) ⊎ (AcceptedHooks asked g.at first.row m × TooMany e (length new)) → walk asked c s rows ≡ refused e m
      go (inl h) = rw g.parts (g.accepts g.others ∙ ap (λ (r : Step S (Error E) Tree). onto_rows g.made r) (stops h))
      go (inr h) = absurd (never_many e (length new) few h.1)

  -- so does a part of a body without a reading
  row_stopped : {c : ℕ} {s m : S} {row : Shape} {reader : Standing} {new : List Tree} (e : Error E) → reader.left < 2 ^ 32 → StopsAtRow asked c row reader (s, []) e (m, new) →
      StopsDue asked c row reader s e m
  row_stopped {c = c} {m = m} {row = row} {reader = reader} {new = new} e small g = record {
    read = g.read;
    rest = g.rest;
    made = g.made;
    state = g.state;
    front = g.front;
    due = g.due;
    accepts = g.accepts;
    refuses = go g.refuses;
  }
    where
      few : length new < 2 ^ 32 - 1
      few =
          let made : length new ≡ length g.made = ap length g.gains in
          let same : length g.made ≡ length g.read = g.counted in
          let due : length g.read < reader.left = g.due in
          omega arith

      whole : (w : RefusesWhole asked c row g.rest g.state (length new) e m) → (walk asked c g.state w.tree ≡ refused e m) ⊎ (AcceptedHooks asked g.state w.tree m × TooMany e (length new)) →
          RefusesRow asked c row g.rest g.state e m
      whole w (inl h) = record { tree = w.tree; left = w.left; begins = w.begins; refusal = h }
      whole w (inr h) = absurd (never_many e (length new) few h.1)

      go : RefusesWhole asked c row g.rest g.state (length new) e m ⊎ RefusesInside asked c row g.rest g.state e m → RefusesRow asked c row g.rest g.state e m ⊎ RefusesInside asked c row g.rest g.state e m
      go (inl w) = inl (whole w w.refusal)
      go (inr w) = inr w

-- ---- a section of rows

-- no nested section stands in a frame of another id
pub unnested : (depth : ℕ) {id : ℕ} (body : List ℕ) → id ≢ 1 → id ≢ 4 → (scopes : ℕ) (x : Fault) → NestedFault depth scopes (numbered_frame id body) x → ⊥
unnested depth body no_module no_component zero x h = h
unnested depth {id = id} body no_module no_component (suc scopes) x h = go h.3
  where
    same : id ≡ h.0
    same = let e : numbered_frame id body ≡ numbered_frame h.0 h.1 = h.2 in cc

    go : {A B : Type 0} → ((h.0 ≡ 1) × A) ⊎ ((h.0 ≡ 4) × B) → ⊥
    go (inl q) = no_module (same ∙ q.0)
    go (inr q) = no_component (same ∙ q.0)

-- Sections of the id have these rows.
pub record SectionRows (id : ℕ) (row : Shape) : Type 0 where
  pub are_rows : component_body_of id ≡ Shape.vec row
  pub low : 1 ≤ id
  pub high : id ≤ 11
  pub is_sound : sound (Shape.vec row) ≡ true

pub at_row : (ss : List Shape) (k : ℕ) {row : Shape} → row_at ss k ≡ Shape.vec row → k < length ss
at_row [] k e = absurd cc
at_row (s ∷ ss) zero e = omega arith
at_row (s ∷ ss) (suc k) e = let less : k < length ss = at_row ss k e in omega (arith, less)

pub above_custom : (id : ℕ) {row : Shape} → component_body_of id ≡ Shape.vec row → 1 ≤ id
above_custom zero e = absurd cc
above_custom (suc n) e = omega arith

pub section_rows : {id : ℕ} {row : Shape} → component_body_of id ≡ Shape.vec row → sound row ≡ true → closed row ≡ true → SectionRows id row
section_rows {id = id} are is_sound is_closed = record {
  are_rows = are;
  low = above_custom id are;
  high = let less : id < 12 = at_row component_bodies id are in omega (arith, less);
  is_sound = rw (is_closed, is_sound) refl;
}

-- rows of which none opens a scope too many
shallow_rows : {depth : ℕ} {row : Shape} (rows : Tree) → Is (Shape.many row) rows → depth ≤ 200 → AllShallow depth rows → opens rows + depth ≤ 200
shallow_rows rows Is.nil deep all = omega (arith, deep)
shallow_rows rows (Is.cons {t = t} {u = u} d d') deep all = (all (omega arith)).most

module _ (depth : ℕ) {id : ℕ} {row : Shape} (kind : SectionRows id row) (body : List ℕ) where
  pub rows_read : {reader : Standing} → CountRead body reader → (t : Tree) → ReadsSection depth (numbered_frame id body) t →
      (rows : Tree) × (t ≡ component_section_tree id (Tree.vec rows)) × ShallowRows row (standing_at depth reader) rows
  rows_read there t r =
      let u = in_numbered id body t kind.high r.framed in
      let P : Shape → Type 0 = λ z. Spells z body u.0 in
      let Q : Tree → Type 0 = λ z. Shallow depth z in
      let v = vec_is there.counted u.0 (subst P kind.are_rows u.2) in
      let is : t ≡ component_section_tree id (Tree.vec v.0) = u.1 ∙ ap (component_section_tree id) v.1 in
      (v.0, is, record { left = v.2; shallow = λ some. let all = (subst Q is r.shallow).most in record { most = omega (arith, all) } })

  none_uncounted : BeginsNoNumber 128 32 32 body → (t : Tree) → ReadsSection depth (numbered_frame id body) t → ⊥
  none_uncounted none t r =
      let u = in_numbered id body t kind.high r.framed in let P : Shape → Type 0 = λ z. Spells z body u.0 in vec_counted none u.0 (subst P kind.are_rows u.2)

  pub section_read : depth ≤ 200 → {reader : Standing} → CountRead body reader → (rows : Tree) → ShallowRows row (standing_at depth reader) rows →
      ReadsSection depth (numbered_frame id body) (component_section_tree id (Tree.vec rows))
  section_read deep there rows r =
      let P : Shape → Type 0 = λ z. Spells z body (Tree.vec rows) in
      let spelled = vec_spelled there.counted r.left in
      record {
        framed = InComponentFrame.of_id id (Tree.vec rows) body kind.low kind.high (subst P (sym kind.are_rows) spelled);
        shallow = let most : opens rows + depth ≤ 200 = shallow_rows rows r.left.shaped deep r.shallow in record { most = omega (arith, most) };
      }

  -- no nested section stands there
  pub rows_not : {n : ℕ} → (component_body_of n ≡ Shape.vec row → ⊥) → id ≢ n
  rows_not none e = none (sym (ap component_body_of e) ∙ kind.are_rows)

  -- and no section hook is asked there
  pub rows_plain : IsNestedFrame (numbered_frame id body) → ⊥
  rows_plain = not_nested (rows_not {n = 1} (λ e. cc)) (rows_not {n = 4} (λ e. cc))

  bytes_fault : {A : Type 0} (at : ℕ) → A → A × FaultIn (NestedFault depth (room depth) (numbered_frame id body)) at (fault.Read (record { at = at }))
  bytes_fault at none = (none, (refl, λ y handed q. unnested depth body (rows_not {n = 1} (λ e. cc)) (rows_not {n = 4} (λ e. cc)) (room depth) y q))

module _ {S E : Type 0} (asked : Asks S E) (adds : Puts S SectionRow) (depth : ℕ) (deep : depth ≤ 200) {id : ℕ} {row : Shape} (kind : SectionRows id row) (body : List ℕ) (at : ℕ) where
  module _ (own inner fit : Stops S E) (s m : S) (old : Sections) (stops_in : (e : Error E) → StopsInRows asked old.ceiling depth id body s m e → inner (numbered_frame id body) s m e)
      (fits_in : (n : S) (e : Error E) → fit (numbered_frame id body) s n e) where
    -- the count of the rows is missing
    pub section_uncounted : BeginsNoNumber 128 32 32 body → GivesSectionBy asked adds depth inner own fit (numbered_frame id body) at (s, old) (s, old) (Err (ParseError (record { at = at })))
    section_uncounted none =
        let never = none_uncounted depth kind body none in
        record { reading = λ t r. absurd (never t r); readable = tt; fits = tt; fits_before = λ other. fits_in s _; unreadable = bytes_fault depth kind body at never; refusal = tt; unchanged = refl }

    -- a row is refused, or none is there where one is due
    pub section_stops : {reader : Standing} {start rows : List Tree} (e : Error E) → start ≡ [] → CountRead body reader →
        GivesShallow asked old.ceiling row (standing_at depth reader) (s, start) (m, rows) (Err e) → GivesSectionBy asked adds depth inner own fit (numbered_frame id body) at (s, old) (m, old) (Err (placed_at e at))
    unfolding row_stopped
    section_stops {reader = reader} {start = start} {rows = rows} e empty there given =
        let P : List Tree → Type 0 = λ z. GivesShallow asked old.ceiling row (standing_at depth reader) (s, z) (m, rows) (Err e) in go e (subst P empty given)
      where
        Given : Error E → Type 0
        Given e = GivesShallow asked old.ceiling row (standing_at depth reader) (s, []) (m, rows) (Err e)

        refuses : (e : Error E) → Given e → e ≢ NoMemory → (t : Tree) → ReadsSection depth (numbered_frame id body) t → weave_in asked (added adds) old.ceiling s t ≡ refused e m
        refuses e g other t r =
            let v = rows_read depth kind body there t r in
            rw v.1 (section_refuses asked (added adds) id old.ceiling s m v.0 e (rows_stopped asked old.ceiling reader.left s m v.0 rows e v.2.left.counted there.counted.1.fits (g.reading v.0 v.2) other))

        inside_of : (e : Error E) → StopsShallow asked old.ceiling row (standing_at depth reader) (s, []) e (m, rows) → inner (numbered_frame id body) s m e
        inside_of e f = stops_in e (record { row = row; are_rows = kind.are_rows; reader = reader; counted = there; stops = row_stopped asked e there.counted.1.fits f.stops; shallow = f.shallow; next = f.next })

        go : (e : Error E) → Given e → GivesSectionBy asked adds depth inner own fit (numbered_frame id body) at (s, old) (m, old) (Err (placed_at e at))
        go (ParseError x) g =
            let never : (t : Tree) → ReadsSection depth (numbered_frame id body) t → ⊥ = λ t r. let v = rows_read depth kind body there t r in g.unreadable.none v.0 v.2 in
            record { reading = λ t r. absurd (never t r); readable = tt; fits = tt; fits_before = λ other. fits_in m _; unreadable = bytes_fault depth kind body at never; refusal = tt; unchanged = refl }
        go (UserError x) g = record { reading = λ t r other. inr (refuses (UserError x) g other t r); readable = tt; fits = tt; fits_before = λ other. fits_in m (UserError x); unreadable = tt; refusal = inr (inside_of (UserError x) g.refusal); unchanged = refl }
        go (TooLarge x) g = record { reading = λ t r other. inr (refuses (TooLarge x) g other t r); readable = tt; fits = tt; fits_before = λ other. fits_in m (TooLarge x); unreadable = tt; refusal = inr (inside_of (TooLarge x) g.refusal); unchanged = refl }
        go NoMemory g = record { reading = λ t r other. absurd (other refl); readable = tt; fits = tt; fits_before = λ other. absurd (other refl); unreadable = tt; refusal = tt; unchanged = refl }
        go CanonicalizedHeapTypeReference g = absurd g.unreadable
        go InvalidConstExpr g = absurd g.unreadable
        go InvalidCodeSectionSize g = absurd g.unreadable
        go UnexpectedNonCoreModuleSection g = absurd g.unreadable
        go UnexpectedNonComponentSection g = absurd g.unreadable
        go UnsupportedCoreTypeInComponent g = absurd g.unreadable

    -- the rows were accepted
    module _ {reader : Standing} {start made : List Tree} (empty : start ≡ []) (there : CountRead body reader) (g : GivesShallow asked old.ceiling row (standing_at depth reader) (s, start) (m, made) (Ok tt)) where
      rows_made : (rows : Tree) → ShallowRows row (standing_at depth reader) rows → walk asked old.ceiling s rows ≡ accepted (rows_tree made) m
      rows_made rows r =
          let q = g.reading rows r in
          let same : made ≡ q.0 = q.2 ∙ ap (λ (z : List Tree). z ++ q.0) empty in
          q.1 ∙ ap (λ (z : List Tree). accepted (rows_tree z) m) (sym same)

      here : (t : Tree) × ReadsSection depth (numbered_frame id body) t
      here = (component_section_tree id (Tree.vec g.readable.0), section_read depth kind body deep there g.readable.0 g.readable.1)

      -- the section is added
      pub section_added : {new : Sections} → new ≡ with_section old (section_row id (normal (vector_tree made))) → length (normal (vector_tree made)) ≤ old.ceiling →
          GivesSectionBy asked adds depth inner own fit (numbered_frame id body) at (s, old) (m, new) (Ok tt)
      section_added gains fits = record {
        reading = λ t r.
            let v = rows_read depth kind body there t r in (
              component_section_tree id (vector_tree made),
              section_row id (normal (vector_tree made)),
              rw v.1 (section_fits asked (added adds) id old.ceiling s m v.0 (rows_tree made) (rows_made v.0 v.2) fits),
              gains,
              refl,
            );
        readable = here;
        fits = λ t r. plain_fits asked adds old.ceiling depth (rows_plain depth kind body) s r;
        fits_before = tt;
        unreadable = tt;
        refusal = tt;
        unchanged = tt;
      }

      -- it is too large
      pub section_not_added : (w : WriteFault) → IfTooLarge w (λ size. (size ≡ length (normal (vector_tree made))) × (old.ceiling < size)) →
          GivesSectionBy asked adds depth inner own fit (numbered_frame id body) at (s, old) (m, old) (Err (error_of_write w))
      section_not_added (write.TooLarge size) q = record {
        reading = λ t r other.
            let v = rows_read depth kind body there t r in
            let same : size ≡ length (normal (vector_tree made)) = q.0 in
            let above : old.ceiling < length (normal (vector_tree made)) = let p : old.ceiling < size = q.1 in omega arith in
            inr (rw v.1 (section_large asked (added adds) id old.ceiling s m v.0 (rows_tree made) (rows_made v.0 v.2) above ∙ ap (λ (n : ℕ). refused (TooLarge n) m) (sym same)));
        readable = tt;
        fits = tt;
        fits_before = λ other. fits_in m (TooLarge size);
        unreadable = tt;
        refusal = inl here;
        unchanged = refl;
      }
      section_not_added write.NoMemory q = record { reading = λ t r other. absurd (other refl); readable = tt; fits = tt; fits_before = λ other. absurd (other refl); unreadable = tt; refusal = tt; unchanged = refl }
