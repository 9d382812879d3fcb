-- Sections of a component that are read, and others from the same start.
use Rattle.std.proofs.Common.{◌≡◌, ◌<◌, ◌≤◌, ◌+◌, ℕ, zero, List, [], ◌∷◌, ◌++◌, length, refl, sym, ap, ◌∙◌, append-nil, arith, subst}
use Rattle.std.proofs.lemmas.List.{append_cancel_left}
use Rattle.wasm_shapes.specs.Component.{component_section}
use Rattle.wasm_shapes.specs.ComponentReadings.{InComponentFrame}
use Rattle.wasm_shapes.specs.Depth.{Shallow, opens}
use Rattle.wasm_shapes.specs.Module.{component_header, frame}
use Rattle.wasm_shapes.specs.Place.{Begins, BeginsNone}
use Rattle.wasm_shapes.specs.Shape.{Shape}
use Rattle.wasm_shapes.specs.Spells.{Is, Spelled}
use Rattle.wasm_shapes.specs.Tree.{Tree}
use Rattle.wasm_shapes.specs.Types.{rows_tree}
use Rattle.wasm_shapes.proofs.Begins.{none_at_end}
use Rattle.wasm_shapes.proofs.ComponentFrames.{in_component_frame, of_component_frame}
use Rattle.wasm_shapes.proofs.Depth.{begins_unique, shallow_behind, shallow_cons, shallow_first, shallow_then}
use Rattle.wasm_shapes.proofs.Rows.{rows_then-append}
use Rattle.reencode_core.specs.Rows.{RowsBefore}
use Rattle.reencode_core.proofs.rows_walked.TypeGroup.{rows_then-both}
use Rattle.reencode_core.proofs.rows_walked.RowLoop.{before_more}
use Rattle.reencode_core.proofs.after_error.RowsVisited.{RowsAhead, rows_ahead}
use Rattle.reencode_component.specs.Components.{BeginsNoSection, BeginsSection, ComponentReading, ReadsSection, SectionsFirst}

-- ---- a section and its frame

-- where its frame stands, so does the section
pub section_there : {depth : ℕ} {f t : Tree} {bytes left : List ℕ} → ReadsSection depth f t → Begins frame bytes f left → BeginsSection depth bytes t left
section_there r there = record { begins = record { text = there.text; spells = of_component_frame r.framed there.spells; reads = there.reads }; shallow = r.shallow }

-- a section that begins there is one of the frame that stands there, and ends where it ends
pub section_of : {depth : ℕ} {f t : Tree} {bytes left left' : List ℕ} → Begins frame bytes f left → BeginsSection depth bytes t left' → ReadsSection depth f t × (left ≡ left')
section_of {depth = depth} {f = f} {t = t} {left' = left'} there here =
    let b = here.begins in
    let g = in_component_frame t b.text b.spells.shaped b.spells.spelled in
    let own : Begins frame _ g.0 left' = record { text = b.text; spells = g.2; reads = b.reads } in
    let same = begins_unique refl refl there own in
    let P : Tree → Type 0 = λ z. InComponentFrame t z in
    (record { framed = subst P (sym same.0) g.1; shallow = here.shallow }, same.1)

-- none begins where its frame has no reading
pub none_framed : {depth : ℕ} {f : Tree} {bytes left : List ℕ} → Begins frame bytes f left → ((t : Tree) → ReadsSection depth f t → ⊥) → BeginsNoSection depth bytes
none_framed there none = record { none = λ left' t b. none t (section_of there b).0 }

pub none_at_nil : (depth : ℕ) → BeginsNoSection depth []
none_at_nil depth = let none : BeginsNone component_section [] = none_at_end refl in record { none = λ left t b. none.none b.begins.text left t b.begins.spells b.begins.reads }

-- ---- sections one behind another

pub none_first : (depth : ℕ) (bytes start : List ℕ) → bytes ≡ component_header ++ start → depth ≤ 200 → SectionsFirst depth bytes [] start
none_first depth bytes start reads low = record {
  start = start;
  stands = reads;
  rows = record { text = []; shaped = Is.nil; spelled = refl; stands = refl };
  shallow = let most : zero + depth ≤ 200 = omega (arith, low) in record { most = most };
}

pub one_more : {depth : ℕ} {bytes rest left : List ℕ} {read : List Tree} {t : Tree} → SectionsFirst depth bytes read rest → BeginsSection depth rest t left → SectionsFirst depth bytes (read ++ t ∷ []) left
one_more {depth = depth} {read = read} {t = t} d b = record {
  start = d.start;
  stands = d.stands;
  rows = before_more d.rows b.begins;
  shallow = rw (rows_then-append read t Tree.nil) (shallow_then depth read (Tree.cons t Tree.nil) d.shallow (shallow_cons b.shallow (none_open b.shallow)));
}
  where
    none_open : Shallow depth t → Shallow depth Tree.nil
    none_open s = let most : opens t + depth ≤ 200 = s.most in let none : zero + depth ≤ 200 = omega arith in record { most = none }

-- one among them is read
among : {depth : ℕ} (ts us : List Tree) (t : Tree) → Shallow depth (rows_tree (ts ++ t ∷ us)) → Shallow depth t
among {depth = depth} ts us t s =
    let P : Tree → Type 0 = λ z. Shallow depth z in
    (shallow_first (shallow_behind depth ts (Tree.cons t (rows_tree us)) (subst P (rows_then-both ts (t ∷ us) Tree.nil) s))).0

-- the second sections are the first; or the first and others behind them, of which one begins where these end
pub data SectionsAhead (depth : ℕ) (read : List Tree) (rest : List ℕ) (read' : List Tree) (rest' : List ℕ) : Type 0 where
  same : read' ≡ read → rest' ≡ rest → SectionsAhead depth read rest read' rest'
  more : (t : Tree) (others : List Tree) (left : List ℕ) → read' ≡ read ++ t ∷ others → BeginsSection depth rest t left → SectionsAhead depth read rest read' rest'

pub sections_ahead : {depth : ℕ} {bytes rest rest' : List ℕ} {read read' : List Tree} → SectionsFirst depth bytes read rest → SectionsFirst depth bytes read' rest' → BeginsNoSection depth rest' →
    SectionsAhead depth read rest read' rest'
sections_ahead {depth = depth} {rest = rest} {rest' = rest'} {read = read} {read' = read'} a b none = go (rows_ahead refl refl a.rows other short)
  where
    other : RowsBefore component_section a.start read' rest'
    other =
        let P : List ℕ → Type 0 = λ z. RowsBefore component_section z read' rest' in
        subst P (append_cancel_left component_header b.start a.start (sym b.stands ∙ a.stands)) b.rows

    -- where fewer are read, the next one of the others begins
    next : RowsAhead component_section read' rest' read rest → length read' < length read → ⊥
    next (RowsAhead.same e r) fewer = let same : length read ≡ length read' = ap length e in omega arith
    next (RowsAhead.more t others left e begins) fewer =
        let P : List Tree → Type 0 = λ z. Shallow depth (rows_tree z) in
        none.none left t (record { begins = begins; shallow = among read' others t (subst P e a.shallow) })

    never : length read' < length read → length read < length read' → BeginsNone component_section rest
    never fewer further = absurd (omega (arith, fewer, further))

    short : length read' < length read → BeginsNone component_section rest'
    short fewer = absurd (next (rows_ahead refl refl other a.rows (never fewer)) fewer)

    go : RowsAhead component_section read rest read' rest' → SectionsAhead depth read rest read' rest'
    go (RowsAhead.same e r) = same e r
    go (RowsAhead.more t others left e begins) =
        let P : List Tree → Type 0 = λ z. Shallow depth (rows_tree z) in
        more t others left e (record { begins = begins; shallow = among read others t (subst P e b.shallow) })

-- ---- a whole component

list_of : (t : Tree) → Is (Shape.many component_section) t → (ts : List Tree) × (t ≡ rows_tree ts)
list_of t Is.nil = ([], refl)
list_of t (Is.cons {t = v} {u = u} d d') = let others = list_of u d' in (v ∷ others.0, ap (λ (z : Tree). Tree.cons v z) others.1)

-- what is read is some sections with nothing behind them
pub sections_of : {depth : ℕ} {bytes : List ℕ} {t : Tree} → ComponentReading depth bytes t → (read : List Tree) × (t ≡ rows_tree read) × SectionsFirst depth bytes read []
sections_of {depth = depth} {t = t} c =
    let l = list_of t c.spells.shaped in
    let P : Tree → Type 0 = λ z. Is (Shape.many component_section) z in
    let Q : Tree → Type 0 = λ z. Spelled z c.rest in
    let R : Tree → Type 0 = λ z. Shallow depth z in (
      l.0,
      l.1,
      record {
        start = c.rest;
        stands = c.stands;
        rows = record { text = c.rest; shaped = subst P l.1 c.spells.shaped; spelled = subst Q l.1 c.spells.spelled; stands = sym (append-nil c.rest) };
        shallow = subst R l.1 c.shallow;
      },
    )

-- and such sections are read
pub whole_read : {depth : ℕ} {bytes rest : List ℕ} {read : List Tree} → SectionsFirst depth bytes read rest → rest ≡ [] → ComponentReading depth bytes (rows_tree read)
whole_read {rest = rest} {read = read} d empty =
    let all : d.start ≡ d.rows.text = d.rows.stands ∙ ap (λ (z : List ℕ). d.rows.text ++ z) empty ∙ append-nil d.rows.text in
    let P : List ℕ → Type 0 = λ z. Spelled (rows_tree read) z in
    record { rest = d.start; stands = d.stands; spells = record { shaped = d.rows.shaped; spelled = subst P (sym all) d.rows.spelled }; shallow = d.shallow }
