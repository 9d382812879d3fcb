-- Frames one behind another, found by their numbers.
use Rattle.std.proofs.Common.{◌≡◌, ◌⊎◌, inl, inr, ℕ, zero, suc, ◌+◌, ◌-◌, ◌<◌, ◌≤◌, ◌^◌, All, List, [], ◌∷◌, ◌++◌, length, drop, take, map, add-one, Some, refl, sym, ap, ap₂, ◌∙◌, append_assoc, length-append, subst, arith}
use Rattle.std.specs.Prelude.{slice_get}
use Rattle.std.proofs.Math.Seq.{drop-append_seam, take-append_seam, take-length}
use Rattle.std.proofs.lemmas.List.{append_cancel_left, length-drop}
use Rattle.std.specs.Coded.{Coded-set, le_prop}
use mathlib.Core.Logic.{∥∥₁_elim}
use Rattle.wasm_shapes.specs.TreeCode.{tree_code}
use Rattle.std.proofs.lemmas.List.Elements.{All-cons, All-head, All-nil, All-tail}
use Rattle.wasm_leb.specs.Leb.{IsUnsigned, leb}
use Rattle.wasm_leb.specs.Place.{BeginsNumber, BeginsNoNumber}
use Rattle.wasm_leb.proofs.Shortest.{leb_spells}
use Rattle.wasm_leb.proofs.Unique.{leb_fills, unsigned_unique}
use Rattle.wasm_shapes.specs.Module.{code_row}
use Rattle.wasm_shapes.specs.Shape.{Shape}
use Rattle.wasm_shapes.specs.Spells.{Is, Spelled, Spells}
use Rattle.wasm_shapes.specs.Tree.{Tree, normal}
use Rattle.wasm_shapes.specs.Types.{rows_tree}
use Rattle.wasm_write.specs.Frames.{AreParts, Frame, IsBodyOf, IsFrame, frame_bytes, frames_bytes}
use Rattle.wasm_write.specs.Held.{AreHeld}
use Rattle.wasm_write.specs.Sections.{SectionRow, framed, framed_tree, section_bytes, sections_bytes}
use Rattle.wasm_write.proofs.Shorter.{shorter}

-- ---- the first frame

-- the rest of some bytes from a place on
rest_is : (n : ℕ) (bytes : List ℕ) → take (length bytes - n) (drop n bytes) ≡ drop n bytes
rest_is n bytes = let P : ℕ → Type 0 = λ k. take k (drop n bytes) ≡ drop n bytes in subst P (length-drop n bytes) (take-length (drop n bytes))

module _ {n : ℕ} {bytes : List ℕ} (f : Frame) (left : List ℕ) (is : IsFrame n f) (e : bytes ≡ frame_bytes f ++ left) where
  abbrev parts : bytes ≡ f.head ++ (leb (length f.body) ++ (f.body ++ left))
  parts = e ∙ append_assoc f.head (leb (length f.body) ++ f.body) left ∙ ap (λ (z : List ℕ). f.head ++ z) (append_assoc (leb (length f.body)) f.body left)

  pub head_within : n ≤ length bytes
  head_within = omega (arith, is.headed, ap length parts, length-append f.head (leb (length f.body) ++ (f.body ++ left)))

  pub head_taken : take n bytes ≡ f.head
  head_taken = rw (parts, sym is.headed) (take-append_seam f.head (leb (length f.body) ++ (f.body ++ left)))

  behind_head : drop n bytes ≡ leb (length f.body) ++ (f.body ++ left)
  behind_head = rw (parts, sym is.headed) (drop-append_seam f.head (leb (length f.body) ++ (f.body ++ left)))

  pub length_there : BeginsNoNumber 128 32 32 (drop n bytes) → ⊥
  length_there none = none (leb (length f.body)) (f.body ++ left) (length f.body) (leb_spells (length f.body) is.short) behind_head

  pub length_is : (size : ℕ) (rest : List ℕ) → BeginsNumber 128 32 32 (drop n bytes) size rest → (size ≡ length f.body) × (rest ≡ f.body ++ left)
  length_is size rest b =
      let text : leb (length f.body) ++ (f.body ++ left) ≡ b.0 ++ rest = sym behind_head ∙ b.2 in
      let same = unsigned_unique (f.body ++ left) rest (leb_spells (length f.body) is.short) b.1 text in
      (sym same.1, sym (append_cancel_left b.0 (f.body ++ left) rest (ap (λ (z : List ℕ). z ++ (f.body ++ left)) (sym same.0) ∙ text)))

  pub body_within : (size : ℕ) (rest : List ℕ) → BeginsNumber 128 32 32 (drop n bytes) size rest → size ≤ length rest
  body_within size rest b = let q = length_is size rest b in omega (arith, q.0, ap length q.1, length-append f.body left)

  pub parts_are : (size : ℕ) (rest : List ℕ) → BeginsNumber 128 32 32 (drop n bytes) size rest → AreParts f left (take n bytes) (take size rest) (take (length rest - size) (drop size rest))
  parts_are size rest b =
      let q = length_is size rest b in record {
        first = head_taken;
        second = rw (q.0, q.1) (take-append_seam f.body left);
        third = rest_is size rest ∙ rw (q.0, q.1) (drop-append_seam f.body left);
      }

-- a number takes a byte
pub some_number : {n : ℕ} {text : List ℕ} → IsUnsigned 32 text n → 0 < length text
some_number {n = n} {text = []} p = absurd (leb_fills 128 [] n p.spelled refl)
some_number {text = b ∷ text} p = omega arith

pub nothing_begins : (n size : ℕ) (rest : List ℕ) {bytes : List ℕ} → bytes ≡ [] → BeginsNumber 128 32 32 (drop n bytes) size rest → n ≤ length bytes → ⊥
nothing_begins n size rest {bytes} e b within =
    let none : n ≡ 0 = omega (arith, ap length e) in
    let empty : drop n bytes ≡ [] = rw (none, e) refl in
    let some = some_number b.1 in
    let long = ap length (sym empty ∙ b.2) in
    absurd (omega (arith, some, long, length-append b.0 rest))

-- ---- the frame of a number

-- so many frames are passed by
abbrev pub Skipped : ℕ → List ℕ → ℕ → List ℕ → Type 0
Skipped n bytes i rest = (fs : List Frame) → All (IsFrame n) fs → bytes ≡ frames_bytes fs → (i ≤ length fs) × (rest ≡ frames_bytes (drop i fs))

-- one more, or none is left
pub next_frame : {n : ℕ} (i : ℕ) (fs : List Frame) → All (IsFrame n) fs → i ≤ length fs →
    ((i ≡ length fs) × (frames_bytes (drop i fs) ≡ []))
    ⊎ ((f : Frame) × (slice_get fs i ≡ Some f) × IsFrame n f × (frames_bytes (drop i fs) ≡ frame_bytes f ++ frames_bytes (drop (suc i) fs)) × (i + 1 ≤ length fs))
next_frame zero [] all within = inl (refl, refl)
next_frame {n} zero (f ∷ fs) all within = inr (f, refl, All-head (IsFrame n) f fs all, refl, omega arith)
next_frame (suc i) [] all within = absurd (omega arith)
next_frame {n} (suc i) (f ∷ fs) all within =
    elim (next_frame i fs (All-tail (IsFrame n) f fs all) (omega arith)) [
      | inl p ↦ inl (ap suc p.0, p.1)
      | inr p ↦ inr (p.0, p.1, p.2, p.3, omega (arith, p.4))
    ]

module _ {n : ℕ} {bytes rest : List ℕ} {i : ℕ} (before : Skipped n bytes i rest) where
  -- no frame is there
  pub frames_end : ((f : Frame) (left : List ℕ) → IsFrame n f → rest ≡ frame_bytes f ++ left → ⊥) → (fs : List Frame) → All (IsFrame n) fs → bytes ≡ frames_bytes fs → length fs ≡ i
  frames_end none fs all e =
      let b = before fs all e in
      elim (next_frame i fs all b.0) [ inl p ↦ sym p.0 | inr p ↦ absurd (none p.0 (frames_bytes (drop (suc i) fs)) p.2 (b.1 ∙ p.3)) ]

  -- one is there, with these parts
  pub frame_found : (head body behind : List ℕ) → ((f : Frame) (left : List ℕ) → IsFrame n f → rest ≡ frame_bytes f ++ left → AreParts f left head body behind) → (rest ≡ [] → ⊥) →
      (fs : List Frame) → All (IsFrame n) fs → bytes ≡ frames_bytes fs → (slice_get fs i ≡ Some (record { head = head; body = body })) × ((i + 1 ≤ length fs) × (behind ≡ frames_bytes (drop (i + 1) fs)))
  frame_found head body behind framed some fs all e =
      let b = before fs all e in
      elim (next_frame i fs all b.0) [
        | inl p ↦ absurd (some (b.1 ∙ p.1))
        | inr p ↦
            let q = framed p.0 (frames_bytes (drop (suc i) fs)) p.2 (b.1 ∙ p.3) in
            (p.1 ∙ ap₂ (λ (x y : List ℕ). Some (record { head = x; body = y })) (sym q.first) (sym q.second), (p.4, q.third ∙ ap (λ (k : ℕ). frames_bytes (drop k fs)) (sym (add-one i))))
      ]

-- ---- what stands in frames

module _ {A : Type 0} (n : ℕ) (as_frame : A → Frame) where
  all_frames : (rows : List A) → ((i : ℕ) (x : A) → slice_get rows i ≡ Some x → IsFrame n (as_frame x)) → All (IsFrame n) (map as_frame rows)
  all_frames [] h = All-nil (IsFrame n)
  all_frames (x ∷ rows) h = All-cons (IsFrame n) (as_frame x) (map as_frame rows) (h 0 x refl) (all_frames rows (λ i y e. h (suc i) y e))

  length_same : (rows : List A) → length (map as_frame rows) ≡ length rows
  length_same [] = refl
  length_same (x ∷ rows) = ap suc (length_same rows)

  which : (rows : List A) (i : ℕ) (f : Frame) → slice_get (map as_frame rows) i ≡ Some f → (x : A) × (slice_get rows i ≡ Some x) × (as_frame x ≡ f)
  which [] i f e = absurd cc
  which (x ∷ rows) zero f e = (x, refl, cc)
  which (x ∷ rows) (suc i) f e = which rows i f e

-- ---- rows of a code section

-- what a row holds in its frame
abbrev unsized : Tree → Tree
unsized (Tree.sized t) = t
unsized t = t

abbrev row_frame : Tree → Frame
row_frame t = record { head = []; body = normal (unsized t) }

framed_row : (rows : List Tree) (x : List ℕ) → Is (Shape.many code_row) (rows_tree rows) → Spelled (rows_tree rows) x → (i : ℕ) (t : Tree) → slice_get rows i ≡ Some t →
    (t ≡ Tree.sized (unsized t)) × (length (normal (unsized t)) < 2 ^ 32)
framed_row [] x d p i t e = absurd cc
framed_row (v ∷ rows) x (Is.cons (Is.sized {t = u} d) d') p (suc i) t e = framed_row rows p.1 d' p.4 i t e
framed_row (v ∷ rows) x (Is.cons (Is.sized {t = u} d) d') p zero t e =
    let same : Tree.sized u ≡ t = cc in
    let less : length (normal u) ≤ length p.3.1 = shorter u p.3.1 p.3.4 in
    let few : length p.3.1 < 2 ^ 32 = p.3.3.fits in
    let P : Tree → Type 0 = λ z. (z ≡ Tree.sized (unsized z)) × (length (normal (unsized z)) < 2 ^ 32) in
    subst P same (refl, omega arith)

module _ (rows : List Tree) (h : ∥ Spells (Shape.many code_row) (normal (rows_tree rows)) (rows_tree rows) ∥₁) where
  is_sized : (i : ℕ) (t : Tree) → slice_get rows i ≡ Some t → t ≡ Tree.sized (unsized t)
  is_sized i t e = ∥∥₁_elim h (Coded-set tree_code t (Tree.sized (unsized t))) (λ p. (framed_row rows (normal (rows_tree rows)) p.shaped p.spelled i t e).0)

  is_short : (i : ℕ) (t : Tree) → slice_get rows i ≡ Some t → IsFrame 0 (row_frame t)
  is_short i t e = record { headed = refl; short = ∥∥₁_elim h le_prop (λ p. (framed_row rows (normal (rows_tree rows)) p.shaped p.spelled i t e).1) }

rows_frames : (rows : List Tree) → ((i : ℕ) (t : Tree) → slice_get rows i ≡ Some t → t ≡ Tree.sized (unsized t)) → normal (rows_tree rows) ≡ frames_bytes (map row_frame rows)
rows_frames [] h = refl
rows_frames (t ∷ rows) h = ap₂ (λ (x y : List ℕ). x ++ y) (ap normal (h 0 t refl)) (rows_frames rows (λ i u e. h (suc i) u e))

module _ {bytes : List ℕ} (rows : List Tree) (i : ℕ) (e : bytes ≡ normal (rows_tree rows)) (h : ∥ Spells (Shape.many code_row) (normal (rows_tree rows)) (rows_tree rows) ∥₁)
    {P : List Frame → Type 0} (found : (fs : List Frame) → All (IsFrame 0) fs → bytes ≡ frames_bytes fs → P fs) where
  pub code_found : P (map row_frame rows)
  code_found = found (map row_frame rows) (all_frames 0 row_frame rows (is_short rows h)) (e ∙ rows_frames rows (is_sized rows h))

pub body_there : (rows : List Tree) (i : ℕ) (head body : List ℕ) → ∥ Spells (Shape.many code_row) (normal (rows_tree rows)) (rows_tree rows) ∥₁ →
    slice_get (map row_frame rows) i ≡ Some (record { head = head; body = body }) → IsBodyOf rows i body
body_there rows i head body h e =
    let w = which 0 row_frame rows i (record { head = head; body = body }) e in
    record { tree = unsized w.0; row = w.1 ∙ ap (λ (t : Tree). Some t) (is_sized rows h i w.0 w.1); is = sym (ap Frame.body w.2) }

pub rows_counted : (rows : List Tree) → length (map row_frame rows) ≡ length rows
rows_counted rows = length_same 0 row_frame rows

-- ---- sections of a module

abbrev section_frame : SectionRow → Frame
section_frame s = record { head = s.id ∷ []; body = s.body }

short_section : (rows : List SectionRow) (x : List ℕ) → Spelled (rows_tree (map framed_tree rows)) x → (i : ℕ) (s : SectionRow) → slice_get rows i ≡ Some s → length s.body < 2 ^ 32
short_section [] x p i s e = absurd cc
short_section (r ∷ rows) x p (suc i) s e = short_section rows p.1 p.4 i s e
short_section (r ∷ rows) x p zero s e =
    let same : r ≡ s = cc in
    let body = p.3.4 in
    let bytes : body.1 ≡ r.body = body.4 in
    let few : length body.1 < 2 ^ 32 = body.3.fits in
    let P : SectionRow → Type 0 = λ z. length z.body < 2 ^ 32 in
    subst P same (omega (arith, ap length bytes))

sections_frames : (rows : List SectionRow) → sections_bytes rows ≡ frames_bytes (map section_frame rows)
sections_frames [] = refl
sections_frames (s ∷ rows) = ap (λ (z : List ℕ). section_bytes s ++ z) (sections_frames rows)

module _ {bytes : List ℕ} (rows : List SectionRow) (i : ℕ) (e : bytes ≡ sections_bytes rows) (h : ∥ AreHeld framed (length rows) (sections_bytes rows) (map framed_tree rows) ∥₁)
    {P : List Frame → Type 0} (found : (fs : List Frame) → All (IsFrame 1) fs → bytes ≡ frames_bytes fs → P fs) where
  pub section_found : P (map section_frame rows)
  section_found = found (map section_frame rows) (all_frames 1 section_frame rows short) (e ∙ sections_frames rows)
    where
      short : (i : ℕ) (s : SectionRow) → slice_get rows i ≡ Some s → IsFrame 1 (section_frame s)
      short i s q = record { headed = refl; short = ∥∥₁_elim h le_prop (λ r. short_section rows (sections_bytes rows) r.spelled i s q) }

pub section_there : (rows : List SectionRow) (i : ℕ) (head body : List ℕ) → slice_get (map section_frame rows) i ≡ Some (record { head = head; body = body }) →
    (s : SectionRow) × (slice_get rows i ≡ Some s) × (head ≡ s.id ∷ []) × (body ≡ s.body)
section_there rows i head body e =
    let w = which 1 section_frame rows i (record { head = head; body = body }) e in
    (w.0, w.1, sym (ap Frame.head w.2), sym (ap Frame.body w.2))

pub sections_counted : (rows : List SectionRow) → length (map section_frame rows) ≡ length rows
sections_counted rows = length_same 1 section_frame rows
