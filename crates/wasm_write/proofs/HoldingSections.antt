-- The sections of a module, and one more.
use Rattle.std.proofs.Common.{◌≡◌, ℕ, suc, ◌+◌, ◌<◌, ◌≤◌, ◌^◌, List, [], ◌∷◌, ◌++◌, drop, length, map, refl, sym, ap, ◌∙◌, append_assoc, arith, length-append, subst}
use Rattle.std.specs.Coded.{Coded-set, coded_ℕ, coded_list}
use Rattle.std.proofs.lemmas.List.Elements.{All-append, All-cons, All-nil}
use mathlib.Core.Logic.{∥∥₁_elim, ∥∥₁_map}
use Rattle.wasm_leb.specs.Leb.{leb}
use Rattle.wasm_leb.proofs.Shortest.{leb_spells}
use Rattle.wasm_shapes.specs.Tree.{Tree, normal}
use Rattle.wasm_shapes.specs.Spells.{Is, Spells}
use Rattle.wasm_shapes.specs.Module.{core_header}
use Rattle.wasm_shapes.specs.Types.{rows_tree}
use Rattle.wasm_write.specs.Sections.{AllFit, SectionRow, Sections, with_section, section_bytes, sections_bytes, module_bytes, framed, framed_tree, AreSections, HeldSections, HeldSections-one, held_sections}
use Rattle.wasm_write.specs.Held.{AreHeld}
use Rattle.wasm_write.proofs.Holding.{are_none, are_more}

-- an id that is a byte, and a length that has a spelling
pub record IsWritable (s : SectionRow) : Type 0 where
  pub byte : s.id < 256
  pub short : length s.body < 2 ^ 32

framed_spelled : (s : SectionRow) → IsWritable s → Spells framed (normal (framed_tree s)) (framed_tree s)
framed_spelled s w = record {
  shaped = Is.seq Is.byte (Is.sized Is.rest);
  spelled = (s.id ∷ [], leb (length s.body) ++ s.body, refl, (refl, w.byte), (leb (length s.body), s.body, refl, leb_spells (length s.body) w.short, refl));
}

pub normal_sections : (rows : List SectionRow) → normal (rows_tree (map framed_tree rows)) ≡ sections_bytes rows
normal_sections [] = refl
normal_sections (s ∷ rows) = ap (λ (z : List ℕ). section_bytes s ++ z) (normal_sections rows)

map_snoc : (rows : List SectionRow) (s : SectionRow) → map framed_tree (rows ++ s ∷ []) ≡ map framed_tree rows ++ framed_tree s ∷ []
map_snoc [] s = refl
map_snoc (r ∷ rows) s = ap (λ (z : List Tree). framed_tree r ∷ z) (map_snoc rows s)

length_sections : (rows : List SectionRow) → length (map framed_tree rows) ≡ length rows
length_sections [] = refl
length_sections (r ∷ rows) = ap suc (length_sections rows)

-- each section takes a byte
sections_take : (rows : List SectionRow) → length rows ≤ length (sections_bytes rows)
sections_take [] = omega arith
sections_take (s ∷ rows) = omega (arith, sections_take rows, length-append (leb (length s.body) ++ s.body) (sections_bytes rows))

are_no_sections : AreSections 0 core_header []
are_no_sections = record { rest = []; stands = refl; held = are_none framed }

are_more_sections : {n : ℕ} {bytes : List ℕ} {rows : List SectionRow} {s : SectionRow} → AreSections n bytes rows → IsWritable s →
    AreSections (n + 1) (bytes ++ section_bytes s) (rows ++ s ∷ [])
are_more_sections {n = n} {rows = rows} {s = s} r w = record {
  rest = r.rest ++ section_bytes s;
  stands = ap (λ (z : List ℕ). z ++ section_bytes s) r.stands ∙ append_assoc core_header r.rest (section_bytes s);
  held = rw (map_snoc rows s) (are_more r.held (framed_spelled s w));
}

abbrev view : ℕ → List SectionRow → Sections
view ceiling rows = record { ceiling = ceiling; sections = rows }

module _ {bytes : List ℕ} where
  pub sections_none : bytes ≡ core_header → HeldSections 0 bytes
  sections_none e = ([], ∣ rw e are_no_sections ∣₁)

  pub sections_none_is : (h : HeldSections 0 bytes) → bytes ≡ core_header → held_sections 0 bytes h ≡ []
  unfolding held_sections sections_none
  sections_none_is h e = HeldSections-one 0 bytes h (sections_none e)

  pub sections_none_fit : (c : ℕ) (h : HeldSections 0 bytes) → bytes ≡ core_header → AllFit c (held_sections 0 bytes h)
  sections_none_fit c h e = rw (sections_none_is h e) (All-nil _)

module _ {n : ℕ} {bytes : List ℕ} (h : HeldSections n bytes) where
  pub sections_length : length (held_sections n bytes h) ≡ n
  unfolding held_sections
  sections_length = ∥∥₁_elim h.1 (Coded-set coded_ℕ (length h.0) n) (λ r. sym (length_sections h.0) ∙ r.held.counted)

  pub sections_are : bytes ≡ module_bytes (held_sections n bytes h)
  unfolding held_sections
  sections_are =
      ∥∥₁_elim h.1 (Coded-set (coded_list coded_ℕ) bytes (module_bytes h.0)) (λ r.
      r.stands ∙ ap (λ (z : List ℕ). core_header ++ z) (sym r.held.normally ∙ normal_sections h.0))

  -- behind the header stand these sections
  pub sections_held : ∥ AreHeld framed (length (held_sections n bytes h)) (sections_bytes (held_sections n bytes h)) (map framed_tree (held_sections n bytes h)) ∥₁
  unfolding held_sections
  sections_held =
      let P : List SectionRow → ℕ → List ℕ → Type 0 = λ rows k z. AreHeld framed k z (map framed_tree rows) in
      ∥∥₁_map h.1 (λ r.
      let count : n ≡ length h.0 = sym r.held.counted ∙ length_sections h.0 in
      let text : r.rest ≡ sections_bytes h.0 = sym r.held.normally ∙ normal_sections h.0 in
      subst (λ (k : ℕ). P h.0 k (sections_bytes h.0)) count (subst (λ (z : List ℕ). P h.0 n z) text r.held))

  -- there are no more than bytes
  pub sections_few : n + 8 ≤ length bytes
  sections_few =
      let rows = held_sections n bytes h in
      let many = sections_take rows in
      let all = sections_length in
      rw sections_are (omega (arith, many, all))

  -- the bytes have grown by a section
  pub sections_grown : {new : List ℕ} (s : SectionRow) → new ≡ bytes ++ section_bytes s → IsWritable s → HeldSections (n + 1) new
  sections_grown s e w = (h.0 ++ s ∷ [], ∥∥₁_map h.1 (λ r. rw e (are_more_sections r w)))

  sections_grown_is : {new : List ℕ} (s : SectionRow) (k : HeldSections (n + 1) new) → new ≡ bytes ++ section_bytes s → IsWritable s →
      held_sections (n + 1) new k ≡ held_sections n bytes h ++ s ∷ []
  unfolding held_sections sections_grown
  sections_grown_is {new} s k e w = HeldSections-one (n + 1) new k (sections_grown s e w)

  -- the bytes are the same
  sections_same_is : {new : List ℕ} (k : HeldSections n new) → new ≡ bytes → held_sections n new k ≡ held_sections n bytes h
  unfolding held_sections
  sections_same_is {new} k e = HeldSections-one n new k (h.0, ∥∥₁_map h.1 (λ r. rw e r))

  -- another header in place of theirs
  pub headed_anew : (header : List ℕ) {new : List ℕ} → length header ≡ 8 → new ≡ header ++ drop (length header) bytes → new ≡ header ++ sections_bytes (held_sections n bytes h)
  headed_anew header l e = e ∙ ap (λ (z : List ℕ). header ++ z) (ap (λ (k : ℕ). drop k bytes) l ∙ ap (drop 8) sections_are)

  -- ---- and each of them fits

  pub fit_same : {new : List ℕ} {c : ℕ} (k : HeldSections n new) → new ≡ bytes → AllFit c (held_sections n bytes h) → AllFit c (held_sections n new k)
  fit_same k e fit = rw (sections_same_is k e) fit

  pub fit_grown : {new : List ℕ} {c : ℕ} (s : SectionRow) (k : HeldSections (n + 1) new) → new ≡ bytes ++ section_bytes s → IsWritable s → length s.body ≤ c →
      AllFit c (held_sections n bytes h) → AllFit c (held_sections (n + 1) new k)
  fit_grown {c = c} s k e w short fit =
      let Fits : SectionRow → Type 0 = λ s. length s.body ≤ c in
      rw (sections_grown_is s k e w) (All-append Fits (held_sections n bytes h) (s ∷ []) fit (All-cons Fits s [] short (All-nil Fits)))

  -- ---- the same of the whole module, seen as its ceiling and its sections

  pub module_same : {new : List ℕ} (ceiling : ℕ) {m : Sections} (k : HeldSections n new) → new ≡ bytes → view ceiling (held_sections n bytes h) ≡ m →
      view ceiling (held_sections n new k) ≡ m
  module_same ceiling k e is = ap (view ceiling) (sections_same_is k e) ∙ is

  pub module_grown : {new : List ℕ} (ceiling : ℕ) {m : Sections} (s : SectionRow) (k : HeldSections (n + 1) new) → new ≡ bytes ++ section_bytes s → IsWritable s →
      view ceiling (held_sections n bytes h) ≡ m → view ceiling (held_sections (n + 1) new k) ≡ with_section m s
  module_grown ceiling s k e w is = ap (view ceiling) (sections_grown_is s k e w) ∙ ap (λ (z : Sections). with_section z s) is
