-- The section visits of a reading are those of the kinds of its sections.
use Rattle.std.proofs.Common.{◌≡◌, ◌≤◌, ◌<◌, lit≤, ◌⊎◌, inl, inr, ℕ, suc, List, [], ◌∷◌, ◌++◌, Bool, true, false, nat_eq, length, map, Option, Some, None, refl, sym, ap, ap₂, ◌∙◌, arith}
use Rattle.std.specs.Prelude.{find, flat_map, filter, zip, cond}
use Rattle.std.specs.List.{concat, AllZip, cons_option}
use Rattle.std.proofs.lemmas.List.Elements.{filter-append}
use Rattle.std.proofs.lemmas.Bool.Decides.{Decides-eqb}
use Rattle.wasm_shapes.specs.declared.SectionId.{SectionId}
use Rattle.wasm_shapes.specs.declared.SectionId.TheVariants as id
use Rattle.wasm_shapes.specs.declared.Visit.{Visit}
use Rattle.wasm_shapes.specs.declared.Visit.TheVariants.{Section}
use Rattle.wasm_shapes.specs.Tree as trees
use Rattle.wasm_shapes.specs.Tree.{Tree, normal, visits, visits_from, before, behind}
use Rattle.wasm_shapes.specs.Spells.{Is, Spelled, Spells}
use Rattle.wasm_shapes.specs.SectionTable.{number}
use Rattle.wasm_shapes.specs.Module.{in_force, section, sections, core_header, alsos, CoreReading, InFrame}
use Rattle.wasm_shapes.proofs.SectionTable.{in_frame}
use Rattle.wasm_shapes.proofs.Laws.{module_headed}
use Rattle.reencode_hooks.specs.SectionVisits.{is_section, section_visits}
use Rattle.reencode_hooks.proofs.SectionVisits.{within}
use Rattle.reencode_laws.specs.SectionVisits.{HasSections, kind_of_id, kind_of_text, kinds_of_texts, closing, of_section_hook, of_closing_hook, SectionVisitsAre}

-- ---- kinds by their ids

known : (k : SectionId) → 1 ≤ number k → kind_of_id (number k) ≡ Some k
known id.Custom h = absurd (omega (arith, h))
known _ h = refl

at_most : (k : SectionId) → number k ≤ 13
at_most id.Custom = lit≤ tt
at_most _ = lit≤ tt

not_among : (n : ℕ) (ks : List SectionId) → ((k : SectionId) → number k ≡ n → ⊥) → find (λ (k : SectionId). nat_eq (number k) n) ks ≡ None
not_among n [] other = refl
not_among n (k ∷ ks) other = go (nat_eq (number k) n) (Decides-eqb (number k) n).0 (not_among n ks other)
  where
    go : (b : Bool) → (b ≡ true → number k ≡ n) → find (λ (k : SectionId). nat_eq (number k) n) ks ≡ None →
        cond b (Some k) (find (λ (k : SectionId). nat_eq (number k) n) ks) ≡ None
    go true same e = absurd (other k (same refl))
    go false same e = e

above : (n : ℕ) → 13 < n → kind_of_id n ≡ None
above n high = not_among n (map (λ x. x.name) in_force) (λ k e. let l = at_most k in omega (arith, e, l, high))

other_ids : (n : ℕ) → (n ≡ 0) ⊎ (13 < n) → kind_of_id n ≡ None
other_ids n (inl e) = ap kind_of_id e
other_ids n (inr high) = above n high

-- a section's text begins with its id, as its normal spelling does
begins : (n : ℕ) (x y z : List ℕ) → x ≡ y ++ z → y ≡ n ∷ [] → kind_of_text x ≡ kind_of_id n
begins n x y z e f = ap kind_of_text (e ∙ ap (λ (y : List ℕ). y ++ z) f)

in_frame_of_tree : (x : List ℕ) {t f : Tree} → InFrame t f → Spelled t x → kind_of_text x ≡ kind_of_text (normal t)
in_frame_of_tree x (InFrame.of_kind k u body low r) p = begins (number k) x p.0 p.1 p.2 p.3
in_frame_of_tree x (InFrame.of_custom name contents u r) p = begins 0 x p.0 p.1 p.2 p.3
in_frame_of_tree x (InFrame.of_unknown n contents low high) p = begins n x p.0 p.1 p.2 p.3.0

of_tree : (text : List ℕ) (t : Tree) → Spells section text t → kind_of_text text ≡ kind_of_text (normal t)
of_tree text t p = in_frame_of_tree text (in_frame t text p.shaped p.spelled).1 p.spelled

-- ---- the visits of sections one behind another

-- what is told of sections of these kinds, behind one of that kind
abbrev told_behind : Option SectionId → List SectionId → List Visit
told_behind last ks = flat_map (λ p. Section p.0 p.1 ∷ closing p.1) (zip (last ∷ map Some ks) (map Some ks ++ None ∷ []))

-- before a section and behind it its kind is told, where it has one, and what is told then is told behind this kind
round_is : (last : Option SectionId) (ks : List SectionId) {t f : Tree} → InFrame t f →
    section_visits (before last t) ++ (section_visits (behind t) ++ told_behind (trees.kind last t) ks) ≡ told_behind last (cons_option (kind_of_text (normal t)) ks)
round_is last ks (InFrame.of_kind k u body low r) = ap (λ (o : Option SectionId). told_behind last (cons_option o ks)) (sym (known k low))
round_is last ks (InFrame.of_custom name contents u r) = refl
round_is last ks (InFrame.of_unknown n contents low high) = ap (λ (o : Option SectionId). told_behind last (cons_option o ks)) (sym (above n low))

told_from : (last : Option SectionId) (texts : List (List ℕ)) (ts : List Tree) → AllZip (Spells section) texts ts →
    section_visits (visits_from last (alsos ts Tree.finish)) ≡ told_behind last (kinds_of_texts texts)
told_from last [] [] all = refl
told_from last [] (t ∷ ts) all = absurd all
told_from last (x ∷ xs) [] all = absurd all
told_from last (x ∷ xs) (t ∷ ts) all =
    let others = visits_from (trees.kind last t) (alsos ts Tree.finish) in
    filter-append is_section (before last t) (visits t ++ (behind t ++ others))
    ∙ ap (λ (z : List Visit). section_visits (before last t) ++ z)
    (filter-append is_section (visits t) (behind t ++ others)
    ∙ ap₂ (λ (y z : List Visit). y ++ z) (within x t all.0)
    (filter-append is_section (behind t) others ∙ ap (λ (z : List Visit). section_visits (behind t) ++ z) (told_from (trees.kind last t) xs ts all.1)))
    ∙ round_is last (kinds_of_texts xs) (in_frame t x all.0.shaped all.0.spelled).1
    ∙ ap (λ (o : Option SectionId). told_behind last (cons_option o (kinds_of_texts xs))) (sym (of_tree x t all.0))

one_more : (last : Option SectionId) (ks : List SectionId) → length (filter of_section_hook (told_behind last ks)) ≡ suc (length ks)
one_more last [] = refl
one_more last (k ∷ ks) = ap suc (one_more (Some k) ks)

as_many : (last : Option SectionId) (ks : List SectionId) → length (filter of_closing_hook (told_behind last ks)) ≡ length ks
as_many last [] = refl
as_many last (k ∷ ks) = ap suc (as_many (Some k) ks)

-- ---- the law

parted : {t : Tree} (x : List ℕ) → Is sections t → Spelled t x →
    (texts : List (List ℕ)) × (ts : List Tree) × (x ≡ concat texts) × (t ≡ alsos ts Tree.finish) × AllZip (Spells section) texts ts
parted x Is.finish p = ([], [], p, refl, tt)
parted x (Is.also {t = t} d e) p =
    let r = parted p.1 e p.4 in (
      p.0 ∷ r.0,
      t ∷ r.1,
      p.2 ∙ ap (λ (z : List ℕ). p.0 ++ z) r.2,
      ap (λ (u : Tree). Tree.also t u) r.3,
      (record { shaped = d; spelled = p.3 }, r.4),
    )

has_sections : (bytes : List ℕ) (t : Tree) → CoreReading bytes t → (texts : List (List ℕ)) × HasSections bytes t texts
has_sections bytes t r =
    let p = parted r.rest r.spells.shaped r.spells.spelled in
    (p.0, record { parts = p.1; stand = r.stands ∙ ap (λ (z : List ℕ). core_header ++ z) p.2; spell = p.4; are = p.3 })

told : (bytes : List ℕ) (t : Tree) (texts : List (List ℕ)) → HasSections bytes t texts → section_visits (visits t) ≡ told_behind None (kinds_of_texts texts)
told bytes t texts h = ap (λ (u : Tree). section_visits (visits u)) h.are ∙ told_from None texts h.parts h.spell

pub section_visits_are : SectionVisitsAre
section_visits_are = record {
  sections = has_sections;
  told = told;
  whole = λ bytes t p.
      let b = module_headed.back bytes t p in
      let s = has_sections bytes b.0 b.2 in
      (b.0, s.0, b.1, s.1, ap (λ (u : Tree). section_visits (visits u)) b.1 ∙ told bytes b.0 s.0 s.1);
  one_more = one_more None;
  as_many = as_many None;
  within = within;
  of_tree = of_tree;
  known = known;
  others = other_ids;
}
