-- What the section hooks add fits, where a module holds it.
use Rattle.std.proofs.Common.{◌≡◌, ℕ, ◌+◌, ◌≤◌, List, [], ◌∷◌, ◌++◌, length, length-append, Option, refl, sym, ap, subst, ◌⊎◌, inl, inr, append-nil, arith}
use Rattle.std.proofs.lemmas.List.{get_or-append-add}
use Rattle.std.proofs.lemmas.List.Elements.{All-get_or, All-from_get_or, All-nil}
use Rattle.std.proofs.Math.Seq.{get_or-append_seam}
use Rattle.wasm_shapes.specs.declared.SectionId.{SectionId}
use Rattle.wasm_shapes.specs.declared.Visit.{Visit}
use Rattle.wasm_shapes.specs.declared.Visit.TheVariants.{Closed}
use Rattle.wasm_shapes.specs.Tree.{Tree, before, behind, visits}
use Rattle.wasm_shapes.specs.Spells.{Spells}
use Rattle.wasm_shapes.specs.Module.{section, InFrame}
use Rattle.wasm_write.specs.Sections.{AllFit, Sections, SectionRow, section_row}
use Rattle.reencode_hooks.specs.Hooks.{Gains, HasTooLarge}
use Rattle.reencode_hooks.specs.Run.{accepted, run, state_after}
use Rattle.reencode_hooks.specs.SectionVisits.{section_visits}
use Rattle.reencode_hooks.proofs.SectionVisits.{none_told, within}
use Rattle.reencode_core.specs.Rows.{Asks}
use Rattle.reencode_core.specs.Weave.{AtSections, Puts}
use Rattle.reencode_core.specs.Woven.{AddedAt, AddedBefore, AddsFit}
use Rattle.reencode_core.proofs.sections_walked.AnySection.{AreTold, added_run, told_before, told_behind}
use Rattle.reencode_core.proofs.after_error.VisitsMade.{run_state}

abbrev none_there : SectionRow
none_there = section_row 0 []

pub rows_none : (c : ℕ) → AllFit c []
rows_none c = All-nil (λ s. length s.body ≤ c)

-- what a module gained fits
pub gains_fit : (old new : Sections) (rows : List SectionRow) → Gains old new rows → AllFit new.ceiling new.sections → AllFit old.ceiling rows
gains_fit old new rows gains fit =
    let F : SectionRow → Type 0 = λ s. length s.body ≤ old.ceiling in
    let P : Sections → Type 0 = λ m. AllFit m.ceiling m.sections in
    let all : AllFit old.ceiling (old.sections ++ rows) = subst P gains fit in
    All-from_get_or F rows none_there (λ i l.
    subst F (get_or-append-add old.sections rows i none_there)
    (All-get_or F (old.sections ++ rows) (length old.sections + i) none_there (omega (arith, l, length-append old.sections rows)) all))

-- and so none of it is too large
pub none_too_large : {c : ℕ} {rows : List SectionRow} → AllFit c rows → (size : ℕ) → ¬ HasTooLarge c rows size
none_too_large {c = c} {rows = rows} fit size h =
    let F : SectionRow → Type 0 = λ s. length s.body ≤ c in
    let P : List SectionRow → Type 0 = λ z. AllFit c z in
    let more = length-append h.front (h.row ∷ h.rest) in
    let short : length h.row.body ≤ c =
    subst F (get_or-append_seam h.front h.row h.rest none_there)
    (All-get_or F (h.front ++ h.row ∷ h.rest) (length h.front) none_there (omega (arith, more)) (subst P h.parts fit)) in
    let sized = h.sized in
    let above = h.above in
    omega (arith, short, sized, above)

-- ---- section visits among visits in two parts

part_of : (xs ys front : List Visit) (v : Visit) (rest : List Visit) → xs ++ ys ≡ front ++ v ∷ rest →
    ((r : List Visit) × (xs ≡ front ++ v ∷ r)) ⊎ ((f : List Visit) × (front ≡ xs ++ f) × (ys ≡ f ++ v ∷ rest))
part_of [] ys front v rest e = inr (front, refl, e)
part_of (x ∷ xs) ys [] v rest e = inl (xs, (let heads : x ≡ v = cc in ap (λ (z : Visit). z ∷ xs) heads))
part_of (x ∷ xs) ys (w ∷ front) v rest e = go (part_of xs ys front v rest (let tails : xs ++ ys ≡ front ++ v ∷ rest = cc in tails))
  where
    heads : x ≡ w
    heads = cc

    go : ((r : List Visit) × (xs ≡ front ++ v ∷ r)) ⊎ ((f : List Visit) × (front ≡ xs ++ f) × (ys ≡ f ++ v ∷ rest)) →
        ((r : List Visit) × (x ∷ xs ≡ w ∷ (front ++ v ∷ r))) ⊎ ((f : List Visit) × (w ∷ front ≡ x ∷ (xs ++ f)) × (ys ≡ f ++ v ∷ rest))
    go (inl p) = let same : xs ≡ front ++ v ∷ p.0 = p.1 in inl (p.0, cc)
    go (inr p) = let same : front ≡ xs ++ p.0 = p.1 in inr (p.0, cc, p.2)

module _ {S E : Type 0} (asked : Asks S E) (P : S → Visit → Type 0) where
  at_both : (s n : S) (told : List ℕ) (xs ys : List Visit) → run asked s xs ≡ accepted told n → AtSections asked s xs P → AtSections asked n ys P → AtSections asked s (xs ++ ys) P
  at_both s n told xs ys ran at_xs at_ys front v rest may parts = go (part_of xs ys front v rest parts)
    where
      go : ((r : List Visit) × (xs ≡ front ++ v ∷ r)) ⊎ ((f : List Visit) × (front ≡ xs ++ f) × (ys ≡ f ++ v ∷ rest)) → P (state_after (run asked s front)) v
      go (inl p) = at_xs front v p.0 may p.1
      go (inr p) =
          let Q : S → Type 0 = λ k. P k v in
          let R : List Visit → Type 0 = λ z. P (state_after (run asked s z)) v in
          subst R (sym p.1) (subst Q (sym (run_state asked s n xs p.0 told ran)) (at_ys p.0 v rest may p.2))

  at_none : (s : S) (xs : List Visit) → section_visits xs ≡ [] → AtSections asked s xs P
  at_none s xs none front v rest may parts = let Q : List Visit → Type 0 = λ z. section_visits z ≡ [] in absurd (none_told front rest v may (subst Q parts none))

  at_one : (s : S) (v : Visit) → P s v → AtSections asked s (v ∷ []) P
  at_one s v p [] w rest may parts = let same : v ≡ w = cc in subst (λ (z : Visit). P s z) same p
  at_one s v p (u ∷ []) w rest may parts = absurd cc
  at_one s v p (u ∷ x ∷ front) w rest may parts = absurd cc

-- ---- a section, and what was added before it and behind it

module _ {S E : Type 0} (asked : Asks S E) (adds : Puts S SectionRow) (c : ℕ) where
  abbrev Fits : S → Visit → Type 0
  Fits m v = (size : ℕ) → ¬ HasTooLarge c (adds m v) size

  pub fits_none : (s : S) (xs : List Visit) → section_visits xs ≡ [] → AddsFit asked adds c s xs
  fits_none s xs none = at_none asked Fits s xs none

  pub fits_both : (s n : S) (told : List ℕ) (xs ys : List Visit) → run asked s xs ≡ accepted told n → AddsFit asked adds c s xs → AddsFit asked adds c n ys → AddsFit asked adds c s (xs ++ ys)
  fits_both s n told xs ys ran first behind = at_both asked Fits s n told xs ys ran first behind

  pub fits_begin : (s : S) → AddsFit asked adds c s []
  fits_begin s = fits_none s [] refl

  hook_fits : {visit : SectionId → Visit} {told : Tree → List Visit} {s n : S} {f : Tree} {own : List SectionRow} → AreTold visit told → AddedAt asked adds visit s f n own → AllFit c own → (t : Tree) → InFrame t f →
      AddsFit asked adds c s (told t)
  hook_fits {visit = visit} {s = s} are (AddedAt.known k body n h) fit t i =
      let P : List Visit → Type 0 = λ z. AddsFit asked adds c s z in subst P (sym (are.kind k i)) (at_one asked Fits s (visit k) (none_too_large fit))
  hook_fits {s = s} are (AddedAt.custom name contents) fit t i = let P : List Visit → Type 0 = λ z. AddsFit asked adds c s z in subst P (sym (are.custom i)) (fits_begin s)
  hook_fits {s = s} are (AddedAt.unknown id contents low) fit t i = let P : List Visit → Type 0 = λ z. AddsFit asked adds c s z in subst P (sym (are.unknown low i)) (fits_begin s)

  pub fits_more : {last : Option SectionId} {s0 s n l m : S} {f : Tree} {own more : List SectionRow} (given : List ℕ) (vs : List Visit) → run asked s0 vs ≡ accepted given s → AddsFit asked adds c s0 vs →
      AddedBefore asked adds last s f n own → AllFit c own → (t : Tree) (x : List ℕ) → InFrame t f → Spells section x t → (inside : List ℕ) → run asked n (visits t) ≡ accepted inside l →
      AddedAt asked adds (λ k. Closed k) l f m more → AllFit c more → AddsFit asked adds c s0 (vs ++ (before last t ++ (visits t ++ (behind t ++ []))))
  fits_more {last = last} {s0 = s0} {s = s} {n = n} {l = l} given vs ran so_far hooked fit t x i p inside walked closed fits =
      let b = added_run (told_before last) hooked t i in
      let Q : List Visit → Type 0 = λ z. AddsFit asked adds c l z in
      let own : AddsFit asked adds c n (visits t ++ (behind t ++ [])) =
      at_both asked Fits n l inside (visits t) (behind t ++ []) walked (at_none asked Fits n (visits t) (within x t p)) (subst Q (sym (append-nil (behind t))) (hook_fits told_behind closed fits t i)) in
      at_both asked Fits s0 s given vs (before last t ++ (visits t ++ (behind t ++ []))) ran so_far
      (at_both asked Fits s n b.0 (before last t) (visits t ++ (behind t ++ [])) b.1 (hook_fits (told_before last) hooked fit t i) own)

  -- and the visit of the hook at the end
  pub fits_end : {s0 s : S} (given : List ℕ) (vs : List Visit) (v : Visit) → run asked s0 vs ≡ accepted given s → AddsFit asked adds c s0 vs → AllFit c (adds s v) → AddsFit asked adds c s0 (vs ++ v ∷ [])
  fits_end {s0 = s0} {s = s} given vs v ran so_far fit = at_both asked Fits s0 s given vs (v ∷ []) ran so_far (at_one asked Fits s v (none_too_large fit))
