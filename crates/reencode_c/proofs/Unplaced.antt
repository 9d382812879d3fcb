-- Visits with their places are, without these, the visits.
use Rattle.std.proofs.Common.{◌≡◌, ℕ, suc, List, [], ◌∷◌, ◌++◌, map, Option, None, refl, sym, ap, ap₂, ◌∙◌, append_assoc}
use Rattle.std.proofs.lemmas.List.{map-append}
use Rattle.wasm_shapes.specs.declared.SectionId.{SectionId}
use Rattle.wasm_shapes.specs.declared.Visit.{Visit}
use Rattle.wasm_shapes.specs.declared.Visit.TheVariants.{Index, Outer, Section, Closed, Push, Pop}
use Rattle.wasm_shapes.specs.Tree.{Tree, before, behind, kind, visits, visits_from}
use Rattle.reencode_c.specs.declared.outcome.ListedVisit.{ListedVisit}
use Rattle.reencode_c.specs.declared.places.Place.{Place}
use Rattle.reencode_c.specs.Places.{body_placed, framed_placed, headed_placed, module_placed, rows_placed, section_placed, told_placed}
use Rattle.reencode_c.specs.Visits.{all_listed, at, in_row, in_section, listed, moved, nowhere, placed, unplaced}

listed_both : (us vs : List Visit) → all_listed (us ++ vs) ≡ all_listed us ++ all_listed vs
listed_both [] vs = refl
listed_both (u ∷ us) vs = ap (λ (z : List ListedVisit). listed u ++ z) (listed_both us vs) ∙ sym (append_assoc (listed u) (all_listed us) (all_listed vs))

one : (p : Place) (v : Visit) → map unplaced (map (at p) (listed v)) ≡ listed v
one p (Index q i) = refl
one p (Outer q k i) = refl
one p Push = refl
one p Pop = refl
one p (Section after next) = refl
one p (Closed k) = refl

both : (xs ys : List ListedVisit) {us vs : List ListedVisit} → map unplaced xs ≡ us → map unplaced ys ≡ vs → map unplaced (xs ++ ys) ≡ us ++ vs
both xs ys p q = map-append unplaced xs ys ∙ ap₂ (λ (x y : List ListedVisit). x ++ y) p q

pub unplaced_visits : (p : Place) (vs : List Visit) → map unplaced (placed p vs) ≡ all_listed vs
unplaced_visits p [] = refl
unplaced_visits p (v ∷ vs) = both _ _ (one p v) (unplaced_visits (moved p v) vs)

unplaced_rows : (k : SectionId) (n : ℕ) (t : Tree) → map unplaced (rows_placed k n t) ≡ all_listed (visits t)
unplaced_rows k n (Tree.cons t u) = both _ _ (unplaced_visits (in_row k n) (visits t)) (unplaced_rows k (suc n) u) ∙ sym (listed_both (visits t) (visits u))
unplaced_rows k n t = unplaced_visits (in_section k) (visits t)

unplaced_body : (k : SectionId) (t : Tree) → map unplaced (body_placed k t) ≡ all_listed (visits t)
unplaced_body k (Tree.vec t) = unplaced_rows k 0 t
unplaced_body k t = unplaced_visits (in_section k) (visits t)

unplaced_framed : (k : SectionId) (t : Tree) → map unplaced (framed_placed k t) ≡ all_listed (visits t)
unplaced_framed k (Tree.sized t) = unplaced_body k t
unplaced_framed k t = unplaced_visits (in_section k) (visits t)

unplaced_headed : (k : SectionId) (t : Tree) → map unplaced (headed_placed k t) ≡ all_listed (visits t)
unplaced_headed k (Tree.pair h t) = both _ _ (unplaced_visits (in_section k) (visits h)) (unplaced_framed k t) ∙ sym (listed_both (visits h) (visits t))
unplaced_headed k t = unplaced_visits (in_section k) (visits t)

unplaced_told : (t : Tree) → map unplaced (told_placed t) ≡ all_listed (visits t)
unplaced_told (Tree.told k t) = unplaced_headed k t
unplaced_told t = unplaced_visits nowhere (visits t)

unplaced_section : (t : Tree) → map unplaced (section_placed t) ≡ all_listed (visits t)
unplaced_section (Tree.row i t) = unplaced_told t
unplaced_section t = unplaced_visits nowhere (visits t)

-- hooks are not listed
none_before : (last : Option SectionId) (t : Tree) → all_listed (before last t) ≡ []
none_before last (Tree.row k t) = none_before last t
none_before last (Tree.told k t) = refl
none_before last _ = refl

none_behind : (t : Tree) → all_listed (behind t) ≡ []
none_behind (Tree.row k t) = none_behind t
none_behind (Tree.told k t) = refl
none_behind _ = refl

listed_also : (last : Option SectionId) (t u : Tree) → all_listed (visits_from last (Tree.also t u)) ≡ all_listed (visits t) ++ all_listed (visits_from (kind last t) u)
listed_also last t u =
    listed_both (before last t) (visits t ++ (behind t ++ visits_from (kind last t) u))
    ∙ ap (λ (z : List ListedVisit). z ++ all_listed (visits t ++ (behind t ++ visits_from (kind last t) u))) (none_before last t)
    ∙ listed_both (visits t) (behind t ++ visits_from (kind last t) u)
    ∙ ap (λ (z : List ListedVisit). all_listed (visits t) ++ z)
    (listed_both (behind t) (visits_from (kind last t) u) ∙ ap (λ (z : List ListedVisit). z ++ all_listed (visits_from (kind last t) u)) (none_behind t))

unplaced_from : (last : Option SectionId) (t : Tree) → map unplaced (module_placed t) ≡ all_listed (visits_from last t)
unplaced_from last (Tree.also t u) = both _ _ (unplaced_section t) (unplaced_from (kind last t) u) ∙ sym (listed_also last t u)
unplaced_from last Tree.finish = refl
unplaced_from last t = unplaced_visits nowhere (visits t)

pub unplaced_module : (t : Tree) → map unplaced (module_placed t) ≡ all_listed (visits t)
unplaced_module t = unplaced_from None t
