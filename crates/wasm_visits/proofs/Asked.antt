-- Visits with their places are, without these, what is asked.
use Rattle.std.proofs.Common.{◌≡◌, ℕ, List, [], ◌∷◌, ◌++◌, map, Option, None, refl, sym, ap, ap₂, ◌∙◌, append_assoc}
use Rattle.std.proofs.lemmas.List.{map-append}
use Rattle.wasm_shapes.specs.declared.SectionId.{SectionId}
use Rattle.wasm_shapes.specs.declared.Visit.{Visit}
use Rattle.wasm_shapes.specs.declared.Visit.TheVariants.{Index, Outer, Section, Closed, Push, Pop}
use Rattle.wasm_shapes.specs.Shape.{Shape}
use Rattle.wasm_shapes.specs.Tree.{Tree, before, behind, kind, visits, visits_from}
use Rattle.wasm_visits.specs.declared.lister.PlacedVisit.{PlacedVisit}
use Rattle.wasm_visits.specs.Placed.{BodyAt, NamesAt, RowsAt, SectionAt, SectionsAt, SubsectionAt, VectorAt}
use Rattle.wasm_visits.specs.Visits.{all_listed, index_asked, indices_asked, listed, visit_of}

asked_both : (us vs : List Visit) → indices_asked (us ++ vs) ≡ indices_asked us ++ indices_asked vs
asked_both [] vs = refl
asked_both (u ∷ us) vs = ap (λ (z : List Visit). index_asked u ++ z) (asked_both us vs) ∙ sym (append_assoc (index_asked u) (indices_asked us) (indices_asked vs))

one : (k : SectionId) (at : ℕ) (v : Visit) → map visit_of (listed k at v) ≡ index_asked v
one k at (Index s i) = refl
one k at (Outer s c i) = refl
one k at Push = refl
one k at Pop = refl
one k at (Section after next) = refl
one k at (Closed kind) = refl

both : (xs ys : List PlacedVisit) {us vs : List Visit} → map visit_of xs ≡ us → map visit_of ys ≡ vs → map visit_of (xs ++ ys) ≡ us ++ vs
both xs ys p q = map-append visit_of xs ys ∙ ap₂ (λ (x y : List Visit). x ++ y) p q

all : (k : SectionId) (at : ℕ) (vs : List Visit) → map visit_of (all_listed k at vs) ≡ indices_asked vs
all k at [] = refl
all k at (v ∷ vs) = both _ _ (one k at v) (all k at vs)

rows_asked : {k : SectionId} {s : Shape} {end : ℕ} {bytes : List ℕ} {t : Tree} {list : List PlacedVisit} → RowsAt k s end bytes t list → map visit_of list ≡ indices_asked (visits t)
rows_asked RowsAt.none = refl
rows_asked {k = k} (RowsAt.more bytes left t others list b a) = both _ _ (all k _ (visits t)) (rows_asked a) ∙ sym (asked_both (visits t) (visits others))

vector_asked : {k : SectionId} {s : Shape} {end : ℕ} {body : List ℕ} {t : Tree} {list : List PlacedVisit} → VectorAt k s end body t list → map visit_of list ≡ indices_asked (visits t)
vector_asked v = rows_asked v.placed ∙ ap (λ (z : Tree). indices_asked (visits z)) (sym v.are)

body_asked : {k : SectionId} {end : ℕ} {body : List ℕ} {t : Tree} {list : List PlacedVisit} → BodyAt k end body t list → map visit_of list ≡ indices_asked (visits t)
body_asked (BodyAt.rows list v) = vector_asked v
body_asked {k = k} {t = t} (BodyAt.item s shape) = all k _ (visits t)

subsection_asked : {end id : ℕ} {body : List ℕ} {t : Tree} {list : List PlacedVisit} → SubsectionAt end id body t list → map visit_of list ≡ indices_asked (visits t)
subsection_asked (SubsectionAt.text name is spells) = refl
subsection_asked (SubsectionAt.entries indirect s t list low shape v) = vector_asked v
subsection_asked (SubsectionAt.other high) = refl

names_asked : {end : ℕ} {bytes : List ℕ} {t : Tree} {list : List PlacedVisit} → NamesAt end bytes t list → map visit_of list ≡ indices_asked (visits t)
names_asked NamesAt.none = refl
names_asked (NamesAt.more id bytes body left t others here list b s a) = both _ _ (subsection_asked s) (names_asked a) ∙ sym (asked_both (visits t) (visits others))

section_asked : {end : ℕ} {t f : Tree} {list : List PlacedVisit} → SectionAt end t f list → map visit_of list ≡ indices_asked (visits t)
section_asked (SectionAt.of_kind k body t list a) = body_asked a
section_asked (SectionAt.of_names contents t list a) = names_asked a
section_asked (SectionAt.of_custom name contents other) = refl
section_asked (SectionAt.of_unknown id contents t high none) = ap indices_asked (sym none)

-- hooks ask for no index
none_before : (last : Option SectionId) (t : Tree) → indices_asked (before last t) ≡ []
none_before last (Tree.row k t) = none_before last t
none_before last (Tree.told k t) = refl
none_before last _ = refl

none_behind : (t : Tree) → indices_asked (behind t) ≡ []
none_behind (Tree.row k t) = none_behind t
none_behind (Tree.told k t) = refl
none_behind _ = refl

asked_also : (last : Option SectionId) (t u : Tree) → indices_asked (visits_from last (Tree.also t u)) ≡ indices_asked (visits t) ++ indices_asked (visits_from (kind last t) u)
asked_also last t u =
    asked_both (before last t) (visits t ++ (behind t ++ visits_from (kind last t) u))
    ∙ ap (λ (z : List Visit). z ++ indices_asked (visits t ++ (behind t ++ visits_from (kind last t) u))) (none_before last t)
    ∙ asked_both (visits t) (behind t ++ visits_from (kind last t) u)
    ∙ ap (λ (z : List Visit). indices_asked (visits t) ++ z)
    (asked_both (behind t) (visits_from (kind last t) u) ∙ ap (λ (z : List Visit). z ++ indices_asked (visits_from (kind last t) u)) (none_behind t))

asked_from : {end : ℕ} {bytes : List ℕ} {t : Tree} {list : List PlacedVisit} (last : Option SectionId) → SectionsAt end bytes t list → map visit_of list ≡ indices_asked (visits_from last t)
asked_from last SectionsAt.none = refl
asked_from last (SectionsAt.more bytes left f t others here list b i s a) = both _ _ (section_asked s) (asked_from (kind last t) a) ∙ sym (asked_also last t others)

pub sections_asked : {end : ℕ} {bytes : List ℕ} {t : Tree} {list : List PlacedVisit} → SectionsAt end bytes t list → map visit_of list ≡ indices_asked (visits t)
sections_asked a = asked_from None a
