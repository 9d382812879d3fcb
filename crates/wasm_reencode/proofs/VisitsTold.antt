-- The visits of a module as lines, and as JSON objects.
use Rattle.std.proofs.Common.{◌≡◌, ◌<◌, ◌≤◌, ℕ, ◌+◌, Bool, false, List, [], ◌∷◌, ◌++◌, length, get_or, drop, take, map, refl, sym, ap, ◌∙◌, subst, append_assoc, append-nil}
use Rattle.std.proofs.Math.ListN.{drop_of_length-le}
use Rattle.std.proofs.lemmas.List.{drop_more, map-append}
use Rattle.serde_json.specs.Data.{Data, member, no_members, put, string}
use Rattle.serde_json.specs.View.{items_of, view}
use Rattle.serde_json.specs.declared.value.Value.{Value}
use Rattle.serde_json.specs.Written.{items_have_float}
use Rattle.reencode_core.specs.Checks.{IsUnread}
use Rattle.reencode_hooks.specs.declared.error.Error.{Error}
use Rattle.reencode_hooks.specs.declared.error.Error.TheVariants as error
use Rattle.wasm_visits.specs.declared.lister.PlacedVisit.{PlacedVisit}
use Rattle.wasm_reencode.specs.Visits.{IsUnlisted, fault_of, visit_line, visit_lines, visit_object, visit_objects}

-- behind the text stand the lines of the visits that are not left
abbrev pub LinesSoFar : (visits left : List PlacedVisit) (text : List ℕ) → Type 0
LinesSoFar visits left text = text ++ visit_lines left ≡ visit_lines visits

pub lines_more : (visits : List PlacedVisit) (i : ℕ) (d : PlacedVisit) (text : List ℕ) {new : List ℕ} → i < length visits → LinesSoFar visits (drop i visits) text →
    new ≡ text ++ visit_line (get_or visits i d) → LinesSoFar visits (drop (i + 1) visits) new
lines_more visits i d text {new} less so added =
    let v = get_or visits i d in
    let left = drop (i + 1) visits in
    ap (λ (z : List ℕ). z ++ visit_lines left) added ∙ append_assoc text (visit_line v) (visit_lines left)
    ∙ ap (λ (z : List PlacedVisit). text ++ visit_lines z) (sym (drop_more visits i d less)) ∙ so

pub lines_all : (visits : List PlacedVisit) (i : ℕ) (text : List ℕ) → length visits ≤ i → LinesSoFar visits (drop i visits) text → text ≡ visit_lines visits
lines_all visits i text last so =
    sym (append-nil text) ∙ ap (λ (z : List PlacedVisit). text ++ visit_lines z) (sym (drop_of_length-le visits last)) ∙ so

-- behind the objects stand those of the visits that are not left
abbrev pub ObjectsSoFar : (visits left : List PlacedVisit) (values : List Value) → Type 0
ObjectsSoFar visits left values = map view values ++ map visit_object left ≡ map visit_object visits

pub objects_more : (visits : List PlacedVisit) (i : ℕ) (d : PlacedVisit) (values : List Value) {new : List Value} (value : Value) → i < length visits → ObjectsSoFar visits (drop i visits) values →
    view value ≡ visit_object (get_or visits i d) → new ≡ values ++ value ∷ [] → ObjectsSoFar visits (drop (i + 1) visits) new
objects_more visits i d values {new} value less so is added =
    let v = get_or visits i d in
    let left = map visit_object (drop (i + 1) visits) in
    ap (λ (z : List Value). map view z ++ left) added ∙ ap (λ (z : List Data). z ++ left) (map-append view values (value ∷ []))
    ∙ append_assoc (map view values) (view value ∷ []) left ∙ ap (λ (z : Data). map view values ++ (z ∷ left)) is
    ∙ ap (λ (z : List PlacedVisit). map view values ++ map visit_object z) (sym (drop_more visits i d less)) ∙ so

pub objects_all : (visits : List PlacedVisit) (i : ℕ) (values : List Value) → length visits ≤ i → ObjectsSoFar visits (drop i visits) values → items_of (map view values) ≡ visit_objects visits
objects_all visits i values last so =
    ap items_of (sym (append-nil (map view values)) ∙ ap (λ (z : List PlacedVisit). map view values ++ map visit_object z) (sym (drop_of_length-le visits last)) ∙ so)

-- no object has a float
pub no_float : (visits : List PlacedVisit) → items_have_float (visit_objects visits) ≡ false
no_float [] = refl
no_float (v ∷ visits) = no_float visits

-- what is not told
pub unlisted : {E : Type 0} (bytes : List ℕ) (e : Error E) → IsUnread bytes e → IsUnlisted bytes (fault_of e)
unlisted bytes (error.ParseError e) h = h
unlisted bytes error.InvalidCodeSectionSize h = h
unlisted bytes error.UnexpectedNonCoreModuleSection h = h
unlisted bytes _ h = tt
