-- In a section of a component that is not nested no section hook is asked, and so nothing is added.
use Rattle.std.proofs.Common.{◌≡◌, ◌≢◌, ℕ, zero, suc, List, [], refl, sym, ◌∙◌, subst, ◌⊎◌, inl, inr}
use Rattle.wasm_shapes.specs.declared.Visit.{Visit}
use Rattle.wasm_shapes.specs.Component.{component_body_of}
use Rattle.wasm_shapes.specs.ComponentReadings.{InComponentFrame}
use Rattle.wasm_shapes.specs.Module.{custom_frame, numbered_frame}
use Rattle.wasm_shapes.specs.Spells.{Is}
use Rattle.wasm_shapes.specs.Tree.{Tree, visits}
use Rattle.wasm_write.specs.Sections.{SectionRow}
use Rattle.reencode_hooks.specs.declared.error.Error.{Error}
use Rattle.reencode_hooks.specs.SectionVisits.{section_visits}
use Rattle.reencode_hooks.proofs.SectionVisits.{none_within}
use Rattle.reencode_core.specs.Rows.{Asks}
use Rattle.reencode_core.specs.Weave.{Puts}
use Rattle.reencode_core.specs.Woven.{AddsFit}
use Rattle.reencode_core.proofs.weave.AdditionsFit.{fits_none}
use Rattle.reencode_component.specs.Causes.{FitsInside, IsNestedFrame}
use Rattle.reencode_component.specs.Components.{ReadsSection}

-- ---- frames that are not nested

pub not_nested : {id : ℕ} {body : List ℕ} → id ≢ 1 → id ≢ 4 → IsNestedFrame (numbered_frame id body) → ⊥
not_nested {id = id} {body = body} no_module no_component h = go h.3
  where
    same : id ≡ h.0
    same = let e : numbered_frame id body ≡ numbered_frame h.0 h.1 = h.2 in cc

    go : (h.0 ≡ 1) ⊎ (h.0 ≡ 4) → ⊥
    go (inl q) = no_module (same ∙ q)
    go (inr q) = no_component (same ∙ q)

pub custom_not_nested : {name contents : List ℕ} → IsNestedFrame (custom_frame name contents) → ⊥
custom_not_nested {name = name} {contents = contents} h = let e : custom_frame name contents ≡ numbered_frame h.0 h.1 = h.2 in cc

-- ---- their visits

body_hookless : (id : ℕ) {u : Tree} → Is (component_body_of id) u → id ≢ 1 → id ≢ 4 → section_visits (visits u) ≡ []
body_hookless zero d a b = none_within d refl
body_hookless (suc zero) d a b = absurd (a refl)
body_hookless (suc (suc zero)) d a b = none_within d refl
body_hookless (suc (suc (suc zero))) d a b = none_within d refl
body_hookless (suc (suc (suc (suc zero)))) d a b = absurd (b refl)
body_hookless (suc (suc (suc (suc (suc zero))))) d a b = none_within d refl
body_hookless (suc (suc (suc (suc (suc (suc zero)))))) d a b = none_within d refl
body_hookless (suc (suc (suc (suc (suc (suc (suc zero))))))) d a b = none_within d refl
body_hookless (suc (suc (suc (suc (suc (suc (suc (suc zero)))))))) d a b = none_within d refl
body_hookless (suc (suc (suc (suc (suc (suc (suc (suc (suc zero))))))))) d a b = none_within d refl
body_hookless (suc (suc (suc (suc (suc (suc (suc (suc (suc (suc zero)))))))))) d a b = none_within d refl
body_hookless (suc (suc (suc (suc (suc (suc (suc (suc (suc (suc (suc zero))))))))))) d a b = none_within d refl
body_hookless (suc (suc (suc (suc (suc (suc (suc (suc (suc (suc (suc (suc n)))))))))))) d a b = none_within d refl

section_hookless : {depth : ℕ} {f t : Tree} → ReadsSection depth f t → (IsNestedFrame f → ⊥) → section_visits (visits t) ≡ []
section_hookless r none = go r.framed none
  where
    go : {t f : Tree} → InComponentFrame t f → (IsNestedFrame f → ⊥) → section_visits (visits t) ≡ []
    go (InComponentFrame.of_id id u body low high p) none = body_hookless id p.shaped (λ e. none (id, body, refl, inl e)) (λ e. none (id, body, refl, inr e))
    go (InComponentFrame.of_custom name contents u (inl p)) none = none_within p.1.shaped refl
    go (InComponentFrame.of_custom name contents u (inr p)) none = let P : Tree → Type 0 = λ z. section_visits (visits z) ≡ [] in subst P (sym p.1) refl
    go (InComponentFrame.of_unknown id contents low high) none = refl

-- ---- what is added

module _ {S E : Type 0} (asked : Asks S E) (adds : Puts S SectionRow) (c depth : ℕ) {f : Tree} (none : IsNestedFrame f → ⊥) (s : S) where
  pub plain_fits : {t : Tree} → ReadsSection depth f t → AddsFit asked adds c s (visits t)
  plain_fits {t = t} r = fits_none asked adds c s (visits t) (section_hookless r none)

  pub plain_inside : (scopes : ℕ) (m : S) (e : Error E) → FitsInside asked adds c depth scopes f s m e
  plain_inside zero m e = tt
  plain_inside (suc scopes) m e = λ n. absurd (none n)
