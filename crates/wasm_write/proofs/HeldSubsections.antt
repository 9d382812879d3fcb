-- Subsections that are held, and one more.
use Rattle.std.proofs.Common.{◌≡◌, ℕ, ◌<◌, ◌^◌, List, [], ◌∷◌, ◌++◌, length, sym, ap, ◌∙◌, true, subst}
use Rattle.std.specs.Coded.{Coded-set, coded_ℕ, coded_list}
use mathlib.Core.Logic.{∥∥₁_elim, ∥∥₁_map, ∥∥₁_prop}
use Rattle.wasm_shapes.specs.Tree.{Tree, normal}
use Rattle.wasm_shapes.specs.Shape.{Shape}
use Rattle.wasm_shapes.specs.Spells.{Spelled}
use Rattle.wasm_shapes.specs.Sound.{sound}
use Rattle.wasm_shapes.specs.Types.{rows_tree}
use Rattle.wasm_write.specs.Bodies.{CodeRows, with_row}
use Rattle.wasm_write.specs.Held.{AreHeld, HeldMany, HeldMany-one, held_many}
use Rattle.wasm_write.specs.Names.{GainsSubsection, IsSubsection, SubsectionsSpell, subsection_bytes}
use Rattle.wasm_write.proofs.Holding.{are_none, are_many_more}

abbrev pub view : ℕ → List Tree → CodeRows
view ceiling rows = record { ceiling = ceiling; rows = rows }

pub subsections_none : (row : Shape) {bytes : List ℕ} → bytes ≡ [] → HeldMany row bytes
subsections_none row e = ([], ∣ rw e (are_none row) ∣₁)

pub subsections_none_is : (row : Shape) {bytes : List ℕ} → sound (Shape.many row) ≡ true → (h : HeldMany row bytes) → bytes ≡ [] → held_many row bytes h ≡ []
unfolding held_many subsections_none
subsections_none_is row {bytes} passes h e = HeldMany-one row passes bytes h (subsections_none row e)

more : {row : Shape} {bytes body : List ℕ} {rows : List Tree} {id : ℕ} {t : Tree} → AreHeld row (length rows) bytes rows → IsSubsection row id body t → length body < 2 ^ 32 →
    AreHeld row (length (rows ++ t ∷ [])) (bytes ++ subsection_bytes id body) (rows ++ t ∷ [])
more {rows = rows} {t = t} r p small =
    let P : List ℕ → Type 0 = λ z. Spelled t z in
    rw (← p.normally) (are_many_more r (record { shaped = p.shaped; spelled = subst P (sym p.normally) (p.spelled small) }))

module _ {row : Shape} {bytes : List ℕ} (h : HeldMany row bytes) where
  -- the bytes have grown by a subsection
  pub subsections_grown : {new body : List ℕ} {id : ℕ} (t : Tree) → ∥ IsSubsection row id body t ∥₁ → new ≡ bytes ++ subsection_bytes id body → length body < 2 ^ 32 → HeldMany row new
  subsections_grown t p e small = (h.0 ++ t ∷ [], ∥∥₁_elim h.1 ∥∥₁_prop (λ r. ∥∥₁_map p (λ q. rw e (more r q small))))

  pub subsections_grown_is : {new body : List ℕ} {id : ℕ} → sound (Shape.many row) ≡ true → (ceiling : ℕ) {old : CodeRows} (k : HeldMany row new) → new ≡ bytes ++ subsection_bytes id body →
      length body < 2 ^ 32 → view ceiling (held_many row bytes h) ≡ old → GainsSubsection row old id body (view ceiling (held_many row new k))
  unfolding held_many subsections_grown
  subsections_grown_is {new} passes ceiling k e small is t p =
      ap (view ceiling) (HeldMany-one row passes new k (subsections_grown t p e small)) ∙ ap (λ (z : CodeRows). with_row z t) is

  -- the bytes are the same
  pub subsections_same_is : {new : List ℕ} → sound (Shape.many row) ≡ true → (ceiling : ℕ) {old : CodeRows} (k : HeldMany row new) → new ≡ bytes →
      view ceiling (held_many row bytes h) ≡ old → view ceiling (held_many row new k) ≡ old
  unfolding held_many
  subsections_same_is {new} passes ceiling k e is =
      ap (view ceiling) (HeldMany-one row passes new k (h.0, ∥∥₁_map h.1 (λ r. rw e r))) ∙ is

  -- their bytes, and what these spell
  pub subsections_normal : normal (rows_tree (held_many row bytes h)) ≡ bytes
  unfolding held_many
  subsections_normal = ∥∥₁_elim h.1 (Coded-set (coded_list coded_ℕ) (normal (rows_tree h.0)) bytes) (λ r. r.normally)

  pub subsections_spell : SubsectionsSpell row (held_many row bytes h)
  unfolding held_many
  subsections_spell =
      let P : List ℕ → Type 0 = λ z. Spelled (rows_tree h.0) z in
      ∥∥₁_map h.1 (λ r. record { shaped = r.shaped; spelled = subst P (sym r.normally) r.spelled })
