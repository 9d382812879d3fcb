-- The code of sections, one behind another.
use Rattle.std.proofs.Common.{◌≡◌, ℕ, ◌+◌, ◌<◌, ◌≤◌, List, [], ◌∷◌, ◌++◌, length, get_or, drop, map, refl, sym, ap, ◌∙◌, subst, append_assoc, append-nil}
use Rattle.std.proofs.Math.ListN.{drop_of_length-le}
use Rattle.std.proofs.lemmas.List.{drop_more}
use Rattle.std.proofs.Common.{Bool, Bor, bytes_eq}
use Rattle.std.specs.Cmp.Derive.Mapped.{pointwise-map}
use Rattle.std.proofs.lemmas.Slice.Eq.{bytes_eq-Decides, slice_eq-Decides}
use Rattle.std.specs.Bool.{Decides}
use Rattle.std.specs.Cmp.Lexicographic.{pointwise}
use Rattle.wasm_reencode.specs.declared.sections.Section.{Section}
use Rattle.wasm_reencode.specs.Sections.{HasCode}
use Rattle.wasm_reencode.specs.Stale.{AreCode}

-- these are the bodies of the sections that are not left
pub record CodeSoFar (sections left : List Section) (bodies : List (List ℕ)) : Type 0 where
  pub goes : (more : List (List ℕ)) → AreCode left more → AreCode sections (bodies ++ more)

pub code_begin : (sections : List Section) → CodeSoFar sections sections []
code_begin sections = record { goes = λ more are. are }

pub code_step : (sections : List Section) (i : ℕ) (d : Section) {bodies : List (List ℕ)} {body : List ℕ} → i < length sections → CodeSoFar sections (drop i sections) bodies
    → HasCode (get_or sections i d) body → CodeSoFar sections (drop (i + 1) sections) (bodies ++ body ∷ [])
code_step sections i d {bodies} {body} less so is = record {
  goes = λ more are.
      let P : List Section → Type 0 = λ z. AreCode z (body ∷ more) in
      let Q : List (List ℕ) → Type 0 = λ z. AreCode sections z in
      subst Q (sym (append_assoc bodies (body ∷ []) more)) (so.goes (body ∷ more) (subst P (sym (drop_more sections i d less)) (AreCode.code is are)));
}

pub other_step : (sections : List Section) (i : ℕ) (d : Section) {bodies : List (List ℕ)} → i < length sections → CodeSoFar sections (drop i sections) bodies
    → ((body : List ℕ) → ¬ HasCode (get_or sections i d) body) → CodeSoFar sections (drop (i + 1) sections) bodies
other_step sections i d {bodies} less so none = record {
  goes = λ more are. let P : List Section → Type 0 = λ z. AreCode z more in so.goes more (subst P (sym (drop_more sections i d less)) (AreCode.other none are));
}

pub code_last : (sections : List Section) (i : ℕ) {bodies : List (List ℕ)} → length sections ≤ i → CodeSoFar sections (drop i sections) bodies → AreCode sections bodies
code_last sections i {bodies} last so =
    let P : List Section → Type 0 = λ z. CodeSoFar sections z bodies in
    let Q : List (List ℕ) → Type 0 = λ z. AreCode sections z in
    subst Q (append-nil bodies) ((subst P (drop_of_length-le sections last) so).goes [] AreCode.none)

-- the texts behind references
abbrev pub read : List (Bor (List ℕ)) → List (List ℕ)
read texts = map (λ text. text.now) texts

pub tells_same : (xs ys : List (Bor (List ℕ))) (r : Bool) → r ≡ pointwise (λ (x y : Bor (List ℕ)). bytes_eq x.now y.now) xs ys → Decides r (read xs ≡ read ys)
tells_same xs ys r e = slice_eq-Decides bytes_eq-Decides (read xs) (read ys) r (e ∙ sym (pointwise-map (λ text. text.now) bytes_eq xs ys))
