-- The section that a place stands in.
use Rattle.std.proofs.Common.{◌≡◌, ℕ, ◌+◌, ◌-◌, ◌<◌, ◌≤◌, List, [], ◌++◌, length, Option, None, Some, inl, refl, sym, ap, ◌∙◌, subst, arith, length-append}
use Rattle.wasm_reencode.specs.declared.sections.Layer.{Layer}
use Rattle.wasm_reencode.specs.declared.sections.Layer.TheVariants as layer
use Rattle.wasm_reencode.specs.declared.sections.Section.{Section}
use Rattle.wasm_shapes.specs.Place.{BeginsNone}
use Rattle.wasm_shapes.specs.Shape.{Shape}
use Rattle.wasm_shapes.specs.Tree.{Tree}
use Rattle.wasm_reencode.specs.Sections.{Frame, HasName, IsAt, IsAtIn, IsSection, header}
use Rattle.wasm_reencode.proofs.ListedSections.{fewer}

pub eight : (l : Layer) → length (header l) ≡ 8
eight layer.Module = refl
eight layer.Component = refl

-- all sections so far end before the place, and so many stand before what is left
pub record BehindSoFar (l : Layer) (bytes rest : List ℕ) (number place : ℕ) : Type 0 where
  pub sections : List ℕ
  pub stands : bytes ≡ header l ++ sections
  pub within : length rest + number + 8 ≤ length bytes
  pub goes : (r : Option Section) → IsAt l number (length bytes - length rest) rest place r → IsAt l 0 8 sections place r

pub behind_begin : (l : Layer) {bytes rest : List ℕ} (place : ℕ) → bytes ≡ header l ++ rest → BehindSoFar l bytes rest 0 place
behind_begin l {bytes} {rest} place e =
    let whole : length bytes ≡ 8 + length rest = ap length e ∙ length-append (header l) rest ∙ ap (λ (n : ℕ). n + length rest) (eight l) in
    record {
      sections = rest;
      stands = e;
      within = omega (arith, whole);
      goes = λ r a. let P : ℕ → Type 0 = λ n. IsAt l 0 n rest place r in let here : length bytes - length rest ≡ 8 = omega (arith, whole) in subst P here a;
    }

pub behind_more : {l : Layer} {bytes rest : List ℕ} {number place : ℕ} {s : Section} (f : Frame) → BehindSoFar l bytes rest number place
    → IsSection l 0 number (length bytes - length rest) rest s → s.frame ≡ Some f → length bytes - length rest + (length rest - length f.1.now) ≤ place
    → BehindSoFar l bytes f.1.now (number + 1) place
behind_more {l} {bytes} {rest} {number} {place} f so is e before =
    let less = fewer f is e in
    let here : length bytes - length f.1.now ≡ length bytes - length rest + (length rest - length f.1.now) = omega (arith, so.within) in
    record {
      sections = so.sections;
      stands = so.stands;
      within = omega (arith, so.within);
      goes = λ r a. let P : ℕ → Type 0 = λ n. IsAt l (number + 1) n f.1.now place r in so.goes r (IsAt.behind f is e before (subst P here a));
    }

pub found : {l : Layer} {bytes rest : List ℕ} {number place : ℕ} {r : Option Section} → BehindSoFar l bytes rest number place
    → IsAt l number (length bytes - length rest) rest place r → IsAtIn bytes place r
found {l} {r = r} so a = inl (l, so.sections, so.stands, so.goes r a)

pub no_name : (s : Section) (f : Frame) → s.frame ≡ Some f → BeginsNone Shape.name f.0.now → (name : List ℕ) → ¬ HasName s name
no_name s f e none name h =
    let same : f ≡ h.0 = cc (e, h.2) in
    let P : Frame → Type 0 = λ z. BeginsNone Shape.name z.0.now in
    (subst P same none).none h.4.text h.1 (Tree.name name) h.4.spells h.4.reads

pub found_none : {l : Layer} {bytes rest : List ℕ} {number place : ℕ} → BehindSoFar l bytes rest number place → rest ≡ [] → IsAtIn bytes place None
found_none {l} {bytes} {rest} {number} {place} so e =
    let P : List ℕ → Type 0 = λ z. IsAt l number (length bytes - length rest) z place None in found so (subst P (sym e) IsAt.ended)
