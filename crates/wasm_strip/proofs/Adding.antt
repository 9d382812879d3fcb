-- Sections that are added, one behind another.
use Rattle.std.proofs.Common.{◌≡◌, Bool, ℕ, ◌+◌, ◌-◌, List, [], ◌++◌, length, refl, sym, ap, ◌∙◌, subst, arith, append_assoc, append-nil, length-append, take, ap₂}
use Rattle.std.proofs.Math.Seq.{take-append_seam}
use Rattle.wasm_shapes.specs.Place.{Begins}
use Rattle.wasm_leb.specs.declared.fault.Kind.{Kind}
use Rattle.wasm_shapes.specs.Tree.{Tree}
use Rattle.wasm_shapes.specs.Shape.{Shape}
use Rattle.wasm_strip.specs.declared.fault.StripFault.{StripFault}
use Rattle.wasm_strip.specs.declared.fault.StripFault.TheVariants as fault
use Rattle.wasm_strip.specs.Binaries.{IsSectionList, Removed, SectionList, Stands, header_of, holder, sized, text_of}
use Rattle.wasm_strip.specs.Faults.{Fails}
use Rattle.wasm_strip.specs.Tidied.{Tidied}
use Rattle.wasm_strip.specs.Steps.{AddsKept, FailsBefore, FailsOr}

-- sections, and others behind them
pub joined : SectionList → SectionList → SectionList
joined SectionList.ended q = q
joined (SectionList.custom name contents text p) q = SectionList.custom name contents text (joined p q)
joined (SectionList.other text p) q = SectionList.other text (joined p q)
joined (SectionList.nested inside inner p) q = SectionList.nested inside inner (joined p q)

more : {bytes text rest : List ℕ} {t : Tree} (y : List ℕ) → Stands bytes text t rest → Stands (bytes ++ y) text t (rest ++ y)
more {text = text} {rest = rest} y s = record { spells = s.spells; stands = ap (λ (z : List ℕ). z ++ y) s.stands ∙ append_assoc text rest y }

pub joined_are : (depth : ℕ) (kind : Kind) (p q : SectionList) (x y : List ℕ) → IsSectionList depth kind x p → IsSectionList depth kind y q → IsSectionList depth kind (x ++ y) (joined p q)
unfolding joined
joined_are depth kind SectionList.ended q x y a b = let P : List ℕ → Type 0 = λ z. IsSectionList depth kind z q in subst P (sym (ap (λ (z : List ℕ). z ++ y) a)) b
joined_are depth kind (SectionList.custom name contents text p) q x y a b = (a.0 ++ y, more y a.1, joined_are depth kind p q a.0 y a.2 b)
joined_are depth kind (SectionList.other text p) q x y a b = (a.0, a.1, a.2 ++ y, more y a.3, a.4, joined_are depth kind p q a.2 y a.5 b)
joined_are depth kind (SectionList.nested inside inner p) q x y a b = (a.0, a.1, a.2, a.3, a.4 ++ y, more y a.5, a.6, a.7, a.8, joined_are depth kind p q a.4 y a.9 b)

pub joined_tidied : {removed : Removed} {sorts : Bool} {kind : Kind} {p q r s : SectionList} → Tidied removed sorts kind p q → Tidied removed sorts kind r s →
    Tidied removed sorts kind (joined p r) (joined q s)
unfolding joined
joined_tidied Tidied.nothing k = k
joined_tidied (Tidied.goes gone j) k = Tidied.goes gone (joined_tidied j k)
joined_tidied (Tidied.stays stays same j) k = Tidied.stays stays same (joined_tidied j k)
joined_tidied (Tidied.sorted front new stays on names cut sorts j) k = Tidied.sorted front new stays on names cut sorts (joined_tidied j k)
joined_tidied (Tidied.unnamed j) k = Tidied.unnamed (joined_tidied j k)
joined_tidied (Tidied.around i j) k = Tidied.around i (joined_tidied j k)

pub joined_text : (p q : SectionList) → text_of (joined p q) ≡ text_of p ++ text_of q
unfolding joined
joined_text SectionList.ended q = refl
joined_text (SectionList.custom name contents text p) q = ap (λ (z : List ℕ). text ++ z) (joined_text p q) ∙ sym (append_assoc text (text_of p) (text_of q))
joined_text (SectionList.other text p) q = ap (λ (z : List ℕ). text ++ z) (joined_text p q) ∙ sym (append_assoc text (text_of p) (text_of q))
joined_text (SectionList.nested inside inner p) q =
    let first = sized (holder inside) (header_of inside ++ text_of inner) in
    ap (λ (z : List ℕ). first ++ z) (joined_text p q) ∙ sym (append_assoc first (text_of p) (text_of q))

-- so far these sections were read, and what they become was added
pub record AddedSoFar (removed : Removed) (sorts : Bool) (depth : ℕ) (kind : Kind) (bytes rest old out : List ℕ) : Type 0 where
  pub done : List ℕ
  pub cut : bytes ≡ done ++ rest
  pub adds : AddsKept removed sorts depth kind done old out

module _ (removed : Removed) (sorts : Bool) (depth : ℕ) (kind : Kind) where
  pub added_begin : (bytes old : List ℕ) → AddedSoFar removed sorts depth kind bytes bytes old old
  added_begin bytes old = record { done = []; cut = refl; adds = record { parts = SectionList.ended; left = SectionList.ended; are = refl; tidied = Tidied.nothing; added = sym (append-nil old) } }

  pub added_more : {bytes rest text left old out new : List ℕ} → AddedSoFar removed sorts depth kind bytes rest old out → rest ≡ text ++ left → AddsKept removed sorts depth kind text out new →
      AddedSoFar removed sorts depth kind bytes left old new
  added_more {text = text} {left = left} {old = old} s e a = record {
    done = s.done ++ text;
    cut = s.cut ∙ ap (λ (z : List ℕ). s.done ++ z) e ∙ sym (append_assoc s.done text left);
    adds = record {
      parts = joined s.adds.parts a.parts;
      left = joined s.adds.left a.left;
      are = joined_are depth kind s.adds.parts a.parts s.done text s.adds.are a.are;
      tidied = joined_tidied s.adds.tidied a.tidied;
      added = a.added ∙ ap (λ (z : List ℕ). z ++ text_of a.left) s.adds.added
          ∙ append_assoc old (text_of s.adds.left) (text_of a.left)
          ∙ ap (λ (z : List ℕ). old ++ z) (sym (joined_text s.adds.left a.left));
    };
  }

  pub added_end : {bytes rest old out : List ℕ} → AddedSoFar removed sorts depth kind bytes rest old out → rest ≡ [] → AddsKept removed sorts depth kind bytes old out
  added_end {old = old} {out = out} s e =
      let P : List ℕ → Type 0 = λ z. AddsKept removed sorts depth kind z old out in
      subst P (sym (s.cut ∙ ap (λ (z : List ℕ). s.done ++ z) e ∙ append-nil s.done)) s.adds

  -- the place of what is left
  pub left_at : (at place : ℕ) {bytes rest old out : List ℕ} (s : AddedSoFar removed sorts depth kind bytes rest old out) → place ≡ at + (length bytes - length rest) → place ≡ at + length s.done
  left_at at place {rest = rest} s e = let whole = ap length s.cut ∙ length-append s.done rest in omega (arith, whole, e)

  pub fails_behind : {at place : ℕ} {bytes rest old out : List ℕ} {e : StripFault} (s : AddedSoFar removed sorts depth kind bytes rest old out) → place ≡ at + (length bytes - length rest) →
      Fails place depth kind rest e → Fails at depth kind bytes e
  fails_behind {at = at} {place = place} {rest = rest} {e = e} s p f = let P : ℕ → Type 0 = λ n. Fails n depth kind rest e in Fails.behind s.done rest s.adds.parts s.cut s.adds.are (subst P (left_at at place s p) f)

  -- what comes of the faults of a section
  pub section_fails : (at place : ℕ) {bytes rest old out : List ℕ} (text left : List ℕ) (e : StripFault) → AddedSoFar removed sorts depth kind bytes rest old out → place ≡ at + (length bytes - length rest) → rest ≡ text ++ left →
      FailsBefore place depth kind text e → FailsOr at depth kind bytes e
  section_fails at place {bytes = bytes} {rest = rest} text left e s p cut = go e
    where
      one : (f : StripFault) → ((more : List ℕ) → Fails place depth kind (text ++ more) f) → Fails at depth kind bytes f
      one f fails = let P : List ℕ → Type 0 = λ z. Fails place depth kind z f in fails_behind s p (subst P (sym cut) (fails left))

      go : (f : StripFault) → FailsBefore place depth kind text f → FailsOr at depth kind bytes f
      go (fault.Read a) = one (fault.Read a)
      go (fault.TooDeep a) = one (fault.TooDeep a)
      go fault.NoMemory = λ t. t

-- the text of the section at the front
pub text_is : {s : Shape} {rest left text : List ℕ} {t : Tree} (there : Begins s rest t left) → text ≡ take (length rest - length left) rest → text ≡ there.text
text_is {rest = rest} {left = left} there e =
    let whole : length rest ≡ length there.text + length left = ap length there.reads ∙ length-append there.text left in
    let many : length rest - length left ≡ length there.text = omega (arith, whole) in
    e ∙ ap₂ (λ (n : ℕ) (z : List ℕ). take n z) many there.reads ∙ take-append_seam there.text left

pub cut_at : {s : Shape} {rest left text : List ℕ} {t : Tree} (there : Begins s rest t left) → text ≡ take (length rest - length left) rest → rest ≡ text ++ left
cut_at {left = left} there e = there.reads ∙ ap (λ (z : List ℕ). z ++ left) (sym (text_is there e))
