-- Lines that are added, one behind another.
use Rattle.std.proofs.Common.{◌≡◌, ℕ, suc, zero, ◌+◌, List, [], ◌∷◌, ◌++◌, refl, sym, ap, ◌∙◌, subst, append_assoc, append-nil, add-one}
use Rattle.std.proofs.Common.{◌<◌, ◌≤◌, length, get_or, drop}
use Rattle.std.proofs.Math.ListN.{drop_of_length-le}
use Rattle.std.proofs.lemmas.List.{drop_more}
use Rattle.std.proofs.Common.{Result, Ok, Err, if◌then◌else◌}
use Rattle.std.specs.Result.{OnOk, is_ok}
use Rattle.std.specs.List.{repeat}
use Rattle.wasm_reencode.specs.declared.sections.Section.{Section}
use Rattle.wasm_reencode.specs.Lines.{AreLines, IsLine}

pub repeat_more : (n : ℕ) (xs : List ℕ) → repeat n xs ++ xs ≡ repeat (suc n) xs
repeat_more zero xs = sym (append-nil xs)
repeat_more (suc n) xs = append_assoc xs (repeat n xs) xs ∙ ap (λ (z : List ℕ). xs ++ z) (repeat_more n xs)

pub repeat_next : (n : ℕ) (xs : List ℕ) → repeat n xs ++ xs ≡ repeat (n + 1) xs
repeat_next n xs = rw add-one (repeat_more n xs)

-- behind a text stand the lines of the sections that are not left
pub record LinesSoFar (sections left : List Section) (text : List ℕ) : Type 0 where
  pub goes : (lines : List ℕ) → AreLines left lines → AreLines sections (text ++ lines)

pub lines_begin : (sections : List Section) → LinesSoFar sections sections []
lines_begin sections = record { goes = λ lines are. are }

pub lines_more : {sections left : List Section} {s : Section} {text new line : List ℕ} → LinesSoFar sections (s ∷ left) text → IsLine s line → new ≡ text ++ line → LinesSoFar sections left new
lines_more {sections} {left} {s} {text} {new} {line} so is added = record {
  goes = λ lines are.
      let P : List ℕ → Type 0 = λ z. AreLines sections z in
      subst P (sym (append_assoc text line lines) ∙ ap (λ (z : List ℕ). z ++ lines) (sym added)) (so.goes (line ++ lines) (AreLines.more is are));
}

pub lines_all : {sections : List Section} {text : List ℕ} → LinesSoFar sections [] text → AreLines sections text
lines_all {sections} {text} so = let P : List ℕ → Type 0 = λ z. AreLines sections z in subst P (append-nil text) (so.goes [] AreLines.none)

pub lines_step : (sections : List Section) (i : ℕ) (d : Section) {text new line : List ℕ} → i < length sections → LinesSoFar sections (drop i sections) text → IsLine (get_or sections i d) line
    → new ≡ text ++ line → LinesSoFar sections (drop (i + 1) sections) new
lines_step sections i d {text} less so is added =
    let P : List Section → Type 0 = λ z. LinesSoFar sections z text in lines_more (subst P (drop_more sections i d less) so) is added

pub lines_last : (sections : List Section) (i : ℕ) {text : List ℕ} → length sections ≤ i → LinesSoFar sections (drop i sections) text → AreLines sections text
lines_last sections i {text} last so = let P : List Section → Type 0 = λ z. LinesSoFar sections z text in lines_all (subst P (drop_of_length-le sections last) so)

-- five texts that are added one behind another
pub five_added : (old x y z w v : List ℕ) {a b c d e : List ℕ} → a ≡ old ++ x → b ≡ a ++ y → c ≡ b ++ z → d ≡ c ++ w → e ≡ d ++ v → e ≡ old ++ (x ++ y ++ z ++ w ++ v)
five_added old x y z w v {a} {b} {c} {d} {e} p q r s t =
    let first : b ≡ (old ++ x) ++ y = q ∙ ap (λ (u : List ℕ). u ++ y) p in
    let second : c ≡ ((old ++ x) ++ y) ++ z = r ∙ ap (λ (u : List ℕ). u ++ z) first in
    let third : d ≡ (((old ++ x) ++ y) ++ z) ++ w = s ∙ ap (λ (u : List ℕ). u ++ w) second in
    let whole : ((((old ++ x) ++ y) ++ z) ++ w) ++ v ≡ old ++ (x ++ y ++ z ++ w ++ v) = simp append_assoc in
    t ∙ ap (λ (u : List ℕ). u ++ v) third ∙ whole

-- what was added where there was memory
pub added_if_ok : {A E : Type 0} (r : Result A E) (new more old : List ℕ) → new ≡ (if is_ok r then more else old) → OnOk r (new ≡ more)
added_if_ok (Ok v) new more old h = h
added_if_ok (Err e) new more old h = tt
