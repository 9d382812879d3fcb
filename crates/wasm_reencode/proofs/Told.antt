-- Places that lines tell.
use Rattle.std.proofs.Common.{◌≡◌, ◌≢◌, ℕ, ◌-◌, ◌^◌, ◌<◌, List, [], ◌∷◌, ◌++◌, length, get_or, drop, take, nat_eq, true, false, true≢false, Option, None, Some, unwrap_or, inl, inr, Result, Ok, Err, codes, refl, sym, ap, ◌∙◌, subst, arith, take-append-drop}
use Rattle.std.specs.Prelude.{IfNone, IfSome}
use Rattle.std.specs.Cmp.Lexicographic.{bytes_decides, pointwise}
use Rattle.std.specs.Str.Parse.{AllDigits, ParsesUnsigned, digits_value, without_leading_plus}
use Rattle.std.proofs.lemmas.Str.Parse.{digit_from_value, without_leading_plus_none}
use Rattle.std.proofs.lemmas.List.{drop_more}
use Rattle.wasm_reencode.specs.Places.{BeginsNoDigit, IsDigit, IsPlaceOf, SaysNumber, TellsPlace, with_detail}

-- digits have no sign
unsigned : (digits : List ℕ) → AllDigits 10 digits → without_leading_plus digits ≡ digits
unsigned [] are = without_leading_plus_none [] (λ e. omega (arith, e))
unsigned (x ∷ digits) are = without_leading_plus_none (x ∷ digits) (λ e. let range = digit_from_value x are.0 in omega (arith, range.0, e))

pub said_ok : {E : Type 0} (digits : List ℕ) (r : Result ℕ E) (n : ℕ) → AllDigits 10 digits → ParsesUnsigned 64 10 digits r → r ≡ Ok n → SaysNumber digits n
said_ok digits r n are parses is =
    let P : List ℕ → Type 0 = λ z. ((0 < length z) × AllDigits 10 z) × (digits_value 10 z < 2 ^ 64) in
    let Q : List ℕ → Type 0 = λ z. n ≡ digits_value 10 z in
    let h = subst (ParsesUnsigned 64 10 digits) is parses in
    let same = unsigned digits are in
    let numeral = subst P same h.0 in
    (numeral.0.0, numeral.1, subst Q same h.1)

pub said_none : {E : Type 0} (digits : List ℕ) (r : Result ℕ E) (e : E) → AllDigits 10 digits → ParsesUnsigned 64 10 digits r → r ≡ Err e → (n : ℕ) → ¬ SaysNumber digits n
said_none digits r e are parses is n says =
    let P : List ℕ → Type 0 = λ z. ((0 < length z) × AllDigits 10 z) × (digits_value 10 z < 2 ^ 64) in
    let h = subst (ParsesUnsigned 64 10 digits) is parses in
    h (subst P (sym (unsigned digits are)) ((says.0, are), says.1))

-- digits at the front are all that stand there
same_digits : (xs ys behind past : List ℕ) → xs ++ behind ≡ ys ++ past → AllDigits 10 xs → AllDigits 10 ys → BeginsNoDigit behind → BeginsNoDigit past → xs ≡ ys
same_digits [] [] behind past e a b n m = refl
same_digits [] (y ∷ ys) behind past e a b n m = let P : List ℕ → Type 0 = λ z. BeginsNoDigit z in absurd (subst P e n b.0)
same_digits (x ∷ xs) [] behind past e a b n m = let P : List ℕ → Type 0 = λ z. BeginsNoDigit z in absurd (subst P (sym e) m a.0)
same_digits (x ∷ xs) (y ∷ ys) behind past e a b n m =
    let one : x ≡ y = cc in
    let rest : xs ++ behind ≡ ys ++ past = cc in
    let more = same_digits xs ys behind past rest a.1 b.1 n m in
    cc

-- what stands in front of a text, and behind it
taken_front : (front behind : List ℕ) → take (length front) (front ++ behind) ≡ front
taken_front [] behind = refl
taken_front (x ∷ front) behind = ap (λ (z : List ℕ). x ∷ z) (taken_front front behind)

left_behind : (front behind : List ℕ) → drop (length front) (front ++ behind) ≡ behind
left_behind [] behind = refl
left_behind (x ∷ front) behind = left_behind front behind

pub begins_so : (text front behind : List ℕ) → pointwise nat_eq (take (length front) text) front ≡ true → behind ≡ drop (length front) text → text ≡ front ++ behind
begins_so text front behind same is =
    let there : take (length front) text ≡ front = (bytes_decides (take (length front) text) front).0 same in
    sym (take-append-drop (length front) text) ∙ ap (λ (z : List ℕ). z ++ drop (length front) text) there ∙ ap (λ (z : List ℕ). front ++ z) (sym is)

pub begins_other : (text front behind : List ℕ) → pointwise nat_eq (take (length front) text) front ≡ false → text ≢ front ++ behind
begins_other text front behind other e =
    let there : take (length front) text ≡ front = ap (λ (z : List ℕ). take (length front) z) e ∙ taken_front front behind in
    true≢false (sym ((bytes_decides (take (length front) text) front).1 there) ∙ other)

pub behind_same : (text front behind other : List ℕ) → text ≡ front ++ behind → text ≡ front ++ other → behind ≡ other
behind_same text front behind other e f = sym (left_behind front behind) ∙ ap (λ (z : List ℕ). drop (length front) z) (sym e ∙ f) ∙ left_behind front other

pub if_none : {X : Type 0} (r : Option X) (P : Type 0) → P → IfNone r P
if_none None P p = p
if_none (Some x) P p = tt

module _ (name line : List ℕ) where
  pub other_name : ((behind : List ℕ) → line ≢ name ++ behind) → (n : ℕ) → ¬ TellsPlace name line n
  other_name other n h = other (codes ": parse error at " ++ (h.digits ++ h.behind)) h.stands

  pub other_words : (rest : List ℕ) → line ≡ name ++ rest → ((behind : List ℕ) → rest ≢ codes ": parse error at " ++ behind) → (n : ℕ) → ¬ TellsPlace name line n
  other_words rest a other n h = other (h.digits ++ h.behind) (behind_same line name rest (codes ": parse error at " ++ (h.digits ++ h.behind)) a h.stands)

  module _ (rest text digits : List ℕ) (a : line ≡ name ++ rest) (b : rest ≡ codes ": parse error at " ++ text)
      (front : (behind : List ℕ) × (text ≡ digits ++ behind) × AllDigits 10 digits × BeginsNoDigit behind) where
    pub place_told : (r : Option ℕ) → IfSome r (SaysNumber digits) → IfSome r (TellsPlace name line)
    place_told None says = tt
    place_told (Some n) says = record {
      digits = digits;
      behind = front.0;
      stands = a ∙ ap (λ (z : List ℕ). name ++ z) (b ∙ ap (λ (z : List ℕ). codes ": parse error at " ++ z) front.1);
      are = front.2;
      past = front.3;
      says = says;
    }

    other_digits : ((n : ℕ) → ¬ SaysNumber digits n) → (n : ℕ) → ¬ TellsPlace name line n
    other_digits none n h =
        let words : codes ": parse error at " ++ text ≡ codes ": parse error at " ++ (h.digits ++ h.behind) =
        sym b ∙ behind_same line name rest (codes ": parse error at " ++ (h.digits ++ h.behind)) a h.stands in
        let texts : text ≡ h.digits ++ h.behind = behind_same (codes ": parse error at " ++ text) (codes ": parse error at ") text (h.digits ++ h.behind) refl words in
        let same = same_digits digits h.digits front.0 h.behind (sym front.1 ∙ texts) front.2 h.are front.3 h.past in
        none n (subst (λ (z : List ℕ). SaysNumber z n) (sym same) h.says)

    pub none_told : (r : Option ℕ) → IfNone r ((n : ℕ) → ¬ SaysNumber digits n) → IfNone r ((n : ℕ) → ¬ TellsPlace name line n)
    none_told None none = other_digits none
    none_told (Some n) none = tt

pub no_digit_at : (text : List ℕ) (i : ℕ) (d : ℕ) → i < length text → ¬ IsDigit (get_or text i d) → BeginsNoDigit (drop i text)
no_digit_at text i d less none = let P : List ℕ → Type 0 = λ z. BeginsNoDigit z in subst P (sym (drop_more text i d less)) none

pub place_of : (name line : List ℕ) (r : Option ℕ) (place : ℕ) → place ≡ unwrap_or r (2 ^ 64 - 1) → IfSome r (TellsPlace name line) → IfNone r ((n : ℕ) → ¬ TellsPlace name line n) → IsPlaceOf name line place
place_of name line None place is some none = inr (none, is)
place_of name line (Some n) place is some none = inl (subst (TellsPlace name line) (sym is) some)

-- a line whose end is taken, and then more is added, and an end
pub line_added : (old : List ℕ) (n : ℕ) {popped told new : List ℕ} (detail : List ℕ) → n ≡ length old → popped ≡ take (n - 1) old → told ≡ popped ++ detail → new ≡ told ++ codes "\n" → new ≡ with_detail old detail
line_added old n {popped} {told} {new} detail long left more end =
    end ∙ ap (λ (z : List ℕ). z ++ codes "\n") (more ∙ ap (λ (z : List ℕ). z ++ detail) (left ∙ ap (λ (k : ℕ). take (k - 1) old) long))
