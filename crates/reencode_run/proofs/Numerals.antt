-- Numbers as texts.
use Rattle.std.proofs.Common.{◌≡◌, ℕ, ◌^◌, ◌<◌, Bool, true, false, nat_lt, nat_eq, ltb-true, List, Some, None, Result, Ok, refl, sym, ap, ◌∙◌, arith, decimal}
use Rattle.std.specs.Cmp.Lexicographic.{pointwise, bytes_decides}
use Rattle.std.proofs.lemmas.Bool.Decides.{nat_tests}
use Rattle.std.specs.Str.Parse.{digits_value, ParsesUnsigned}
use Rattle.std.proofs.lemmas.Fmt.{decimal_is_IsNumeral, parse-decimal}
use Rattle.reencode_run.specs.Numerals.{index_of}

-- the digits of a small number say it
pub is_index : (text shown : List ℕ) (n : ℕ) → n < 2 ^ 32 → shown ≡ decimal n → pointwise nat_eq shown text ≡ true → Some n ≡ index_of text
is_index text shown n small is same =
    let whole : shown ≡ text = (bytes_decides shown text).0 same in
    let digits : decimal n ≡ text = sym is ∙ whole in
    let value : digits_value 10 text ≡ n = ap (digits_value 10) (sym digits) ∙ (decimal_is_IsNumeral n (omega arith)).1 in
    let less : nat_lt n (2 ^ 32) ≡ true = grind (arith, nat_tests) in
    let equal : pointwise nat_eq (decimal n) text ≡ true = (bytes_decides (decimal n) text).1 digits in
    rw (value, less, equal) refl

-- a text that is the digits of no small number says none
pub no_index : (text : List ℕ) → ((m : ℕ) → m < 2 ^ 32 → decimal m ≡ text → ⊥) → None ≡ index_of text
no_index text none = go (nat_lt v (2 ^ 32)) (pointwise nat_eq (decimal v) text) refl refl
  where
    v : ℕ
    v = digits_value 10 text

    go : (a b : Bool) → nat_lt v (2 ^ 32) ≡ a → pointwise nat_eq (decimal v) text ≡ b → None ≡ index_of text
    go true true e f = absurd (none v (ltb-true v (2 ^ 32) e) ((bytes_decides (decimal v) text).0 f))
    go true false e f = rw (e, f) refl
    go false b e f = rw e refl

-- what is read of the digits of a small number
pub reads_digits : {E : Type 0} (text : List ℕ) (m : ℕ) (r : Result ℕ E) → ParsesUnsigned 32 10 text r → m < 2 ^ 32 → decimal m ≡ text → r ≡ Ok m
reads_digits text m r parses small is = parse-decimal 32 m text r small (omega arith) (sym is) parses
