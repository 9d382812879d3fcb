-- Numbers by the bytes that spell them, as they are added and read.
use Rattle.std.proofs.Common.{◌≡◌, ◌<◌, ◌+◌, ◌-◌, ◌*◌, ℕ, List, [], ◌∷◌, ◌++◌, length, Bool, if◌then◌else◌, refl, sym, ap, ◌∙◌, subst, arith, append_assoc, append-nil, length-append}
use Rattle.std.specs.List.{All}
use Rattle.std.proofs.lemmas.Bool.{le-ltb, lt-ltb}
use Rattle.std.proofs.lemmas.List.Elements.{All-nil, All-push}
use Rattle.wasm_leb.specs.Leb.{IsLeb}
use Rattle.wasm_leb.specs.Place.{BeginsNumber}
use Rattle.wasm_reach.specs.Packed.{ArePacked, numbers, with_low}

-- the first number
pub first_of : (text rest : List ℕ) (n : ℕ) → IsLeb 128 text n → numbers (text ++ rest) ≡ n ∷ numbers rest
first_of [] rest n p = absurd p
first_of (b ∷ []) rest n p =
    ap (λ (t : Bool). if t then b ∷ numbers rest else with_low (b - 128) (numbers rest)) (lt-ltb b 128 p.0) ∙ ap (λ (m : ℕ). m ∷ numbers rest) (sym p.1)
first_of (b ∷ c ∷ bytes) rest n p =
    let high = p.2 in
    let more : numbers (c ∷ bytes ++ rest) ≡ high ∷ numbers rest = first_of (c ∷ bytes) rest high p.4 in
    let same : (b - 128) + 128 * high ≡ n = omega (arith, p.0, p.3) in
    ap (λ (t : Bool). if t then b ∷ numbers (c ∷ bytes ++ rest) else with_low (b - 128) (numbers (c ∷ bytes ++ rest))) (le-ltb b 128 p.0)
    ∙ ap (with_low (b - 128)) more ∙ ap (λ (m : ℕ). m ∷ numbers rest) same

-- the bytes spell what they pack
pub packed_are : (bytes xs : List ℕ) → ArePacked bytes xs → numbers bytes ≡ xs
packed_are bytes [] p = ap numbers p
packed_are bytes (n ∷ xs) p = ap numbers p.2 ∙ first_of p.0 p.1 n p.3 ∙ ap (λ (z : List ℕ). n ∷ z) (packed_are p.1 xs p.4)

-- a number more
packed_more : (bytes xs text : List ℕ) (n : ℕ) → ArePacked bytes xs → IsLeb 128 text n → ArePacked (bytes ++ text) (xs ++ n ∷ [])
packed_more bytes [] text n p q = (text, [], ap (λ (z : List ℕ). z ++ text) p ∙ sym (append-nil text), q, refl)
packed_more bytes (m ∷ xs) text n p q =
    (p.0, p.1 ++ text, ap (λ (z : List ℕ). z ++ text) p.2 ∙ append_assoc p.0 p.1 text, p.3, packed_more p.1 xs text n p.4 q)

pub numbers-push : (bytes text : List ℕ) (n : ℕ) → ArePacked bytes (numbers bytes) → IsLeb 128 text n → numbers (bytes ++ text) ≡ numbers bytes ++ n ∷ []
numbers-push bytes text n p q = packed_are (bytes ++ text) (numbers bytes ++ n ∷ []) (packed_more bytes (numbers bytes) text n p q)

pub packed-push : (bytes text : List ℕ) (n : ℕ) → ArePacked bytes (numbers bytes) → IsLeb 128 text n → ArePacked (bytes ++ text) (numbers (bytes ++ text))
packed-push bytes text n p q =
    let P : List ℕ → Type 0 = λ z. ArePacked (bytes ++ text) z in subst P (sym (numbers-push bytes text n p q)) (packed_more bytes (numbers bytes) text n p q)

-- The numbers so far are added and below the bound, and the others are left.
pub record AddedSoFar (bound : ℕ) (bytes rest old new : List ℕ) : Type 0 where
  pub part : List ℕ
  pub whole : numbers bytes ≡ part ++ numbers rest
  pub added : new ≡ old ++ part
  pub below : All (λ i. i < bound) part

pub added_begins : (bound : ℕ) (bytes old : List ℕ) → AddedSoFar bound bytes bytes old old
added_begins bound bytes old = record { part = []; whole = refl; added = sym (append-nil old); below = All-nil (λ (i : ℕ). i < bound) }

pub added_more : {bound n : ℕ} {bytes rest behind old new more : List ℕ} → AddedSoFar bound bytes rest old new → BeginsNumber 128 32 32 rest n behind → n < bound → more ≡ new ++ n ∷ [] →
    AddedSoFar bound bytes behind old more
added_more {bound = bound} {n = n} {behind = behind} {old = old} a there low is = record {
  part = a.part ++ n ∷ [];
  whole = a.whole ∙ ap (λ (z : List ℕ). a.part ++ numbers z) there.2 ∙ ap (λ (z : List ℕ). a.part ++ z) (first_of there.0 behind n there.1.spelled) ∙ sym (append_assoc a.part (n ∷ []) (numbers behind));
  added = is ∙ ap (λ (z : List ℕ). z ++ n ∷ []) a.added ∙ append_assoc old a.part (n ∷ []);
  below = All-push (λ (i : ℕ). i < bound) a.part n a.below low;
}

pub fewer : {n : ℕ} {rest behind : List ℕ} → BeginsNumber 128 32 32 rest n behind → length behind < length rest
fewer {n = n} {rest = rest} {behind = behind} there = go there.0 there.1.spelled (ap length there.2 ∙ length-append there.0 behind)
  where
    go : (text : List ℕ) → IsLeb 128 text n → length rest ≡ length text + length behind → length behind < length rest
    go [] p e = absurd p
    go (b ∷ text) p e = omega (arith, e)

module _ {bound : ℕ} {bytes rest old new : List ℕ} (a : AddedSoFar bound bytes rest old new) (ended : rest ≡ []) where
  all : numbers bytes ≡ a.part
  all = a.whole ∙ ap (λ (z : List ℕ). a.part ++ numbers z) ended ∙ append-nil a.part

  pub added_done : new ≡ old ++ numbers bytes
  added_done = a.added ∙ ap (λ (z : List ℕ). old ++ z) (sym all)

  pub below_done : All (λ i. i < bound) (numbers bytes)
  below_done = let P : List ℕ → Type 0 = λ z. All (λ i. i < bound) z in subst P (sym all) a.below
