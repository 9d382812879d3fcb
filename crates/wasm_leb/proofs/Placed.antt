-- A place behind what was read.
use Rattle.std.proofs.Common.{◌≡◌, ℕ, ℤ, ◌-◌, ◌+◌, ◌<◌, List, [], ◌∷◌, ◌++◌, length, take, drop, sym, ap, ◌∙◌, arith, append_assoc, length-append, refl}
use Rattle.std.proofs.lemmas.List.{take-append-drop, drop_at}
use Rattle.wasm_leb.specs.Place.{BeginsNumber, BeginsSigned}
use Rattle.wasm_leb.proofs.Unique.{leb_fills, signed_fills}

-- what is left behind a text stands at the place that its length tells
pub left_at : (bytes text rest : List ℕ) (at : ℕ) → drop at bytes ≡ text ++ rest → drop (length bytes - length rest) bytes ≡ rest
left_at bytes text rest at e =
    let whole : (take at bytes ++ text) ++ rest ≡ bytes =
    append_assoc (take at bytes) text rest ∙ ap (λ (z : List ℕ). take at bytes ++ z) (sym e) ∙ take-append-drop at bytes in
    let long : length ((take at bytes ++ text) ++ rest) ≡ length bytes = ap length whole in
    let sum : length ((take at bytes ++ text) ++ rest) ≡ length (take at bytes ++ text) + length rest = length-append (take at bytes ++ text) rest in
    let n = length bytes - length rest in
    ap (drop n) (sym whole) ∙ drop_at (take at bytes ++ text) rest n (omega arith)

pub number_placed : (limit bits size : ℕ) (bytes front rest : List ℕ) (at n : ℕ) → front ≡ drop at bytes → BeginsNumber limit bits size front n rest →
    BeginsNumber limit bits size (drop at bytes) n (drop (length bytes - length rest) bytes)
number_placed limit bits size bytes front rest at n e p =
    let here : drop at bytes ≡ p.0 ++ rest = sym e ∙ p.2 in
    (p.0, p.1, rw (left_at bytes p.0 rest at here) here)

pub signed_placed : (bits : ℕ) (bytes front rest : List ℕ) (at : ℕ) (z : ℤ) → front ≡ drop at bytes → BeginsSigned bits front z rest →
    BeginsSigned bits (drop at bytes) z (drop (length bytes - length rest) bytes)
signed_placed bits bytes front rest at z e p =
    let here : drop at bytes ≡ p.0 ++ rest = sym e ∙ p.2 in
    (p.0, p.1, rw (left_at bytes p.0 rest at here) here)

-- ---- how many bytes were read

longer : (bytes text rest : List ℕ) → (text ≡ [] → ⊥) → bytes ≡ text ++ rest → 0 < length bytes - length rest
longer bytes [] rest fills e = absurd (fills refl)
longer bytes (b ∷ text) rest fills e =
    let long : length bytes ≡ length ((b ∷ text) ++ rest) = ap length e in
    let sum : length ((b ∷ text) ++ rest) ≡ length (b ∷ text) + length rest = length-append (b ∷ text) rest in
    omega arith

pub number_behind : (limit bits size : ℕ) (bytes rest : List ℕ) (n : ℕ) → BeginsNumber limit bits size bytes n rest →
    (0 < length bytes - length rest) × BeginsNumber limit bits size bytes n (drop (length bytes - length rest) bytes)
number_behind limit bits size bytes rest n p = (
  longer bytes p.0 rest (leb_fills limit p.0 n p.1.spelled) p.2,
  number_placed limit bits size bytes bytes rest 0 n refl p,
)

pub signed_behind : (bits : ℕ) (bytes rest : List ℕ) (z : ℤ) → BeginsSigned bits bytes z rest →
    (0 < length bytes - length rest) × BeginsSigned bits bytes z (drop (length bytes - length rest) bytes)
signed_behind bits bytes rest z p = (
  longer bytes p.0 rest (signed_fills bits z p.0 p.1) p.2,
  signed_placed bits bytes bytes rest 0 z refl p,
)
