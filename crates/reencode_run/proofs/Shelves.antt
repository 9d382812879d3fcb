-- Texts by name.
use Rattle.std.proofs.Common.{◌≡◌, ℕ, ◌+◌, ◌<◌, List, length, map, drop, get_or, nat_eq, true, false, Some, refl, sym, ap, ◌∙◌, string_bytes}
use Rattle.std.proofs.lemmas.List.{drop_more}
use Rattle.std.specs.Cmp.Lexicographic.{pointwise}
use Rattle.reencode_run.specs.declared.failing_memory.Text.{Text}
use Rattle.reencode_run.specs.Memory.{Named, text_of}

abbrev pub named : Text → Named
named text = record { name = string_bytes text.name; bytes = text.bytes.items }

-- a text of another name is passed by
pub passed : (ts : List Text) (i : ℕ) (x : Text) (name shown : List ℕ) → i < length ts → x ≡ get_or ts i x → shown ≡ string_bytes x.name → pointwise nat_eq shown name ≡ false
    → text_of (map named (drop (i + 1) ts)) name ≡ text_of (map named (drop i ts)) name
passed ts i x name shown h at is other =
    let differs : pointwise nat_eq (string_bytes x.name) name ≡ false = ap (λ (z : List ℕ). pointwise nat_eq z name) (sym is) ∙ other in
    rw (drop_more ts i x h, ← at, differs) refl

-- and one of this name is it
pub found : (ts : List Text) (i : ℕ) (x : Text) (name shown : List ℕ) → i < length ts → x ≡ get_or ts i x → shown ≡ string_bytes x.name → pointwise nat_eq shown name ≡ true
    → Some x.bytes.items ≡ text_of (map named (drop i ts)) name
found ts i x name shown h at is same =
    let equal : pointwise nat_eq (string_bytes x.name) name ≡ true = ap (λ (z : List ℕ). pointwise nat_eq z name) (sym is) ∙ same in
    rw (drop_more ts i x h, ← at, equal) refl
