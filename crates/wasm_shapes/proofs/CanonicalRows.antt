-- The rows of canonical functions, found by their bytes.
use Rattle.std.proofs.Common.{◌≡◌, ◌≢◌, ◌⊎◌, inl, inr, ℕ, suc, List, [], ◌∷◌, map, Bool, true, false, ◌&&◌, nat_eq, if◌then◌else◌, Option, Some, None, refl, sym, ap, ◌∙◌}
use Rattle.std.specs.Option.{is_none}
use Rattle.std.proofs.lemmas.Bool.{eqb-true, eqb-false}
use Rattle.wasm_shapes.specs.declared.canonical.CanonicalForm.{CanonicalForm}
use Rattle.wasm_shapes.specs.declared.canonical.CanonicalForm.TheVariants as form
use Rattle.wasm_shapes.specs.Component.{canonical_at, canonical_in, canonical_function, canonical_row, canonical_rows, form_of, number_of, operands, row_behind}
use Rattle.wasm_shapes.specs.Place.{BeginsNone}
use Rattle.wasm_shapes.specs.Shape.{Shape, choice, lead}
use Rattle.wasm_shapes.proofs.Begins.{row_at, none_byte, none_lead, none_or, none_row, none_seq_first}
use Rattle.wasm_shapes.proofs.Lists.{both}

abbrev Row : Type 0
Row = ℕ × CanonicalForm

abbrev rows_shape : List Row → Shape
rows_shape rows = choice (map canonical_row rows)

-- ---- where a row is found

-- the row behind is one of the others
behind : (found : Option Row) (k : ℕ) (f : CanonicalForm) → row_behind found ≡ Some (k, f) → (n : ℕ) × (found ≡ Some (n, f)) × (k ≡ suc n)
behind None k f e = absurd cc
behind (Some r) k f e =
    let same : (suc r.0, r.1) ≡ (k, f) = cc in
    let form : r.1 ≡ f = ap (λ (z : Row). z.1) same in
    (r.0, ap (λ (z : CanonicalForm). Some (r.0, z)) form, sym (ap (λ (z : Row). z.0) same))

row_in : (rows : List Row) (b k : ℕ) (f : CanonicalForm) → canonical_in rows b ≡ Some (k, f) → row_at (rows_shape rows) k ≡ lead b (operands f)
row_in [] b k f e = absurd cc
row_in (r ∷ rows) b k f e = go (nat_eq r.0 b) refl e (λ n p. row_in rows b n f p)
  where
    go : (same : Bool) → nat_eq r.0 b ≡ same → (if same then Some (0, r.1) else row_behind (canonical_in rows b)) ≡ Some (k, f) →
        ((n : ℕ) → canonical_in rows b ≡ Some (n, f) → row_at (rows_shape rows) n ≡ lead b (operands f)) →
        row_at (rows_shape (r ∷ rows)) k ≡ lead b (operands f)
    go true h p others =
        let same : (0, r.1) ≡ (k, f) = cc in
        let first : k ≡ 0 = sym (ap (λ (z : Row). z.0) same) in
        let form : f ≡ r.1 = sym (ap (λ (z : Row). z.1) same) in
        let byte : b ≡ r.0 = sym (eqb-true r.0 b h) in
        rw (first, byte, form) refl
    go false h p others =
        let other = behind (canonical_in rows b) k f p in
        rw other.2 (others other.0 other.1)

numbered : (found : Option Row) (f : CanonicalForm) → form_of found ≡ Some f → found ≡ Some (number_of found, f)
numbered None f e = absurd cc
numbered (Some r) f e = let form : r.1 ≡ f = cc in ap (λ (z : CanonicalForm). Some (r.0, z)) form

-- the row of a byte, by its number
pub canonical_row_is : (b : ℕ) {f : CanonicalForm} → form_of (canonical_at b) ≡ Some f → row_at canonical_function (number_of (canonical_at b)) ≡ lead b (operands f)
canonical_row_is b {f = f} e = row_in canonical_rows b (number_of (canonical_at b)) f (numbered (canonical_at b) f e)

-- ---- where none is found

-- no two rows have one byte
abbrev once : List Row → Bool
once [] = true
once (r ∷ rows) = is_none (canonical_in rows r.0) && once rows

absent : (found : Option Row) → row_behind found ≡ None → found ≡ None
absent None e = refl
absent (Some r) e = absurd cc

not_there : (found : Option Row) → is_none found ≡ true → found ≡ None
not_there None e = refl
not_there (Some r) e = absurd cc

none_absent : (rows : List Row) (b : ℕ) (xs : List ℕ) → canonical_in rows b ≡ None → BeginsNone (rows_shape rows) (b ∷ xs)
none_absent [] b xs e = none_row
none_absent (r ∷ rows) b xs e = go (nat_eq r.0 b) refl e (λ p. none_absent rows b xs p)
  where
    go : (same : Bool) → nat_eq r.0 b ≡ same → (if same then Some (0, r.1) else row_behind (canonical_in rows b)) ≡ None →
        (canonical_in rows b ≡ None → BeginsNone (rows_shape rows) (b ∷ xs)) → BeginsNone (rows_shape (r ∷ rows)) (b ∷ xs)
    go true h p others = absurd cc
    go false h p others =
        let apart : b ≢ r.0 = λ q. eqb-false r.0 b h (sym q) in
        none_or (none_seq_first (none_byte apart)) (others (absent (canonical_in rows b) p))

none_in : (rows : List Row) (b k : ℕ) (f : CanonicalForm) (xs : List ℕ) → once rows ≡ true → canonical_in rows b ≡ Some (k, f) → BeginsNone (operands f) xs →
    BeginsNone (rows_shape rows) (b ∷ xs)
none_in [] b k f xs h e none = absurd cc
none_in (r ∷ rows) b k f xs h e none =
    let parts = both (is_none (canonical_in rows r.0)) (once rows) h in
    go (nat_eq r.0 b) refl e (not_there (canonical_in rows r.0) parts.0) (λ n p. none_in rows b n f xs parts.1 p none)
  where
    go : (same : Bool) → nat_eq r.0 b ≡ same → (if same then Some (0, r.1) else row_behind (canonical_in rows b)) ≡ Some (k, f) → canonical_in rows r.0 ≡ None →
        ((n : ℕ) → canonical_in rows b ≡ Some (n, f) → BeginsNone (rows_shape rows) (b ∷ xs)) → BeginsNone (rows_shape (r ∷ rows)) (b ∷ xs)
    go true h' p alone others =
        let same : (0, r.1) ≡ (k, f) = cc in
        let form : r.1 ≡ f = ap (λ (z : Row). z.1) same in
        let byte : r.0 ≡ b = eqb-true r.0 b h' in
        let no_other : canonical_in rows b ≡ None = rw (sym byte) alone in
        none_or (none_lead (sym byte) (rw form none)) (none_absent rows b xs no_other)
    go false h' p alone others =
        let other = behind (canonical_in rows b) k f p in
        let apart : b ≢ r.0 = λ q. eqb-false r.0 b h' (sym q) in
        none_or (none_seq_first (none_byte apart)) (others other.0 other.1)

-- where what stands behind the byte doesn't begin, no function begins
pub none_canonical : (b : ℕ) {f : CanonicalForm} {xs : List ℕ} → form_of (canonical_at b) ≡ Some f → BeginsNone (operands f) xs → BeginsNone canonical_function (b ∷ xs)
none_canonical b {f = f} {xs = xs} e none = none_in canonical_rows b (number_of (canonical_at b)) f xs refl (numbered (canonical_at b) f e) none

-- no function begins with another byte
unnumbered : (found : Option Row) → form_of found ≡ None → found ≡ None
unnumbered None e = refl
unnumbered (Some r) e = absurd cc

pub none_of_byte : (b : ℕ) {xs : List ℕ} → form_of (canonical_at b) ≡ None → BeginsNone canonical_function (b ∷ xs)
none_of_byte b {xs = xs} e = none_absent canonical_rows b xs (unnumbered (canonical_at b) e)

-- ---- the bytes of a form

abbrev form_number : CanonicalForm → ℕ
form_number form.Nothing = 0
form_number form.Lift = 1
form_number form.Lower = 2
form_number form.Type_ = 3
form_number form.TypeAndOptions = 4
form_number form.TypeAndAsync = 5
form_number form.Async = 6
form_number form.ResultAndOptions = 7
form_number form.Slot = 8
form_number form.Options = 9
form_number form.CoreType = 10
form_number form.CoreTypeAndTable = 11

abbrev pub bytes_of : List Row → CanonicalForm → List ℕ
bytes_of [] f = []
bytes_of (r ∷ rows) f = if nat_eq (form_number r.1) (form_number f) then r.0 ∷ bytes_of rows f else bytes_of rows f

-- the byte is one of these
abbrev pub IsAmong : List ℕ → ℕ → Type 0
IsAmong [] b = ⊥
IsAmong (c ∷ cs) b = (b ≡ c) ⊎ IsAmong cs b

form_behind : (found : Option Row) → form_of (row_behind found) ≡ form_of found
form_behind None = refl
form_behind (Some r) = refl

among : (rows : List Row) (b : ℕ) (f : CanonicalForm) → form_of (canonical_in rows b) ≡ Some f → IsAmong (bytes_of rows f) b
among [] b f e = absurd cc
among (r ∷ rows) b f e = go (nat_eq r.0 b) refl (nat_eq (form_number r.1) (form_number f)) refl e (λ p. among rows b f p)
  where
    go : (same : Bool) → nat_eq r.0 b ≡ same → (listed : Bool) → nat_eq (form_number r.1) (form_number f) ≡ listed →
        form_of (if same then Some (0, r.1) else row_behind (canonical_in rows b)) ≡ Some f → (form_of (canonical_in rows b) ≡ Some f → IsAmong (bytes_of rows f) b) →
        IsAmong (if listed then r.0 ∷ bytes_of rows f else bytes_of rows f) b
    go true h true k p others = inl (sym (eqb-true r.0 b h))
    go true h false k p others =
        let form : r.1 ≡ f = cc in
        absurd (eqb-false (form_number r.1) (form_number f) k (ap form_number form))
    go false h true k p others = inr (others (sym (form_behind (canonical_in rows b)) ∙ p))
    go false h false k p others = others (sym (form_behind (canonical_in rows b)) ∙ p)

-- a byte with this form is one of the table's
pub form_among : (b : ℕ) (f : CanonicalForm) → form_of (canonical_at b) ≡ Some f → IsAmong (bytes_of canonical_rows f) b
form_among b f e = among canonical_rows b f e
