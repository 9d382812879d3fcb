-- Rows that open scopes, at the front of some bytes.
use Rattle.std.proofs.Common.{◌≡◌, ℕ, zero, ◌+◌, ◌≤◌, max, List, [], ◌∷◌, Bool, true, false, refl, sym, not, ◌&&◌, if◌then◌else◌, arith, subst}
use Rattle.wasm_shapes.specs.Tree.{Tree}
use Rattle.wasm_shapes.specs.Shape.{Shape, Named, lead}
use Rattle.wasm_shapes.specs.NamedShapes.{shape_of}
use Rattle.wasm_shapes.specs.Types.{led}
use Rattle.wasm_shapes.specs.Place.{Begins}
use Rattle.wasm_shapes.specs.Sound.{contains, first_bytes, nullable}
use Rattle.wasm_shapes.specs.Depth.{opens, BeginsAt, BeginsNoneAt}
use Rattle.wasm_shapes.proofs.Lists.{both}
use Rattle.wasm_shapes.proofs.Begins.{begins_byte, begins_ref, begins_row, begins_seq, none_by_front, none_row, row_at, rows_at}
use Rattle.wasm_shapes.proofs.Depth.{at_none, at_or}
use Rattle.wasm_shapes.proofs.Unscoped.{unscoped, unscoped_is}
use Rattle.wasm_read_component.specs.Scoped.{ReadsAt}
use Rattle.wasm_read_component.specs.TypeRows.{Behind}

-- ---- what opens no scope

pub flat_at : {s : Shape} {t : Tree} {depth : ℕ} {bytes left : List ℕ} → unscoped s ≡ true → depth ≤ 200 → Begins s bytes t left → BeginsAt s depth bytes t left
flat_at {t = t} {depth = depth} h deep p =
    let f = unscoped_is p.spells.shaped h in
    let none : opens t ≡ 0 = f.opens in
    record { begins = p; shallow = record { most = omega arith } }

-- ---- a choice at a byte

abbrev pub NoneOfAt : List Shape → ℕ → List ℕ → Type 0
NoneOfAt [] depth bytes = Unit {0}
NoneOfAt (s ∷ ss) depth bytes = BeginsNoneAt s depth bytes × NoneOfAt ss depth bytes

abbrev pub is_choice : Shape → Bool
is_choice (Shape.or a b) = is_choice b
is_choice Shape.none = true
is_choice _ = false

not_true : (p : Bool) → not p ≡ true → p ≡ false
not_true true e = absurd cc
not_true false e = refl

-- no row begins where none of those does that can
pub at_choice : (s : Shape) (c : ℕ) (xs : List ℕ) (depth : ℕ) → is_choice s ≡ true → NoneOfAt (rows_at s c) depth (c ∷ xs) → BeginsNoneAt s depth (c ∷ xs)
at_choice Shape.none c xs depth k n = at_none none_row
at_choice (Shape.or a b) c xs depth k n = go (not (nullable a) && not (contains (first_bytes a) c)) refl n (at_choice b c xs depth k)
  where
    go : (p : Bool) → (not (nullable a) && not (contains (first_bytes a) c)) ≡ p → NoneOfAt (if p then rows_at b c else (a ∷ rows_at b c)) depth (c ∷ xs) →
        (NoneOfAt (rows_at b c) depth (c ∷ xs) → BeginsNoneAt b depth (c ∷ xs)) → BeginsNoneAt (Shape.or a b) depth (c ∷ xs)
    go true e n others =
        let tests : (not (nullable a) ≡ true) × (not (contains (first_bytes a) c) ≡ true) = both _ _ e in
        at_or (at_none (none_by_front (not_true (nullable a) tests.0) (not_true (contains (first_bytes a) c) tests.1))) (others n)
    go false e n others = at_or n.0 (others n.1)
at_choice _ c xs depth k n = absurd cc

-- ---- behind the byte of a row

pub behind_at : {k b depth : ℕ} {s : Shape} {of : Tree → Type 0} {bytes xs left : List ℕ} (choice : Shape) → row_at choice k ≡ lead b s → bytes ≡ b ∷ xs →
    ReadsAt s depth of xs left → ReadsAt choice depth (Behind k b of) bytes left
behind_at {k = k} {b = b} {depth = depth} {s = s} {of = of} {bytes = bytes} {left = left} choice row e p =
    let t : Tree = p.tree in
    let few : opens t + depth ≤ 200 = p.begins.shallow.most in
    let most : max zero (opens t) + depth ≤ 200 = omega arith in
    let P : Shape → Type 0 = λ z. Begins z bytes (led b t) left in
    let led_here : Begins (lead b s) bytes (led b t) left = begins_seq (begins_byte e) p.begins.begins in
    record {
      tree = Tree.row k (led b t);
      is = record { inner = t; is = refl; stands = p.is };
      begins = record { begins = begins_row {s = choice} {k = k} (subst P (sym row) led_here); shallow = record { most = most } };
    }

-- ---- a row, and a shape by its name

pub row_begins : {k depth : ℕ} {s : Shape} {t : Tree} {bytes left : List ℕ} (choice : Shape) → row_at choice k ≡ s → BeginsAt s depth bytes t left →
    BeginsAt choice depth bytes (Tree.row k t) left
row_begins {k = k} {t = t} {bytes = bytes} {left = left} choice row p =
    let P : Shape → Type 0 = λ z. Begins z bytes t left in
    record { begins = begins_row {s = choice} {k = k} (subst P (sym row) p.begins); shallow = record { most = p.shallow.most } }

pub named_begins : {n : Named} {depth : ℕ} {t : Tree} {bytes left : List ℕ} → BeginsAt (shape_of n) depth bytes t left → BeginsAt (Shape.ref n) depth bytes t left
named_begins p = record { begins = begins_ref p.begins; shallow = p.shallow }

pub named_reads : {n : Named} {depth : ℕ} {of : Tree → Type 0} {bytes left : List ℕ} → ReadsAt (shape_of n) depth of bytes left → ReadsAt (Shape.ref n) depth of bytes left
named_reads p = record { tree = p.tree; is = p.is; begins = named_begins p.begins }

-- a row that opens no scope, for whose tree a value stands
pub flat_row : {depth : ℕ} {s : Shape} {t : Tree} {of : Tree → Type 0} {bytes left : List ℕ} (choice : Shape) (k : ℕ) → row_at choice k ≡ s → unscoped s ≡ true → depth ≤ 200 →
    of (Tree.row k t) → Begins s bytes t left → ReadsAt choice depth of bytes left
flat_row {t = t} choice k row h deep is p = record { tree = Tree.row k t; is = is; begins = row_begins {k = k} choice row (flat_at h deep p) }
