-- What bytes begin with, part by part.
use Rattle.std.proofs.Common.{◌≡◌, ℕ, zero, suc, List, [], ◌∷◌, ◌++◌, Bool, true, false, refl, sym, ap, ◌∙◌, append_assoc, ◌≢◌, inl, not, ◌&&◌, if◌then◌else◌, length, length-append, ◌+◌, ◌<◌, arith, IsUtf8, subst}
use Rattle.std.proofs.lemmas.List.{append_cancel_left}
use Rattle.std.proofs.Common.{ℤ, ◌≤◌}
use Rattle.wasm_leb.specs.Place.{BeginsNumber, BeginsNoNumber, BeginsSigned, BeginsNoSigned}
use Rattle.wasm_shapes.specs.declared.Space.{Space}
use Rattle.wasm_shapes.specs.declared.SectionId.{SectionId}
use Rattle.wasm_shapes.specs.Tree.{Tree}
use Rattle.wasm_shapes.specs.Shape.{Shape, Named, closed}
use Rattle.wasm_shapes.specs.NamedShapes.{shape_of}
use Rattle.wasm_shapes.specs.Spells.{Is, Spelled, Spells}
use Rattle.wasm_shapes.specs.Place.{Begins, BeginsNone}
use Rattle.wasm_shapes.specs.Sound.{contains, first_bytes, nullable, sound, deepest}
use Rattle.wasm_shapes.proofs.Fronts.{front_sound, nullable_sound}
use Rattle.wasm_shapes.proofs.Lists.{both, same_length}
use Rattle.wasm_leb.proofs.Unique.{unsigned_unique}
use Rattle.wasm_shapes.proofs.Unique.{unique}

-- ---- what they begin with

pub begins_byte : {b : ℕ} {bytes left : List ℕ} → bytes ≡ b ∷ left → Begins (Shape.fixed b) bytes (Tree.fixed b) left
begins_byte {b = b} e = record { text = b ∷ []; spells = record { shaped = Is.fixed; spelled = refl }; reads = e }

pub begins_ix : {s : Space} {i : ℕ} {bytes left : List ℕ} → BeginsNumber 128 32 32 bytes i left → Begins (Shape.ix s) bytes (Tree.ix s i) left
begins_ix p = record { text = p.0; spells = record { shaped = Is.ix; spelled = p.1 }; reads = p.2 }

pub begins_sx : {s : Space} {i : ℕ} {bytes left : List ℕ} → BeginsNumber 64 33 32 bytes i left → Begins (Shape.sx s) bytes (Tree.sx s i) left
begins_sx p = record { text = p.0; spells = record { shaped = Is.sx; spelled = p.1 }; reads = p.2 }

pub begins_seq : {a b : Shape} {t u : Tree} {bytes middle left : List ℕ} → Begins a bytes t middle → Begins b middle u left → Begins (Shape.seq a b) bytes (Tree.pair t u) left
begins_seq p q = record {
  text = p.text ++ q.text;
  spells = record { shaped = Is.seq p.spells.shaped q.spells.shaped; spelled = (p.text, q.text, refl, p.spells.spelled, q.spells.spelled) };
  reads = p.reads ∙ ap (λ (z : List ℕ). p.text ++ z) q.reads ∙ sym (append_assoc p.text q.text _);
}

pub begins_first : {a b : Shape} {t : Tree} {bytes left : List ℕ} → Begins a bytes t left → Begins (Shape.or a b) bytes (Tree.row zero t) left
begins_first p = record { text = p.text; spells = record { shaped = Is.first p.spells.shaped; spelled = p.spells.spelled }; reads = p.reads }

pub begins_later : {a b : Shape} {k : ℕ} {t : Tree} {bytes left : List ℕ} → Begins b bytes (Tree.row k t) left → Begins (Shape.or a b) bytes (Tree.row (suc k) t) left
begins_later p = record { text = p.text; spells = record { shaped = Is.later p.spells.shaped; spelled = p.spells.spelled }; reads = p.reads }

-- a row of a choice by its number
abbrev pub row_at : Shape → ℕ → Shape
row_at (Shape.or a b) zero = a
row_at (Shape.or a b) (suc k) = row_at b k
row_at _ k = Shape.none

pub row_is : (s : Shape) (k : ℕ) {t : Tree} → Is (row_at s k) t → Is s (Tree.row k t)
row_is (Shape.or a b) zero d = Is.first d
row_is (Shape.or a b) (suc k) d = Is.later (row_is b k d)
row_is _ k d = elim d [ ]

pub begins_row : {s : Shape} {k : ℕ} {t : Tree} {bytes left : List ℕ} → Begins (row_at s k) bytes t left → Begins s bytes (Tree.row k t) left
begins_row {s = s} {k = k} p = record { text = p.text; spells = record { shaped = row_is s k p.spells.shaped; spelled = p.spells.spelled }; reads = p.reads }

pub begins_ref : {n : Named} {t : Tree} {bytes left : List ℕ} → Begins (shape_of n) bytes t left → Begins (Shape.ref n) bytes t left
begins_ref p = record { text = p.text; spells = record { shaped = Is.ref p.spells.shaped; spelled = p.spells.spelled }; reads = p.reads }

pub ruleset begins = (begins_byte, begins_ix, begins_sx, begins_seq, begins_row, begins_ref)

-- the leaf of a number
pub begins_u32 : {n : ℕ} {bytes left : List ℕ} → BeginsNumber 128 32 32 bytes n left → Begins Shape.u32 bytes (Tree.u32 n) left
begins_u32 p = record { text = p.0; spells = record { shaped = Is.u32; spelled = p.1 }; reads = p.2 }

pub begins_u64 : {n : ℕ} {bytes left : List ℕ} → BeginsNumber 128 64 64 bytes n left → Begins Shape.u64 bytes (Tree.u64 n) left
begins_u64 p = record { text = p.0; spells = record { shaped = Is.u64; spelled = p.1 }; reads = p.2 }

pub begins_flag : {n : ℕ} {bytes left : List ℕ} → BeginsNumber 128 32 32 bytes n left → Begins (Shape.flag n) bytes (Tree.flag n) left
begins_flag p = record { text = p.0; spells = record { shaped = Is.flag; spelled = p.1 }; reads = p.2 }

pub begins_s32 : (z : ℤ) {bytes left : List ℕ} → BeginsSigned 32 bytes z left → Begins Shape.s32 bytes (Tree.s32 z) left
begins_s32 z p = record { text = p.0; spells = record { shaped = Is.s32; spelled = p.1 }; reads = p.2 }

pub begins_s64 : (z : ℤ) {bytes left : List ℕ} → BeginsSigned 64 bytes z left → Begins Shape.s64 bytes (Tree.s64 z) left
begins_s64 z p = record { text = p.0; spells = record { shaped = Is.s64; spelled = p.1 }; reads = p.2 }

pub begins_told : {k : SectionId} {a : Shape} {t : Tree} {bytes left : List ℕ} → Begins a bytes t left → Begins (Shape.told k a) bytes (Tree.told k t) left
begins_told p = record { text = p.text; spells = record { shaped = Is.told p.spells.shaped; spelled = p.spells.spelled }; reads = p.reads }

pub begins_within : {low high b : ℕ} {bytes left : List ℕ} → low ≤ b → b ≤ high → b < 256 → bytes ≡ b ∷ left → Begins (Shape.within low high) bytes (Tree.byte b) left
begins_within {b = b} l h s e = record { text = b ∷ []; spells = record { shaped = Is.within l h; spelled = (refl, s) }; reads = e }

pub begins_empty : {bytes : List ℕ} → Begins Shape.empty bytes Tree.empty bytes
begins_empty = record { text = []; spells = record { shaped = Is.empty; spelled = refl }; reads = refl }

-- the same bytes under another name
pub begins_here : {s : Shape} {bytes xs left : List ℕ} {t : Tree} → bytes ≡ xs → Begins s xs t left → Begins s bytes t left
begins_here e p = record { text = p.text; spells = p.spells; reads = e ∙ p.reads }

-- ---- what they do not

pub none_here : {s : Shape} {bytes xs : List ℕ} → bytes ≡ xs → BeginsNone s xs → BeginsNone s bytes
none_here e p = record { none = λ text left tree q r. p.none text left tree q (sym e ∙ r) }

pub none_at_end : {s : Shape} → nullable s ≡ false → BeginsNone s []
none_at_end {s = s} fills = record { none = λ text left tree p e. go text left tree p e }
  where
    go : (text left : List ℕ) (tree : Tree) → Spells s text tree → [] ≡ text ++ left → ⊥
    go [] left tree p e = let empty : nullable s ≡ true = nullable_sound p.shaped [] p.spelled refl in cc
    go (c ∷ text) left tree p e = cc

pub none_by_front : {s : Shape} {c : ℕ} {xs : List ℕ} → nullable s ≡ false → contains (first_bytes s) c ≡ false → BeginsNone s (c ∷ xs)
none_by_front {s = s} {c = c} {xs = xs} fills other = record { none = λ text left tree p e. go text left tree p e }
  where
    go : (text left : List ℕ) (tree : Tree) → Spells s text tree → c ∷ xs ≡ text ++ left → ⊥
    go [] left tree p e = let empty : nullable s ≡ true = nullable_sound p.shaped [] p.spelled refl in cc
    go (d ∷ text) left tree p e =
        let same : d ∷ text ≡ c ∷ text = cc in
        let in_front : contains (first_bytes s) c ≡ true = front_sound p.shaped deepest (d ∷ text) c text p.spelled same in
        cc

pub none_byte : {b c : ℕ} {xs : List ℕ} → c ≢ b → BeginsNone (Shape.fixed b) (c ∷ xs)
none_byte {b = b} {c = c} {xs = xs} other = record { none = λ text left tree p e. go text left tree p.shaped p.spelled e }
  where
    go : (text left : List ℕ) (tree : Tree) → Is (Shape.fixed b) tree → Spelled tree text → c ∷ xs ≡ text ++ left → ⊥
    go [] left tree Is.fixed p e = cc
    go (d ∷ text) left tree Is.fixed p e = let heads : c ≡ b = cc in other heads

pub none_ix : {s : Space} {bytes : List ℕ} → BeginsNoNumber 128 32 32 bytes → BeginsNone (Shape.ix s) bytes
none_ix {s = s} {bytes = bytes} none = record { none = λ text left tree p e. go text left tree p.shaped p.spelled e }
  where
    go : (text left : List ℕ) (tree : Tree) → Is (Shape.ix s) tree → Spelled tree text → bytes ≡ text ++ left → ⊥
    go text left tree (Is.ix {i = i}) p e = none text left i p e

pub none_sx : {s : Space} {bytes : List ℕ} → BeginsNoNumber 64 33 32 bytes → BeginsNone (Shape.sx s) bytes
none_sx {s = s} {bytes = bytes} none = record { none = λ text left tree p e. go text left tree p.shaped p.spelled e }
  where
    go : (text left : List ℕ) (tree : Tree) → Is (Shape.sx s) tree → Spelled tree text → bytes ≡ text ++ left → ⊥
    go text left tree (Is.sx {i = i}) p e = none text left i p e

pub none_seq_first : {a b : Shape} {bytes : List ℕ} → BeginsNone a bytes → BeginsNone (Shape.seq a b) bytes
none_seq_first {a = a} {b = b} {bytes = bytes} none = record { none = λ text left tree p e. go text left tree p.shaped p.spelled e }
  where
    go : (text left : List ℕ) (tree : Tree) → Is (Shape.seq a b) tree → Spelled tree text → bytes ≡ text ++ left → ⊥
    go text left tree (Is.seq {t = t} d d') p e =
        none.none p.0 (p.1 ++ left) t (record { shaped = d; spelled = p.3 })
        (e ∙ ap (λ (z : List ℕ). z ++ left) p.2 ∙ append_assoc p.0 p.1 left)

pub none_told : {k : SectionId} {a : Shape} {bytes : List ℕ} → BeginsNone a bytes → BeginsNone (Shape.told k a) bytes
none_told {k = k} {a = a} {bytes = bytes} none = record { none = λ text left tree p e. go text left tree p.shaped p.spelled e }
  where
    go : (text left : List ℕ) (tree : Tree) → Is (Shape.told k a) tree → Spelled tree text → bytes ≡ text ++ left → ⊥
    go text left tree (Is.told {t = t} d) p e = none.none text left t (record { shaped = d; spelled = p }) e

pub none_u32 : {bytes : List ℕ} → BeginsNoNumber 128 32 32 bytes → BeginsNone Shape.u32 bytes
none_u32 {bytes = bytes} none = record { none = λ text left tree p e. go text left tree p.shaped p.spelled e }
  where
    go : (text left : List ℕ) (tree : Tree) → Is Shape.u32 tree → Spelled tree text → bytes ≡ text ++ left → ⊥
    go text left tree (Is.u32 {n = i}) p e = none text left i p e

pub none_u64 : {bytes : List ℕ} → BeginsNoNumber 128 64 64 bytes → BeginsNone Shape.u64 bytes
none_u64 {bytes = bytes} none = record { none = λ text left tree p e. go text left tree p.shaped p.spelled e }
  where
    go : (text left : List ℕ) (tree : Tree) → Is Shape.u64 tree → Spelled tree text → bytes ≡ text ++ left → ⊥
    go text left tree (Is.u64 {n = i}) p e = none text left i p e

pub none_s32 : {bytes : List ℕ} → BeginsNoSigned 32 bytes → BeginsNone Shape.s32 bytes
none_s32 {bytes = bytes} none = record { none = λ text left tree p e. go text left tree p.shaped p.spelled e }
  where
    go : (text left : List ℕ) (tree : Tree) → Is Shape.s32 tree → Spelled tree text → bytes ≡ text ++ left → ⊥
    go text left tree (Is.s32 {z = z}) p e = none text left z p e

pub none_s64 : {bytes : List ℕ} → BeginsNoSigned 64 bytes → BeginsNone Shape.s64 bytes
none_s64 {bytes = bytes} none = record { none = λ text left tree p e. go text left tree p.shaped p.spelled e }
  where
    go : (text left : List ℕ) (tree : Tree) → Is Shape.s64 tree → Spelled tree text → bytes ≡ text ++ left → ⊥
    go text left tree (Is.s64 {z = z}) p e = none text left z p e

-- the first part is there, and so its one spelling is, and nothing of the second is behind it
pub none_seq_second : {a b : Shape} {t : Tree} {bytes middle : List ℕ} → sound a ≡ true → closed a ≡ true → Begins a bytes t middle → BeginsNone b middle → BeginsNone (Shape.seq a b) bytes
none_seq_second {a = a} {b = b} {t = u} {bytes = bytes} {middle = middle} k h there none = record { none = λ text left tree p e. go text left tree p.shaped p.spelled e }
  where
    go : (text left : List ℕ) (tree : Tree) → Is (Shape.seq a b) tree → Spelled tree text → bytes ≡ text ++ left → ⊥
    go text left tree (Is.seq {t = t} {u = v} d d') p e =
        let parts : bytes ≡ p.0 ++ (p.1 ++ left) = e ∙ ap (λ (z : List ℕ). z ++ left) p.2 ∙ append_assoc p.0 p.1 left in
        let both_ways : there.text ++ middle ≡ p.0 ++ (p.1 ++ left) = sym there.reads ∙ parts in
        let same : (there.text ≡ p.0) × (u ≡ t) = unique there.spells.shaped d there.text p.0 middle (p.1 ++ left) k (inl h) there.spells.spelled p.3 both_ways in
        let shifted : p.0 ++ middle ≡ p.0 ++ (p.1 ++ left) = ap (λ (z : List ℕ). z ++ middle) (sym same.0) ∙ both_ways in
        none.none p.1 left v (record { shaped = d'; spelled = p.4 }) (append_cancel_left p.0 middle (p.1 ++ left) shifted)

pub none_lead : {b c : ℕ} {s : Shape} {xs : List ℕ} → c ≡ b → BeginsNone s xs → BeginsNone (Shape.seq (Shape.fixed b) s) (c ∷ xs)
none_lead {xs = xs} same none = none_seq_second refl refl (begins_byte (ap (λ (z : ℕ). z ∷ xs) same)) none

pub none_row : {bytes : List ℕ} → BeginsNone Shape.none bytes
none_row {bytes = bytes} = record { none = λ text left tree p e. go tree p.shaped }
  where
    go : (tree : Tree) → Is Shape.none tree → ⊥
    go tree d = elim d [ ]

pub none_or : {a b : Shape} {bytes : List ℕ} → BeginsNone a bytes → BeginsNone b bytes → BeginsNone (Shape.or a b) bytes
none_or {a = a} {b = b} {bytes = bytes} none others = record { none = λ text left tree p e. go text left tree p.shaped p.spelled e }
  where
    go : (text left : List ℕ) (tree : Tree) → Is (Shape.or a b) tree → Spelled tree text → bytes ≡ text ++ left → ⊥
    go text left tree (Is.first {t = t} d) p e = none.none text left t (record { shaped = d; spelled = p }) e
    go text left tree (Is.later {k = k} {t = t} d) p e = others.none text left (Tree.row k t) (record { shaped = d; spelled = p }) e

pub none_ref : {n : Named} {bytes : List ℕ} → BeginsNone (shape_of n) bytes → BeginsNone (Shape.ref n) bytes
none_ref {n = n} {bytes = bytes} none = record { none = λ text left tree p e. go text left tree p.shaped p.spelled e }
  where
    go : (text left : List ℕ) (tree : Tree) → Is (Shape.ref n) tree → Spelled tree text → bytes ≡ text ++ left → ⊥
    go text left tree (Is.ref d) p e = none.none text left tree (record { shaped = d; spelled = p }) e

pub ruleset nones = (none_row, none_or, none_ref, none_ix, none_sx, none_lead, none_by_front)

-- the first byte is known by another name
pub at_byte : {bytes xs : List ℕ} {b c : ℕ} → bytes ≡ c ∷ xs → c ≡ b → bytes ≡ b ∷ xs
at_byte {xs = xs} here same = here ∙ ap (λ (z : ℕ). z ∷ xs) same

-- ---- a choice at a byte

-- the rows that can begin with a byte
abbrev pub rows_at : Shape → ℕ → List Shape
rows_at (Shape.or a b) c = if not (nullable a) && not (contains (first_bytes a) c) then rows_at b c else (a ∷ rows_at b c)
rows_at _ c = []

abbrev pub NoneOf : List Shape → List ℕ → Type 0
NoneOf [] bytes = Unit {0}
NoneOf (s ∷ ss) bytes = BeginsNone s bytes × NoneOf ss bytes

abbrev is_choice : Shape → Bool
is_choice (Shape.or a b) = is_choice b
is_choice Shape.none = true
is_choice _ = false

not_true : (p : Bool) → not p ≡ true → p ≡ false
not_true true e = absurd cc
not_true false e = refl

-- no row begins where none of those does that can
pub none_choice : (s : Shape) (c : ℕ) (xs : List ℕ) → is_choice s ≡ true → NoneOf (rows_at s c) (c ∷ xs) → BeginsNone s (c ∷ xs)
none_choice Shape.none c xs k n = none_row
none_choice (Shape.or a b) c xs k n = go (not (nullable a) && not (contains (first_bytes a) c)) refl n (none_choice b c xs k)
  where
    go : (p : Bool) → (not (nullable a) && not (contains (first_bytes a) c)) ≡ p → NoneOf (if p then rows_at b c else (a ∷ rows_at b c)) (c ∷ xs) →
        (NoneOf (rows_at b c) (c ∷ xs) → BeginsNone b (c ∷ xs)) → BeginsNone (Shape.or a b) (c ∷ xs)
    go true e n others =
        let tests : (not (nullable a) ≡ true) × (not (contains (first_bytes a) c) ≡ true) = both _ _ e in
        none_or (none_by_front (not_true (nullable a) tests.0) (not_true (contains (first_bytes a) c) tests.1)) (others n)
    go false e n others = none_or n.0 (others n.1)
none_choice _ c xs k n = absurd cc

-- ---- names

pub begins_name : {n : ℕ} {bytes middle text left : List ℕ} → BeginsNumber 128 32 32 bytes n middle → middle ≡ text ++ left → length text ≡ n → IsUtf8 text →
    Begins Shape.name bytes (Tree.name text) left
begins_name {text = text} {left = left} p e l u = record {
  text = p.0 ++ text;
  spells = record { shaped = Is.name; spelled = (p.0, refl, rw l p.1, u) };
  reads = p.2 ∙ ap (λ (z : List ℕ). p.0 ++ z) e ∙ sym (append_assoc p.0 text left);
}

-- where no length begins
pub none_name_length : {bytes : List ℕ} → BeginsNoNumber 128 32 32 bytes → BeginsNone Shape.name bytes
none_name_length {bytes = bytes} none = record { none = λ text left tree p e. go text left tree p.shaped p.spelled e }
  where
    go : (text left : List ℕ) (tree : Tree) → Is Shape.name tree → Spelled tree text → bytes ≡ text ++ left → ⊥
    go text left tree (Is.name {bs = bs}) p e =
        none p.0 (bs ++ left) (length bs) p.2 (e ∙ ap (λ (z : List ℕ). z ++ left) p.1 ∙ append_assoc p.0 bs left)

-- where no text stands behind the length
pub none_name_text : {n : ℕ} {bytes middle : List ℕ} → BeginsNumber 128 32 32 bytes n middle →
    ((text left : List ℕ) → middle ≡ text ++ left → length text ≡ n → IsUtf8 text → ⊥) → BeginsNone Shape.name bytes
none_name_text {n = n} {bytes = bytes} {middle = middle} there none = record { none = λ text left tree p e. go text left tree p.shaped p.spelled e }
  where
    go : (text left : List ℕ) (tree : Tree) → Is Shape.name tree → Spelled tree text → bytes ≡ text ++ left → ⊥
    go text left tree (Is.name {bs = bs}) p e =
        let parts : bytes ≡ p.0 ++ (bs ++ left) = e ∙ ap (λ (z : List ℕ). z ++ left) p.1 ∙ append_assoc p.0 bs left in
        let both_ways : there.0 ++ middle ≡ p.0 ++ (bs ++ left) = sym there.2 ∙ parts in
        let same = unsigned_unique middle (bs ++ left) there.1 p.2 both_ways in
        let shifted : p.0 ++ middle ≡ p.0 ++ (bs ++ left) = ap (λ (z : List ℕ). z ++ middle) (sym same.0) ∙ both_ways in
        none bs left (append_cancel_left p.0 middle (bs ++ left) shifted) (sym same.1) p.3

pub no_room : {n : ℕ} {middle : List ℕ} → length middle < n → (text left : List ℕ) → middle ≡ text ++ left → length text ≡ n → IsUtf8 text → ⊥
no_room {n = n} {middle = middle} short text left e l u =
    let parts : length middle ≡ length text + length left = ap length e ∙ length-append text left in
    omega arith

pub no_text : {n : ℕ} {middle : List ℕ} (front behind : List ℕ) → middle ≡ front ++ behind → length front ≡ n → ¬ (IsUtf8 front) →
    (text left : List ℕ) → middle ≡ text ++ left → length text ≡ n → IsUtf8 text → ⊥
no_text front behind here m bad text left e l u =
    let same : text ≡ front = same_length text front left behind (l ∙ sym m) (sym e ∙ here) in
    let P : List ℕ → Type 0 = λ z. IsUtf8 z in
    bad (subst P same u)
