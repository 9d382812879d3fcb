-- The normal spelling spells its tree.
use Rattle.std.specs.Prelude.{None}
use Rattle.std.proofs.Common.{◌≡◌, ℕ, ℤ, pos, negsuc, zero, suc, ◌+◌, ◌-◌, ◌^◌, ◌<◌, ◌≤◌, List, [], ◌∷◌, ◌++◌, length, get_or, drop, refl, sym, ap, arith, All, inl, inr, get_or-drop}
use Rattle.std.specs.Coded.{le_prop}
use Rattle.std.proofs.lemmas.List.Elements.{All-cons, All-head, All-tail}
use Rattle.std.proofs.lemmas.Str.{IsUtf8-had}
use mathlib.Core.Logic.{∥∥₁_elim, ∥∥₁_map}
use Rattle.wasm_leb.specs.Leb.{FitsBits, leb, IsSigned}
use Rattle.wasm_leb.proofs.Shortest.{leb_spells, leb_spells_64, signed_leb_spells, s32_spells, s64_spells}
use Rattle.wasm_shapes.specs.Operators.{Code, plain, prefixed}
use Rattle.wasm_shapes.specs.Tree.{code_bytes, mem_bytes, final_bytes, placed_bytes, Tree, count, normal, frames, after, past, before, fill, aimed_at, Listed, typed, left_flag, aimed_flag}
use Rattle.wasm_shapes.specs.Shape.{Shape, listing}
use Rattle.wasm_shapes.specs.Spells.{Is, Spelled, SpelledCode, SpelledPlace}
use Rattle.wasm_shapes.specs.Fits.{InRange, Fits, CodeInRange}

fits_parts : (ceiling : ℕ) (xs ys : List ℕ) → All (λ n. n ≤ ceiling) (xs ++ ys) → All (λ n. n ≤ ceiling) xs × All (λ n. n ≤ ceiling) ys
fits_parts ceiling [] ys h = (λ k d l. absurd (omega arith), h)
fits_parts ceiling (x ∷ xs) ys h =
    let rest = fits_parts ceiling xs ys (All-tail (λ n. n ≤ ceiling) x (xs ++ ys) h) in
    (All-cons (λ n. n ≤ ceiling) x xs (All-head (λ n. n ≤ ceiling) x (xs ++ ys) h) rest.0, rest.1)

code_read_back : (c : Code) → CodeInRange c → SpelledCode c (code_bytes c)
code_read_back (plain b) r = refl
code_read_back (prefixed p n) r = (leb n, refl, leb_spells n r)

code_in_range : (c : Code) (x : List ℕ) → SpelledCode c x → CodeInRange c
code_in_range (plain b) x p = tt
code_in_range (prefixed p n) x q = q.2.fits

mem_read_back : (a i o : ℕ) → (a < 64) × (i < 2 ^ 32) × (o < 2 ^ 64) → Spelled (Tree.mem a i o) (mem_bytes a i o)
mem_read_back a zero o r =
    let small : a < 64 = r.0 in (
      small,
      inl (record {
        flags = leb a;
        offset = leb o;
        parts = refl;
        zero = refl;
        flagged = leb_spells a (omega arith);
        offsets = leb_spells_64 o r.2;
      }),
    )
mem_read_back a (suc i) o r =
    let small : a < 64 = r.0 in (
      small,
      inr (record {
        flags = leb (a + 64);
        memory = leb (suc i);
        offset = leb o;
        parts = refl;
        flagged = leb_spells (a + 64) (omega arith);
        index = leb_spells (suc i) r.1;
        offsets = leb_spells_64 o r.2;
      }),
    )

place_read_back : (i : ℕ) → i < 2 ^ 32 → SpelledPlace i (placed_bytes i)
place_read_back zero h = inl (refl, leb_spells 0 (omega arith))
place_read_back (suc i) h = inr (leb 2, leb (suc i), refl, leb_spells 2 (omega arith), leb_spells (suc i) h)

final_read_back : (n : ℕ) (t u : Tree) → n ≡ count t → n < 2 ^ 32 → Spelled t (normal t) → Spelled u (normal u) →
    Spelled (Tree.final t u) (final_bytes n (normal t) (normal u))
final_read_back zero t u e h p q = inl (normal t, normal u, refl, sym e, p, q)
final_read_back (suc n) t u e h p q = inr (leb (suc n), normal t, normal u, refl, rw (← e) (leb_spells (suc n) h), p, q)

left_flag_small : (w : Listed) → left_flag w < 2 ^ 32
left_flag_small Listed.functions = omega arith
left_flag_small Listed.expressions = omega arith

aimed_flag_small : (w : Listed) → aimed_flag w < 2 ^ 32
aimed_flag_small Listed.functions = omega arith
aimed_flag_small Listed.expressions = omega arith

pub read_back : (t : Tree) → InRange t → Fits t (2 ^ 32 - 1) → Spelled t (normal t)
read_back Tree.empty r f = refl
read_back (Tree.fixed b) r f = refl
read_back (Tree.byte b) r f = (refl, r)
read_back (Tree.raw bs) r f = refl
read_back (Tree.u32 n) r f = leb_spells n r
read_back (Tree.u64 n) r f = leb_spells_64 n r
read_back (Tree.s32 z) r f = s32_spells z r
read_back (Tree.s64 z) r f = s64_spells z r
read_back (Tree.ix s i) r f = leb_spells i r
read_back (Tree.sx s i) r f = signed_leb_spells i r
read_back (Tree.outer s c i) r f = (leb c, leb i, refl, leb_spells c r.0, leb_spells i r.1)
read_back (Tree.name bs) r f = (leb (length bs), refl, leb_spells (length bs) r.0, r.1)
read_back (Tree.content bs) r f = (leb (length bs), refl, leb_spells (length bs) r)
read_back (Tree.alike b c) r f = inl refl
read_back (Tree.mem a i o) r f = mem_read_back a i o r
read_back (Tree.canonical i) r f = absurd r
read_back (Tree.flag n) r f = leb_spells n r
read_back (Tree.pair t u) r f =
    let parts = fits_parts (2 ^ 32 - 1) (frames t) (frames u) f in
    (normal t, normal u, refl, read_back t r.0 parts.0, read_back u r.1 parts.1)
read_back (Tree.swap t u) r f =
    let parts = fits_parts (2 ^ 32 - 1) (frames t) (frames u) f in
    (normal t, normal u, refl, read_back t r.0 parts.0, read_back u r.1 parts.1)
read_back Tree.nil r f = refl
read_back (Tree.cons t u) r f =
    let parts = fits_parts (2 ^ 32 - 1) (frames t) (frames u) f in
    (normal t, normal u, refl, read_back t r.0 parts.0, read_back u r.1 parts.1)
read_back (Tree.vec t) r f = (leb (count t), normal t, refl, leb_spells (count t) r.0, read_back t r.1 f)
read_back Tree.absent r f = refl
read_back (Tree.present t) r f = (normal t, refl, read_back t r f)
read_back (Tree.sized t) r f =
    let parts = fits_parts (2 ^ 32 - 1) (frames t) (length (normal t) ∷ []) f in
    let small : length (normal t) ≤ 2 ^ 32 - 1 = parts.1 zero 0 (omega arith) in
    (leb (length (normal t)), normal t, refl, leb_spells (length (normal t)) (omega arith), read_back t r parts.0)
read_back (Tree.row k t) r f = read_back t r f
read_back (Tree.scope t) r f = read_back t r f
read_back (Tree.spare b t) r f = inl (read_back t r f)
read_back (Tree.kept b t) r f = (normal t, refl, read_back t r f)
read_back (Tree.final t u) r f =
    let parts = fits_parts (2 ^ 32 - 1) (frames t) (frames u) f in
    final_read_back (count t) t u refl r.0 (read_back t r.1 parts.0) (read_back u r.2 parts.1)
read_back (Tree.until b t) r f = (normal t, refl, read_back t r f)
read_back (Tree.op c t) r f = (code_bytes c, normal t, refl, code_read_back c r.0, read_back t r.1 f)
read_back (Tree.left w o t) r f =
    let parts = fits_parts (2 ^ 32 - 1) (frames o) (frames t) f in
    (leb (left_flag w), normal o, normal t, refl, leb_spells (left_flag w) (left_flag_small w), read_back o r.0 parts.0, read_back t r.1 parts.1)
read_back (Tree.aimed w i o t) r f =
    let parts = fits_parts (2 ^ 32 - 1) (frames o) (frames t) f in
    (leb (aimed_flag w), leb i, normal o, normal t, refl, leb_spells (aimed_flag w) (aimed_flag_small w), leb_spells i r.0, read_back o r.1 parts.0, read_back t r.2 parts.1)
read_back (Tree.placed i o t) r f =
    let parts = fits_parts (2 ^ 32 - 1) (frames o) (frames t) f in
    (placed_bytes i, normal o, normal t, refl, place_read_back i r.0, read_back o r.1 parts.0, read_back t r.2 parts.1)
read_back (Tree.told k t) r f = read_back t r f
read_back Tree.finish r f = refl
read_back (Tree.also t u) r f =
    let parts = fits_parts (2 ^ 32 - 1) (frames t) (frames u) f in
    (normal t, normal u, refl, read_back t r.0 parts.0, read_back u r.1 parts.1)

-- ---- what is spelled is in range

signed_in_range : (bits : ℕ) (z : ℤ) (x : List ℕ) → IsSigned bits x z → FitsBits bits z
signed_in_range bits (pos n) x p = p.fits
signed_in_range bits (negsuc n) x p = p.fits

place_in_range : (i : ℕ) (x : List ℕ) → SpelledPlace i x → i < 2 ^ 32
place_in_range i x (inl p) = let none : i ≡ 0 = p.0 in omega arith
place_in_range i x (inr p) = p.4.fits

mem_in_range : (a i o : ℕ) (x : List ℕ) → Spelled (Tree.mem a i o) x → (a < 64) × (i < 2 ^ 32) × (o < 2 ^ 64)
mem_in_range a i o x (l, inl p) = let none : i ≡ 0 = p.zero in (l, omega arith, p.offsets.fits)
mem_in_range a i o x (l, inr p) = (l, p.index.fits, p.offsets.fits)

pub spelled_in_range : (t : Tree) (x : List ℕ) → Spelled t x → InRange t
spelled_in_range Tree.empty x p = tt
spelled_in_range (Tree.fixed b) x p = tt
spelled_in_range (Tree.byte b) x p = p.1
spelled_in_range (Tree.raw bs) x p = tt
spelled_in_range (Tree.u32 n) x p = p.fits
spelled_in_range (Tree.u64 n) x p = p.fits
spelled_in_range (Tree.s32 z) x p = signed_in_range 32 z x p
spelled_in_range (Tree.s64 z) x p = signed_in_range 64 z x p
spelled_in_range (Tree.ix s i) x p = p.fits
spelled_in_range (Tree.sx s i) x p = p.fits
spelled_in_range (Tree.outer s c i) x p = (p.3.fits, p.4.fits)
spelled_in_range (Tree.name bs) x p = (p.2.fits, p.3)
spelled_in_range (Tree.content bs) x p = p.2.fits
spelled_in_range (Tree.alike b c) x p = tt
spelled_in_range (Tree.mem a i o) x p = mem_in_range a i o x p
spelled_in_range (Tree.canonical i) x p = p
spelled_in_range (Tree.flag n) x p = p.fits
spelled_in_range (Tree.pair t u) x p = (spelled_in_range t p.0 p.3, spelled_in_range u p.1 p.4)
spelled_in_range (Tree.swap t u) x p = (spelled_in_range t p.0 p.3, spelled_in_range u p.1 p.4)
spelled_in_range Tree.nil x p = tt
spelled_in_range (Tree.cons t u) x p = (spelled_in_range t p.0 p.3, spelled_in_range u p.1 p.4)
spelled_in_range (Tree.vec t) x p = (p.3.fits, spelled_in_range t p.1 p.4)
spelled_in_range Tree.absent x p = tt
spelled_in_range (Tree.present t) x p = spelled_in_range t p.0 p.2
spelled_in_range (Tree.sized t) x p = spelled_in_range t p.1 p.4
spelled_in_range (Tree.row k t) x p = spelled_in_range t x p
spelled_in_range (Tree.scope t) x p = spelled_in_range t x p
spelled_in_range (Tree.spare b t) x (inl p) = spelled_in_range t x p
spelled_in_range (Tree.spare b t) x (inr p) = spelled_in_range t p.0 p.2
spelled_in_range (Tree.kept b t) x p = spelled_in_range t p.0 p.2
spelled_in_range (Tree.final t u) x (inl p) =
    let none : count t ≡ 0 = p.3 in
    (omega arith, spelled_in_range t p.0 p.4, spelled_in_range u p.1 p.5)
spelled_in_range (Tree.final t u) x (inr p) = (p.4.fits, spelled_in_range t p.1 p.5, spelled_in_range u p.2 p.6)
spelled_in_range (Tree.until b t) x p = spelled_in_range t p.0 p.2
spelled_in_range (Tree.op c t) x p = (code_in_range c p.0 p.3, spelled_in_range t p.1 p.4)
spelled_in_range (Tree.left w o t) x p = (spelled_in_range o p.1 p.5, spelled_in_range t p.2 p.6)
spelled_in_range (Tree.aimed w i o t) x p = (p.6.fits, spelled_in_range o p.2 p.7, spelled_in_range t p.3 p.8)
spelled_in_range (Tree.placed i o t) x p = (place_in_range i p.0 p.4, spelled_in_range o p.1 p.5, spelled_in_range t p.2 p.6)
spelled_in_range (Tree.told k t) x p = spelled_in_range t x p
spelled_in_range Tree.finish x p = tt
spelled_in_range (Tree.also t u) x p = (spelled_in_range t p.0 p.3, spelled_in_range u p.1 p.4)

-- ---- a tree that is in range in some way is so

below_had : {n m : ℕ} → ∥ n < m ∥₁ → n < m
below_had h = ∥∥₁_elim h le_prop (λ r. r)

code_had : (c : Code) → ∥ CodeInRange c ∥₁ → CodeInRange c
code_had (plain b) h = tt
code_had (prefixed p n) h = below_had h

signed_had : (bits : ℕ) (z : ℤ) → ∥ FitsBits bits z ∥₁ → FitsBits bits z
signed_had bits (pos n) h = below_had h
signed_had bits (negsuc n) h = below_had h

pub in_range_had : (t : Tree) → ∥ InRange t ∥₁ → InRange t
in_range_had (Tree.byte b) h = below_had h
in_range_had (Tree.u32 n) h = below_had h
in_range_had (Tree.u64 n) h = below_had h
in_range_had (Tree.s32 z) h = signed_had 32 z h
in_range_had (Tree.s64 z) h = signed_had 64 z h
in_range_had (Tree.ix s i) h = below_had h
in_range_had (Tree.sx s i) h = below_had h
in_range_had (Tree.outer s c i) h = (below_had (∥∥₁_map h (λ r. r.0)), below_had (∥∥₁_map h (λ r. r.1)))
in_range_had (Tree.name bs) h = (below_had (∥∥₁_map h (λ r. r.0)), IsUtf8-had bs (∥∥₁_map h (λ r. r.1)))
in_range_had (Tree.content bs) h = below_had h
in_range_had (Tree.mem a i o) h = (below_had (∥∥₁_map h (λ r. r.0)), below_had (∥∥₁_map h (λ r. r.1)), below_had (∥∥₁_map h (λ r. r.2)))
in_range_had (Tree.canonical i) h = ∥∥₁_elim h (λ r s. absurd r) (λ r. r)
in_range_had (Tree.flag n) h = below_had h
in_range_had (Tree.pair t u) h = (in_range_had t (∥∥₁_map h (λ r. r.0)), in_range_had u (∥∥₁_map h (λ r. r.1)))
in_range_had (Tree.swap t u) h = (in_range_had t (∥∥₁_map h (λ r. r.0)), in_range_had u (∥∥₁_map h (λ r. r.1)))
in_range_had (Tree.cons t u) h = (in_range_had t (∥∥₁_map h (λ r. r.0)), in_range_had u (∥∥₁_map h (λ r. r.1)))
in_range_had (Tree.vec t) h = (below_had (∥∥₁_map h (λ r. r.0)), in_range_had t (∥∥₁_map h (λ r. r.1)))
in_range_had (Tree.present t) h = in_range_had t h
in_range_had (Tree.sized t) h = in_range_had t h
in_range_had (Tree.row k t) h = in_range_had t h
in_range_had (Tree.scope t) h = in_range_had t h
in_range_had (Tree.spare b t) h = in_range_had t h
in_range_had (Tree.kept b t) h = in_range_had t h
in_range_had (Tree.final t u) h =
    (below_had (∥∥₁_map h (λ r. r.0)), in_range_had t (∥∥₁_map h (λ r. r.1)), in_range_had u (∥∥₁_map h (λ r. r.2)))
in_range_had (Tree.until b t) h = in_range_had t h
in_range_had (Tree.op c t) h = (code_had c (∥∥₁_map h (λ r. r.0)), in_range_had t (∥∥₁_map h (λ r. r.1)))
in_range_had (Tree.left w o t) h = (in_range_had o (∥∥₁_map h (λ r. r.0)), in_range_had t (∥∥₁_map h (λ r. r.1)))
in_range_had (Tree.aimed w i o t) h =
    (below_had (∥∥₁_map h (λ r. r.0)), in_range_had o (∥∥₁_map h (λ r. r.1)), in_range_had t (∥∥₁_map h (λ r. r.2)))
in_range_had (Tree.placed i o t) h =
    (below_had (∥∥₁_map h (λ r. r.0)), in_range_had o (∥∥₁_map h (λ r. r.1)), in_range_had t (∥∥₁_map h (λ r. r.2)))
in_range_had (Tree.told k t) h = in_range_had t h
in_range_had (Tree.also t u) h = (in_range_had t (∥∥₁_map h (λ r. r.0)), in_range_had u (∥∥₁_map h (λ r. r.1)))
in_range_had _ h = tt

-- ---- filling

count-aimed_at : (w : Listed) (i : ℕ) (o t : Tree) → count (aimed_at w i o t) ≡ 0
count-aimed_at w zero o t = refl
count-aimed_at w (suc i) o t = refl

typed_in_range : (w : Listed) (t : Tree) → InRange t → InRange (typed w t)
typed_in_range Listed.functions t r = r
typed_in_range Listed.expressions t r = (tt, r)

aimed_in_range : (w : Listed) (i : ℕ) (o t : Tree) → i < 2 ^ 32 → InRange o → InRange t → InRange (aimed_at w i o t)
aimed_in_range w zero o t h r q = (r, q)
aimed_in_range w (suc i) o t h r q = (h, r, typed_in_range w t q)

-- the type of functions has no visits, so filling leaves it
fill_typed : (w : Listed) (r b : Shape) (t : Tree) (answers : List ℕ) → Is (listing w r b) (fill (typed w t) answers) → Is (listing w r b) (typed w (fill t answers))
fill_typed Listed.functions r b t answers d = d
fill_typed Listed.expressions r b t answers d = d

aimed_is : (w : Listed) (i : ℕ) {a r b : Shape} {o t : Tree} → Is a o → Is b t → Is (listing w r b) (typed w t) → Is (Shape.active w a r b) (aimed_at w i o t)
aimed_is w zero d e f = Is.left d e f
aimed_is w (suc i) d e f = Is.aimed d f

pub count-fill : (t : Tree) (answers : List ℕ) → count (fill t answers) ≡ count t
count-fill (Tree.cons t u) answers = ap suc (count-fill u (after t answers))
count-fill (Tree.left w o t) answers = count-aimed_at w (get_or (after t answers) 0 0) (fill o (drop 1 (after t answers))) (fill t answers)
count-fill _ answers = refl

-- answers that are indices
abbrev Small : List ℕ → Type 0
Small answers = (k : ℕ) → get_or answers k 0 < 2 ^ 32

Small-drop : (n : ℕ) (answers : List ℕ) → Small answers → Small (drop n answers)
Small-drop n answers h k = rw get_or-drop (h (n + k))

pub fill_in_range : (t : Tree) (answers : List ℕ) → InRange t → Small answers → InRange (fill t answers)
fill_in_range (Tree.ix s i) answers r h = h 0
fill_in_range (Tree.sx s i) answers r h = h 0
fill_in_range (Tree.outer s c i) answers r h = (r.0, h 0)
fill_in_range (Tree.mem a i o) answers r h = (r.0, h 0, r.2)
fill_in_range (Tree.pair t u) answers r h = (fill_in_range t answers r.0 h, fill_in_range u (after t answers) r.1 (Small-drop _ answers h))
fill_in_range (Tree.swap t u) answers r h = (fill_in_range t (after u answers) r.0 (Small-drop _ answers h), fill_in_range u answers r.1 h)
fill_in_range (Tree.cons t u) answers r h = (fill_in_range t answers r.0 h, fill_in_range u (after t answers) r.1 (Small-drop _ answers h))
fill_in_range (Tree.vec t) answers r h =
    let same : count (fill t answers) ≡ count t = count-fill t answers in
    let fits : count t < 2 ^ 32 = r.0 in
    (omega arith, fill_in_range t answers r.1 h)
fill_in_range (Tree.present t) answers r h = fill_in_range t answers r h
fill_in_range (Tree.sized t) answers r h = fill_in_range t answers r h
fill_in_range (Tree.row k t) answers r h = fill_in_range t answers r h
fill_in_range (Tree.scope t) answers r h = fill_in_range t (drop 1 answers) r (Small-drop 1 answers h)
fill_in_range (Tree.spare b t) answers r h = fill_in_range t answers r h
fill_in_range (Tree.kept b t) answers r h = fill_in_range t answers r h
fill_in_range (Tree.final t u) answers r h =
    let same : count (fill t answers) ≡ count t = count-fill t answers in
    let fits : count t < 2 ^ 32 = r.0 in
    (omega arith, fill_in_range t answers r.1 h, fill_in_range u (after t answers) r.2 (Small-drop _ answers h))
fill_in_range (Tree.until b t) answers r h = fill_in_range t answers r h
fill_in_range (Tree.op c t) answers r h = (r.0, fill_in_range t answers r.1 h)
fill_in_range (Tree.left w o t) answers r h =
    aimed_in_range w (get_or (after t answers) 0 0) (fill o (drop 1 (after t answers))) (fill t answers) (Small-drop _ answers h 0)
    (fill_in_range o (drop 1 (after t answers)) r.0 (Small-drop 1 (after t answers) (Small-drop _ answers h))) (fill_in_range t answers r.1 h)
fill_in_range (Tree.aimed w i o t) answers r h =
    (Small-drop _ answers h 0, fill_in_range o (drop 1 (after t answers)) r.1 (Small-drop 1 (after t answers) (Small-drop _ answers h)), fill_in_range t answers r.2 h)
fill_in_range (Tree.placed i o t) answers r h =
    let behind = Small-drop 1 answers h in
    (h 0, fill_in_range o (drop 1 answers) r.1 behind, fill_in_range t (after o (drop 1 answers)) r.2 (Small-drop _ (drop 1 answers) behind))
fill_in_range (Tree.told k t) answers r h = fill_in_range t answers r h
fill_in_range (Tree.also t u) answers r h =
    let own = drop (length (before None t)) answers in
    let small = Small-drop (length (before None t)) answers h in
    (fill_in_range t own r.0 small, fill_in_range u (past t own) r.1 (Small-drop _ (after t own) (Small-drop _ own small)))
fill_in_range _ answers r h = r

pub fill_is : {s : Shape} {t : Tree} → Is s t → (answers : List ℕ) → Is s (fill t answers)
fill_is Is.empty answers = Is.empty
fill_is Is.fixed answers = Is.fixed
fill_is Is.byte answers = Is.byte
fill_is (Is.bytes l) answers = Is.bytes l
fill_is Is.rest answers = Is.rest
fill_is Is.u32 answers = Is.u32
fill_is Is.u64 answers = Is.u64
fill_is Is.s32 answers = Is.s32
fill_is Is.s64 answers = Is.s64
fill_is Is.ix answers = Is.ix
fill_is Is.sx answers = Is.sx
fill_is Is.outer answers = Is.outer
fill_is Is.name answers = Is.name
fill_is Is.content answers = Is.content
fill_is Is.alike answers = Is.alike
fill_is Is.mem answers = Is.mem
fill_is Is.flag answers = Is.flag
fill_is (Is.within l h) answers = Is.within l h
fill_is (Is.seq {t = t} d d') answers = Is.seq (fill_is d answers) (fill_is d' (after t answers))
fill_is (Is.swap {u = u} d d') answers = Is.swap (fill_is d (after u answers)) (fill_is d' answers)
fill_is Is.nil answers = Is.nil
fill_is (Is.cons {t = t} d d') answers = Is.cons (fill_is d answers) (fill_is d' (after t answers))
fill_is (Is.vec d) answers = Is.vec (fill_is d answers)
fill_is Is.absent answers = Is.absent
fill_is (Is.present d) answers = Is.present (fill_is d answers)
fill_is (Is.sized d) answers = Is.sized (fill_is d answers)
fill_is (Is.first d) answers = Is.first (fill_is d answers)
fill_is (Is.later d) answers = Is.later (fill_is d answers)
fill_is (Is.ref d) answers = Is.ref (fill_is d answers)
fill_is (Is.scope d) answers = Is.scope (fill_is d (drop 1 answers))
fill_is (Is.spare d) answers = Is.spare (fill_is d answers)
fill_is (Is.kept d) answers = Is.kept (fill_is d answers)
fill_is (Is.final {t = t} d d') answers = Is.final (fill_is d answers) (fill_is d' (after t answers))
fill_is (Is.until d) answers = Is.until (fill_is d answers)
fill_is (Is.op k d) answers = Is.op k (fill_is d answers)
fill_is (Is.left {w = w} {r = r} {b = b} {t = t} d d' d'') answers =
    aimed_is w (get_or (after t answers) 0 0) (fill_is d (drop 1 (after t answers))) (fill_is d' answers) (fill_typed w r b t answers (fill_is d'' answers))
fill_is (Is.aimed {t = t} d d') answers = Is.aimed (fill_is d (drop 1 (after t answers))) (fill_is d' answers)
fill_is (Is.placed {o = o} d d') answers = Is.placed (fill_is d (drop 1 answers)) (fill_is d' (after o (drop 1 answers)))
fill_is (Is.named {n = n} d) answers = Is.named (fill_is d (after (Tree.name n) answers))
fill_is (Is.other {bs = bs} o d) answers = Is.other o (fill_is d (after (Tree.name bs) answers))
fill_is (Is.led d) answers = Is.led (fill_is d answers)
fill_is (Is.not_led o) answers = Is.not_led o
fill_is (Is.told d) answers = Is.told (fill_is d answers)
fill_is Is.finish answers = Is.finish
fill_is (Is.also {t = t} d d') answers =
    let own = drop (length (before None t)) answers in Is.also (fill_is d own) (fill_is d' (past t own))
