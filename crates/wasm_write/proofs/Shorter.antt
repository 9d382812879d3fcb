-- No spelling of a tree is shorter than the normal one.
use Rattle.std.proofs.Common.{◌≡◌, ℕ, ℤ, pos, negsuc, zero, suc, ◌+◌, ◌/◌, ◌%◌, ◌^◌, ◌<◌, ◌≤◌, List, [], ◌∷◌, ◌++◌, length, Bool, true, false, inl, inr, refl, ap, ◌∙◌, arith, nat_lt, if◌then◌else◌, ltb-true, ltb-false, length-append}
use Rattle.std.proofs.lemmas.Int.{ints}
use Rattle.wasm_leb.specs.Leb.{IsUnsigned, IsSignedIndex, IsSigned, shortest, leb, signed_leb, shortest_signed}
use Rattle.wasm_leb.proofs.Spellings.{unsigned_32_is_shortest, unsigned_64_is_shortest, index_is_shortest, signed_32_is_shortest, signed_64_is_shortest}
use Rattle.wasm_shapes.specs.Operators.{Code, plain, prefixed}
use Rattle.wasm_shapes.specs.Tree.{Tree, count, normal, code_bytes, mem_bytes, kind_bytes, final_bytes, placed_bytes, left_flag, aimed_flag}
use Rattle.wasm_shapes.specs.Spells.{Spelled, SpelledCode, SpelledPlace}

-- ---- numbers

u32_shorter : (n : ℕ) (x : List ℕ) → IsUnsigned 32 x n → length (leb n) ≤ length x
u32_shorter n x p = (unsigned_32_is_shortest n p.fits).1 x p

u64_shorter : (n : ℕ) (x : List ℕ) → IsUnsigned 64 x n → length (leb n) ≤ length x
u64_shorter n x p = (unsigned_64_is_shortest n p.fits).1 x p

index_shorter : (n : ℕ) (x : List ℕ) → IsSignedIndex x n → length (signed_leb n) ≤ length x
index_shorter n x p = (index_is_shortest n p.fits).1 x p

s32_shorter : (z : ℤ) (x : List ℕ) → IsSigned 32 x z → length (shortest_signed z) ≤ length x
s32_shorter (pos n) x p = let small : n < 2 ^ 31 = p.fits in (signed_32_is_shortest (pos n) (omega (arith, ints)) (omega (arith, ints))).1 x p
s32_shorter (negsuc n) x p = let small : n < 2 ^ 31 = p.fits in (signed_32_is_shortest (negsuc n) (omega (arith, ints)) (omega (arith, ints))).1 x p

s64_shorter : (z : ℤ) (x : List ℕ) → IsSigned 64 x z → length (shortest_signed z) ≤ length x
s64_shorter (pos n) x p = let small : n < 2 ^ 63 = p.fits in (signed_64_is_shortest (pos n) (omega (arith, ints)) (omega (arith, ints))).1 x p
s64_shorter (negsuc n) x p = let small : n < 2 ^ 63 = p.fits in (signed_64_is_shortest (negsuc n) (omega (arith, ints)) (omega (arith, ints))).1 x p

-- a smaller number takes no more bytes
one_byte : (more n : ℕ) → 1 ≤ length (shortest more 128 n)
unfolding shortest
one_byte zero n = omega arith
one_byte (suc more) n = go (nat_lt n 128)
  where
    go : (b : Bool) → 1 ≤ length (if b then n ∷ [] else ((n % 128 + 128) ∷ shortest more 128 (n / 128)))
    go true = omega arith
    go false = omega arith

smaller_shorter : (more m n : ℕ) → m ≤ n → length (shortest more 128 m) ≤ length (shortest more 128 n)
unfolding shortest
smaller_shorter zero m n h = omega arith
smaller_shorter (suc more) m n h = go (nat_lt m 128) (nat_lt n 128) refl refl (smaller_shorter more (m / 128) (n / 128) (omega arith))
  where
    go : (b c : Bool) → nat_lt m 128 ≡ b → nat_lt n 128 ≡ c → length (shortest more 128 (m / 128)) ≤ length (shortest more 128 (n / 128))
        → length (if b then m ∷ [] else ((m % 128 + 128) ∷ shortest more 128 (m / 128)))
        ≤ length (if c then n ∷ [] else ((n % 128 + 128) ∷ shortest more 128 (n / 128)))
    go true true e f again = omega arith
    go true false e f again = omega arith
    go false true e f again = let above : 128 ≤ m = ltb-false m 128 e in let below : n < 128 = ltb-true n 128 f in absurd (omega arith)
    go false false e f again = omega arith

pub leb_shorter : (m n : ℕ) → m ≤ n → length (leb m) ≤ length (leb n)
leb_shorter m n h = smaller_shorter 9 m n h

-- ---- parts side by side

two : (a b x y z : List ℕ) → x ≡ y ++ z → length a ≤ length y → length b ≤ length z → length (a ++ b) ≤ length x
two a b x y z e p q =
    let whole : length x ≡ length y + length z = ap length e ∙ length-append y z in
    let made : length (a ++ b) ≡ length a + length b = length-append a b in
    omega arith

behind : (a x z : List ℕ) (b : ℕ) → x ≡ b ∷ z → length a ≤ length z → length (b ∷ a) ≤ length x
behind a x z b e p = let whole : length x ≡ suc (length z) = ap length e in omega arith

same : (x y : List ℕ) → x ≡ y → length y ≤ length x
same x y e = let l : length x ≡ length y = ap length e in omega arith

code_shorter : (c : Code) (x : List ℕ) → SpelledCode c x → length (code_bytes c) ≤ length x
code_shorter (plain b) x p = same x (b ∷ []) p
code_shorter (prefixed b n) x p = behind (leb n) x p.0 b p.1 (u32_shorter n p.0 p.2)

place_shorter : (i : ℕ) (x : List ℕ) → SpelledPlace i x → length (placed_bytes i) ≤ length x
place_shorter zero x (inl p) = u32_shorter 0 x p.1
place_shorter zero x (inr p) =
    let f : length (leb 2) ≤ length p.0 = u32_shorter 2 p.0 p.3 in
    let whole : length x ≡ length p.0 + length p.1 = ap length p.2 ∙ length-append p.0 p.1 in
    let less : length (leb 0) ≤ length (leb 2) = leb_shorter 0 2 (omega arith) in
    omega arith
place_shorter (suc i) x (inl p) = absurd (let never : suc i ≡ 0 = p.0 in omega arith)
place_shorter (suc i) x (inr p) = two (leb 2) (leb (suc i)) x p.0 p.1 p.2 (u32_shorter 2 p.0 p.3) (u32_shorter (suc i) p.1 p.4)

mem_shorter : (a i o : ℕ) (x : List ℕ) → Spelled (Tree.mem a i o) x → length (mem_bytes a i o) ≤ length x
mem_shorter a zero o x (l, inl p) = two (leb a) (leb o) x p.flags p.offset p.parts (u32_shorter a p.flags p.flagged) (u64_shorter o p.offset p.offsets)
mem_shorter a zero o x (l, inr p) =
    let f : length (leb (a + 64)) ≤ length p.flags = u32_shorter (a + 64) p.flags p.flagged in
    let less : length (leb a) ≤ length (leb (a + 64)) = leb_shorter a (a + 64) (omega arith) in
    let rest : length (p.memory ++ p.offset) ≡ length p.memory + length p.offset = length-append p.memory p.offset in
    let last : length (leb o) ≤ length p.offset = u64_shorter o p.offset p.offsets in
    two (leb a) (leb o) x p.flags (p.memory ++ p.offset) p.parts (omega arith) (omega arith)
mem_shorter a (suc i) o x (l, inl p) = absurd (let never : suc i ≡ 0 = p.zero in omega arith)
mem_shorter a (suc i) o x (l, inr p) =
    two (leb (a + 64)) (leb (suc i) ++ leb o) x p.flags (p.memory ++ p.offset) p.parts (u32_shorter (a + 64) p.flags p.flagged)
    (two (leb (suc i)) (leb o) (p.memory ++ p.offset) p.memory p.offset refl (u32_shorter (suc i) p.memory p.index) (u64_shorter o p.offset p.offsets))

-- items that may be left out with their number where there are none
final_shorter : (n : ℕ) (a b x y z : List ℕ) → x ≡ y ++ z → n ≡ 0 → length a ≤ length y → length b ≤ length z → length (final_bytes n a b) ≤ length x
final_shorter zero a b x y z e none p q = two a b x y z e p q
final_shorter (suc n) a b x y z e none p q = absurd (omega arith)

final_written : (n : ℕ) (a b x k y z : List ℕ) → x ≡ 0x4f ∷ (k ++ (y ++ z)) → IsUnsigned 32 k n → length a ≤ length y → length b ≤ length z → length (final_bytes n a b) ≤ length x
final_written zero a b x k y z e h p q =
    let whole : length x ≡ suc (length k + length (y ++ z)) = ap length e ∙ ap suc (length-append k (y ++ z)) in
    let made : length (a ++ b) ≤ length (y ++ z) = two a b (y ++ z) y z refl p q in
    omega arith
final_written (suc n) a b x k y z e h p q =
    behind (leb (suc n) ++ (a ++ b)) x (k ++ (y ++ z)) 0x4f e
    (two (leb (suc n)) (a ++ b) (k ++ (y ++ z)) k (y ++ z) refl (u32_shorter (suc n) k h) (two a b (y ++ z) y z refl p q))

pub shorter : (t : Tree) (x : List ℕ) → Spelled t x → length (normal t) ≤ length x
shorter Tree.empty x p = same x [] p
shorter (Tree.fixed b) x p = same x (b ∷ []) p
shorter (Tree.byte b) x p = same x (b ∷ []) p.0
shorter (Tree.raw bs) x p = same x bs p
shorter (Tree.u32 n) x p = u32_shorter n x p
shorter (Tree.u64 n) x p = u64_shorter n x p
shorter (Tree.s32 z) x p = s32_shorter z x p
shorter (Tree.s64 z) x p = s64_shorter z x p
shorter (Tree.ix s i) x p = u32_shorter i x p
shorter (Tree.sx s i) x p = index_shorter i x p
shorter (Tree.outer s c i) x p = two (leb c) (leb i) x p.0 p.1 p.2 (u32_shorter c p.0 p.3) (u32_shorter i p.1 p.4)
shorter (Tree.name bs) x p = two (leb (length bs)) bs x p.0 bs p.1 (u32_shorter (length bs) p.0 p.2) (omega arith)
shorter (Tree.content bs) x p = two (leb (length bs)) bs x p.0 bs p.1 (u32_shorter (length bs) p.0 p.2) (omega arith)
shorter (Tree.alike b c) x (inl p) = same x (b ∷ []) p
shorter (Tree.alike b c) x (inr p) = same x (c ∷ []) p
shorter (Tree.mem a i o) x p = mem_shorter a i o x p
shorter (Tree.canonical i) x p = absurd p
shorter (Tree.flag n) x p = u32_shorter n x p
shorter (Tree.pair t u) x p = two (normal t) (normal u) x p.0 p.1 p.2 (shorter t p.0 p.3) (shorter u p.1 p.4)
shorter (Tree.swap t u) x p = two (normal t) (normal u) x p.0 p.1 p.2 (shorter t p.0 p.3) (shorter u p.1 p.4)
shorter Tree.nil x p = same x [] p
shorter (Tree.cons t u) x p = two (normal t) (normal u) x p.0 p.1 p.2 (shorter t p.0 p.3) (shorter u p.1 p.4)
shorter (Tree.vec t) x p = two (leb (count t)) (normal t) x p.0 p.1 p.2 (u32_shorter (count t) p.0 p.3) (shorter t p.1 p.4)
shorter Tree.absent x p = same x (0 ∷ []) p
shorter (Tree.present t) x p = behind (normal t) x p.0 1 p.1 (shorter t p.0 p.2)
shorter (Tree.sized t) x p =
    let body : length (normal t) ≤ length p.1 = shorter t p.1 p.4 in
    let size : length (leb (length p.1)) ≤ length p.0 = u32_shorter (length p.1) p.0 p.3 in
    let less : length (leb (length (normal t))) ≤ length (leb (length p.1)) = leb_shorter (length (normal t)) (length p.1) body in
    two (leb (length (normal t))) (normal t) x p.0 p.1 p.2 (omega arith) body
shorter (Tree.row k t) x p = shorter t x p
shorter (Tree.scope t) x p = shorter t x p
shorter (Tree.spare b t) x (inl p) = shorter t x p
shorter (Tree.spare b t) x (inr p) =
    let rest : length (normal t) ≤ length p.0 = shorter t p.0 p.2 in
    let whole : length x ≡ suc (length p.0) = ap length p.1 in
    omega arith
shorter (Tree.kept b t) x p = behind (normal t) x p.0 b p.1 (shorter t p.0 p.2)
shorter (Tree.final t u) x (inl p) = final_shorter (count t) (normal t) (normal u) x p.0 p.1 p.2 p.3 (shorter t p.0 p.4) (shorter u p.1 p.5)
shorter (Tree.final t u) x (inr p) = final_written (count t) (normal t) (normal u) x p.0 p.1 p.2 p.3 p.4 (shorter t p.1 p.5) (shorter u p.2 p.6)
shorter (Tree.until b t) x p = two (normal t) (b ∷ []) x p.0 (b ∷ []) p.1 (shorter t p.0 p.2) (omega arith)
shorter (Tree.op c t) x p = two (code_bytes c) (normal t) x p.0 p.1 p.2 (code_shorter c p.0 p.3) (shorter t p.1 p.4)
shorter (Tree.left w o t) x p =
    two (leb (left_flag w)) (normal o ++ normal t) x p.0 (p.1 ++ p.2) p.3 (u32_shorter (left_flag w) p.0 p.4)
    (two (normal o) (normal t) (p.1 ++ p.2) p.1 p.2 refl (shorter o p.1 p.5) (shorter t p.2 p.6))
shorter (Tree.aimed w i o t) x p =
    two (leb (aimed_flag w)) (leb i ++ (normal o ++ (kind_bytes w ++ normal t))) x p.0 (p.1 ++ (p.2 ++ (kind_bytes w ++ p.3))) p.4 (u32_shorter (aimed_flag w) p.0 p.5)
    (two (leb i) (normal o ++ (kind_bytes w ++ normal t)) (p.1 ++ (p.2 ++ (kind_bytes w ++ p.3))) p.1 (p.2 ++ (kind_bytes w ++ p.3)) refl (u32_shorter i p.1 p.6)
    (two (normal o) (kind_bytes w ++ normal t) (p.2 ++ (kind_bytes w ++ p.3)) p.2 (kind_bytes w ++ p.3) refl (shorter o p.2 p.7)
    (two (kind_bytes w) (normal t) (kind_bytes w ++ p.3) (kind_bytes w) p.3 refl (omega arith) (shorter t p.3 p.8))))
shorter (Tree.placed i o t) x p =
    two (placed_bytes i) (normal o ++ normal t) x p.0 (p.1 ++ p.2) p.3 (place_shorter i p.0 p.4)
    (two (normal o) (normal t) (p.1 ++ p.2) p.1 p.2 refl (shorter o p.1 p.5) (shorter t p.2 p.6))
shorter (Tree.told k t) x p = shorter t x p
shorter Tree.finish x p = same x [] p
shorter (Tree.also t u) x p = two (normal t) (normal u) x p.0 p.1 p.2 (shorter t p.0 p.3) (shorter u p.1 p.4)
