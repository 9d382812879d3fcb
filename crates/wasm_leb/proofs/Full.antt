-- Spellings of which no byte can be left out are the shortest.
use Rattle.std.proofs.Common.{◌≡◌, ◌≢◌, ◌⊎◌, ◌↔◌, inl, inr, ℕ, ℤ, pos, negsuc, zero, suc, ◌+◌, ◌-◌, ◌*◌, ◌/◌, ◌%◌, ◌<◌, ◌≤◌, List, [], ◌∷◌, length, get_or, Bool, true, false, refl, sym, ap, ap₂, ◌∙◌, subst, arith, nat_lt, if◌then◌else◌, ltb-true, ltb-false, pow_mono, ◌^◌, IsTrue, not, nat_eq}
use Rattle.std.proofs.lemmas.Bool.{eq-eqb, eqb-true, le-ltb, lt-ltb}
use Rattle.wasm_leb.specs.Leb.{IsLeb, IsNegative, IsUnsigned, IsSigned, shortest, leb, inverted, inverted_byte, shortest_signed}
use Rattle.wasm_leb.proofs.Shortest.{inverted_high, inverted_low, length-inverted, shortest_spells}

-- the last byte holds a part of the number, or the one before it is too large to be the last
abbrev pub Full : ℕ → List ℕ → Type 0
Full limit [] = Unit {0}
Full limit (b ∷ []) = Unit {0}
Full limit (b ∷ c ∷ []) = (0 < c) ⊎ (128 + limit ≤ b)
Full limit (b ∷ c ∷ d ∷ x) = Full limit (c ∷ d ∷ x)

-- the last byte, and the one before it
abbrev pub last : List ℕ → ℕ
last [] = 0
last (b ∷ []) = b
last (b ∷ c ∷ x) = last (c ∷ x)

abbrev pub before_last : List ℕ → ℕ
before_last [] = 0
before_last (b ∷ []) = 0
before_last (b ∷ c ∷ []) = b
before_last (b ∷ c ∷ d ∷ x) = before_last (c ∷ d ∷ x)

pub last_at : (x : List ℕ) → get_or x (length x - 1) 0 ≡ last x
last_at [] = refl
last_at (b ∷ []) = refl
last_at (b ∷ c ∷ x) =
    let e : length (b ∷ c ∷ x) - 1 ≡ suc (length (c ∷ x) - 1) = omega arith in
    ap (λ (k : ℕ). get_or (b ∷ c ∷ x) k 0) e ∙ last_at (c ∷ x)

pub before_last_at : (x : List ℕ) → 2 ≤ length x → get_or x (length x - 2) 0 ≡ before_last x
before_last_at [] l = absurd (omega arith)
before_last_at (b ∷ []) l = absurd (omega arith)
before_last_at (b ∷ c ∷ []) l = refl
before_last_at (b ∷ c ∷ d ∷ x) l =
    let e : length (b ∷ c ∷ d ∷ x) - 2 ≡ suc (length (c ∷ d ∷ x) - 2) = omega arith in
    ap (λ (k : ℕ). get_or (b ∷ c ∷ d ∷ x) k 0) e ∙ before_last_at (c ∷ d ∷ x) (omega arith)

-- the same by the end
abbrev pub FullEnd : ℕ → List ℕ → Type 0
FullEnd limit x = (0 < last x) ⊎ (128 + limit ≤ before_last x)

pub full_by_end : (limit : ℕ) (x : List ℕ) → 2 ≤ length x → FullEnd limit x → Full limit x
full_by_end limit [] l h = absurd (omega arith)
full_by_end limit (b ∷ []) l h = absurd (omega arith)
full_by_end limit (b ∷ c ∷ []) l h = h
full_by_end limit (b ∷ c ∷ d ∷ x) l h = full_by_end limit (c ∷ d ∷ x) (omega arith) h

pub end_of_full : (limit : ℕ) (x : List ℕ) → 2 ≤ length x → Full limit x → FullEnd limit x
end_of_full limit [] l h = absurd (omega arith)
end_of_full limit (b ∷ []) l h = absurd (omega arith)
end_of_full limit (b ∷ c ∷ []) l h = h
end_of_full limit (b ∷ c ∷ d ∷ x) l h = end_of_full limit (c ∷ d ∷ x) (omega arith) h

-- ---- a full spelling is the shortest

full_far : (limit n : ℕ) (x : List ℕ) → 1 ≤ limit → limit ≤ 128 → IsLeb limit x n → 2 ≤ length x → Full limit x → limit ≤ n
full_far limit n [] one few p l h = absurd (omega arith)
full_far limit n (b ∷ []) one few p l h = absurd (omega arith)
full_far limit n (b ∷ c ∷ []) one few p l (inl more) =
    let low : 128 ≤ b = p.0 in
    let sum : n + 128 ≡ b + 128 * p.2 = p.3 in
    let last : p.2 ≡ c = p.4.1 in
    omega arith
full_far limit n (b ∷ c ∷ []) one few p l (inr large) =
    let sum : n + 128 ≡ b + 128 * p.2 = p.3 in
    omega arith
full_far limit n (b ∷ c ∷ d ∷ x) one few p l h =
    let low : 128 ≤ b = p.0 in
    let sum : n + 128 ≡ b + 128 * p.2 = p.3 in
    let far : limit ≤ p.2 = full_far limit p.2 (c ∷ d ∷ x) one few p.4 (omega arith) h in
    omega arith

full_behind : (limit b c : ℕ) (x : List ℕ) → Full limit (b ∷ c ∷ x) → Full limit (c ∷ x)
full_behind limit b c [] h = tt
full_behind limit b c (d ∷ x) h = h

pub full_is : (more limit n : ℕ) (x : List ℕ) → 1 ≤ limit → limit ≤ 128 → length x ≤ suc more → IsLeb limit x n → Full limit x → x ≡ shortest more limit n
unfolding shortest
full_is more limit n [] one few l p h = absurd p
full_is zero limit n (b ∷ []) one few l p h = ap (λ (z : ℕ). z ∷ []) (sym p.1)
full_is (suc more) limit n (b ∷ []) one few l p h =
    let small : b < limit = p.0 in
    let same : n ≡ b = p.1 in
    rw same (rw (lt-ltb b limit small) refl)
full_is zero limit n (b ∷ c ∷ x) one few l p h = absurd (omega arith)
full_is (suc more) limit n (b ∷ c ∷ x) one few l p h =
    let low : 128 ≤ b = p.0 in
    let high : b < 256 = p.1 in
    let sum : n + 128 ≡ b + 128 * p.2 = p.3 in
    let far : limit ≤ n = full_far limit n (b ∷ c ∷ x) one few p (omega arith) h in
    let first : b ≡ n % 128 + 128 = omega arith in
    let rest : n / 128 ≡ p.2 = omega arith in
    let again : c ∷ x ≡ shortest more limit p.2 = full_is more limit p.2 (c ∷ x) one few (omega arith) p.4 (full_behind limit b c x h) in
    rw (le-ltb n limit far, rest) (ap₂ (λ (y : ℕ) (z : List ℕ). y ∷ z) first again)

-- ---- the shortest is full

full_more : (limit b : ℕ) (x : List ℕ) → 2 ≤ length x → Full limit x → Full limit (b ∷ x)
full_more limit b [] l h = absurd (omega arith)
full_more limit b (c ∷ []) l h = absurd (omega arith)
full_more limit b (c ∷ d ∷ x) l h = h

shortest_one : (more limit n : ℕ) → 1 ≤ length (shortest more limit n)
unfolding shortest
shortest_one zero limit n = omega arith
shortest_one (suc more) limit n = go (nat_lt n limit)
  where
    go : (b : Bool) → 1 ≤ length (if b then n ∷ [] else ((n % 128 + 128) ∷ shortest more limit (n / 128)))
    go true = omega arith
    go false = omega arith

last_full : (limit n : ℕ) → limit ≤ n → (0 < n / 128) ⊎ (128 + limit ≤ n % 128 + 128)
last_full limit n far = go (nat_lt 0 (n / 128)) refl
  where
    go : (b : Bool) → nat_lt 0 (n / 128) ≡ b → (0 < n / 128) ⊎ (128 + limit ≤ n % 128 + 128)
    go true e = inl (ltb-true 0 (n / 128) e)
    go false e = let none : n / 128 ≤ 0 = ltb-false 0 (n / 128) e in inr (omega arith)

behind_full : (more limit n : ℕ) → limit ≤ n → Full limit (shortest more limit (n / 128)) → Full limit ((n % 128 + 128) ∷ shortest more limit (n / 128))
unfolding shortest
behind_full zero limit n far h = last_full limit n far
behind_full (suc more) limit n far h = go (nat_lt (n / 128) limit) h
  where
    go : (b : Bool) → Full limit (if b then n / 128 ∷ [] else ((n / 128 % 128 + 128) ∷ shortest more limit (n / 128 / 128))) →
        Full limit ((n % 128 + 128) ∷ (if b then n / 128 ∷ [] else ((n / 128 % 128 + 128) ∷ shortest more limit (n / 128 / 128))))
    go true k = last_full limit n far
    go false k = full_more limit (n % 128 + 128) ((n / 128 % 128 + 128) ∷ shortest more limit (n / 128 / 128)) (let one = shortest_one more limit (n / 128 / 128) in omega arith) k

shortest_full : (more limit n : ℕ) → Full limit (shortest more limit n)
unfolding shortest
shortest_full zero limit n = tt
shortest_full (suc more) limit n = go (nat_lt n limit) refl (shortest_full more limit (n / 128))
  where
    go : (b : Bool) → nat_lt n limit ≡ b → Full limit (shortest more limit (n / 128)) → Full limit (if b then n ∷ [] else ((n % 128 + 128) ∷ shortest more limit (n / 128)))
    go true e rest = tt
    go false e rest = behind_full more limit n (ltb-false n limit e) rest

-- ---- numbers without sign

above_none : (k : ℕ) → k ≢ 0 → 0 < k
above_none zero other = absurd (other refl)
above_none (suc k) other = omega arith

-- a spelling of one byte is the shortest
pub one_byte_full : (limit : ℕ) (x : List ℕ) → length x < 2 → Full limit x
one_byte_full limit [] l = tt
one_byte_full limit (b ∷ []) l = tt
one_byte_full limit (b ∷ c ∷ x) l = absurd (omega arith)

pub unsigned_full : {bits n : ℕ} {x : List ℕ} → bits ≤ 64 → IsUnsigned bits x n → Full 128 x → x ≡ leb n
unsigned_full {bits = bits} {n = n} {x = x} few p h =
    let short : length x ≤ (bits + 6) / 7 = p.short in
    full_is 9 128 n x (omega arith) (omega arith) (omega arith) p.spelled h

-- its last byte is not 0
unsigned_end : (x : List ℕ) (n : ℕ) → IsLeb 128 x n → 2 ≤ length x → FullEnd 128 x → last x ≢ 0
unsigned_end x n p l (inl more) e = absurd (omega arith)
unsigned_end x n p l (inr large) e = absurd (go x n p l large)
  where
    go : (x : List ℕ) (n : ℕ) → IsLeb 128 x n → 2 ≤ length x → 256 ≤ before_last x → ⊥
    go [] n p l large = omega arith
    go (b ∷ []) n p l large = omega arith
    go (b ∷ c ∷ []) n p l large = let high : b < 256 = p.1 in omega arith
    go (b ∷ c ∷ d ∷ x) n p l large = go (c ∷ d ∷ x) p.2 p.4 (omega arith) large

-- ---- numbers with sign

pub inverted_leb : (x : List ℕ) (n : ℕ) → IsNegative x n → IsLeb 64 (inverted x) n
inverted_leb [] n p = absurd p
inverted_leb (b ∷ []) n p =
    let low : 64 ≤ b = p.0 in
    let sum : n + b ≡ 127 = p.2 in
    let e : inverted_byte b ≡ 127 - b = inverted_low b p.1 in
    (omega arith, omega arith)
inverted_leb (b ∷ c ∷ x) n p =
    let low : 128 ≤ b = p.0 in
    let high : b < 256 = p.1 in
    let sum : n + b ≡ 255 + 128 * p.2 = p.3 in
    let e : inverted_byte b ≡ 383 - b = inverted_high b low in
    (omega arith, omega arith, p.2, omega arith, inverted_leb (c ∷ x) p.2 p.4)

inverted_twice : (x : List ℕ) (n : ℕ) → IsNegative x n → x ≡ inverted (inverted x)
inverted_twice [] n p = absurd p
inverted_twice (b ∷ []) n p =
    let small : b < 128 = p.1 in
    let e : inverted_byte b ≡ 127 - b = inverted_low b small in
    let f : inverted_byte (127 - b) ≡ 127 - (127 - b) = inverted_low (127 - b) (omega arith) in
    let same : b ≡ inverted_byte (inverted_byte b) = rw e (rw f (omega arith)) in
    ap (λ (z : ℕ). z ∷ []) same
inverted_twice (b ∷ c ∷ x) n p =
    let low : 128 ≤ b = p.0 in
    let high : b < 256 = p.1 in
    let e : inverted_byte b ≡ 383 - b = inverted_high b low in
    let f : inverted_byte (383 - b) ≡ 383 - (383 - b) = inverted_high (383 - b) (omega arith) in
    let same : b ≡ inverted_byte (inverted_byte b) = rw e (rw f (omega arith)) in
    ap₂ (λ (y : ℕ) (z : List ℕ). y ∷ z) same (inverted_twice (c ∷ x) p.2 p.4)

leb_twice : (x : List ℕ) (n : ℕ) → IsLeb 64 x n → x ≡ inverted (inverted x)
leb_twice [] n p = absurd p
leb_twice (b ∷ []) n p =
    let small : b < 64 = p.0 in
    let e : inverted_byte b ≡ 127 - b = inverted_low b (omega arith) in
    let f : inverted_byte (127 - b) ≡ 127 - (127 - b) = inverted_low (127 - b) (omega arith) in
    let same : b ≡ inverted_byte (inverted_byte b) = rw e (rw f (omega arith)) in
    ap (λ (z : ℕ). z ∷ []) same
leb_twice (b ∷ c ∷ x) n p =
    let low : 128 ≤ b = p.0 in
    let high : b < 256 = p.1 in
    let e : inverted_byte b ≡ 383 - b = inverted_high b low in
    let f : inverted_byte (383 - b) ≡ 383 - (383 - b) = inverted_high (383 - b) (omega arith) in
    let same : b ≡ inverted_byte (inverted_byte b) = rw e (rw f (omega arith)) in
    ap₂ (λ (y : ℕ) (z : List ℕ). y ∷ z) same (leb_twice (c ∷ x) p.2 p.4)

pub last_small : (limit n : ℕ) (x : List ℕ) → IsLeb limit x n → last x < limit
last_small limit n [] p = absurd p
last_small limit n (b ∷ []) p = p.0
last_small limit n (b ∷ c ∷ x) p = last_small limit p.2 (c ∷ x) p.4

last_large : (n : ℕ) (x : List ℕ) → IsNegative x n → 64 ≤ last x
last_large n [] p = absurd p
last_large n (b ∷ []) p = p.0
last_large n (b ∷ c ∷ x) p = last_large p.2 (c ∷ x) p.4

-- the end of a negative number, by its inverted bytes
negative_full : (n : ℕ) (x : List ℕ) → IsNegative x n → 2 ≤ length x → (last x ≢ 127) ⊎ (before_last x < 192) → Full 64 (inverted x)
negative_full n [] p l h = absurd p
negative_full n (b ∷ []) p l h = tt
negative_full n (b ∷ c ∷ []) p l (inl other) =
    let small : c < 128 = p.4.1 in
    let e : inverted_byte c ≡ 127 - c = inverted_low c small in
    inl (rw e (go (nat_lt c 127) refl))
  where
    go : (t : Bool) → nat_lt c 127 ≡ t → 0 < 127 - c
    go true f = let below : c < 127 = ltb-true c 127 f in omega arith
    go false f = let above : 127 ≤ c = ltb-false c 127 f in let small : c < 128 = p.4.1 in let same : c ≡ 127 = omega arith in absurd (other same)
negative_full n (b ∷ c ∷ []) p l (inr small) =
    let low : 128 ≤ b = p.0 in
    let e : inverted_byte b ≡ 383 - b = inverted_high b low in
    inr (rw e (omega arith))
negative_full n (b ∷ c ∷ d ∷ x) p l h = negative_full p.2 (c ∷ d ∷ x) p.4 (omega arith) h

negative_end : (n : ℕ) (x : List ℕ) → IsNegative x n → 2 ≤ length x → Full 64 (inverted x) → (last x ≢ 127) ⊎ (before_last x < 192)
negative_end n [] p l h = absurd p
negative_end n (b ∷ []) p l h = absurd (omega arith)
negative_end n (b ∷ c ∷ []) p l (inl more) =
    let small : c < 128 = p.4.1 in
    let e : inverted_byte c ≡ 127 - c = inverted_low c small in
    inl (λ f. let at_most : 0 < 127 - c = rw e at more in absurd (omega arith))
negative_end n (b ∷ c ∷ []) p l (inr large) =
    let low : 128 ≤ b = p.0 in
    let e : inverted_byte b ≡ 383 - b = inverted_high b low in
    inr (let far : 192 ≤ 383 - b = rw e at large in omega arith)
negative_end n (b ∷ c ∷ d ∷ x) p l h = negative_end p.2 (c ∷ d ∷ x) p.4 (omega arith) h

-- ---- the tests

-- a spelling without sign is the shortest exactly where its last byte is not 0
pub unsigned_shortest : {bits n : ℕ} {x : List ℕ} → bits ≤ 64 → IsUnsigned bits x n → 2 ≤ length x → (last x ≢ 0) ↔ (x ≡ leb n)
unsigned_shortest {bits = bits} {n = n} {x = x} few p l = (
  λ other. unsigned_full few p (full_by_end 128 x l (inl (above_none (last x) other))),
  λ same. unsigned_end x n p.spelled l (end_of_full 128 x l (let P : List ℕ → Type 0 = λ z. Full 128 z in subst P (sym same) (shortest_full 9 128 n))),
)

-- ---- with sign

low_is_full : {bits n : ℕ} {x : List ℕ} → bits ≤ 64 → IsSigned bits x (pos n) → 2 ≤ length x → Full 64 x ↔ (x ≡ shortest 9 64 n)
low_is_full {bits = bits} {n = n} {x = x} few p l =
    let short : length x ≤ (bits + 6) / 7 = p.short in (
      λ full. full_is 9 64 n x (omega arith) (omega arith) (omega arith) p.spelled full,
      λ same. let P : List ℕ → Type 0 = λ z. Full 64 z in subst P (sym same) (shortest_full 9 64 n),
    )

negative_is_full : {bits n : ℕ} {x : List ℕ} → bits ≤ 64 → IsSigned bits x (negsuc n) → 2 ≤ length x → Full 64 (inverted x) ↔ (x ≡ inverted (shortest 9 64 n))
negative_is_full {bits = bits} {n = n} {x = x} few p l =
    let short : length x ≤ (bits + 6) / 7 = p.short in
    let long : length (inverted x) ≡ length x = length-inverted x in
    let fewer : bits - 1 ≤ 63 = omega arith in
    let room : 2 ^ (bits - 1) ≤ 2 ^ 63 = pow_mono fewer in
    let fits : n < 2 ^ (bits - 1) = p.fits in
    let twice : shortest 9 64 n ≡ inverted (inverted (shortest 9 64 n)) = leb_twice (shortest 9 64 n) n (shortest_spells 9 64 n (omega arith)) in (
      λ full. inverted_twice x n p.spelled ∙ ap inverted (full_is 9 64 n (inverted x) (omega arith) (omega arith) (omega arith) (inverted_leb x n p.spelled) full),
      λ same. let P : List ℕ → Type 0 = λ z. Full 64 z in subst P (twice ∙ ap inverted (sym same)) (shortest_full 9 64 n),
    )

-- A spelling with sign whose byte before the last has bit 6 clear is the shortest exactly where its last byte is not 0.
pub clear_shortest : {bits : ℕ} (z : ℤ) {x : List ℕ} → bits ≤ 64 → IsSigned bits x z → 2 ≤ length x → before_last x < 192 → (last x ≢ 0) ↔ (x ≡ shortest_signed z)
clear_shortest (pos n) {x = x} few p l clear =
    let is = low_is_full few p l in
    (λ other. is.0 (full_by_end 64 x l (inl (above_none (last x) other))), λ same. go (end_of_full 64 x l (is.1 same)))
  where
    go : FullEnd 64 x → last x ≢ 0
    go (inl more) e = absurd (omega arith)
    go (inr large) e = absurd (omega arith)
clear_shortest (negsuc n) {x = x} few p l clear =
    let is = negative_is_full few p l in
    let large : 64 ≤ last x = last_large n x p.spelled in
    (λ other. is.0 (negative_full n x p.spelled l (inr clear)), λ same e. absurd (omega arith))

-- One whose byte before the last has bit 6 set is it exactly where its last byte is not 127.
pub set_shortest : {bits : ℕ} (z : ℤ) {x : List ℕ} → bits ≤ 64 → IsSigned bits x z → 2 ≤ length x → 192 ≤ before_last x → (last x ≢ 127) ↔ (x ≡ shortest_signed z)
set_shortest (pos n) {x = x} few p l set =
    let is = low_is_full few p l in
    let small : last x < 64 = last_small 64 n x p.spelled in
    (λ other. is.0 (full_by_end 64 x l (inr set)), λ same e. absurd (omega arith))
set_shortest (negsuc n) {x = x} few p l set =
    let is = negative_is_full few p l in
    (λ other. is.0 (negative_full n x p.spelled l (inl other)), λ same. go (negative_end n x p.spelled l (is.1 same)))
  where
    go : (last x ≢ 127) ⊎ (before_last x < 192) → last x ≢ 127
    go (inl other) = other
    go (inr small) = absurd (omega arith)

-- a spelling of one byte is the shortest
pub one_byte_shortest : {bits n : ℕ} {x : List ℕ} → bits ≤ 64 → IsUnsigned bits x n → length x < 2 → x ≡ leb n
one_byte_shortest few p l = unsigned_full few p (one_byte_full 128 _ l)

pub one_byte_shortest_signed : {bits : ℕ} (z : ℤ) {x : List ℕ} → bits ≤ 64 → IsSigned bits x z → length x < 2 → x ≡ shortest_signed z
one_byte_shortest_signed (pos n) {x = x} few p l = full_is 9 64 n x (omega arith) (omega arith) (omega arith) p.spelled (one_byte_full 64 x l)
one_byte_shortest_signed (negsuc n) {x = x} few p l =
    let long : length (inverted x) ≡ length x = length-inverted x in
    inverted_twice x n p.spelled ∙ ap inverted (full_is 9 64 n (inverted x) (omega arith) (omega arith) (omega arith) (inverted_leb x n p.spelled) (one_byte_full 64 (inverted x) (omega arith)))

-- ---- the tests

differs : (k m : ℕ) → IsTrue (not (nat_eq k m)) ↔ (k ≢ m)
differs k m = go (nat_eq k m) refl
  where
    go : (b : Bool) → nat_eq k m ≡ b → IsTrue (not b) ↔ (k ≢ m)
    go true e = let same : k ≡ m = eqb-true k m e in (λ t. absurd cc, λ other. absurd (other same))
    go false e = (λ t same. let never : nat_eq k m ≡ true = eq-eqb k m same in absurd cc, λ other. refl)

pub shortest_by_last : {bits n : ℕ} {x : List ℕ} → bits ≤ 64 → IsUnsigned bits x n → 2 ≤ length x → IsTrue (not (nat_eq (get_or x (length x - 1) 0) 0)) ↔ (x ≡ leb n)
shortest_by_last {x = x} few p l =
    let t = differs (last x) 0 in let s = unsigned_shortest few p l in rw (last_at x) (λ h. s.0 (t.0 h), λ h. t.1 (s.1 h))

pub clear_by_last : {bits : ℕ} (z : ℤ) {x : List ℕ} → bits ≤ 64 → IsSigned bits x z → 2 ≤ length x → get_or x (length x - 2) 0 < 192 →
    IsTrue (not (nat_eq (get_or x (length x - 1) 0) 0)) ↔ (x ≡ shortest_signed z)
clear_by_last z {x = x} few p l clear =
    let t = differs (last x) 0 in let s = clear_shortest z few p l (rw (before_last_at x l) at clear) in rw (last_at x) (λ h. s.0 (t.0 h), λ h. t.1 (s.1 h))

pub set_by_last : {bits : ℕ} (z : ℤ) {x : List ℕ} → bits ≤ 64 → IsSigned bits x z → 2 ≤ length x → 192 ≤ get_or x (length x - 2) 0 →
    IsTrue (not (nat_eq (get_or x (length x - 1) 0) 127)) ↔ (x ≡ shortest_signed z)
set_by_last z {x = x} few p l set =
    let t = differs (last x) 127 in let s = set_shortest z few p l (rw (before_last_at x l) at set) in rw (last_at x) (λ h. s.0 (t.0 h), λ h. t.1 (s.1 h))
