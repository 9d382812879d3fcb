-- With which bytes and flags the spellings of a shape begin.
use Rattle.std.proofs.Common.{◌≡◌, ℕ, zero, suc, ◌<◌, ◌≤◌, List, [], ◌∷◌, ◌++◌, length, Bool, true, false, ◌&&◌, nat_le, if◌then◌else◌, Some, refl, sym, ap, ◌∙◌, append_assoc, append-nil, arith, ◌⊎◌, inl, inr, subst}
use Rattle.std.proofs.lemmas.Bool.{le-leb, leb-true}
use Rattle.wasm_leb.specs.Leb.{IsLeb, IsUnsigned}
use Rattle.wasm_leb.proofs.Unique.{leb_fills, leb_front, signed_fills, signed_front}
use Rattle.wasm_shapes.specs.Operators.{Code, plain, prefixed, is_code, Operators, look_up, one_byte_operators}
use Rattle.wasm_shapes.specs.Tree.{Tree, count, left_flag, aimed_flag, kind_bytes}
use Rattle.wasm_shapes.specs.Shape.{Shape, Named, immediates, shape_of_row}
use Rattle.wasm_shapes.specs.NamedShapes.{shape_of}
use Rattle.wasm_shapes.specs.Sound.{Front, contains, apart_from, apart, nullable, operators_front, front_with, front_of, flag_front, is_known}
use Rattle.wasm_shapes.specs.Spells.{Is, Spelled, SpelledCode, SpelledPlace}
use Rattle.wasm_shapes.proofs.Lists.{both, either, or_left, or_right, first_byte, no_bytes}

apart_from_sound : (low high : ℕ) (g : Front) (b : ℕ) → apart_from low high g ≡ true → low ≤ b → b ≤ high → contains g b ≡ true → ⊥
apart_from_sound low high Front.any b d l h c = absurd cc
apart_from_sound low high Front.empty b d l h c = absurd cc
apart_from_sound low high (Front.range low' high') b d l h c =
    let within : (nat_le low' b ≡ true) × (nat_le b high' ≡ true) = both _ _ c in
    let l' : low' ≤ b = leb-true _ _ within.0 in
    let h' : b ≤ high' = leb-true _ _ within.1 in
    elim (either _ _ d) [
      | inl above ↦ let past : suc high ≤ low' = leb-true _ _ above in omega arith
      | inr below ↦ let past : suc high' ≤ low = leb-true _ _ below in omega arith
    ]
apart_from_sound low high (Front.join f g) b d l h c =
    let ds : (apart_from low high f ≡ true) × (apart_from low high g ≡ true) = both _ _ d in
    elim (either _ _ c) [
      | inl p ↦ apart_from_sound low high f b ds.0 l h p
      | inr p ↦ apart_from_sound low high g b ds.1 l h p
    ]

pub apart_sound : (f g : Front) (b : ℕ) → apart f g ≡ true → contains f b ≡ true → contains g b ≡ true → ⊥
apart_sound Front.any g b d p q = absurd cc
apart_sound Front.empty g b d p q = absurd cc
apart_sound (Front.range low high) g b d p q =
    let within : (nat_le low b ≡ true) × (nat_le b high ≡ true) = both _ _ p in
    apart_from_sound low high g b d (leb-true _ _ within.0) (leb-true _ _ within.1) q
apart_sound (Front.join f f') g b d p q =
    let ds : (apart f g ≡ true) × (apart f' g ≡ true) = both _ _ d in
    elim (either _ _ p) [
      | inl h ↦ apart_sound f g b ds.0 h q
      | inr h ↦ apart_sound f' g b ds.1 h q
    ]

-- ---- what is checked of each named shape

named_fills : (n : Named) → nullable (shape_of n) ≡ false
named_fills Named.value = refl
named_fills _ = refl

-- ---- no bytes

and_true : (p q : Bool) → p ≡ true → q ≡ true → (p && q) ≡ true
and_true true true e f = refl
and_true true false e f = absurd cc
and_true false q e f = absurd cc

code_fills : (c : Code) (x : List ℕ) → SpelledCode c x → x ≡ [] → ⊥
code_fills (plain b) x p e = cc
code_fills (prefixed b n) x p e = let is : x ≡ b ∷ p.0 = p.1 in cc

place_fills : (i : ℕ) (x : List ℕ) → SpelledPlace i x → x ≡ [] → ⊥
place_fills i x (inl p) e = leb_fills 128 x _ p.1.spelled e
place_fills i x (inr p) e = leb_fills 128 p.0 _ p.3.spelled (no_bytes p.0 p.1 (sym p.2 ∙ e)).0

pub nullable_sound : {s : Shape} {t : Tree} → Is s t → (x : List ℕ) → Spelled t x → x ≡ [] → nullable s ≡ true
nullable_sound Is.empty x p e = refl
nullable_sound Is.fixed x p e = absurd cc
nullable_sound Is.byte x p e = let at : x ≡ _ ∷ [] = p.0 in absurd cc
nullable_sound (Is.bytes {n = n} {bs = bs} l) x p e =
    let none : bs ≡ [] = cc in
    let len : length bs ≡ 0 = ap length none in
    le-leb n 0 (omega arith)
nullable_sound Is.rest x p e = refl
nullable_sound Is.u32 x p e = absurd (leb_fills 128 x _ p.spelled e)
nullable_sound Is.u64 x p e = absurd (leb_fills 128 x _ p.spelled e)
nullable_sound (Is.s32 {z = z}) x p e = absurd (signed_fills 32 z x p e)
nullable_sound (Is.s64 {z = z}) x p e = absurd (signed_fills 64 z x p e)
nullable_sound Is.ix x p e = absurd (leb_fills 128 x _ p.spelled e)
nullable_sound Is.sx x p e = absurd (leb_fills 64 x _ p.spelled e)
nullable_sound Is.outer x p e = absurd (leb_fills 128 p.0 _ p.3.spelled (no_bytes p.0 p.1 (sym p.2 ∙ e)).0)
nullable_sound Is.name x p e = absurd (leb_fills 128 p.0 _ p.2.spelled (no_bytes p.0 _ (sym p.1 ∙ e)).0)
nullable_sound Is.content x p e = absurd (leb_fills 128 p.0 _ p.2.spelled (no_bytes p.0 _ (sym p.1 ∙ e)).0)
nullable_sound (Is.alike {b = b}) x (inl p) e = let at : x ≡ b ∷ [] = p in absurd cc
nullable_sound (Is.alike {c = c}) x (inr p) e = let at : x ≡ c ∷ [] = p in absurd cc
nullable_sound Is.mem x (l, inl p) e = absurd (leb_fills 128 p.flags _ p.flagged.spelled (no_bytes p.flags _ (sym p.parts ∙ e)).0)
nullable_sound Is.mem x (l, inr p) e = absurd (leb_fills 128 p.flags _ p.flagged.spelled (no_bytes p.flags _ (sym p.parts ∙ e)).0)
nullable_sound Is.flag x p e = absurd (leb_fills 128 x _ p.spelled e)
nullable_sound (Is.within l h) x p e = let at : x ≡ _ ∷ [] = p.0 in absurd cc
nullable_sound (Is.seq d d') x p e =
    let none : (p.0 ≡ []) × (p.1 ≡ []) = no_bytes p.0 p.1 (sym p.2 ∙ e) in
    and_true _ _ (nullable_sound d p.0 p.3 none.0) (nullable_sound d' p.1 p.4 none.1)
nullable_sound (Is.swap d d') x p e =
    let none : (p.0 ≡ []) × (p.1 ≡ []) = no_bytes p.0 p.1 (sym p.2 ∙ e) in
    and_true _ _ (nullable_sound d p.0 p.3 none.0) (nullable_sound d' p.1 p.4 none.1)
nullable_sound Is.nil x p e = refl
nullable_sound (Is.cons d d') x p e = refl
nullable_sound (Is.vec d) x p e = absurd (leb_fills 128 p.0 _ p.3.spelled (no_bytes p.0 p.1 (sym p.2 ∙ e)).0)
nullable_sound Is.absent x p e = absurd cc
nullable_sound (Is.present d) x p e = let at : x ≡ 1 ∷ p.0 = p.1 in absurd cc
nullable_sound (Is.sized d) x p e = absurd (leb_fills 128 p.0 _ p.3.spelled (no_bytes p.0 p.1 (sym p.2 ∙ e)).0)
nullable_sound (Is.first d) x p e = or_left _ _ (nullable_sound d x p e)
nullable_sound (Is.later d) x p e = or_right _ _ (nullable_sound d x p e)
nullable_sound (Is.ref {n = n} d) x p e =
    let yes : nullable (shape_of n) ≡ true = nullable_sound d x p e in
    let no : nullable (shape_of n) ≡ false = named_fills n in
    absurd cc
nullable_sound (Is.scope d) x p e = nullable_sound d x p e
nullable_sound (Is.spare d) x (inl p) e = nullable_sound d x p e
nullable_sound (Is.spare {b = b} d) x (inr p) e = let is : x ≡ b ∷ p.0 = p.1 in absurd cc
nullable_sound (Is.kept {b = b} d) x p e = let is : x ≡ b ∷ p.0 = p.1 in absurd cc
nullable_sound (Is.final d d') x (inl p) e = nullable_sound d' p.1 p.5 (no_bytes p.0 p.1 (sym p.2 ∙ e)).1
nullable_sound (Is.final d d') x (inr p) e = let is : x ≡ 0x4f ∷ (p.0 ++ (p.1 ++ p.2)) = p.3 in absurd cc
nullable_sound (Is.until {b = b} d) x p e =
    let none : (p.0 ≡ []) × (b ∷ [] ≡ []) = no_bytes p.0 (b ∷ []) (sym p.1 ∙ e) in
    let never : b ∷ [] ≡ [] = none.1 in
    absurd cc
nullable_sound (Is.op {c = c} k d) x p e = absurd (code_fills c p.0 p.3 (no_bytes p.0 p.1 (sym p.2 ∙ e)).0)
nullable_sound (Is.left d d' d'') x p e = absurd (leb_fills 128 p.0 _ p.4.spelled (no_bytes p.0 _ (sym p.3 ∙ e)).0)
nullable_sound (Is.aimed d d') x p e = absurd (leb_fills 128 p.0 _ p.5.spelled (no_bytes p.0 _ (sym p.4 ∙ e)).0)
nullable_sound (Is.placed {i = i} d d') x p e = absurd (place_fills i p.0 p.4 (no_bytes p.0 _ (sym p.3 ∙ e)).0)
nullable_sound (Is.named d) x p e =
    let none : (p.0 ≡ []) × (p.1 ≡ []) = no_bytes p.0 p.1 (sym p.2 ∙ e) in
    absurd (leb_fills 128 p.3.0 _ p.3.2.spelled (no_bytes p.3.0 _ (sym p.3.1 ∙ none.0)).0)
nullable_sound (Is.other o d) x p e =
    let none : (p.0 ≡ []) × (p.1 ≡ []) = no_bytes p.0 p.1 (sym p.2 ∙ e) in
    absurd (leb_fills 128 p.3.0 _ p.3.2.spelled (no_bytes p.3.0 _ (sym p.3.1 ∙ none.0)).0)
nullable_sound (Is.led d) x p e = refl
nullable_sound (Is.not_led o) x p e = refl
nullable_sound (Is.told d) x p e = nullable_sound d x p e
nullable_sound Is.finish x p e = refl
nullable_sound (Is.also d d') x p e = refl

-- ---- the first byte

pub within : (low high b : ℕ) → low ≤ b → b ≤ high → contains (Front.range low high) b ≡ true
within low high b l h = and_true _ _ (le-leb low b l) (le-leb b high h)

-- the front of two parts
front_parts : (n : Bool) (f g : Front) (b : ℕ) → (contains f b ≡ true) ⊎ ((n ≡ true) × (contains g b ≡ true)) →
    contains (if n then Front.join f g else f) b ≡ true
front_parts true f g b (inl h) = or_left _ _ h
front_parts true f g b (inr h) = or_right _ _ h.1
front_parts false f g b (inl h) = h
front_parts false f g b (inr h) = let no : false ≡ true = h.0 in absurd cc

number_front : (x : List ℕ) (n b : ℕ) (r : List ℕ) → IsLeb 128 x n → x ≡ b ∷ r → contains (Front.range 0 255) b ≡ true
number_front x n b r p e =
    let small : b < 256 = elim (leb_front 128 x n b r p e) [ inl h ↦ omega arith | inr h ↦ omega arith ] in
    within 0 255 b (omega arith) (omega arith)

index_front : (x : List ℕ) (n b : ℕ) (r : List ℕ) → IsLeb 64 x n → x ≡ b ∷ r → contains (Front.join (Front.range 0 63) (Front.range 128 255)) b ≡ true
index_front x n b r p e =
    elim (leb_front 64 x n b r p e) [
      | inl h ↦ or_left _ _ (within 0 63 b (omega arith) (omega arith))
      | inr h ↦ or_right _ _ (within 128 255 b (omega arith) (omega arith))
    ]

counted_front : (x y z : List ℕ) (n b : ℕ) (r : List ℕ) → IsLeb 128 y n → x ≡ y ++ z → x ≡ b ∷ r → contains (Front.range 0 255) b ≡ true
counted_front x y z n b r p at e =
    elim (first_byte y z b r (sym at ∙ e)) [
      | inl h ↦ absurd (leb_fills 128 y n p h.0)
      | inr h ↦ number_front y n b h.0 p h.1
    ]

place_front : (i : ℕ) (x : List ℕ) (b : ℕ) (r : List ℕ) → SpelledPlace i x → x ≡ b ∷ r → contains (Front.range 0 255) b ≡ true
place_front i x b r (inl p) e = number_front x 0 b r p.1.spelled e
place_front i x b r (inr p) e = counted_front x p.0 p.1 2 b r p.3.spelled p.2 e

-- an operator that is listed
look_up_front : (os : List Operators) (n : ℕ) {t : Tree} → Is (shape_of_row (look_up os n)) t → contains (operators_front os) n ≡ true
look_up_front [] n d = elim d [ ]
look_up_front (o ∷ os) n {t = t} d = go (nat_le o.from n && nat_le n o.to) refl d (look_up_front os n)
  where
    go : (b : Bool) → (nat_le o.from n && nat_le n o.to) ≡ b → Is (shape_of_row (if b then Some o.kinds else look_up os n)) t →
        (Is (shape_of_row (look_up os n)) t → contains (operators_front os) n ≡ true) → contains (operators_front (o ∷ os)) n ≡ true
    go true e f later = or_left _ _ e
    go false e f later = or_right _ _ (later f)

code_front : (ends : Bool) (c : Code) (b : ℕ) (x r : List ℕ) {t : Tree} → Is (immediates ends c) t → is_code c ≡ true → SpelledCode c x → x ≡ b ∷ r →
    contains (Front.join (operators_front (one_byte_operators ends)) (Front.range 0xfb 0xfe)) b ≡ true
code_front ends (plain c) b x r {t = t} d k p e =
    let at : c ≡ b = cc in
    let P : ℕ → Type 0 = λ n. Is (shape_of_row (look_up (one_byte_operators ends) n)) t in
    or_left _ _ (look_up_front (one_byte_operators ends) b {t = t} (subst P at d))
code_front ends (prefixed c n) b x r d k p e =
    let is : x ≡ c ∷ p.0 = p.1 in
    let at : c ≡ b = cc in
    or_right _ _ (ap (λ (m : ℕ). nat_le 0xfb m && nat_le m 0xfe) (sym at) ∙ k)

named_front : (x y z n w : List ℕ) (m b : ℕ) (r : List ℕ) → x ≡ y ++ z → y ≡ n ++ w → IsLeb 128 n m → x ≡ b ∷ r → contains (Front.range 0 255) b ≡ true
named_front x y z n w m b r at is p e = counted_front x n (w ++ z) m b r p (at ∙ ap (λ (v : List ℕ). v ++ z) is ∙ append_assoc n w z) e

pub front_sound : {s : Shape} {t : Tree} → Is s t → (deep : ℕ) (x : List ℕ) (b : ℕ) (r : List ℕ) → Spelled t x → x ≡ b ∷ r →
    contains (front_with (front_of deep) s) b ≡ true
front_sound Is.empty deep x b r p e = absurd cc
front_sound (Is.fixed {b = c}) deep x b r p e = let at : c ≡ b = cc in within c c b (omega arith) (omega arith)
front_sound (Is.byte {b = c}) deep x b r p e =
    let is : x ≡ c ∷ [] = p.0 in
    let at : c ≡ b = cc in
    let small : c < 256 = p.1 in
    within 0 255 b (omega arith) (omega arith)
front_sound (Is.bytes l) deep x b r p e = refl
front_sound Is.rest deep x b r p e = refl
front_sound Is.u32 deep x b r p e = number_front x _ b r p.spelled e
front_sound Is.u64 deep x b r p e = number_front x _ b r p.spelled e
front_sound (Is.s32 {z = z}) deep x b r p e = let small : b < 256 = signed_front 32 z x b r p e in within 0 255 b (omega arith) (omega arith)
front_sound (Is.s64 {z = z}) deep x b r p e = let small : b < 256 = signed_front 64 z x b r p e in within 0 255 b (omega arith) (omega arith)
front_sound Is.ix deep x b r p e = number_front x _ b r p.spelled e
front_sound Is.sx deep x b r p e = index_front x _ b r p.spelled e
front_sound Is.outer deep x b r p e = counted_front x p.0 p.1 _ b r p.3.spelled p.2 e
front_sound Is.name deep x b r p e = counted_front x p.0 _ _ b r p.2.spelled p.1 e
front_sound Is.content deep x b r p e = counted_front x p.0 _ _ b r p.2.spelled p.1 e
front_sound (Is.alike {b = c}) deep x b r (inl p) e =
    let is : x ≡ c ∷ [] = p in
    let at : c ≡ b = cc in
    or_left _ _ (within c c b (omega arith) (omega arith))
front_sound (Is.alike {c = c}) deep x b r (inr p) e =
    let is : x ≡ c ∷ [] = p in
    let at : c ≡ b = cc in
    or_right _ _ (within c c b (omega arith) (omega arith))
front_sound Is.mem deep x b r (l, inl p) e = counted_front x p.flags _ _ b r p.flagged.spelled p.parts e
front_sound Is.mem deep x b r (l, inr p) e = counted_front x p.flags _ _ b r p.flagged.spelled p.parts e
front_sound Is.flag deep x b r p e = number_front x _ b r p.spelled e
front_sound (Is.within {low = low} {high = high} {b = c} l h) deep x b r p e =
    let is : x ≡ c ∷ [] = p.0 in
    let at : c ≡ b = cc in
    within low high b (omega arith) (omega arith)
front_sound (Is.seq {a = a} {b = c} d d') deep x b r p e =
    front_parts (nullable a) (front_with (front_of deep) a) (front_with (front_of deep) c) b (
    elim (first_byte p.0 p.1 b r (sym p.2 ∙ e)) [
      | inl h ↦ inr (nullable_sound d p.0 p.3 h.0, front_sound d' deep p.1 b r p.4 h.1)
      | inr h ↦ inl (front_sound d deep p.0 b h.0 p.3 h.1)
    ])
front_sound (Is.swap {a = a} {b = c} d d') deep x b r p e =
    front_parts (nullable a) (front_with (front_of deep) a) (front_with (front_of deep) c) b (
    elim (first_byte p.0 p.1 b r (sym p.2 ∙ e)) [
      | inl h ↦ inr (nullable_sound d p.0 p.3 h.0, front_sound d' deep p.1 b r p.4 h.1)
      | inr h ↦ inl (front_sound d deep p.0 b h.0 p.3 h.1)
    ])
front_sound Is.nil deep x b r p e = absurd cc
front_sound (Is.cons d d') deep x b r p e =
    elim (first_byte p.0 p.1 b r (sym p.2 ∙ e)) [
      | inl h ↦ front_sound d' deep p.1 b r p.4 h.1
      | inr h ↦ front_sound d deep p.0 b h.0 p.3 h.1
    ]
front_sound (Is.vec d) deep x b r p e = counted_front x p.0 p.1 _ b r p.3.spelled p.2 e
front_sound Is.absent deep x b r p e = let at : 0 ≡ b = cc in within 0 1 b (omega arith) (omega arith)
front_sound (Is.present d) deep x b r p e =
    let is : x ≡ 1 ∷ p.0 = p.1 in
    let at : 1 ≡ b = cc in
    within 0 1 b (omega arith) (omega arith)
front_sound (Is.sized d) deep x b r p e = counted_front x p.0 p.1 _ b r p.3.spelled p.2 e
front_sound (Is.first d) deep x b r p e = or_left _ _ (front_sound d deep x b r p e)
front_sound (Is.later d) deep x b r p e = or_right _ _ (front_sound d deep x b r p e)
front_sound (Is.ref d) zero x b r p e = refl
front_sound (Is.ref d) (suc deep) x b r p e = front_sound d deep x b r p e
front_sound (Is.scope d) deep x b r p e = front_sound d deep x b r p e
front_sound (Is.spare d) deep x b r (inl p) e = or_right _ _ (front_sound d deep x b r p e)
front_sound (Is.spare {b = c} d) deep x b r (inr p) e =
    let is : x ≡ c ∷ p.0 = p.1 in
    let at : c ≡ b = cc in
    or_left _ _ (within c c b (omega arith) (omega arith))
front_sound (Is.kept {b = c} d) deep x b r p e =
    let is : x ≡ c ∷ p.0 = p.1 in
    let at : c ≡ b = cc in
    or_left _ _ (within c c b (omega arith) (omega arith))
front_sound (Is.final d d') deep x b r (inl p) e =
    elim (first_byte p.0 p.1 b r (sym p.2 ∙ e)) [
      | inl h ↦ or_right _ _ (front_sound d' deep p.1 b r p.5 h.1)
      | inr h ↦ absurd (no_items d p.3 p.4 h.1)
    ]
  where
    no_items : {a : Shape} {t : Tree} {y : List ℕ} {c : ℕ} {z : List ℕ} → Is (Shape.many a) t → count t ≡ 0 → Spelled t y → y ≡ c ∷ z → ⊥
    no_items Is.nil k q f = cc
    no_items (Is.cons {u = u} g g') k q f = let some : suc (count u) ≡ 0 = k in cc
front_sound (Is.final d d') deep x b r (inr p) e =
    let is : x ≡ 0x4f ∷ (p.0 ++ (p.1 ++ p.2)) = p.3 in
    let at : 0x4f ≡ b = cc in
    or_left _ _ (within 0x4f 0x4f b (omega arith) (omega arith))
front_sound (Is.until {b = c} d) deep x b r p e =
    elim (first_byte p.0 (c ∷ []) b r (sym p.1 ∙ e)) [
      | inl h ↦ let last : c ∷ [] ≡ b ∷ r = h.1 in let at : c ≡ b = cc in or_right _ _ (within c c b (omega arith) (omega arith))
      | inr h ↦ or_left _ _ (front_sound d deep p.0 b h.0 p.2 h.1)
    ]
front_sound (Is.op {ends = ends} {c = c} k d) deep x b r p e =
    elim (first_byte p.0 p.1 b r (sym p.2 ∙ e)) [
      | inl h ↦ absurd (code_fills c p.0 p.3 h.0)
      | inr h ↦ code_front ends c b p.0 h.0 d k p.3 h.1
    ]
front_sound (Is.left d d' d'') deep x b r p e = counted_front x p.0 _ _ b r p.4.spelled p.3 e
front_sound (Is.aimed d d') deep x b r p e = counted_front x p.0 _ _ b r p.5.spelled p.4 e
front_sound (Is.placed {i = i} d d') deep x b r p e =
    elim (first_byte p.0 (p.1 ++ p.2) b r (sym p.3 ∙ e)) [
      | inl h ↦ absurd (place_fills i p.0 p.4 h.0)
      | inr h ↦ place_front i p.0 b h.0 p.4 h.1
    ]
front_sound (Is.named d) deep x b r p e = named_front x p.0 p.1 p.3.0 _ _ b r p.2 p.3.1 p.3.2.spelled e
front_sound (Is.other o d) deep x b r p e = named_front x p.0 p.1 p.3.0 _ _ b r p.2 p.3.1 p.3.2.spelled e
front_sound (Is.led d) deep x b r p e = refl
front_sound (Is.not_led o) deep x b r p e = refl
front_sound (Is.told d) deep x b r p e = front_sound d deep x b r p e
front_sound Is.finish deep x b r p e = absurd cc
front_sound (Is.also d d') deep x b r p e =
    elim (first_byte p.0 p.1 b r (sym p.2 ∙ e)) [
      | inl h ↦ front_sound d' deep p.1 b r p.4 h.1
      | inr h ↦ front_sound d deep p.0 b h.0 p.3 h.1
    ]

-- ---- bytes outside a range that holds a front

abbrev pub lies_in : ℕ → ℕ → Front → Bool
lies_in low high Front.any = false
lies_in low high Front.empty = true
lies_in low high (Front.range low' high') = nat_le low low' && nat_le high' high
lies_in low high (Front.join f g) = lies_in low high f && lies_in low high g

false_not_true : (p : Bool) → (p ≡ true → ⊥) → p ≡ false
false_not_true true h = absurd (h refl)
false_not_true false h = refl

lies_in_sound : (low high b : ℕ) (f : Front) → lies_in low high f ≡ true → contains f b ≡ true → (low ≤ b) × (b ≤ high)
lies_in_sound low high b Front.any l c = absurd cc
lies_in_sound low high b Front.empty l c = absurd cc
lies_in_sound low high b (Front.range low' high') l c =
    let ends : (nat_le low low' ≡ true) × (nat_le high' high ≡ true) = both _ _ l in
    let inside : (nat_le low' b ≡ true) × (nat_le b high' ≡ true) = both _ _ c in
    let p : low ≤ low' = leb-true _ _ ends.0 in
    let q : high' ≤ high = leb-true _ _ ends.1 in
    let r : low' ≤ b = leb-true _ _ inside.0 in
    let s : b ≤ high' = leb-true _ _ inside.1 in
    (omega arith, omega arith)
lies_in_sound low high b (Front.join f g) l c =
    let ls : (lies_in low high f ≡ true) × (lies_in low high g ≡ true) = both _ _ l in
    elim (either _ _ c) [
      | inl h ↦ lies_in_sound low high b f ls.0 h
      | inr h ↦ lies_in_sound low high b g ls.1 h
    ]

pub outside : (low high b : ℕ) (f : Front) → lies_in low high f ≡ true → (b < low) ⊎ (high < b) → contains f b ≡ false
outside low high b f l o = false_not_true (contains f b) (λ c.
    let inside : (low ≤ b) × (b ≤ high) = lies_in_sound low high b f l c in
    elim o [ inl below ↦ omega arith | inr above ↦ omega arith ])

-- ---- the flag that a shape begins with

-- a number at the front, whose value lies in the front
abbrev pub BeginsFlag : Front → List ℕ → Type 0
BeginsFlag f x = (y z : List ℕ) × (n : ℕ) × (x ≡ y ++ z) × IsUnsigned 32 y n × (contains f n ≡ true)

place_flag : (i : ℕ) (x y : List ℕ) (z : List ℕ) → x ≡ y ++ z → SpelledPlace i y → BeginsFlag (Front.join (Front.range 0 0) (Front.range 2 2)) x
place_flag i x y z e (inl p) = (y, z, 0, e, p.1, refl)
place_flag i x y z e (inr p) = (p.0, p.1 ++ z, 2, e ∙ ap (λ (v : List ℕ). v ++ z) p.2 ∙ append_assoc p.0 p.1 z, p.3, refl)

pub flag_sound : {s : Shape} {t : Tree} → Is s t → (x : List ℕ) → Spelled t x → is_known (flag_front s) ≡ true → BeginsFlag (flag_front s) x
flag_sound (Is.flag {n = n}) x p k = (x, [], n, sym (append-nil x), p, within n n n (omega arith) (omega arith))
flag_sound (Is.seq d d') x p k =
    let f = flag_sound d p.0 p.3 k in
    (f.0, f.1 ++ p.1, f.2, p.2 ∙ ap (λ (z : List ℕ). z ++ p.1) f.3 ∙ append_assoc f.0 f.1 p.1, f.4, f.5)
flag_sound (Is.left {w = w} d d' d'') x p k =
    (p.0, p.1 ++ p.2, left_flag w, p.3, p.4, or_left _ _ (within (left_flag w) (left_flag w) (left_flag w) (omega arith) (omega arith)))
flag_sound (Is.aimed {w = w} d d') x p k =
    (p.0, p.1 ++ (p.2 ++ (kind_bytes w ++ p.3)), aimed_flag w, p.4, p.5, or_right _ _ (within (aimed_flag w) (aimed_flag w) (aimed_flag w) (omega arith) (omega arith)))
flag_sound (Is.placed {i = i} d d') x p k = place_flag i x p.0 (p.1 ++ p.2) p.3 p.4
flag_sound (Is.first d) x p k =
    let f = flag_sound d x p (both _ _ k).0 in
    (f.0, f.1, f.2, f.3, f.4, or_left _ _ f.5)
flag_sound (Is.later d) x p k =
    let f = flag_sound d x p (both _ _ k).1 in
    (f.0, f.1, f.2, f.3, f.4, or_right _ _ f.5)
flag_sound _ x p k = absurd cc
