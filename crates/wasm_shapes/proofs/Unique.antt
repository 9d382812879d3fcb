-- Bytes have one reading, and no spelling of a closed shape begins another.
use Rattle.std.proofs.Common.{◌≡◌, ℕ, zero, suc, ◌+◌, ◌<◌, List, [], ◌∷◌, ◌++◌, length, Bool, true, false, not, ◌&&◌, ◌||◌, nat_eq, if◌then◌else◌, refl, sym, ap, ap₂, ◌∙◌, append_assoc, append-nil, arith, ◌⊎◌, inl, inr, subst, Option, Some, None}
use Rattle.std.proofs.lemmas.Bool.{false≢true}
use Rattle.wasm_leb.proofs.Unique.{unsigned_unique, signed_index_unique, signed_unique}
use Rattle.wasm_shapes.specs.declared.Space.TheVariants as space
use Rattle.wasm_shapes.specs.declared.ImmKind.{ImmKind}
use Rattle.wasm_shapes.specs.declared.ImmKind.TheVariants as kind
use Rattle.wasm_shapes.specs.Operators.{Code, plain, prefixed, is_code, is_prefix, kinds_among}
use Rattle.wasm_shapes.specs.Tree.{Tree, count, Listed, left_flag, aimed_flag, kind_bytes}
use Rattle.wasm_shapes.specs.Shape.{Shape, Named, begins_with, begins_with_one, closed, listing, immediates, shape_of_kind, shape_of_kinds, shape_of_row}
use Rattle.wasm_shapes.specs.NamedShapes.{shape_of}
use Rattle.wasm_shapes.specs.Sound.{Front, apart, nullable, first_bytes, deepest, flag_front, is_known, contains, bytes_apart, flags_apart, rows_apart, free_of, behind_byte, has_empty, led_by, sound}
use Rattle.wasm_shapes.specs.Spells.{Is, Spelled, SpelledCode, SpelledPlace}
use Rattle.wasm_shapes.proofs.Lists.{both, either, or_left, or_right, spelled_out, same_length, two_parts, no_bytes}
use Rattle.wasm_shapes.proofs.Fronts.{flag_sound, front_sound, nullable_sound, apart_sound, within}

pub named_sound : (n : Named) → sound (shape_of n) ≡ true
named_sound Named.value = refl
named_sound _ = refl

pub named_closed : (n : Named) → closed (shape_of n) ≡ true
named_closed Named.value = refl
named_closed _ = refl

-- The shape shows its end, or the bytes end with it.
abbrev Ends : Shape → List ℕ → List ℕ → Type 0
Ends s a b = (closed s ≡ true) ⊎ ((a ≡ []) × (b ≡ []))

ends_second : (s c : Shape) (a b : List ℕ) → ((closed s && closed c) ≡ true) ⊎ ((a ≡ []) × (b ≡ [])) → Ends c a b
ends_second s c a b (inl h) = inl (both _ _ h).1
ends_second s c a b (inr h) = inr h

ends_first : (s c : Shape) (a b : List ℕ) → ((closed s && closed c) ≡ true) ⊎ ((a ≡ []) × (b ≡ [])) → Ends s a b
ends_first s c a b (inl h) = inl (both _ _ h).0
ends_first s c a b (inr h) = inr h

not_true : (p : Bool) → not p ≡ true → p ≡ false
not_true true e = absurd cc
not_true false e = refl

no_ends : (x y a b : List ℕ) → x ++ a ≡ y ++ b → (a ≡ []) × (b ≡ []) → x ≡ y
no_ends x y a b e h =
    let left : x ++ [] ≡ x ++ a = sym (ap (λ (z : List ℕ). x ++ z) h.0) in
    let right : y ++ b ≡ y ++ [] = ap (λ (z : List ℕ). y ++ z) h.1 in
    sym (append-nil x) ∙ left ∙ e ∙ right ∙ append-nil y

-- rows that are apart have no spellings of which one begins the other
different_bytes : {r s : Shape} {t u : Tree} → Is r t → Is s u → (x y a b : List ℕ) → bytes_apart r s ≡ true →
    Spelled t x → Spelled u y → x ++ a ≡ y ++ b → ⊥
different_bytes {r = r} {s = s} d d' [] y a b apart_ p q e =
    let tests : ((not (nullable r) && not (nullable s)) ≡ true) × _ = both _ _ apart_ in
    let no : nullable r ≡ false = not_true _ (both _ _ tests.0).0 in
    let yes : nullable r ≡ true = nullable_sound d [] p refl in
    cc
different_bytes {r = r} {s = s} d d' (c ∷ x) [] a b apart_ p q e =
    let tests : ((not (nullable r) && not (nullable s)) ≡ true) × _ = both _ _ apart_ in
    let no : nullable s ≡ false = not_true _ (both _ _ tests.0).1 in
    let yes : nullable s ≡ true = nullable_sound d' [] q refl in
    cc
different_bytes {r = r} {s = s} d d' (c ∷ x) (c' ∷ y) a b apart_ p q e =
    let tests : _ × (apart (first_bytes r) (first_bytes s) ≡ true) = both _ _ apart_ in
    let heads : c' ≡ c = cc in
    let same : c' ∷ y ≡ c ∷ y = cc in
    apart_sound (first_bytes r) (first_bytes s) c tests.1 (front_sound d deepest (c ∷ x) c x p refl) (front_sound d' deepest (c' ∷ y) c y q same)

different_flags : {r s : Shape} {t u : Tree} → Is r t → Is s u → (x y a b : List ℕ) → flags_apart r s ≡ true →
    Spelled t x → Spelled u y → x ++ a ≡ y ++ b → ⊥
different_flags {r = r} {s = s} d d' x y a b apart_ p q e =
    let tests : ((is_known (flag_front r) && is_known (flag_front s)) ≡ true) × (apart (flag_front r) (flag_front s) ≡ true) = both _ _ apart_ in
    let f = flag_sound d x p (both _ _ tests.0).0 in
    let g = flag_sound d' y q (both _ _ tests.0).1 in
    let out : f.0 ++ (f.1 ++ a) ≡ g.0 ++ (g.1 ++ b) =
    sym (append_assoc f.0 f.1 a) ∙ spelled_out x y (f.0 ++ f.1) (g.0 ++ g.1) a b f.3 g.3 e ∙ append_assoc g.0 g.1 b in
    let same = unsigned_unique (f.1 ++ a) (g.1 ++ b) f.4 g.4 out in
    let number : f.2 ≡ g.2 = same.1 in
    let in_other : contains (flag_front s) f.2 ≡ true = ap (λ (n : ℕ). contains (flag_front s) n) number ∙ g.5 in
    apart_sound (flag_front r) (flag_front s) f.2 tests.1 f.5 in_other

different_rows : {r s : Shape} {t u : Tree} → Is r t → Is s u → (x y a b : List ℕ) → rows_apart r s ≡ true →
    Spelled t x → Spelled u y → x ++ a ≡ y ++ b → ⊥
different_rows {r = r} {s = s} d d' x y a b apart_ p q e =
    elim (either _ _ apart_) [
      | inl h ↦ different_bytes d d' x y a b h p q e
      | inr h ↦ different_flags d d' x y a b h p q e
    ]

-- a byte that begins no spelling
not_first : {s : Shape} {t : Tree} → Is s t → (b : ℕ) (x r : List ℕ) → free_of b s ≡ true → Spelled t x → x ≡ b ∷ r → ⊥
not_first {s = s} d b x r free p e =
    let tests : (not (nullable s) ≡ true) × (apart (Front.range b b) (first_bytes s) ≡ true) = both _ _ free in
    apart_sound (Front.range b b) (first_bytes s) b tests.1 (within b b b (omega arith) (omega arith)) (front_sound d deepest x b r p e)

-- nor is it met where one begins
not_at_byte : {s : Shape} {t : Tree} → Is s t → (b : ℕ) (x a r : List ℕ) → free_of b s ≡ true → Spelled t x → x ++ a ≡ b ∷ r → ⊥
not_at_byte {s = s} d b [] a r free p e =
    let tests : (not (nullable s) ≡ true) × (apart (Front.range b b) (first_bytes s) ≡ true) = both _ _ free in
    let no : nullable s ≡ false = not_true (nullable s) tests.0 in
    let yes : nullable s ≡ true = nullable_sound d [] p refl in
    cc
not_at_byte {s = s} d b (c ∷ x) a r free p e =
    let head : c ≡ b = cc in
    let same : c ∷ x ≡ b ∷ x = cc in
    not_first d b (c ∷ x) x free p same

-- which row, one further on
abbrev next_row : Tree → Tree
next_row (Tree.row k t) = Tree.row (suc k) t
next_row t = t

-- an item takes a byte, so items are not none
item_fills : {r : Shape} {t : Tree} (u : Tree) → Is r t → {x y : List ℕ} → x ≡ [] → (p : (v w : List ℕ) × (y ≡ v ++ w) × Spelled t v × Spelled u w) →
    (closed r && not (nullable r) && sound r) ≡ true → x ≡ y → ⊥
item_fills {r = r} u d none p k same =
    let test : ((closed r && not (nullable r)) ≡ true) × (sound r ≡ true) = both _ _ k in
    let no : nullable r ≡ false = not_true _ (both _ _ test.0).1 in
    let empty : (p.0 ≡ []) × (p.1 ≡ []) = no_bytes p.0 p.1 (sym p.2 ∙ sym same ∙ none) in
    let yes : nullable r ≡ true = nullable_sound d p.0 p.3 empty.0 in
    cc

-- no items, by no bytes
none_counted : {a : Shape} {t u : Tree} {y z : List ℕ} → Is (Shape.many a) t → Is (Shape.many a) u → count t ≡ 0 → count u ≡ 0 →
    Spelled t y → Spelled u z → (y ≡ []) × (z ≡ []) × (t ≡ u)
none_counted Is.nil Is.nil k l p q = (p, q, refl)
none_counted (Is.cons {u = u} d d') f k l p q = let some : suc (count u) ≡ 0 = k in absurd (omega arith)
none_counted Is.nil (Is.cons {u = u} f f') k l p q = let some : suc (count u) ≡ 0 = l in absurd (omega arith)

-- ---- tests

and_three : (p q r : Bool) → p ≡ true → q ≡ true → r ≡ true → (p && q && r) ≡ true
and_three true true r e f g = g
and_three true false r e f g = absurd cc
and_three false q r e f g = absurd cc

and_two : (p q : Bool) → p ≡ true → q ≡ true → (p && q) ≡ true
and_two true q e f = f
and_two false q e f = absurd cc

-- ---- bytes that begin with one of some texts

empty_begins : (fs : List (List ℕ)) (x : List ℕ) → has_empty fs ≡ true → begins_with_one fs x ≡ true
empty_begins [] x h = absurd cc
empty_begins ([] ∷ fs) x h = refl
empty_begins ((c ∷ f) ∷ fs) x h = or_right (begins_with (c ∷ f) x) (begins_with_one fs x) (empty_begins fs x h)

behind_begins : (b : ℕ) (fs : List (List ℕ)) (x : List ℕ) → begins_with_one (behind_byte b fs) x ≡ true → begins_with_one fs (b ∷ x) ≡ true
behind_begins b [] x h = absurd cc
behind_begins b ([] ∷ fs) x h = refl
behind_begins b ((c ∷ f) ∷ fs) x h = go (nat_eq c b) refl h (behind_begins b fs x)
  where
    go : (same : Bool) → nat_eq c b ≡ same → begins_with_one (if same then f ∷ behind_byte b fs else behind_byte b fs) x ≡ true →
        (begins_with_one (behind_byte b fs) x ≡ true → begins_with_one fs (b ∷ x) ≡ true) → ((nat_eq c b && begins_with f x) || begins_with_one fs (b ∷ x)) ≡ true
    go true e h others = elim (either (begins_with f x) (begins_with_one (behind_byte b fs) x) h) [
      | inl here ↦ or_left (nat_eq c b && begins_with f x) (begins_with_one fs (b ∷ x)) (and_two (nat_eq c b) (begins_with f x) e here)
      | inr there ↦ or_right (nat_eq c b && begins_with f x) (begins_with_one fs (b ∷ x)) (others there)
    ]
    go false e h others = or_right (nat_eq c b && begins_with f x) (begins_with_one fs (b ∷ x)) (others h)

led_begins : {s : Shape} {t : Tree} → Is s t → (fs : List (List ℕ)) (x : List ℕ) → led_by fs s ≡ true → Spelled t x → begins_with_one fs x ≡ true
led_begins (Is.seq {a = Shape.fixed c} {b = s} Is.fixed d) fs x h p =
    elim (either (has_empty fs) (led_by (behind_byte c fs) s) h) [
      | inl here ↦ empty_begins fs x here
      | inr there ↦
          let out : x ≡ c ∷ p.1 = p.2 ∙ ap (λ (z : List ℕ). z ++ p.1) p.3 in
          ap (begins_with_one fs) out ∙ behind_begins c fs p.1 (led_begins d (behind_byte c fs) p.1 there p.4)
    ]
led_begins (Is.first {a = a} {b = b} d) fs x h p = led_begins d fs x (both (led_by fs a) (led_by fs b) h).0 p
led_begins (Is.later {a = a} {b = b} d) fs x h p = led_begins d fs x (both (led_by fs a) (led_by fs b) h).1 p
led_begins _ fs x h p = empty_begins fs x h

led_apart : {s : Shape} {t : Tree} → Is s t → (fs : List (List ℕ)) (x bs : List ℕ) → led_by fs s ≡ true → Spelled t x → begins_with_one fs bs ≡ false → x ≡ bs → ⊥
led_apart d fs x bs h p o e =
    let yes : begins_with_one fs bs ≡ true = ap (begins_with_one fs) (sym e) ∙ led_begins d fs x h p in
    false≢true (sym o ∙ yes)

-- ---- operators

code_unique : (c d : Code) (x y a b : List ℕ) → is_code c ≡ true → is_code d ≡ true → SpelledCode c x → SpelledCode d y → x ++ a ≡ y ++ b → (x ≡ y) × (c ≡ d)
code_unique (plain c) (plain d) x y a b k l p q e =
    let out : c ∷ a ≡ d ∷ b = spelled_out x y (c ∷ []) (d ∷ []) a b p q e in
    let same : c ≡ d = cc in
    (cc, ap plain same)
code_unique (plain c) (prefixed d n) x y a b k l p q e =
    let out : c ∷ a ≡ d ∷ (q.0 ++ b) = spelled_out x y (c ∷ []) (d ∷ q.0) a b p q.1 e in
    let same : c ≡ d = cc in
    let no : is_prefix c ≡ false = not_true (is_prefix c) k in
    let yes : is_prefix d ≡ true = l in
    let moved : is_prefix c ≡ is_prefix d = ap is_prefix same in
    absurd cc
code_unique (prefixed c n) (plain d) x y a b k l p q e =
    let out : c ∷ (p.0 ++ a) ≡ d ∷ b = spelled_out x y (c ∷ p.0) (d ∷ []) a b p.1 q e in
    let same : c ≡ d = cc in
    let no : is_prefix d ≡ false = not_true (is_prefix d) l in
    let yes : is_prefix c ≡ true = k in
    let moved : is_prefix c ≡ is_prefix d = ap is_prefix same in
    absurd cc
code_unique (prefixed c n) (prefixed d m) x y a b k l p q e =
    let out : c ∷ (p.0 ++ a) ≡ d ∷ (q.0 ++ b) = spelled_out x y (c ∷ p.0) (d ∷ q.0) a b p.1 q.1 e in
    let same : c ≡ d = cc in
    let rest : p.0 ++ a ≡ q.0 ++ b = cc in
    let number = unsigned_unique a b p.2 q.2 rest in
    (p.1 ∙ ap₂ (λ (h : ℕ) (z : List ℕ). h ∷ z) same number.0 ∙ sym q.1, ap₂ prefixed same number.1)

-- each kind of immediate
kind_sound : (k : ImmKind) → (sound (shape_of_kind k) ≡ true) × (closed (shape_of_kind k) ≡ true)
kind_sound kind.Block = (refl, refl)
kind_sound _ = (refl, refl)

kinds_sound : (ks : List ImmKind) → (sound (shape_of_kinds ks) ≡ true) × (closed (shape_of_kinds ks) ≡ true)
kinds_sound [] = (refl, refl)
kinds_sound (k ∷ ks) =
    let one = kind_sound k in
    let others = kinds_sound ks in
    (and_three _ _ _ one.1 one.0 others.0, and_two _ _ one.1 others.1)

row_sound : (o : Option (List ImmKind)) → (sound (shape_of_row o) ≡ true) × (closed (shape_of_row o) ≡ true)
row_sound (Some ks) = kinds_sound ks
row_sound None = (refl, refl)

pub immediates_sound : (ends : Bool) (c : Code) → (sound (immediates ends c) ≡ true) × (closed (immediates ends c) ≡ true)
immediates_sound ends c = row_sound (kinds_among ends c)

-- ---- what an active segment begins with

place_unique : (i j : ℕ) (x y a b : List ℕ) → SpelledPlace i x → SpelledPlace j y → x ++ a ≡ y ++ b → (x ≡ y) × (i ≡ j)
place_unique i j x y a b (inl p) (inl q) e =
    let same = unsigned_unique a b p.1 q.1 e in
    (same.0, p.0 ∙ sym q.0)
place_unique i j x y a b (inl p) (inr q) e =
    let out : x ++ a ≡ q.0 ++ (q.1 ++ b) = e ∙ ap (λ (z : List ℕ). z ++ b) q.2 ∙ append_assoc q.0 q.1 b in
    let never : ◌≡◌ {A = ℕ} 0 2 = (unsigned_unique a (q.1 ++ b) p.1 q.3 out).1 in
    absurd (omega arith)
place_unique i j x y a b (inr p) (inl q) e =
    let out : p.0 ++ (p.1 ++ a) ≡ y ++ b = sym (append_assoc p.0 p.1 a) ∙ ap (λ (z : List ℕ). z ++ a) (sym p.2) ∙ e in
    let never : ◌≡◌ {A = ℕ} 2 0 = (unsigned_unique (p.1 ++ a) b p.3 q.1 out).1 in
    absurd (omega arith)
place_unique i j x y a b (inr p) (inr q) e =
    let same = two_parts {t = zero} {t' = zero} {u = i} {u' = j} x y p.0 p.1 q.0 q.1 a b p.2 q.2
    (λ r. ((unsigned_unique (p.1 ++ a) (q.1 ++ b) p.3 q.3 r).0, refl))
    (λ l r. unsigned_unique a b p.4 q.4 r) e in
    (same.0, same.2)

-- ---- memory accesses

mem_unique : (a i o a' i' o' : ℕ) (x y v w : List ℕ) → Spelled (Tree.mem a i o) x → Spelled (Tree.mem a' i' o') y → x ++ v ≡ y ++ w →
    (x ≡ y) × (Tree.mem a i o ≡ Tree.mem a' i' o')
mem_unique a i o a' i' o' x y v w (l, inl p) (l', inl q) e =
    let same = two_parts {t = a} {t' = a'} {u = o} {u' = o'} x y p.flags p.offset q.flags q.offset v w p.parts q.parts
    (unsigned_unique (p.offset ++ v) (q.offset ++ w) p.flagged q.flagged)
    (λ k r. unsigned_unique v w p.offsets q.offsets r) e in
    let none : i ≡ i' = p.zero ∙ sym q.zero in
    let align : a ≡ a' = same.1 in
    let os : o ≡ o' = same.2 in
    (same.0, cc)
mem_unique a i o a' i' o' x y v w (l, inl p) (l', inr q) e =
    let out : p.flags ++ (p.offset ++ v) ≡ q.flags ++ ((q.memory ++ q.offset) ++ w) =
    sym (append_assoc p.flags p.offset v) ∙ spelled_out x y (p.flags ++ p.offset) (q.flags ++ (q.memory ++ q.offset)) v w p.parts q.parts e
    ∙ append_assoc q.flags (q.memory ++ q.offset) w in
    let never : a ≡ a' + 64 = (unsigned_unique (p.offset ++ v) ((q.memory ++ q.offset) ++ w) p.flagged q.flagged out).1 in
    let small : a < 64 = l in
    absurd (omega arith)
mem_unique a i o a' i' o' x y v w (l, inr p) (l', inl q) e =
    let out : p.flags ++ ((p.memory ++ p.offset) ++ v) ≡ q.flags ++ (q.offset ++ w) =
    sym (append_assoc p.flags (p.memory ++ p.offset) v) ∙ spelled_out x y (p.flags ++ (p.memory ++ p.offset)) (q.flags ++ q.offset) v w p.parts q.parts e
    ∙ append_assoc q.flags q.offset w in
    let never : a + 64 ≡ a' = (unsigned_unique ((p.memory ++ p.offset) ++ v) (q.offset ++ w) p.flagged q.flagged out).1 in
    let small : a' < 64 = l' in
    absurd (omega arith)
mem_unique a i o a' i' o' x y v w (l, inr p) (l', inr q) e =
    let same = two_parts {t = a + 64} {t' = a' + 64} {u = Tree.outer space.Memory i o} {u' = Tree.outer space.Memory i' o'} x y
    p.flags (p.memory ++ p.offset) q.flags (q.memory ++ q.offset) v w p.parts q.parts
    (unsigned_unique ((p.memory ++ p.offset) ++ v) ((q.memory ++ q.offset) ++ w) p.flagged q.flagged)
    (λ k r.
    let inner = two_parts {t = i} {t' = i'} {u = o} {u' = o'} (p.memory ++ p.offset) (q.memory ++ q.offset) p.memory p.offset q.memory q.offset v w refl refl
    (unsigned_unique (p.offset ++ v) (q.offset ++ w) p.index q.index)
    (λ k' r'. unsigned_unique v w p.offsets q.offsets r') r in
    (inner.0, ap₂ (λ (m n : ℕ). Tree.outer space.Memory m n) inner.1 inner.2)) e in
    let flags : a + 64 ≡ a' + 64 = same.1 in
    let align : a ≡ a' = omega arith in
    let rest : Tree.outer space.Memory i o ≡ Tree.outer space.Memory i' o' = same.2 in
    let is : i ≡ i' = cc in
    let os : o ≡ o' = cc in
    (same.0, cc)

-- ---- names

name_unique : (bs bs' x y a b : List ℕ) → Spelled (Tree.name bs) x → Spelled (Tree.name bs') y → x ++ a ≡ y ++ b → (x ≡ y) × (Tree.name bs ≡ Tree.name bs')
name_unique bs bs' x y a b p q e =
    let same = two_parts {t = length bs} {t' = length bs'} {u = bs} {u' = bs'} x y p.0 bs q.0 bs' a b p.1 q.1
    (unsigned_unique (bs ++ a) (bs' ++ b) p.2 q.2)
    (λ l r. let texts : bs ≡ bs' = same_length bs bs' a b l r in (texts, texts)) e in
    (same.0, ap Tree.name same.2)

-- two texts that begin with names, and are one front of the bytes
names_same : (bs bs' : List ℕ) (t u : Tree) (x y a b : List ℕ) → Spelled (Tree.pair (Tree.name bs) t) x → Spelled (Tree.pair (Tree.name bs') u) y →
    x ++ a ≡ y ++ b → bs ≡ bs'
names_same bs bs' t u x y a b p q e =
    let out : p.0 ++ (p.1 ++ a) ≡ q.0 ++ (q.1 ++ b) =
    sym (append_assoc p.0 p.1 a) ∙ spelled_out x y (p.0 ++ p.1) (q.0 ++ q.1) a b p.2 q.2 e ∙ append_assoc q.0 q.1 b in
    let same : Tree.name bs ≡ Tree.name bs' = (name_unique bs bs' p.0 q.0 (p.1 ++ a) (q.1 ++ b) p.3 q.3 out).1 in
    cc

abbrev left_of : Listed → Tree → Tree
left_of w (Tree.pair o t) = Tree.left w o t
left_of w t = t

abbrev placed_of : ℕ → Tree → Tree
placed_of i (Tree.pair o t) = Tree.placed i o t
placed_of i t = t

abbrev aimed_of : Listed → ℕ → Tree → Tree
aimed_of w i (Tree.pair o t) = Tree.aimed w i o t
aimed_of w i t = t

abbrev behind : ℕ → List ℕ → List ℕ
behind b z = b ∷ z

-- the byte before the items, where there is one
kind_behind : (w : Listed) (x y a b : List ℕ) → (kind_bytes w ++ x) ++ a ≡ (kind_bytes w ++ y) ++ b → x ++ a ≡ y ++ b
kind_behind Listed.functions x y a b e = cc
kind_behind Listed.expressions x y a b e = e

kind_before : (w : Listed) (x y : List ℕ) → x ≡ y → kind_bytes w ++ x ≡ kind_bytes w ++ y
kind_before w x y e = ap (λ (z : List ℕ). kind_bytes w ++ z) e

flags_differ : (w : Listed) → left_flag w ≡ aimed_flag w → ⊥
flags_differ Listed.functions e = let never : ◌≡◌ {A = ℕ} 0 2 = e in omega arith
flags_differ Listed.expressions e = let never : ◌≡◌ {A = ℕ} 4 6 = e in omega arith

-- what an active element segment lists is closed and sound where its parts are
listing_sound : (w : Listed) (r b : Shape) → sound r ≡ true → closed r ≡ true → sound b ≡ true → closed b ≡ true →
    (sound (listing w r b) ≡ true) × (closed (listing w r b) ≡ true)
listing_sound Listed.functions r b sr cr sb cb = (sb, cb)
listing_sound Listed.expressions r b sr cr sb cb = (and_three _ _ _ cr sr sb, and_two _ _ cr cb)

pub record ActiveTests (a r b : Shape) : Type 0 where
  pub ca : closed a ≡ true
  pub sa : sound a ≡ true
  pub cb : closed b ≡ true
  pub sb : sound b ≡ true
  pub cr : closed r ≡ true
  pub sr : sound r ≡ true

active_tests : (a r b : Shape) → (closed a && sound a && closed b && sound b && closed r && sound r) ≡ true → ActiveTests a r b
active_tests a r b k =
    let five : ((closed a && sound a && closed b && sound b && closed r) ≡ true) × (sound r ≡ true) = both _ _ k in
    let four : ((closed a && sound a && closed b && sound b) ≡ true) × (closed r ≡ true) = both _ _ five.0 in
    let three : ((closed a && sound a && closed b) ≡ true) × (sound b ≡ true) = both _ _ four.0 in
    let two : ((closed a && sound a) ≡ true) × (closed b ≡ true) = both _ _ three.0 in
    let one : (closed a ≡ true) × (sound a ≡ true) = both _ _ two.0 in
    record { ca = one.0; sa = one.1; cb = two.1; sb = three.1; cr = four.1; sr = five.1 }

mutual
  pub unique : {s : Shape} {t u : Tree} → Is s t → Is s u → (x y a b : List ℕ) → sound s ≡ true → Ends s a b →
      Spelled t x → Spelled u y → x ++ a ≡ y ++ b → (x ≡ y) × (t ≡ u)
  unique Is.empty Is.empty x y a b k h p q e = (p ∙ sym q, refl)
  unique Is.fixed Is.fixed x y a b k h p q e = (p ∙ sym q, refl)
  unique (Is.byte {b = c}) (Is.byte {b = d}) x y a b k h p q e =
      let xs : x ≡ c ∷ [] = p.0 in
      let ys : y ≡ d ∷ [] = q.0 in
      let out : c ∷ a ≡ d ∷ b = spelled_out x y (c ∷ []) (d ∷ []) a b xs ys e in
      let heads : c ≡ d = cc in
      (cc, ap Tree.byte heads)
  unique (Is.bytes {n = n} {bs = bs} l) (Is.bytes {bs = bs'} l') x y a b k h p q e =
      let same : x ≡ y = same_length x y a b (ap length p ∙ l ∙ sym l' ∙ sym (ap length q)) e in
      (same, ap Tree.raw (sym p ∙ same ∙ q))
  unique Is.rest Is.rest x y a b k (inl h) p q e = absurd cc
  unique Is.rest Is.rest x y a b k (inr h) p q e =
      let same : x ≡ y = no_ends x y a b e h in
      (same, ap Tree.raw (sym p ∙ same ∙ q))
  unique Is.u32 Is.u32 x y a b k h p q e =
      let same = unsigned_unique a b p q e in
      (same.0, ap Tree.u32 same.1)
  unique Is.u64 Is.u64 x y a b k h p q e =
      let same = unsigned_unique a b p q e in
      (same.0, ap Tree.u64 same.1)
  unique (Is.s32 {z = z}) (Is.s32 {z = w}) x y a b k h p q e =
      let same = signed_unique 32 z w x y a b p q e in
      (same.0, ap Tree.s32 same.1)
  unique (Is.s64 {z = z}) (Is.s64 {z = w}) x y a b k h p q e =
      let same = signed_unique 64 z w x y a b p q e in
      (same.0, ap Tree.s64 same.1)
  unique (Is.ix {s = s}) Is.ix x y a b k h p q e =
      let same = unsigned_unique a b p q e in
      (same.0, ap (λ (i : ℕ). Tree.ix s i) same.1)
  unique (Is.sx {s = s}) Is.sx x y a b k h p q e =
      let same = signed_index_unique a b p q e in
      (same.0, ap (λ (i : ℕ). Tree.sx s i) same.1)
  unique (Is.outer {s = s} {c = c} {i = i}) (Is.outer {c = c'} {i = i'}) x y a b k h p q e =
      let same = two_parts {t = c} {t' = c'} {u = i} {u' = i'} x y p.0 p.1 q.0 q.1 a b p.2 q.2
      (unsigned_unique (p.1 ++ a) (q.1 ++ b) p.3 q.3)
      (λ l r'. unsigned_unique a b p.4 q.4 r') e in
      (same.0, ap₂ (λ (m n : ℕ). Tree.outer s m n) same.1 same.2)
  unique (Is.name {bs = bs}) (Is.name {bs = bs'}) x y a b k h p q e = name_unique bs bs' x y a b p q e
  unique (Is.content {bs = bs}) (Is.content {bs = bs'}) x y a b k h p q e =
      let same = two_parts {t = length bs} {t' = length bs'} {u = bs} {u' = bs'} x y p.0 bs q.0 bs' a b p.1 q.1
      (unsigned_unique (bs ++ a) (bs' ++ b) p.2 q.2)
      (λ l r. let texts : bs ≡ bs' = same_length bs bs' a b l r in (texts, texts)) e in
      (same.0, ap Tree.content same.2)
  unique (Is.alike {b = v} {c = w}) Is.alike x y a b k h (inl p) (inl q) e = (p ∙ sym q, refl)
  unique (Is.alike {b = v} {c = w}) Is.alike x y a b k h (inr p) (inr q) e = (p ∙ sym q, refl)
  unique (Is.alike {b = v} {c = w}) Is.alike x y a b k h (inl p) (inr q) e =
      let out : v ∷ a ≡ w ∷ b = spelled_out x y (v ∷ []) (w ∷ []) a b p q e in
      let same : v ≡ w = cc in
      (p ∙ ap (λ (z : ℕ). z ∷ []) same ∙ sym q, refl)
  unique (Is.alike {b = v} {c = w}) Is.alike x y a b k h (inr p) (inl q) e =
      let out : w ∷ a ≡ v ∷ b = spelled_out x y (w ∷ []) (v ∷ []) a b p q e in
      let same : w ≡ v = cc in
      (p ∙ ap (λ (z : ℕ). z ∷ []) same ∙ sym q, refl)
  unique (Is.mem {a = m} {i = i} {o = o}) (Is.mem {a = m'} {i = i'} {o = o'}) x y a b k h p q e = mem_unique m i o m' i' o' x y a b p q e
  unique Is.flag Is.flag x y a b k h p q e = ((unsigned_unique a b p q e).0, refl)
  unique (Is.within {b = c} l m) (Is.within {b = d} l' m') x y a b k h p q e =
      let xs : x ≡ c ∷ [] = p.0 in
      let ys : y ≡ d ∷ [] = q.0 in
      let out : c ∷ a ≡ d ∷ b = spelled_out x y (c ∷ []) (d ∷ []) a b xs ys e in
      let heads : c ≡ d = cc in
      (cc, ap Tree.byte heads)
  unique (Is.seq {a = r} {b = s} {t = t} {u = u} d d') (Is.seq {t = t'} {u = u'} f f') x y a b k h p q e =
      let test : ((closed r && sound r) ≡ true) × (sound s ≡ true) = both _ _ k in
      let front : (closed r ≡ true) × (sound r ≡ true) = both _ _ test.0 in
      let same = two_parts {t = t} {t' = t'} {u = u} {u' = u'} x y p.0 p.1 q.0 q.1 a b p.2 q.2
      (unique d f p.0 q.0 (p.1 ++ a) (q.1 ++ b) front.1 (inl front.0) p.3 q.3)
      (λ l r'. unique d' f' p.1 q.1 a b test.1 (ends_second r s a b h) p.4 q.4 r') e in
      (same.0, ap₂ Tree.pair same.1 same.2)
  unique (Is.swap {a = r} {b = s} {t = t} {u = u} d d') (Is.swap {t = t'} {u = u'} f f') x y a b k h p q e =
      let test : ((closed r && sound r) ≡ true) × (sound s ≡ true) = both _ _ k in
      let front : (closed r ≡ true) × (sound r ≡ true) = both _ _ test.0 in
      let same = two_parts {t = t} {t' = t'} {u = u} {u' = u'} x y p.0 p.1 q.0 q.1 a b p.2 q.2
      (unique d f p.0 q.0 (p.1 ++ a) (q.1 ++ b) front.1 (inl front.0) p.3 q.3)
      (λ l r'. unique d' f' p.1 q.1 a b test.1 (ends_second r s a b h) p.4 q.4 r') e in
      (same.0, ap₂ Tree.swap same.1 same.2)
  unique Is.nil Is.nil x y a b k h p q e = (p ∙ sym q, refl)
  unique Is.nil (Is.cons f f') x y a b k (inl h) p q e = absurd cc
  unique Is.nil (Is.cons {u = u} f f') x y a b k (inr h) p q e = absurd (item_fills u f p q k (no_ends x y a b e h))
  unique (Is.cons d d') Is.nil x y a b k (inl h) p q e = absurd cc
  unique (Is.cons {u = u} d d') Is.nil x y a b k (inr h) p q e = absurd (item_fills u d q p k (sym (no_ends x y a b e h)))
  unique (Is.cons d d') (Is.cons f f') x y a b k (inl h) p q e = absurd cc
  unique (Is.cons {a = r} {t = t} {u = u} d d') (Is.cons {t = t'} {u = u'} f f') x y a b k (inr h) p q e =
      let test : ((closed r && not (nullable r)) ≡ true) × (sound r ≡ true) = both _ _ k in
      let front : (closed r ≡ true) × (not (nullable r) ≡ true) = both _ _ test.0 in
      let same = two_parts {t = t} {t' = t'} {u = u} {u' = u'} x y p.0 p.1 q.0 q.1 a b p.2 q.2
      (unique d f p.0 q.0 (p.1 ++ a) (q.1 ++ b) test.1 (inl front.0) p.3 q.3)
      (λ l r'. unique d' f' p.1 q.1 a b k (inr h) p.4 q.4 r') e in
      (same.0, ap₂ Tree.cons same.1 same.2)
  unique (Is.vec {a = r} {t = t} d) (Is.vec {t = t'} f) x y a b k h p q e =
      let test : (closed r ≡ true) × (sound r ≡ true) = both _ _ k in
      let same = two_parts {t = count t} {t' = count t'} {u = t} {u' = t'} x y p.0 p.1 q.0 q.1 a b p.2 q.2
      (unsigned_unique (p.1 ++ a) (q.1 ++ b) p.3 q.3)
      (λ n r'. items_unique d f p.1 q.1 a b test.1 test.0 n p.4 q.4 r') e in
      (same.0, ap Tree.vec same.2)
  unique Is.absent Is.absent x y a b k h p q e = (p ∙ sym q, refl)
  unique Is.absent (Is.present f) x y a b k h p q e =
      let out : 0 ∷ a ≡ 1 ∷ (q.0 ++ b) = spelled_out x y (0 ∷ []) (1 ∷ q.0) a b p q.1 e in
      absurd cc
  unique (Is.present d) Is.absent x y a b k h p q e =
      let out : 1 ∷ (p.0 ++ a) ≡ 0 ∷ b = spelled_out x y (1 ∷ p.0) (0 ∷ []) a b p.1 q e in
      absurd cc
  unique (Is.present {a = r} {t = t} d) (Is.present {t = t'} f) x y a b k h p q e =
      let out : 1 ∷ (p.0 ++ a) ≡ 1 ∷ (q.0 ++ b) = spelled_out x y (1 ∷ p.0) (1 ∷ q.0) a b p.1 q.1 e in
      let rest : p.0 ++ a ≡ q.0 ++ b = cc in
      let same : (p.0 ≡ q.0) × (t ≡ t') = unique d f p.0 q.0 a b k h p.2 q.2 rest in
      (p.1 ∙ ap (λ (z : List ℕ). 1 ∷ z) same.0 ∙ sym q.1, ap Tree.present same.1)
  unique (Is.sized {a = r} {t = t} d) (Is.sized {t = t'} f) x y a b k h p q e =
      let same = two_parts {t = length p.1} {t' = length q.1} {u = t} {u' = t'} x y p.0 p.1 q.0 q.1 a b p.2 q.2
      (unsigned_unique (p.1 ++ a) (q.1 ++ b) p.3 q.3)
      (λ l r'.
      let bodies : p.1 ≡ q.1 = same_length p.1 q.1 a b l r' in
      (bodies, (unique d f p.1 q.1 [] [] k (inr (refl, refl)) p.4 q.4 (ap (λ (z : List ℕ). z ++ []) bodies)).1)) e in
      (same.0, ap Tree.sized same.2)
  unique (Is.first {a = r} {b = s} {t = t} d) (Is.first {t = t'} f) x y a b k h p q e =
      let test : ((rows_apart r s && sound r) ≡ true) × (sound s ≡ true) = both _ _ k in
      let same : (x ≡ y) × (t ≡ t') = unique d f x y a b (both _ _ test.0).1 (ends_first r s a b h) p q e in
      (same.0, ap (λ (v : Tree). Tree.row zero v) same.1)
  unique (Is.first {a = r} {b = s} d) (Is.later f) x y a b k h p q e =
      let test : ((rows_apart r s && sound r) ≡ true) × (sound s ≡ true) = both _ _ k in
      absurd (different_rows d f x y a b (both _ _ test.0).0 p q e)
  unique (Is.later {a = r} {b = s} d) (Is.first f) x y a b k h p q e =
      let test : ((rows_apart r s && sound r) ≡ true) × (sound s ≡ true) = both _ _ k in
      absurd (different_rows f d y x b a (both _ _ test.0).0 q p (sym e))
  unique (Is.later {a = r} {b = s} {k = i} {t = t} d) (Is.later {k = j} {t = t'} f) x y a b k h p q e =
      let test : ((rows_apart r s && sound r) ≡ true) × (sound s ≡ true) = both _ _ k in
      let same : (x ≡ y) × (Tree.row i t ≡ Tree.row j t') = unique d f x y a b test.1 (ends_second r s a b h) p q e in
      (same.0, ap next_row same.1)
  unique (Is.ref {n = n} d) (Is.ref f) x y a b k h p q e = unique d f x y a b (named_sound n) (inl (named_closed n)) p q e
  unique (Is.scope {t = t} d) (Is.scope {t = t'} f) x y a b k h p q e =
      let same : (x ≡ y) × (t ≡ t') = unique d f x y a b k h p q e in
      (same.0, ap Tree.scope same.1)
  unique (Is.spare {b = v} {a = r} {c = s} {t = t} d) (Is.spare {t = t'} f) x y a b k h (inl p) (inl q) e =
      let test : ((free_of v r && rows_apart r s && sound r) ≡ true) × (sound s ≡ true) = both _ _ k in
      let same : (x ≡ y) × (t ≡ t') = unique d f x y a b (both _ _ test.0).1 (ends_first r s a b h) p q e in
      (same.0, ap (λ (w : Tree). Tree.spare v w) same.1)
  unique (Is.spare {b = v} {a = r} {c = s} {t = t} d) (Is.spare {t = t'} f) x y a b k h (inr p) (inr q) e =
      let test : ((free_of v r && rows_apart r s && sound r) ≡ true) × (sound s ≡ true) = both _ _ k in
      let out : v ∷ (p.0 ++ a) ≡ v ∷ (q.0 ++ b) = spelled_out x y (v ∷ p.0) (v ∷ q.0) a b p.1 q.1 e in
      let rest : p.0 ++ a ≡ q.0 ++ b = cc in
      let same : (p.0 ≡ q.0) × (t ≡ t') = unique d f p.0 q.0 a b (both _ _ test.0).1 (ends_first r s a b h) p.2 q.2 rest in
      (p.1 ∙ ap (behind v) same.0 ∙ sym q.1, ap (λ (w : Tree). Tree.spare v w) same.1)
  unique (Is.spare {b = v} {a = r} {c = s} d) (Is.spare f) x y a b k h (inl p) (inr q) e =
      let test : ((free_of v r && rows_apart r s && sound r) ≡ true) × (sound s ≡ true) = both _ _ k in
      absurd (not_at_byte d v x a (q.0 ++ b) (both _ _ (both _ _ test.0).0).0 p (e ∙ ap (λ (z : List ℕ). z ++ b) q.1))
  unique (Is.spare {b = v} {a = r} {c = s} d) (Is.spare f) x y a b k h (inr p) (inl q) e =
      let test : ((free_of v r && rows_apart r s && sound r) ≡ true) × (sound s ≡ true) = both _ _ k in
      absurd (not_at_byte f v y b (p.0 ++ a) (both _ _ (both _ _ test.0).0).0 q (sym e ∙ ap (λ (z : List ℕ). z ++ a) p.1))
  unique (Is.spare {b = v} {a = r} {c = s} d) (Is.kept f) x y a b k h (inl p) q e =
      let test : ((free_of v r && rows_apart r s && sound r) ≡ true) × (sound s ≡ true) = both _ _ k in
      absurd (not_at_byte d v x a (q.0 ++ b) (both _ _ (both _ _ test.0).0).0 p (e ∙ ap (λ (z : List ℕ). z ++ b) q.1))
  unique (Is.spare {b = v} {a = r} {c = s} d) (Is.kept f) x y a b k h (inr p) q e =
      let test : ((free_of v r && rows_apart r s && sound r) ≡ true) × (sound s ≡ true) = both _ _ k in
      let out : v ∷ (p.0 ++ a) ≡ v ∷ (q.0 ++ b) = spelled_out x y (v ∷ p.0) (v ∷ q.0) a b p.1 q.1 e in
      let rest : p.0 ++ a ≡ q.0 ++ b = cc in
      absurd (different_rows d f p.0 q.0 a b (both _ _ (both _ _ test.0).0).1 p.2 q.2 rest)
  unique (Is.kept {b = v} {a = r} {c = s} d) (Is.spare f) x y a b k h p (inl q) e =
      let test : ((free_of v r && rows_apart r s && sound r) ≡ true) × (sound s ≡ true) = both _ _ k in
      absurd (not_at_byte f v y b (p.0 ++ a) (both _ _ (both _ _ test.0).0).0 q (sym e ∙ ap (λ (z : List ℕ). z ++ a) p.1))
  unique (Is.kept {b = v} {a = r} {c = s} d) (Is.spare f) x y a b k h p (inr q) e =
      let test : ((free_of v r && rows_apart r s && sound r) ≡ true) × (sound s ≡ true) = both _ _ k in
      let out : v ∷ (p.0 ++ a) ≡ v ∷ (q.0 ++ b) = spelled_out x y (v ∷ p.0) (v ∷ q.0) a b p.1 q.1 e in
      let rest : q.0 ++ b ≡ p.0 ++ a = cc in
      absurd (different_rows f d q.0 p.0 b a (both _ _ (both _ _ test.0).0).1 q.2 p.2 rest)
  unique (Is.kept {b = v} {a = r} {c = s} {t = t} d) (Is.kept {t = t'} f) x y a b k h p q e =
      let test : ((free_of v r && rows_apart r s && sound r) ≡ true) × (sound s ≡ true) = both _ _ k in
      let out : v ∷ (p.0 ++ a) ≡ v ∷ (q.0 ++ b) = spelled_out x y (v ∷ p.0) (v ∷ q.0) a b p.1 q.1 e in
      let rest : p.0 ++ a ≡ q.0 ++ b = cc in
      let same : (p.0 ≡ q.0) × (t ≡ t') = unique d f p.0 q.0 a b test.1 (ends_second r s a b h) p.2 q.2 rest in
      (p.1 ∙ ap (behind v) same.0 ∙ sym q.1, ap (λ (w : Tree). Tree.kept v w) same.1)
  unique (Is.final {a = r} {b = s} {t = t} {u = u} d d') (Is.final {t = t'} {u = u'} f f') x y a b k h (inl p) (inl q) e =
      let test : ((closed r && sound r && free_of 0x4f s) ≡ true) × (sound s ≡ true) = both _ _ k in
      let none = none_counted d f p.3 q.3 p.4 q.4 in
      let xs : x ≡ p.1 = p.2 ∙ ap (λ (z : List ℕ). z ++ p.1) none.0 in
      let ys : y ≡ q.1 = q.2 ∙ ap (λ (z : List ℕ). z ++ q.1) none.1 in
      let same : (p.1 ≡ q.1) × (u ≡ u') = unique d' f' p.1 q.1 a b test.1 h p.5 q.5 (spelled_out x y p.1 q.1 a b xs ys e) in
      (xs ∙ same.0 ∙ sym ys, ap₂ Tree.final none.2 same.1)
  unique (Is.final {a = r} {b = s} {t = t} {u = u} d d') (Is.final {t = t'} {u = u'} f f') x y a b k h (inl p) (inr q) e =
      let test : ((closed r && sound r && free_of 0x4f s) ≡ true) × (sound s ≡ true) = both _ _ k in
      let none = none_counted d Is.nil p.3 refl p.4 refl in
      let xs : x ≡ p.1 = p.2 ∙ ap (λ (z : List ℕ). z ++ p.1) none.0 in
      absurd (not_at_byte d' 0x4f p.1 a ((q.0 ++ (q.1 ++ q.2)) ++ b) (both _ _ test.0).1 p.5
      (sym (ap (λ (z : List ℕ). z ++ a) xs) ∙ e ∙ ap (λ (z : List ℕ). z ++ b) q.3))
  unique (Is.final {a = r} {b = s} {t = t} {u = u} d d') (Is.final {t = t'} {u = u'} f f') x y a b k h (inr p) (inl q) e =
      let test : ((closed r && sound r && free_of 0x4f s) ≡ true) × (sound s ≡ true) = both _ _ k in
      let none = none_counted f Is.nil q.3 refl q.4 refl in
      let ys : y ≡ q.1 = q.2 ∙ ap (λ (z : List ℕ). z ++ q.1) none.0 in
      absurd (not_at_byte f' 0x4f q.1 b ((p.0 ++ (p.1 ++ p.2)) ++ a) (both _ _ test.0).1 q.5
      (sym (ap (λ (z : List ℕ). z ++ b) ys) ∙ sym e ∙ ap (λ (z : List ℕ). z ++ a) p.3))
  unique (Is.final {a = r} {b = s} {t = t} {u = u} d d') (Is.final {t = t'} {u = u'} f f') x y a b k h (inr p) (inr q) e =
      let test : ((closed r && sound r && free_of 0x4f s) ≡ true) × (sound s ≡ true) = both _ _ k in
      let front : (closed r ≡ true) × (sound r ≡ true) = both _ _ (both _ _ test.0).0 in
      let out : 0x4f ∷ ((p.0 ++ (p.1 ++ p.2)) ++ a) ≡ 0x4f ∷ ((q.0 ++ (q.1 ++ q.2)) ++ b) =
      spelled_out x y (0x4f ∷ (p.0 ++ (p.1 ++ p.2))) (0x4f ∷ (q.0 ++ (q.1 ++ q.2))) a b p.3 q.3 e in
      let rest : (p.0 ++ (p.1 ++ p.2)) ++ a ≡ (q.0 ++ (q.1 ++ q.2)) ++ b = cc in
      let same = two_parts {t = count t} {t' = count t'} {u = Tree.final t u} {u' = Tree.final t' u'} (p.0 ++ (p.1 ++ p.2)) (q.0 ++ (q.1 ++ q.2)) p.0 (p.1 ++ p.2) q.0 (q.1 ++ q.2) a b refl refl
      (unsigned_unique ((p.1 ++ p.2) ++ a) ((q.1 ++ q.2) ++ b) p.4 q.4)
      (λ n r'.
      let inner = two_parts {t = t} {t' = t'} {u = u} {u' = u'} (p.1 ++ p.2) (q.1 ++ q.2) p.1 p.2 q.1 q.2 a b refl refl
      (items_unique d f p.1 q.1 (p.2 ++ a) (q.2 ++ b) front.1 front.0 n p.5 q.5)
      (λ l r''. unique d' f' p.2 q.2 a b test.1 h p.6 q.6 r'') r' in
      (inner.0, ap₂ Tree.final inner.1 inner.2)) rest in
      (p.3 ∙ ap (behind 0x4f) same.0 ∙ sym q.3, same.2)
  unique (Is.until {b = v} {a = r} {t = t} d) (Is.until {t = t'} f) x y a b k h p q e =
      let test : ((closed r && free_of v r) ≡ true) × (sound r ≡ true) = both _ _ k in
      let out : p.0 ++ (v ∷ a) ≡ q.0 ++ (v ∷ b) =
      sym (append_assoc p.0 (v ∷ []) a) ∙ spelled_out x y (p.0 ++ (v ∷ [])) (q.0 ++ (v ∷ [])) a b p.1 q.1 e ∙ append_assoc q.0 (v ∷ []) b in
      let same : (p.0 ≡ q.0) × (t ≡ t') = until_unique v d f p.0 q.0 a b test.1 (both _ _ test.0).0 (both _ _ test.0).1 p.2 q.2 out in
      (p.1 ∙ ap (λ (z : List ℕ). z ++ (v ∷ [])) same.0 ∙ sym q.1, ap (λ (w : Tree). Tree.until v w) same.1)
  unique (Is.op {ends = ends} {c = c} {t = t} l d) (Is.op {c = c'} {t = t'} l' f) x y a b k h p q e =
      let good = immediates_sound ends c in
      let P : Code → Type 0 = λ w. Is (immediates ends w) t' in
      let same = two_parts {t = c} {t' = c'} {u = t} {u' = t'} x y p.0 p.1 q.0 q.1 a b p.2 q.2
      (code_unique c c' p.0 q.0 (p.1 ++ a) (q.1 ++ b) l l' p.3 q.3)
      (λ w r'. unique d (subst P (sym w) f) p.1 q.1 a b good.0 (inl good.1) p.4 q.4 r') e in
      (same.0, ap₂ Tree.op same.1 same.2)
  unique (Is.left {w = w} {a = r} {r = r'} {b = s} {o = o} {t = t} d f g) (Is.left {o = o'} {t = t'} d' f' g') x y a b k h p q e =
      let test = active_tests r r' s k in
      let same = two_parts {t = zero} {t' = zero} {u = Tree.pair o t} {u' = Tree.pair o' t'} x y p.0 (p.1 ++ p.2) q.0 (q.1 ++ q.2) a b p.3 q.3
      (λ l. ((unsigned_unique ((p.1 ++ p.2) ++ a) ((q.1 ++ q.2) ++ b) p.4 q.4 l).0, refl))
      (λ l m.
      let inner = two_parts {t = o} {t' = o'} {u = t} {u' = t'} (p.1 ++ p.2) (q.1 ++ q.2) p.1 p.2 q.1 q.2 a b refl refl
      (unique d d' p.1 q.1 (p.2 ++ a) (q.2 ++ b) test.sa (inl test.ca) p.5 q.5)
      (λ l' m'. unique f f' p.2 q.2 a b test.sb (inl test.cb) p.6 q.6 m') m in
      (inner.0, ap₂ Tree.pair inner.1 inner.2)) e in
      (same.0, ap (left_of w) same.2)
  unique (Is.left {w = w} d f g) (Is.aimed d' f') x y a b k h p q e =
      let out = spelled_out x y (p.0 ++ (p.1 ++ p.2)) (q.0 ++ (q.1 ++ (q.2 ++ (kind_bytes w ++ q.3)))) a b p.3 q.4 e in
      let parts = sym (append_assoc p.0 (p.1 ++ p.2) a) ∙ out ∙ append_assoc q.0 (q.1 ++ (q.2 ++ (kind_bytes w ++ q.3))) b in
      absurd (flags_differ w (unsigned_unique ((p.1 ++ p.2) ++ a) ((q.1 ++ (q.2 ++ (kind_bytes w ++ q.3))) ++ b) p.4 q.5 parts).1)
  unique (Is.aimed {w = w} d f) (Is.left d' f' g') x y a b k h p q e =
      let out = spelled_out x y (p.0 ++ (p.1 ++ (p.2 ++ (kind_bytes w ++ p.3)))) (q.0 ++ (q.1 ++ q.2)) a b p.4 q.3 e in
      let parts = sym (append_assoc p.0 (p.1 ++ (p.2 ++ (kind_bytes w ++ p.3))) a) ∙ out ∙ append_assoc q.0 (q.1 ++ q.2) b in
      absurd (flags_differ w (sym (unsigned_unique ((p.1 ++ (p.2 ++ (kind_bytes w ++ p.3))) ++ a) ((q.1 ++ q.2) ++ b) p.5 q.4 parts).1))
  unique (Is.aimed {w = w} {a = r} {r = r'} {b = s} {i = i} {o = o} {t = t} d f) (Is.aimed {i = j} {o = o'} {t = t'} d' f') x y a b k h p q e =
      let test = active_tests r r' s k in
      let listed = listing_sound w r' s test.sr test.cr test.sb test.cb in
      let same = two_parts {t = zero} {t' = zero} {u = Tree.aimed w i o t} {u' = Tree.aimed w j o' t'} x y
      p.0 (p.1 ++ (p.2 ++ (kind_bytes w ++ p.3))) q.0 (q.1 ++ (q.2 ++ (kind_bytes w ++ q.3))) a b p.4 q.4
      (λ l. ((unsigned_unique ((p.1 ++ (p.2 ++ (kind_bytes w ++ p.3))) ++ a) ((q.1 ++ (q.2 ++ (kind_bytes w ++ q.3))) ++ b) p.5 q.5 l).0, refl))
      (λ l m.
      let inner = two_parts {t = i} {t' = j} {u = Tree.pair o t} {u' = Tree.pair o' t'} (p.1 ++ (p.2 ++ (kind_bytes w ++ p.3))) (q.1 ++ (q.2 ++ (kind_bytes w ++ q.3)))
      p.1 (p.2 ++ (kind_bytes w ++ p.3)) q.1 (q.2 ++ (kind_bytes w ++ q.3)) a b refl refl
      (unsigned_unique ((p.2 ++ (kind_bytes w ++ p.3)) ++ a) ((q.2 ++ (kind_bytes w ++ q.3)) ++ b) p.6 q.6)
      (λ l' m'.
      let last = two_parts {t = o} {t' = o'} {u = t} {u' = t'} (p.2 ++ (kind_bytes w ++ p.3)) (q.2 ++ (kind_bytes w ++ q.3))
      p.2 (kind_bytes w ++ p.3) q.2 (kind_bytes w ++ q.3) a b refl refl
      (unique d d' p.2 q.2 ((kind_bytes w ++ p.3) ++ a) ((kind_bytes w ++ q.3) ++ b) test.sa (inl test.ca) p.7 q.7)
      (λ l'' m''.
      let items : (p.3 ≡ q.3) × (t ≡ t') = unique f f' p.3 q.3 a b listed.0 (inl listed.1) p.8 q.8 (kind_behind w p.3 q.3 a b m'') in
      (kind_before w p.3 q.3 items.0, items.1)) m' in
      (last.0, ap₂ Tree.pair last.1 last.2)) m in
      (inner.0, ap₂ (aimed_of w) inner.1 inner.2)) e in
      (same.0, same.2)
  unique (Is.placed {a = r} {b = s} {i = i} {o = o} {t = t} d f) (Is.placed {i = j} {o = o'} {t = t'} d' f') x y a b k h p q e =
      let test : ((closed r && sound r) ≡ true) × (sound s ≡ true) = both _ _ k in
      let front : (closed r ≡ true) × (sound r ≡ true) = both _ _ test.0 in
      let same = two_parts {t = i} {t' = j} {u = Tree.pair o t} {u' = Tree.pair o' t'} x y p.0 (p.1 ++ p.2) q.0 (q.1 ++ q.2) a b p.3 q.3
      (place_unique i j p.0 q.0 ((p.1 ++ p.2) ++ a) ((q.1 ++ q.2) ++ b) p.4 q.4)
      (λ l m.
      let inner = two_parts {t = o} {t' = o'} {u = t} {u' = t'} (p.1 ++ p.2) (q.1 ++ q.2) p.1 p.2 q.1 q.2 a b refl refl
      (unique d d' p.1 q.1 (p.2 ++ a) (q.2 ++ b) front.1 (inl front.0) p.5 q.5)
      (λ l' m'. unique f f' p.2 q.2 a b test.1 h p.6 q.6 m') m in
      (inner.0, ap₂ Tree.pair inner.1 inner.2)) e in
      (same.0, ap₂ placed_of same.1 same.2)
  unique (Is.named {n = n} {a = r} {b = s} {t = t} d) (Is.named {t = t'} f) x y a b k h p q e =
      let same = two_parts {t = Tree.name n} {t' = Tree.name n} {u = t} {u' = t'} x y p.0 p.1 q.0 q.1 a b p.2 q.2
      (name_unique n n p.0 q.0 (p.1 ++ a) (q.1 ++ b) p.3 q.3)
      (λ l m. unique d f p.1 q.1 a b (both (sound r) (sound s) k).0 (ends_first r s a b h) p.4 q.4 m) e in
      (same.0, ap₂ Tree.pair same.1 same.2)
  unique (Is.named {n = n} {t = t} d) (Is.other {bs = bs} {t = u} o f) x y a b k h p q e = absurd (o (sym (names_same n bs t u x y a b p q e)))
  unique (Is.other {n = n} {bs = bs} {t = t} o d) (Is.named {t = u} f) x y a b k h p q e = absurd (o (names_same bs n t u x y a b p q e))
  unique (Is.other {bs = bs} {a = r} {b = s} {t = t} o d) (Is.other {bs = bs'} {t = t'} o' f) x y a b k h p q e =
      let same = two_parts {t = Tree.name bs} {t' = Tree.name bs'} {u = t} {u' = t'} x y p.0 p.1 q.0 q.1 a b p.2 q.2
      (name_unique bs bs' p.0 q.0 (p.1 ++ a) (q.1 ++ b) p.3 q.3)
      (λ l m. unique d f p.1 q.1 a b (both (sound r) (sound s) k).1 (ends_second r s a b h) p.4 q.4 m) e in
      (same.0, ap₂ Tree.pair same.1 same.2)
  unique (Is.led d) (Is.led f) x y a b k (inl h) p q e = absurd cc
  unique (Is.led {fs = fs} {a = r} d) (Is.led f) x y a b k (inr h) p q e = unique d f x y a b (both (led_by fs r) (sound r) k).1 (inr h) p q e
  unique (Is.led d) (Is.not_led o) x y a b k (inl h) p q e = absurd cc
  unique (Is.led {fs = fs} {a = r} d) (Is.not_led o) x y a b k (inr h) p q e =
      absurd (led_apart d fs x _ (both (led_by fs r) (sound r) k).0 p o (no_ends x y a b e h ∙ q))
  unique (Is.not_led o) (Is.led f) x y a b k (inl h) p q e = absurd cc
  unique (Is.not_led {fs = fs} {a = r} o) (Is.led f) x y a b k (inr h) p q e =
      absurd (led_apart f fs y _ (both (led_by fs r) (sound r) k).0 q o (sym (no_ends x y a b e h) ∙ p))
  unique (Is.not_led o) (Is.not_led o') x y a b k (inl h) p q e = absurd cc
  unique (Is.not_led o) (Is.not_led o') x y a b k (inr h) p q e =
      let same : x ≡ y = no_ends x y a b e h in
      (same, ap Tree.raw (sym p ∙ same ∙ q))
  unique (Is.told {k = id} {t = t} d) (Is.told {t = t'} f) x y a b k h p q e =
      let same : (x ≡ y) × (t ≡ t') = unique d f x y a b k h p q e in
      (same.0, ap (λ (w : Tree). Tree.told id w) same.1)
  unique Is.finish Is.finish x y a b k h p q e = (p ∙ sym q, refl)
  unique Is.finish (Is.also f f') x y a b k (inl h) p q e = absurd cc
  unique Is.finish (Is.also {u = u} f f') x y a b k (inr h) p q e = absurd (item_fills u f p q k (no_ends x y a b e h))
  unique (Is.also d d') Is.finish x y a b k (inl h) p q e = absurd cc
  unique (Is.also {u = u} d d') Is.finish x y a b k (inr h) p q e = absurd (item_fills u d q p k (sym (no_ends x y a b e h)))
  unique (Is.also d d') (Is.also f f') x y a b k (inl h) p q e = absurd cc
  unique (Is.also {a = r} {t = t} {u = u} d d') (Is.also {t = t'} {u = u'} f f') x y a b k (inr h) p q e =
      let test : ((closed r && not (nullable r)) ≡ true) × (sound r ≡ true) = both _ _ k in
      let front : (closed r ≡ true) × (not (nullable r) ≡ true) = both _ _ test.0 in
      let same = two_parts {t = t} {t' = t'} {u = u} {u' = u'} x y p.0 p.1 q.0 q.1 a b p.2 q.2
      (unique d f p.0 q.0 (p.1 ++ a) (q.1 ++ b) test.1 (inl front.0) p.3 q.3)
      (λ l r'. unique d' f' p.1 q.1 a b k (inr h) p.4 q.4 r') e in
      (same.0, ap₂ Tree.also same.1 same.2)

  -- items up to a byte
  until_unique : {s : Shape} {t u : Tree} (v : ℕ) → Is (Shape.many s) t → Is (Shape.many s) u → (x y a b : List ℕ) → sound s ≡ true → closed s ≡ true →
      free_of v s ≡ true → Spelled t x → Spelled u y → x ++ (v ∷ a) ≡ y ++ (v ∷ b) → (x ≡ y) × (t ≡ u)
  until_unique v Is.nil Is.nil x y a b k c n p q e = (p ∙ sym q, refl)
  until_unique v Is.nil (Is.cons f f') x y a b k c n p q e =
      let out : v ∷ a ≡ (q.0 ++ q.1) ++ (v ∷ b) = spelled_out x y [] (q.0 ++ q.1) (v ∷ a) (v ∷ b) p q.2 e in
      absurd (not_at_byte f v q.0 (q.1 ++ (v ∷ b)) a n q.3 (sym (append_assoc q.0 q.1 (v ∷ b)) ∙ sym out))
  until_unique v (Is.cons d d') Is.nil x y a b k c n p q e =
      let out : (p.0 ++ p.1) ++ (v ∷ a) ≡ v ∷ b = spelled_out x y (p.0 ++ p.1) [] (v ∷ a) (v ∷ b) p.2 q e in
      absurd (not_at_byte d v p.0 (p.1 ++ (v ∷ a)) b n p.3 (sym (append_assoc p.0 p.1 (v ∷ a)) ∙ out))
  until_unique v (Is.cons {t = t} {u = u} d d') (Is.cons {t = t'} {u = u'} f f') x y a b k c n p q e =
      let same = two_parts {t = t} {t' = t'} {u = u} {u' = u'} x y p.0 p.1 q.0 q.1 (v ∷ a) (v ∷ b) p.2 q.2
      (unique d f p.0 q.0 (p.1 ++ (v ∷ a)) (q.1 ++ (v ∷ b)) k (inl c) p.3 q.3)
      (λ l r'. until_unique v d' f' p.1 q.1 a b k c n p.4 q.4 r') e in
      (same.0, ap₂ Tree.cons same.1 same.2)

  -- as many items
  items_unique : {s : Shape} {t u : Tree} → Is (Shape.many s) t → Is (Shape.many s) u → (x y a b : List ℕ) → sound s ≡ true → closed s ≡ true →
      count t ≡ count u → Spelled t x → Spelled u y → x ++ a ≡ y ++ b → (x ≡ y) × (t ≡ u)
  items_unique Is.nil Is.nil x y a b k c n p q e = (p ∙ sym q, refl)
  items_unique Is.nil (Is.cons f f') x y a b k c n p q e = absurd (omega arith)
  items_unique (Is.cons d d') Is.nil x y a b k c n p q e = absurd (omega arith)
  items_unique (Is.cons {t = t} {u = u} d d') (Is.cons {t = t'} {u = u'} f f') x y a b k c n p q e =
      let fewer : count u ≡ count u' = omega arith in
      let same = two_parts {t = t} {t' = t'} {u = u} {u' = u'} x y p.0 p.1 q.0 q.1 a b p.2 q.2
      (unique d f p.0 q.0 (p.1 ++ a) (q.1 ++ b) k (inl c) p.3 q.3)
      (λ l r'. items_unique d' f' p.1 q.1 a b k c fewer p.4 q.4 r') e in
      (same.0, ap₂ Tree.cons same.1 same.2)
