-- The parts of a type that stands at the front of some bytes, by the bytes that it begins with.
use Rattle.std.proofs.Common.{◌≡◌, ◌≢◌, ℕ, zero, suc, List, [], ◌∷◌, ◌++◌, Bool, true, false, not, ◌&&◌, refl, sym, ap, ◌∙◌, append_assoc, subst, inl, inr, ◌⊎◌, arith}
use Rattle.std.proofs.lemmas.List.{append_cancel_left}
use Rattle.wasm_leb.specs.Place.{BeginsNumber}
use Rattle.wasm_leb.proofs.Unique.{unsigned_unique}
use Rattle.wasm_shapes.specs.declared.Space.TheVariants as space
use Rattle.wasm_shapes.specs.Tree.{Tree, count}
use Rattle.wasm_shapes.specs.Shape.{Shape, Named, choice, lead, rows_and, inner_rows, described_rows, describing_rows, sub_rows, final_sub}
use Rattle.wasm_shapes.specs.NamedShapes.{shape_of}
use Rattle.wasm_shapes.specs.Spells.{Is, Spelled}
use Rattle.wasm_shapes.specs.Place.{Begins, BeginsNone}
use Rattle.wasm_shapes.specs.Sound.{contains, first_bytes, nullable}
use Rattle.wasm_shapes.proofs.Begins.{begins_byte, begins_ix, begins_seq, none_by_front, none_byte, none_here, none_or, none_row, none_seq_first, row_at}
use Rattle.wasm_shapes.proofs.Depth.{begins_unique}
use Rattle.wasm_shapes.proofs.Lists.{both}
use Rattle.wasm_shapes.proofs.Parts.{none_swap}

-- ---- two parts

-- two parts side by side
pub record TwoParts (a b : Shape) (of : Tree → Tree → Tree) (bytes : List ℕ) (t : Tree) (l : List ℕ) : Type 0 where
  pub first : Tree
  pub second : Tree
  pub middle : List ℕ
  pub is : t ≡ of first second
  pub begins : Begins a bytes first middle
  pub behind : Begins b middle second l

pub seq_parts : {a b : Shape} {bytes : List ℕ} (t : Tree) (l : List ℕ) → Begins (Shape.seq a b) bytes t l → TwoParts a b Tree.pair bytes t l
seq_parts {a = a} {b = b} {bytes = bytes} t l p = go t p.text p.spells.shaped p.spells.spelled p.reads
  where
    go : (t : Tree) (text : List ℕ) → Is (Shape.seq a b) t → Spelled t text → bytes ≡ text ++ l → TwoParts a b Tree.pair bytes t l
    go t text (Is.seq {t = u} {u = v} d d') p e = record {
      first = u;
      second = v;
      middle = p.1 ++ l;
      is = refl;
      begins = record { text = p.0; spells = record { shaped = d; spelled = p.3 }; reads = e ∙ ap (λ (z : List ℕ). z ++ l) p.2 ∙ append_assoc p.0 p.1 l };
      behind = record { text = p.1; spells = record { shaped = d'; spelled = p.4 }; reads = refl };
    }

pub swap_parts : {a b : Shape} {bytes : List ℕ} (t : Tree) (l : List ℕ) → Begins (Shape.swap a b) bytes t l → TwoParts a b Tree.swap bytes t l
swap_parts {a = a} {b = b} {bytes = bytes} t l p = go t p.text p.spells.shaped p.spells.spelled p.reads
  where
    go : (t : Tree) (text : List ℕ) → Is (Shape.swap a b) t → Spelled t text → bytes ≡ text ++ l → TwoParts a b Tree.swap bytes t l
    go t text (Is.swap {t = u} {u = v} d d') p e = record {
      first = u;
      second = v;
      middle = p.1 ++ l;
      is = refl;
      begins = record { text = p.0; spells = record { shaped = d; spelled = p.3 }; reads = e ∙ ap (λ (z : List ℕ). z ++ l) p.2 ∙ append_assoc p.0 p.1 l };
      behind = record { text = p.1; spells = record { shaped = d'; spelled = p.4 }; reads = refl };
    }

-- behind a byte
pub led_parts : {b : ℕ} {s : Shape} {bytes xs : List ℕ} (t : Tree) (l : List ℕ) → bytes ≡ b ∷ xs → Begins (lead b s) bytes t l →
    (v : Tree) × (t ≡ Tree.pair (Tree.fixed b) v) × Begins s xs v l
led_parts {b = b} {s = s} {xs = xs} t l e p =
    let q = seq_parts t l p in
    let same : (Tree.fixed b ≡ q.first) × (xs ≡ q.middle) = begins_unique refl refl (begins_byte e) q.begins in
    let P : List ℕ → Type 0 = λ z. Begins s z q.second l in
    (q.second, q.is ∙ ap (λ (z : Tree). Tree.pair z q.second) (sym same.0), subst P (sym same.1) q.behind)

-- ---- rows of a choice

-- a row that cannot begin with a byte, and rows of which none can
abbrev apart_at : Shape → ℕ → Bool
apart_at a c = not (nullable a) && not (contains (first_bytes a) c)

abbrev all_apart : List Shape → ℕ → Bool
all_apart [] c = true
all_apart (a ∷ rows) c = apart_at a c && all_apart rows c

-- of the rows this one alone can begin with a byte
abbrev pub alone : List Shape → ℕ → ℕ → Bool
alone [] k c = false
alone (a ∷ rows) zero c = all_apart rows c
alone (a ∷ rows) (suc k) c = apart_at a c && alone rows k c

is_not : (p : Bool) → not p ≡ true → p ≡ false
is_not true e = absurd cc
is_not false e = refl

none_apart : (a : Shape) (c : ℕ) {xs : List ℕ} → apart_at a c ≡ true → BeginsNone a (c ∷ xs)
none_apart a c h = let p = both (not (nullable a)) (not (contains (first_bytes a) c)) h in none_by_front (is_not _ p.0) (is_not _ p.1)

none_of_rows : (rows : List Shape) (c : ℕ) {xs : List ℕ} → all_apart rows c ≡ true → BeginsNone (choice rows) (c ∷ xs)
none_of_rows [] c h = none_row
none_of_rows (a ∷ rows) c h = let p = both (apart_at a c) (all_apart rows c) h in none_or (none_apart a c p.0) (none_of_rows rows c p.1)

-- the row and what it holds
pub record RowThere (s : Shape) (k : ℕ) (bytes : List ℕ) (t : Tree) (l : List ℕ) : Type 0 where
  pub held : Tree
  pub is : t ≡ Tree.row k held
  pub begins : Begins s bytes held l

abbrev one_later : Tree → Tree
one_later (Tree.row k t) = Tree.row (suc k) t
one_later t = t

pub row_parts : (rows : List Shape) (k : ℕ) {bytes xs : List ℕ} {c : ℕ} (t : Tree) (l : List ℕ) → bytes ≡ c ∷ xs → alone rows k c ≡ true → Begins (choice rows) bytes t l →
    RowThere (row_at (choice rows) k) k bytes t l
row_parts [] k t l e h p = absurd cc
row_parts (a ∷ rows) zero {bytes = bytes} {c = c} t l e h p = go t p.text p.spells.shaped p.spells.spelled p.reads
  where
    go : (t : Tree) (text : List ℕ) → Is (Shape.or a (choice rows)) t → Spelled t text → bytes ≡ text ++ l → RowThere a zero bytes t l
    go t text (Is.first {t = u} d) p r = record { held = u; is = refl; begins = record { text = text; spells = record { shaped = d; spelled = p }; reads = r } }
    go t text (Is.later {k = j} {t = u} d) p r = absurd ((none_here e (none_of_rows rows c h)).none text l (Tree.row j u) (record { shaped = d; spelled = p }) r)
row_parts (a ∷ rows) (suc k) {bytes = bytes} {c = c} t l e h p =
    let parted : (apart_at a c ≡ true) × (alone rows k c ≡ true) = both (apart_at a c) (alone rows k c) h in
    go (none_here e (none_apart a c parted.0)) (λ u q. row_parts rows k u l e parted.1 q) t p.text p.spells.shaped p.spells.spelled p.reads
  where
    go : BeginsNone a bytes → ((u : Tree) → Begins (choice rows) bytes u l → RowThere (row_at (choice rows) k) k bytes u l) →
        (t : Tree) (text : List ℕ) → Is (Shape.or a (choice rows)) t → Spelled t text → bytes ≡ text ++ l → RowThere (row_at (choice rows) k) (suc k) bytes t l
    go none others t text (Is.first {t = u} d) p r = absurd (none.none text l u (record { shaped = d; spelled = p }) r)
    go none others t text (Is.later {k = j} {t = u} d) p r =
        let q = others (Tree.row j u) (record { text = text; spells = record { shaped = d; spelled = p }; reads = r }) in
        record { held = q.held; is = ap one_later q.is; begins = q.begins }

-- where no further row begins, a row is one of the first
pub back_among : (rows others : List Shape) {bytes : List ℕ} (t : Tree) (l : List ℕ) → BeginsNone (choice others) bytes → Begins (choice (rows_and rows others)) bytes t l →
    Begins (choice rows) bytes t l
back_among rows others {bytes = bytes} t l none p = record {
  text = p.text;
  spells = record { shaped = go rows t p.text p.spells.shaped p.spells.spelled p.reads; spelled = p.spells.spelled };
  reads = p.reads;
}
  where
    go : (rows : List Shape) (t : Tree) (text : List ℕ) → Is (choice (rows_and rows others)) t → Spelled t text → bytes ≡ text ++ l → Is (choice rows) t
    go [] t text d p e = absurd (none.none text l t (record { shaped = d; spelled = p }) e)
    go (a ∷ rows) t text (Is.first d) p e = Is.first d
    go (a ∷ rows) t text (Is.later {k = j} {t = u} d) p e = Is.later (go rows (Tree.row j u) text d p e)

pub back_ref : {n : Named} {bytes : List ℕ} (t : Tree) (l : List ℕ) → Begins (Shape.ref n) bytes t l → Begins (shape_of n) bytes t l
back_ref {n = n} t l p = record { text = p.text; spells = record { shaped = go t p.spells.shaped; spelled = p.spells.spelled }; reads = p.reads }
  where
    go : (t : Tree) → Is (Shape.ref n) t → Is (shape_of n) t
    go t (Is.ref d) = d

pub sub_rows_of : (t : Tree) → Is (Shape.ref Named.sub) t → Is (choice sub_rows) t
sub_rows_of t (Is.ref d) = d

-- ---- composite types

module _ {bytes xs : List ℕ} {c : ℕ} (e : bytes ≡ c ∷ xs) (t : Tree) (l : List ℕ) where
  pub undescribed_back : c ≢ 0x4d → Begins (choice described_rows) bytes t l → Begins (choice inner_rows) bytes t l
  undescribed_back other p =
      back_among inner_rows (Shape.swap (lead 0x4d (Shape.ix space.Type_)) (choice inner_rows) ∷ []) t l
      (none_or (none_here e (none_swap (none_seq_first (none_seq_first (none_byte other))))) none_row) p

  pub undescribing_back : c ≢ 0x4c → Begins (choice describing_rows) bytes t l → Begins (choice described_rows) bytes t l
  undescribing_back other p =
      back_among described_rows (Shape.swap (lead 0x4c (Shape.ix space.Type_)) (choice described_rows) ∷ []) t l
      (none_or (none_here e (none_swap (none_seq_first (none_seq_first (none_byte other))))) none_row) p

  pub unshared_back : c ≢ 0x65 → Begins (Shape.ref Named.composite) bytes t l → Begins (choice describing_rows) bytes t l
  unshared_back other p =
      back_among describing_rows (lead 0x65 (choice describing_rows) ∷ []) t l (none_or (none_here e (none_seq_first (none_byte other))) none_row) (back_ref t l p)

  pub bare_back : c ≢ 0x4e → Begins (Shape.ref Named.group) bytes t l → Begins (choice sub_rows) bytes t l
  bare_back other p =
      back_among sub_rows (lead 0x4e (Shape.vec (Shape.ref Named.sub)) ∷ []) t l (none_or (none_here e (none_seq_first (none_byte other))) none_row) (back_ref t l p)

-- what stands behind an index that stands behind a byte, and is asked in front of it
pub marked_parts : {b i : ℕ} {s : Shape} {bytes xs middle : List ℕ} (t : Tree) (l : List ℕ) → bytes ≡ b ∷ xs → BeginsNumber 128 32 32 xs i middle →
    Begins (Shape.swap (lead b (Shape.ix space.Type_)) s) bytes t l → (u : Tree) × (t ≡ Tree.swap (Tree.pair (Tree.fixed b) (Tree.ix space.Type_ i)) u) × Begins s middle u l
marked_parts {b = b} {i = i} {s = s} {middle = middle} t l e n p =
    let q = swap_parts t l p in
    let mark : Begins (lead b (Shape.ix space.Type_)) _ (Tree.pair (Tree.fixed b) (Tree.ix space.Type_ i)) middle = begins_seq (begins_byte e) (begins_ix n) in
    let same : (Tree.pair (Tree.fixed b) (Tree.ix space.Type_ i) ≡ q.first) × (middle ≡ q.middle) = begins_unique refl refl mark q.begins in
    let P : List ℕ → Type 0 = λ z. Begins s z q.second l in
    (q.second, q.is ∙ ap (λ (z : Tree). Tree.swap z q.second) (sym same.0), subst P (sym same.1) q.behind)

-- ---- vectors

-- the items behind their number
pub record VecThere (s : Shape) (n : ℕ) (start : List ℕ) (t : Tree) (l : List ℕ) : Type 0 where
  pub items : Tree
  pub is : t ≡ Tree.vec items
  pub begins : Begins (Shape.many s) start items l
  pub counted : count items ≡ n

pub vec_parts : {s : Shape} {n : ℕ} {bytes start : List ℕ} (t : Tree) (l : List ℕ) → BeginsNumber 128 32 32 bytes n start → Begins (Shape.vec s) bytes t l → VecThere s n start t l
vec_parts {s = s} {n = n} {bytes = bytes} {start = start} t l there p = go t p.text p.spells.shaped p.spells.spelled p.reads
  where
    go : (t : Tree) (text : List ℕ) → Is (Shape.vec s) t → Spelled t text → bytes ≡ text ++ l → VecThere s n start t l
    go t text (Is.vec {t = u} d) p e =
        let parts : bytes ≡ p.0 ++ (p.1 ++ l) = e ∙ ap (λ (z : List ℕ). z ++ l) p.2 ∙ append_assoc p.0 p.1 l in
        let both_ways : there.0 ++ start ≡ p.0 ++ (p.1 ++ l) = sym there.2 ∙ parts in
        let same : (there.0 ≡ p.0) × (n ≡ count u) = unsigned_unique start (p.1 ++ l) there.1 p.3 both_ways in
        let shifted : p.0 ++ start ≡ p.0 ++ (p.1 ++ l) = ap (λ (z : List ℕ). z ++ start) (sym same.0) ∙ both_ways in
        record {
          items = u;
          is = refl;
          begins = record { text = p.1; spells = record { shaped = d; spelled = p.4 }; reads = append_cancel_left p.0 start (p.1 ++ l) shifted };
          counted = sym same.1;
        }

-- the first of some items, and the others
pub first_item : {s : Shape} {bytes : List ℕ} {n : ℕ} (t : Tree) (l : List ℕ) → Begins (Shape.many s) bytes t l → count t ≡ suc n →
    (first others : Tree) × (middle : List ℕ) × (t ≡ Tree.cons first others) × Begins s bytes first middle × Begins (Shape.many s) middle others l × (count others ≡ n)
first_item {s = s} {bytes = bytes} {n = n} t l p k = go t p.text p.spells.shaped p.spells.spelled p.reads k
  where
    go : (t : Tree) (text : List ℕ) → Is (Shape.many s) t → Spelled t text → bytes ≡ text ++ l → count t ≡ suc n →
        (first others : Tree) × (middle : List ℕ) × (t ≡ Tree.cons first others) × Begins s bytes first middle × Begins (Shape.many s) middle others l × (count others ≡ n)
    go t text Is.nil p e k = absurd (omega arith)
    go t text (Is.cons {t = u} {u = v} d d') p e k =
        let more : suc (count v) ≡ suc n = k in (
          u,
          v,
          p.1 ++ l,
          refl,
          record { text = p.0; spells = record { shaped = d; spelled = p.3 }; reads = e ∙ ap (λ (z : List ℕ). z ++ l) p.2 ∙ append_assoc p.0 p.1 l },
          record { text = p.1; spells = record { shaped = d'; spelled = p.4 }; reads = refl },
          omega arith,
        )

-- no items
pub no_items : {s : Shape} {bytes : List ℕ} (t : Tree) (l : List ℕ) → Begins (Shape.many s) bytes t l → count t ≡ 0 → (t ≡ Tree.nil) × (bytes ≡ l)
no_items {s = s} {bytes = bytes} t l p k = go t p.text p.spells.shaped p.spells.spelled p.reads k
  where
    go : (t : Tree) (text : List ℕ) → Is (Shape.many s) t → Spelled t text → bytes ≡ text ++ l → count t ≡ 0 → (t ≡ Tree.nil) × (bytes ≡ l)
    go t text Is.nil p e k = (refl, e ∙ ap (λ (z : List ℕ). z ++ l) p)
    go t text (Is.cons {u = v} d d') p e k = let none : suc (count v) ≡ 0 = k in absurd (omega arith)

-- ---- final subtypes

abbrev pub supertypes : Shape
supertypes = Shape.vec (Shape.ix space.Type_)

abbrev pub parts : Shape
parts = Shape.seq supertypes (Shape.ref Named.composite)

-- a final subtype: its supertypes and its composite type, in the two spellings
abbrev FinalThere : List ℕ → Tree → List ℕ → Type 0
FinalThere bytes t l = (items u : Tree) × (t ≡ Tree.row 0 (Tree.final items u))
    × (((count items ≡ 0) × (items ≡ Tree.nil) × Begins (Shape.ref Named.composite) bytes u l)
    ⊎ ((xs : List ℕ) × (bytes ≡ 0x4f ∷ xs) × Begins parts xs (Tree.pair (Tree.vec items) u) l))

nil_text : {s : Shape} (t : Tree) (x : List ℕ) → Is (Shape.many s) t → count t ≡ 0 → Spelled t x → (t ≡ Tree.nil) × (x ≡ [])
nil_text t x Is.nil k p = (refl, p)
nil_text t x (Is.cons {u = v} d d') k p = let none : suc (count v) ≡ 0 = k in absurd (omega arith)

final_there : {bytes xs : List ℕ} {c : ℕ} (t : Tree) (l : List ℕ) → bytes ≡ c ∷ xs → c ≢ 0x50 → Begins (Shape.ref Named.sub) bytes t l → FinalThere bytes t l
final_there {bytes = bytes} t l e other p = let q = back_ref t l p in go t q.text q.spells.shaped q.spells.spelled q.reads
  where
    held : (t : Tree) (text : List ℕ) → Is final_sub t → Spelled t text → bytes ≡ text ++ l → FinalThere bytes (Tree.row 0 t) l
    held t text (Is.final {t = items} {u = u} d d') (inl p) r =
        let none = nil_text items p.0 d p.3 p.4 in
        (items, u, refl, inl (p.3, none.0, record { text = p.1; spells = record { shaped = d'; spelled = p.5 }; reads = r ∙ ap (λ (z : List ℕ). z ++ l) (p.2 ∙ ap (λ (z : List ℕ). z ++ p.1) none.1) }))
    held t text (Is.final {t = items} {u = u} d d') (inr p) r =
        let vec : List ℕ = p.0 ++ p.1 in (
          items,
          u,
          refl,
          inr (
            (p.0 ++ (p.1 ++ p.2)) ++ l,
            r ∙ ap (λ (z : List ℕ). z ++ l) p.3,
            record {
              text = p.0 ++ (p.1 ++ p.2);
              spells = record { shaped = Is.seq (Is.vec d) d'; spelled = (vec, p.2, sym (append_assoc p.0 p.1 p.2), (p.0, p.1, refl, p.4, p.5), p.6) };
              reads = refl;
            },
          ),
        )

    go : (t : Tree) (text : List ℕ) → Is (choice sub_rows) t → Spelled t text → bytes ≡ text ++ l → FinalThere bytes t l
    go t text (Is.first {t = u} d) p r = held u text d p r
    go t text (Is.later {k = j} {t = u} d) p r =
        absurd ((none_or (none_here e (none_seq_first {b = parts} (none_byte other))) none_row).none text l (Tree.row j u) (record { shaped = d; spelled = p }) r)

-- one without supertypes that is spelled as its composite type alone
pub alone_parts : {bytes xs : List ℕ} {c : ℕ} (t : Tree) (l : List ℕ) → bytes ≡ c ∷ xs → c ≢ 0x4f → c ≢ 0x50 → Begins (Shape.ref Named.sub) bytes t l →
    (u : Tree) × (t ≡ Tree.row 0 (Tree.final Tree.nil u)) × Begins (Shape.ref Named.composite) bytes u l
alone_parts {bytes = bytes} {xs = xs} {c = c} t l e led other p = let q = final_there t l e other p in go q.0 q.1 q.2 q.3
  where
    go : (items u : Tree) → t ≡ Tree.row 0 (Tree.final items u)
        → ((count items ≡ 0) × (items ≡ Tree.nil) × Begins (Shape.ref Named.composite) bytes u l)
        ⊎ ((ys : List ℕ) × (bytes ≡ 0x4f ∷ ys) × Begins parts ys (Tree.pair (Tree.vec items) u) l)
        → (u : Tree) × (t ≡ Tree.row 0 (Tree.final Tree.nil u)) × Begins (Shape.ref Named.composite) bytes u l
    go items u is (inl q) = (u, is ∙ ap (λ (z : Tree). Tree.row 0 (Tree.final z u)) q.1, q.2)
    go items u is (inr q) = let heads : c ∷ xs ≡ 0x4f ∷ q.0 = sym e ∙ q.1 in let same : c ≡ 0x4f = cc in absurd (led same)

-- one behind its byte
pub final_parts : {xs : List ℕ} (t : Tree) (l : List ℕ) → Begins (Shape.ref Named.sub) (0x4f ∷ xs) t l →
    (items u : Tree) × (t ≡ Tree.row 0 (Tree.final items u)) × Begins parts xs (Tree.pair (Tree.vec items) u) l
final_parts {xs = xs} t l p = let q = final_there t l refl (λ h. absurd (omega (arith, h))) p in go q.0 q.1 q.2 q.3
  where
    go : (items u : Tree) → t ≡ Tree.row 0 (Tree.final items u)
        → ((count items ≡ 0) × (items ≡ Tree.nil) × Begins (Shape.ref Named.composite) (0x4f ∷ xs) u l)
        ⊎ ((ys : List ℕ) × (0x4f ∷ xs ≡ 0x4f ∷ ys) × Begins parts ys (Tree.pair (Tree.vec items) u) l)
        → (items u : Tree) × (t ≡ Tree.row 0 (Tree.final items u)) × Begins parts xs (Tree.pair (Tree.vec items) u) l
    go items u is (inl q) = absurd ((none_by_front {s = Shape.ref Named.composite} {c = 0x4f} {xs = xs} refl refl).none q.2.text l u q.2.spells q.2.reads)
    go items u is (inr q) =
        let same : xs ≡ q.0 = cc in
        let P : List ℕ → Type 0 = λ z. Begins parts z (Tree.pair (Tree.vec items) u) l in
        (items, u, is, subst P (sym same) q.2)
