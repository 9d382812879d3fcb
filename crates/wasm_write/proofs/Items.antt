-- Items that are written one behind another.
use Rattle.std.proofs.Common.{◌≡◌, ℕ, zero, suc, ◌<◌, ◌≤◌, ◌^◌, ◌-◌, List, [], ◌∷◌, ◌++◌, length, map, drop, get_or, refl, sym, ap, ◌∙◌, append-nil, append_assoc, subst, arith}
use Rattle.std.proofs.Math.ListN.{drop_of_length-le}
use Rattle.wasm_leb.specs.Leb.{leb}
use Rattle.wasm_shapes.specs.Tree.{Tree, count, normal}
use Rattle.wasm_shapes.specs.Fits.{InRange}
use Rattle.std.proofs.lemmas.List.Elements.{Contains-append_left, Contains-append_right}
use Rattle.wasm_write.specs.declared.fault.WriteFault.{WriteFault}
use Rattle.wasm_write.specs.declared.fault.WriteFault.TheVariants.{TooLarge, NoMemory}
use Rattle.wasm_write.specs.Counts.{counts, IsTooLarge}
use Rattle.wasm_write.specs.Faults.{IfTooLarge}
use Rattle.wasm_shapes.specs.Types.{rows_tree, vector_tree}

-- some items are left; these and what is written are all, and if these are in range, all are
pub record ItemsSoFar (left all : List Tree) (start out : List ℕ) : Type 0 where
  pub written : out ++ normal (rows_tree left) ≡ start ++ normal (rows_tree all)
  pub in_range : InRange (rows_tree left) → InRange (rows_tree all)

pub count_map : {A : Type 0} (f : A → Tree) (xs : List A) → count (rows_tree (map f xs)) ≡ length xs
count_map f [] = refl
count_map f (x ∷ xs) = ap suc (count_map f xs)

module _ {A : Type 0} (f : A → Tree) (xs : List A) {i : ℕ} {out start : List ℕ} (past : length xs ≤ i)
    (done : ItemsSoFar (map f (drop i xs)) (map f xs) start out) where
  none_left : map f (drop i xs) ≡ []
  none_left = ap (map f) (drop_of_length-le xs past)

  -- all items are written
  pub items_written : out ≡ start ++ normal (rows_tree (map f xs))
  items_written =
      let P : List Tree → Type 0 = λ z. out ++ normal (rows_tree z) ≡ start ++ normal (rows_tree (map f xs)) in
      sym (append-nil out) ∙ subst P none_left done.written

  pub items_in_range : InRange (rows_tree (map f xs))
  items_in_range =
      let P : List Tree → Type 0 = λ z. InRange (rows_tree z) → InRange (rows_tree (map f xs)) in
      subst P none_left done.in_range tt

-- ---- and behind their number

module _ {A : Type 0} (f : A → Tree) (xs : List A) where
  pub numbered_written : (old : List ℕ) {start out : List ℕ} → start ≡ old ++ leb (length xs) → out ≡ start ++ normal (rows_tree (map f xs)) → out ≡ old ++ normal (vector_tree (map f xs))
  numbered_written old e p =
      p ∙ ap (λ (z : List ℕ). z ++ normal (rows_tree (map f xs))) e
      ∙ append_assoc old (leb (length xs)) (normal (rows_tree (map f xs)))
      ∙ ap (λ (k : ℕ). old ++ (leb k ++ normal (rows_tree (map f xs)))) (sym (count_map f xs))

  pub numbered_in_range : length xs < 2 ^ 32 → InRange (rows_tree (map f xs)) → InRange (vector_tree (map f xs))
  numbered_in_range few r = (rw (count_map f xs) few, r)

-- ---- counts

abbrev LargeAmong : WriteFault → List ℕ → Type 0
LargeAmong e among = IfTooLarge e (IsTooLarge among)

pub large_left : (e : WriteFault) (xs ys : List ℕ) → LargeAmong e xs → LargeAmong e (xs ++ ys)
large_left (TooLarge size) xs ys p = record { counted = Contains-append_left xs ys size p.counted; large = p.large }
large_left NoMemory xs ys p = tt

pub large_right : (e : WriteFault) (xs ys : List ℕ) → LargeAmong e ys → LargeAmong e (xs ++ ys)
large_right (TooLarge size) xs ys p = record { counted = Contains-append_right xs ys size p.counted; large = p.large }
large_right NoMemory xs ys p = tt

pub large_first : (e : WriteFault) (n : ℕ) (others : List ℕ) → IfTooLarge e (λ size. (size ≡ n) × (2 ^ 32 - 1 < size)) → LargeAmong e (n ∷ others)
large_first (TooLarge size) n others p = record { counted = (0, omega arith, sym p.0); large = p.1 }
large_first NoMemory n others p = tt

-- the second of some counts is too large
pub large_second : (e : WriteFault) (m n : ℕ) (others : List ℕ) → IfTooLarge e (λ size. (size ≡ n) × (2 ^ 32 - 1 < size)) → LargeAmong e (m ∷ n ∷ others)
large_second e m n others p = large_right e (m ∷ []) (n ∷ others) (large_first e n others p)

-- the number of the items is too large
pub number_too_large : {A : Type 0} (f : A → Tree) (xs : List A) (e : WriteFault) → IfTooLarge e (λ size. (size ≡ length xs) × (2 ^ 32 - 1 < size)) →
    LargeAmong e (counts (vector_tree (map f xs)))
number_too_large f xs e p =
    large_right e (counts (rows_tree (map f xs))) (count (rows_tree (map f xs)) ∷ []) (large_first e _ [] (rw (count_map f xs) p))

-- a count of an item is too large
pub item_too_large : {A : Type 0} (f : A → Tree) (xs : List A) (i : ℕ) (x : A) (e : WriteFault) → i < length xs → x ≡ get_or xs i x → LargeAmong e (counts (f x)) →
    LargeAmong e (counts (rows_tree (map f xs)))
item_too_large f [] i x e h is p = absurd (omega arith)
item_too_large f (y ∷ xs) zero x e h is p =
    let P : _ → Type 0 = λ z. LargeAmong e (counts (f z)) in
    large_left e (counts (f y)) (counts (rows_tree (map f xs))) (subst P is p)
item_too_large f (y ∷ xs) (suc i) x e h is p = large_right e (counts (f y)) (counts (rows_tree (map f xs))) (item_too_large f xs i x e (omega arith) is p)

pub numbered_too_large : {A : Type 0} (f : A → Tree) (xs : List A) (e : WriteFault) → LargeAmong e (counts (rows_tree (map f xs))) →
    LargeAmong e (counts (vector_tree (map f xs)))
numbered_too_large f xs e p = large_left e (counts (rows_tree (map f xs))) (count (rows_tree (map f xs)) ∷ []) p

-- one of a few counts, or the last
pub large_last : (xs : List ℕ) {n size : ℕ} → size ≡ n → 2 ^ 32 - 1 < size → IsTooLarge (xs ++ n ∷ []) size
large_last xs {n = n} {size = size} e h = record { counted = Contains-append_right xs (n ∷ []) size (0, omega arith, sym e); large = h }
