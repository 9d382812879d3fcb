-- The counts and lengths of a tree that is in range are below 2^32.
use Rattle.std.proofs.Common.{◌≡◌, ℕ, ◌-◌, ◌<◌, ◌^◌, List, [], ◌∷◌, ◌++◌, All, Contains, refl, arith, inl, inr}
use Rattle.std.proofs.lemmas.List.Elements.{All-nil, All-cons, All-append, All-contains, Contains-append_cases}
use Rattle.wasm_shapes.specs.Tree.{Tree, count}
use Rattle.wasm_shapes.specs.Fits.{InRange}
use Rattle.wasm_write.specs.Counts.{counts, IsTooLarge}

abbrev pub IsSmall : ℕ → Type 0
IsSmall n = n < 2 ^ 32

both_small : (xs ys : List ℕ) → All IsSmall xs → All IsSmall ys → All IsSmall (xs ++ ys)
both_small xs ys p q = All-append IsSmall xs ys p q

one_small : {n : ℕ} → n < 2 ^ 32 → All IsSmall (n ∷ [])
one_small {n = n} h = All-cons IsSmall n [] h (All-nil IsSmall)

pub counts_small : (t : Tree) → InRange t → All IsSmall (counts t)
counts_small (Tree.name bs) r = one_small r.0
counts_small (Tree.content bs) r = one_small r
counts_small (Tree.pair t u) r = both_small _ _ (counts_small t r.0) (counts_small u r.1)
counts_small (Tree.swap t u) r = both_small _ _ (counts_small t r.0) (counts_small u r.1)
counts_small (Tree.cons t u) r = both_small _ _ (counts_small t r.0) (counts_small u r.1)
counts_small (Tree.vec t) r = both_small (counts t) (count t ∷ []) (counts_small t r.1) (one_small r.0)
counts_small (Tree.present t) r = counts_small t r
counts_small (Tree.sized t) r = counts_small t r
counts_small (Tree.row k t) r = counts_small t r
counts_small (Tree.scope t) r = counts_small t r
counts_small (Tree.spare b t) r = counts_small t r
counts_small (Tree.kept b t) r = counts_small t r
counts_small (Tree.final t u) r = both_small (counts t) (count t ∷ counts u) (counts_small t r.1) (All-cons IsSmall (count t) (counts u) r.0 (counts_small u r.2))
counts_small (Tree.until b t) r = counts_small t r
counts_small (Tree.op c t) r = counts_small t r.1
counts_small (Tree.left w o t) r = both_small _ _ (counts_small o r.0) (counts_small t r.1)
counts_small (Tree.aimed w i o t) r = both_small _ _ (counts_small o r.1) (counts_small t r.2)
counts_small (Tree.placed i o t) r = both_small _ _ (counts_small o r.1) (counts_small t r.2)
counts_small (Tree.told k t) r = counts_small t r
counts_small (Tree.also t u) r = both_small _ _ (counts_small t r.0) (counts_small u r.1)
counts_small _ r = All-nil IsSmall

-- where all but the last are small, it is the last that is too large
pub last_is_large : (xs : List ℕ) (n size : ℕ) → All IsSmall xs → IsTooLarge (xs ++ n ∷ []) size → (size ≡ n) × (2 ^ 32 - 1 < size)
last_is_large xs n size few q = elim (Contains-append_cases xs (n ∷ []) size q.counted) [
  | inl among ↦
      let small : size < 2 ^ 32 = All-contains IsSmall xs size few among in
      let large : 2 ^ 32 - 1 < size = q.large in absurd (omega arith)
  | inr last ↦ (one last, q.large)
]
  where
    one : Contains (n ∷ []) size → size ≡ n
    one h = All-contains (λ y. y ≡ n) (n ∷ []) size (All-cons (λ y. y ≡ n) n [] refl (All-nil (λ y. y ≡ n))) h
