-- The counts and lengths of a row that was read, and of what it becomes, are below 2^32.
use Rattle.std.proofs.Common.{◌≡◌, ℕ, zero, suc, ◌-◌, ◌<◌, ◌^◌, List, [], ◌∷◌, ◌++◌, length, drop, get_or, All, Contains, None, refl, sym, ap, ◌∙◌, arith, subst, inl, inr}
use Rattle.std.proofs.lemmas.List.Elements.{All-nil, All-cons, All-append, All-contains, Contains-append_cases}
use Rattle.wasm_shapes.specs.declared.Visit.{Visit}
use Rattle.wasm_shapes.specs.Tree.{Tree, count, fill, after, past, before, aimed_at, typed, Listed}
use Rattle.wasm_shapes.specs.Spells.{Spelled}
use Rattle.wasm_shapes.specs.Fits.{InRange}
use Rattle.wasm_shapes.proofs.ReadBack.{spelled_in_range, count-fill}
use Rattle.wasm_write.specs.Counts.{counts, IsTooLarge}
use Rattle.reencode_hooks.specs.Run.{accepted, and_then, run}
use Rattle.reencode_hooks.specs.Walk.{walk}
use Rattle.reencode_hooks.proofs.Agrees.{agrees, inv, given}
use Rattle.reencode_core.specs.Rows.{Asks}

abbrev pub IsSmall : ℕ → Type 0
IsSmall n = n < 2 ^ 32

both_small : (xs ys : List ℕ) → All IsSmall xs → All IsSmall ys → All IsSmall (xs ++ ys)
both_small xs ys p q = All-append IsSmall xs ys p q

one_small : {n : ℕ} → n < 2 ^ 32 → All IsSmall (n ∷ [])
one_small {n = n} h = All-cons IsSmall n [] h (All-nil IsSmall)

counts_small : (t : Tree) → InRange t → All IsSmall (counts t)
counts_small (Tree.name bs) r = one_small r.0
counts_small (Tree.content bs) r = one_small r
counts_small (Tree.pair t u) r = both_small _ _ (counts_small t r.0) (counts_small u r.1)
counts_small (Tree.swap t u) r = both_small _ _ (counts_small t r.0) (counts_small u r.1)
counts_small (Tree.cons t u) r = both_small _ _ (counts_small t r.0) (counts_small u r.1)
counts_small (Tree.vec t) r = both_small (counts t) (count t ∷ []) (counts_small t r.1) (one_small r.0)
counts_small (Tree.present t) r = counts_small t r
counts_small (Tree.sized t) r = counts_small t r
counts_small (Tree.row k t) r = counts_small t r
counts_small (Tree.scope t) r = counts_small t r
counts_small (Tree.spare b t) r = counts_small t r
counts_small (Tree.kept b t) r = counts_small t r
counts_small (Tree.final t u) r = both_small (counts t) (count t ∷ counts u) (counts_small t r.1) (All-cons IsSmall (count t) (counts u) r.0 (counts_small u r.2))
counts_small (Tree.until b t) r = counts_small t r
counts_small (Tree.op c t) r = counts_small t r.1
counts_small (Tree.left w o t) r = both_small _ _ (counts_small o r.0) (counts_small t r.1)
counts_small (Tree.aimed w i o t) r = both_small _ _ (counts_small o r.1) (counts_small t r.2)
counts_small (Tree.placed i o t) r = both_small _ _ (counts_small o r.1) (counts_small t r.2)
counts_small (Tree.told k t) r = counts_small t r
counts_small (Tree.also t u) r = both_small _ _ (counts_small t r.0) (counts_small u r.1)
counts_small Tree.empty r = All-nil IsSmall
counts_small (Tree.fixed b) r = All-nil IsSmall
counts_small (Tree.byte b) r = All-nil IsSmall
counts_small (Tree.raw bs) r = All-nil IsSmall
counts_small (Tree.u32 n) r = All-nil IsSmall
counts_small (Tree.u64 n) r = All-nil IsSmall
counts_small (Tree.s32 z) r = All-nil IsSmall
counts_small (Tree.s64 z) r = All-nil IsSmall
counts_small (Tree.ix p i) r = All-nil IsSmall
counts_small (Tree.sx p i) r = All-nil IsSmall
counts_small (Tree.outer p c i) r = All-nil IsSmall
counts_small (Tree.alike b c) r = All-nil IsSmall
counts_small (Tree.mem a i o) r = All-nil IsSmall
counts_small (Tree.canonical i) r = absurd r
counts_small (Tree.flag n) r = All-nil IsSmall
counts_small Tree.nil r = All-nil IsSmall
counts_small Tree.absent r = All-nil IsSmall
counts_small Tree.finish r = All-nil IsSmall

-- ---- filling changes no count

counts-typed : (w : Listed) (t : Tree) → counts (typed w t) ≡ counts t
counts-typed Listed.functions t = refl
counts-typed Listed.expressions t = refl

counts-aimed_at : (w : Listed) (i : ℕ) (o t : Tree) → counts (aimed_at w i o t) ≡ counts o ++ counts t
counts-aimed_at w zero o t = refl
counts-aimed_at w (suc i) o t = ap (λ (z : List ℕ). counts o ++ z) (counts-typed w t)

appended : {a b c d : List ℕ} → a ≡ c → b ≡ d → a ++ b ≡ c ++ d
appended {b = b} {c = c} p q = ap (λ (z : List ℕ). z ++ b) p ∙ ap (λ (z : List ℕ). c ++ z) q

counts-fill : (t : Tree) (a : List ℕ) → counts (fill t a) ≡ counts t
counts-fill (Tree.pair t u) a = appended (counts-fill t a) (counts-fill u (after t a))
counts-fill (Tree.swap t u) a = appended (counts-fill t (after u a)) (counts-fill u a)
counts-fill (Tree.cons t u) a = appended (counts-fill t a) (counts-fill u (after t a))
counts-fill (Tree.vec t) a = appended (counts-fill t a) (ap (λ (n : ℕ). n ∷ []) (count-fill t a))
counts-fill (Tree.present t) a = counts-fill t a
counts-fill (Tree.sized t) a = counts-fill t a
counts-fill (Tree.row k t) a = counts-fill t a
counts-fill (Tree.scope t) a = counts-fill t (drop 1 a)
counts-fill (Tree.spare b t) a = counts-fill t a
counts-fill (Tree.kept b t) a = counts-fill t a
counts-fill (Tree.final t u) a =
    appended (counts-fill t a) (ap (λ (n : ℕ). n ∷ counts (fill u (after t a))) (count-fill t a) ∙ ap (λ (z : List ℕ). count t ∷ z) (counts-fill u (after t a)))
counts-fill (Tree.until b t) a = counts-fill t a
counts-fill (Tree.op c t) a = counts-fill t a
counts-fill (Tree.left w o t) a =
    counts-aimed_at w (get_or (after t a) 0 0) (fill o (drop 1 (after t a))) (fill t a) ∙ appended (counts-fill o (drop 1 (after t a))) (counts-fill t a)
counts-fill (Tree.aimed w i o t) a = appended (counts-fill o (drop 1 (after t a))) (counts-fill t a)
counts-fill (Tree.placed i o t) a = appended (counts-fill o (drop 1 a)) (counts-fill t (after o (drop 1 a)))
counts-fill (Tree.told k t) a = counts-fill t a
counts-fill (Tree.also t u) a =
    let own = drop (length (before None t)) a in appended (counts-fill t own) (counts-fill u (past t own))
counts-fill Tree.empty a = refl
counts-fill (Tree.fixed b) a = refl
counts-fill (Tree.byte b) a = refl
counts-fill (Tree.raw bs) a = refl
counts-fill (Tree.u32 n) a = refl
counts-fill (Tree.u64 n) a = refl
counts-fill (Tree.s32 z) a = refl
counts-fill (Tree.s64 z) a = refl
counts-fill (Tree.ix p i) a = refl
counts-fill (Tree.sx p i) a = refl
counts-fill (Tree.outer p c i) a = refl
counts-fill (Tree.name bs) a = refl
counts-fill (Tree.content bs) a = refl
counts-fill (Tree.alike b c) a = refl
counts-fill (Tree.mem x i o) a = refl
counts-fill (Tree.canonical i) a = refl
counts-fill (Tree.flag n) a = refl
counts-fill Tree.nil a = refl
counts-fill Tree.absent a = refl
counts-fill Tree.finish a = refl

-- ---- a row that was walked

walk_fills : {S E : Type 0} (asked : Asks S E) (c : ℕ) (s m : S) (t u : Tree) → walk asked c s t ≡ accepted u m → (a : List ℕ) × (u ≡ fill t a)
walk_fills asked c s m t u h =
    let passes = (agrees asked c None t).same s [] in
    let i = inv _ (λ a n. accepted (fill t a) n) (sym passes ∙ h) in
    (i.0, sym (given i.3).0)

-- ---- accepted visits one behind another

pub run_then : {S E : Type 0} (asked : Asks S E) (s n m : S) (xs ys : List Visit) (a b : List ℕ) → run asked s xs ≡ accepted a n → run asked n ys ≡ accepted b m →
    run asked s (xs ++ ys) ≡ accepted (a ++ b) m
run_then asked s n m [] ys a b h k = let g = given h in rw (← g.0, g.1) k
run_then asked s n m (v ∷ xs) ys a b h k =
    let i = inv (asked s v) (λ x l. and_then (run asked l xs) (λ ns j. accepted (x ∷ ns) j)) h in
    let j = inv (run asked i.1 xs) (λ ns l. accepted (i.0 ∷ ns) l) i.3 in
    let g = given j.3 in
    rw (i.2, run_then asked i.1 n m xs ys j.0 b (j.2 ∙ ap (λ (z : _). accepted j.0 z) g.1) k) (ap (λ (z : List ℕ). accepted (z ++ b) m) g.0)

run_cons : {S E : Type 0} (asked : Asks S E) (s l n : S) (v : Visit) (vs : List Visit) (x : ℕ) (a : List ℕ) → asked s v ≡ accepted x l → run asked l vs ≡ accepted a n →
    run asked s (v ∷ vs) ≡ accepted (x ∷ a) n
run_cons asked s l n v vs x a e h = rw (e, h) refl

-- and these in two
pub run_parts : {S E : Type 0} (asked : Asks S E) (s m : S) (xs ys : List Visit) (told : List ℕ) → run asked s (xs ++ ys) ≡ accepted told m →
    (a : List ℕ) × (n : S) × (b : List ℕ) × (run asked s xs ≡ accepted a n) × (run asked n ys ≡ accepted b m)
run_parts asked s m [] ys told h = ([], s, told, refl, h)
run_parts asked s m (v ∷ xs) ys told h =
    let i = inv (asked s v) (λ x l. and_then (run asked l (xs ++ ys)) (λ ns j. accepted (x ∷ ns) j)) h in
    let j = inv (run asked i.1 (xs ++ ys)) (λ ns l. accepted (i.0 ∷ ns) l) i.3 in
    let r = run_parts asked i.1 m xs ys j.0 (j.2 ∙ ap (λ (z : _). accepted j.0 z) (given j.3).1) in
    (i.0 ∷ r.0, r.1, r.2, run_cons asked s i.1 r.1 v xs i.0 r.0 i.2 r.3, r.4)

walk_counts_small : {S E : Type 0} (asked : Asks S E) (c : ℕ) (s m : S) (t u : Tree) (x : List ℕ) → Spelled t x → walk asked c s t ≡ accepted u m → All IsSmall (counts u)
walk_counts_small asked c s m t u x p h =
    let f = walk_fills asked c s m t u h in
    let same : counts u ≡ counts t = ap counts f.1 ∙ counts-fill t f.0 in
    let P : List ℕ → Type 0 = λ z. All IsSmall z in
    subst P (sym same) (counts_small t (spelled_in_range t x p))

-- none of the numbers of a row that was read is too large, so the number of the rows is
pub only_rows : {S E : Type 0} (asked : Asks S E) (c : ℕ) (s m : S) (t u : Tree) (x : List ℕ) (n size : ℕ) → Spelled t x → walk asked c s t ≡ accepted u m →
    IsTooLarge (counts u ++ n ∷ []) size → (size ≡ n) × (2 ^ 32 - 1 < size)
only_rows asked c s m t u x n size p h q = elim (Contains-append_cases (counts u) (n ∷ []) size q.counted) [
  | inl among ↦
      let small : size < 2 ^ 32 = All-contains IsSmall (counts u) size (walk_counts_small asked c s m t u x p h) among in
      let large : 2 ^ 32 - 1 < size = q.large in absurd (omega arith)
  | inr last ↦ (one last, q.large)
]
  where
    one : Contains (n ∷ []) size → size ≡ n
    one h = All-contains (λ y. y ≡ n) (n ∷ []) size (All-cons (λ y. y ≡ n) n [] refl (All-nil (λ y. y ≡ n))) h
