-- Tables that are written: the tree's spelling is no shorter, and so it fits where the written one does.
use Rattle.std.proofs.Common.{◌≡◌, ◌≤◌, ◌+◌, ℕ, zero, suc, List, [], ◌∷◌, ◌++◌, length, drop, get_or, None, refl, sym, ap, subst, All, arith, length-append}
use Rattle.std.proofs.lemmas.List.Elements.{All-nil, All-cons, All-append, All-head, All-tail}
use Rattle.wasm_leb.specs.Leb.{leb}
use Rattle.wasm_shapes.specs.Tree.{Tree, Listed, count, normal, frames, before, after, past, typed, kind_bytes, final_bytes, left_flag, aimed_flag, placed_bytes, code_bytes}
use Rattle.wasm_shapes.specs.Fits.{Fits}
use Rattle.reencode_laws.specs.Chained.{written_at, written}
use Rattle.wasm_write.proofs.Shorter.{leb_shorter}

count-written_at : (w : Listed) (n : ℕ) (o t : Tree) → count (written_at w n o t) ≡ 0
count-written_at w zero o t = refl
count-written_at w (suc n) o t = refl

count-written : (t : Tree) (a : List ℕ) → count (written t a) ≡ count t
count-written (Tree.cons t u) a = ap suc (count-written u (after t a))
count-written (Tree.left w o t) a = count-written_at w (get_or (after t a) 0 0) (written o (drop 1 (after t a))) (written t a)
count-written _ a = refl

-- ---- lengths

both : (x y x' y' : List ℕ) → length x ≤ length x' → length y ≤ length y' → length (x ++ y) ≤ length (x' ++ y')
both x y x' y' p q =
    let one : length (x ++ y) ≡ length x + length y = length-append x y in
    let two : length (x' ++ y') ≡ length x' + length y' = length-append x' y' in
    omega arith

counted : (m n : ℕ) (y y' : List ℕ) → m ≡ n → length y ≤ length y' → length (leb m ++ y) ≤ length (leb n ++ y')
counted m n y y' e p = both (leb m) y (leb n) y' (leb_shorter m n (omega arith)) p

finals : (m n : ℕ) (x y x' y' : List ℕ) → m ≡ n → length x ≤ length x' → length y ≤ length y' → length (final_bytes m x y) ≤ length (final_bytes n x' y')
finals zero zero x y x' y' e p q = both x y x' y' p q
finals zero (suc n) x y x' y' e p q = absurd (omega arith)
finals (suc m) zero x y x' y' e p q = absurd (omega arith)
finals (suc m) (suc n) x y x' y' e p q =
    let rest : length (leb (suc m) ++ (x ++ y)) ≤ length (leb (suc n) ++ (x' ++ y')) = counted (suc m) (suc n) (x ++ y) (x' ++ y') e (both x y x' y' p q) in
    omega arith

typed_longer : (w : Listed) (t : Tree) → length (normal t) ≤ length (normal (typed w t))
typed_longer Listed.functions t = omega arith
typed_longer Listed.expressions t = omega arith

flags_alike : (w : Listed) → length (leb (left_flag w)) ≤ length (leb (aimed_flag w))
flags_alike Listed.functions = leb_shorter 0 2 (omega arith)
flags_alike Listed.expressions = leb_shorter 4 6 (omega arith)

behind : (x y z : List ℕ) → length y ≤ length z → length y ≤ length (x ++ z)
behind x y z h = let whole : length (x ++ z) ≡ length x + length z = length-append x z in omega arith

written_longer : (w : Listed) (n : ℕ) (o o' t t' : Tree) → length (normal o) ≤ length (normal o') → length (normal t) ≤ length (normal t')
    → length (normal (Tree.left w o t)) ≤ length (normal (written_at w n o' t'))
written_longer w zero o o' t t' p q =
    both (leb (left_flag w)) (normal o ++ normal t) (leb (left_flag w)) (normal o' ++ normal t') (omega arith) (both (normal o) (normal t) (normal o') (normal t') p q)
written_longer w (suc n) o o' t t' p q =
    let items : length (normal t) ≤ length (normal (typed w t')) = let more = typed_longer w t' in omega arith in
    let kind : length (normal t) ≤ length (kind_bytes w ++ normal (typed w t')) = behind (kind_bytes w) (normal t) (normal (typed w t')) items in
    let rest : length (normal o ++ normal t) ≤ length (normal o' ++ (kind_bytes w ++ normal (typed w t'))) = both (normal o) (normal t) (normal o') (kind_bytes w ++ normal (typed w t')) p kind in
    both (leb (left_flag w)) (normal o ++ normal t) (leb (aimed_flag w)) (leb 0 ++ (normal o' ++ (kind_bytes w ++ normal (typed w t')))) (flags_alike w)
    (behind (leb 0) (normal o ++ normal t) (normal o' ++ (kind_bytes w ++ normal (typed w t'))) rest)

pub longer : (t : Tree) (a : List ℕ) → length (normal t) ≤ length (normal (written t a))
longer (Tree.pair t u) a = both (normal t) (normal u) _ _ (longer t a) (longer u (after t a))
longer (Tree.swap t u) a = both (normal t) (normal u) _ _ (longer t (after u a)) (longer u a)
longer (Tree.cons t u) a = both (normal t) (normal u) _ _ (longer t a) (longer u (after t a))
longer (Tree.vec t) a = counted (count t) (count (written t a)) (normal t) (normal (written t a)) (sym (count-written t a)) (longer t a)
longer (Tree.present t) a = let more = longer t a in omega arith
longer (Tree.sized t) a =
    let more : length (normal t) ≤ length (normal (written t a)) = longer t a in
    both (leb (length (normal t))) (normal t) (leb (length (normal (written t a)))) (normal (written t a)) (leb_shorter (length (normal t)) (length (normal (written t a))) more) more
longer (Tree.row k t) a = longer t a
longer (Tree.scope t) a = longer t (drop 1 a)
longer (Tree.spare b t) a = longer t a
longer (Tree.kept b t) a = let more = longer t a in omega arith
longer (Tree.final t u) a = finals (count t) (count (written t a)) (normal t) (normal u) _ _ (sym (count-written t a)) (longer t a) (longer u (after t a))
longer (Tree.until b t) a = both (normal t) (b ∷ []) (normal (written t a)) (b ∷ []) (longer t a) (omega arith)
longer (Tree.op c t) a = both (code_bytes c) (normal t) (code_bytes c) (normal (written t a)) (omega arith) (longer t a)
longer (Tree.left w o t) a =
    written_longer w (get_or (after t a) 0 0) o (written o (drop 1 (after t a))) t (written t a) (longer o (drop 1 (after t a))) (longer t a)
longer (Tree.aimed w i o t) a =
    let o' = written o (drop 1 (after t a)) in
    both (leb (aimed_flag w)) (leb i ++ (normal o ++ (kind_bytes w ++ normal t))) (leb (aimed_flag w)) (leb i ++ (normal o' ++ (kind_bytes w ++ normal (written t a)))) (omega arith)
    (both (leb i) (normal o ++ (kind_bytes w ++ normal t)) (leb i) (normal o' ++ (kind_bytes w ++ normal (written t a))) (omega arith)
    (both (normal o) (kind_bytes w ++ normal t) (normal o') (kind_bytes w ++ normal (written t a)) (longer o (drop 1 (after t a)))
    (both (kind_bytes w) (normal t) (kind_bytes w) (normal (written t a)) (omega arith) (longer t a))))
longer (Tree.placed i o t) a =
    both (placed_bytes i) (normal o ++ normal t) (placed_bytes i) (normal (written o (drop 1 a)) ++ normal (written t (after o (drop 1 a)))) (omega arith)
    (both (normal o) (normal t) (normal (written o (drop 1 a))) (normal (written t (after o (drop 1 a)))) (longer o (drop 1 a)) (longer t (after o (drop 1 a))))
longer (Tree.told k t) a = longer t a
longer (Tree.also t u) a = let own = drop (length (before None t)) a in both (normal t) (normal u) _ _ (longer t own) (longer u (past t own))
longer _ a = omega arith

-- ---- frames

abbrev Within : ℕ → ℕ → Type 0
Within c n = n ≤ c

parts : (c : ℕ) (xs ys : List ℕ) → All (Within c) (xs ++ ys) → All (Within c) xs × All (Within c) ys
parts c [] ys h = (All-nil (Within c), h)
parts c (x ∷ xs) ys h =
    let rest = parts c xs ys (All-tail (Within c) x (xs ++ ys) h) in
    (All-cons (Within c) x xs (All-head (Within c) x (xs ++ ys) h) rest.0, rest.1)

two : (c : ℕ) (xs ys xs' ys' : List ℕ) → (All (Within c) xs' → All (Within c) xs) → (All (Within c) ys' → All (Within c) ys) → All (Within c) (xs' ++ ys') → All (Within c) (xs ++ ys)
two c xs ys xs' ys' p q h = let k = parts c xs' ys' h in All-append (Within c) xs ys (p k.0) (q k.1)

frames-typed : (w : Listed) (t : Tree) → frames (typed w t) ≡ frames t
frames-typed Listed.functions t = refl
frames-typed Listed.expressions t = refl

frames-written_at : (w : Listed) (n : ℕ) (o t : Tree) → frames (written_at w n o t) ≡ frames o ++ frames t
frames-written_at w zero o t = refl
frames-written_at w (suc n) o t = ap (λ (z : List ℕ). frames o ++ z) (frames-typed w t)

pub fits : (c : ℕ) (t : Tree) (a : List ℕ) → Fits (written t a) c → Fits t c
fits c (Tree.pair t u) a h = two c (frames t) (frames u) _ _ (fits c t a) (fits c u (after t a)) h
fits c (Tree.swap t u) a h = two c (frames t) (frames u) _ _ (fits c t (after u a)) (fits c u a) h
fits c (Tree.cons t u) a h = two c (frames t) (frames u) _ _ (fits c t a) (fits c u (after t a)) h
fits c (Tree.vec t) a h = fits c t a h
fits c (Tree.present t) a h = fits c t a h
fits c (Tree.sized t) a h =
    let n' = length (normal (written t a)) in
    let k = parts c (frames (written t a)) (n' ∷ []) h in
    let last : n' ≤ c = All-head (Within c) n' [] k.1 in
    let less : length (normal t) ≤ n' = longer t a in
    All-append (Within c) (frames t) (length (normal t) ∷ []) (fits c t a k.0) (All-cons (Within c) (length (normal t)) [] (omega arith) (All-nil (Within c)))
fits c (Tree.row k t) a h = fits c t a h
fits c (Tree.scope t) a h = fits c t (drop 1 a) h
fits c (Tree.spare b t) a h = fits c t a h
fits c (Tree.kept b t) a h = fits c t a h
fits c (Tree.final t u) a h = two c (frames t) (frames u) _ _ (fits c t a) (fits c u (after t a)) h
fits c (Tree.until b t) a h = fits c t a h
fits c (Tree.op k t) a h = fits c t a h
fits c (Tree.left w o t) a h =
    let P : List ℕ → Type 0 = All (Within c) in
    two c (frames o) (frames t) (frames (written o (drop 1 (after t a)))) (frames (written t a)) (fits c o (drop 1 (after t a))) (fits c t a)
    (subst P (frames-written_at w (get_or (after t a) 0 0) (written o (drop 1 (after t a))) (written t a)) h)
fits c (Tree.aimed w i o t) a h = two c (frames o) (frames t) _ _ (fits c o (drop 1 (after t a))) (fits c t a) h
fits c (Tree.placed i o t) a h = two c (frames o) (frames t) _ _ (fits c o (drop 1 a)) (fits c t (after o (drop 1 a))) h
fits c (Tree.told k t) a h = fits c t a h
fits c (Tree.also t u) a h = let own = drop (length (before None t)) a in two c (frames t) (frames u) _ _ (fits c t own) (fits c u (past t own)) h
fits c _ a h = h
