-- The answers under which a tree, or a text, stays as it is.
use Rattle.std.proofs.Common.{◌≡◌, ℕ, zero, suc, List, [], ◌∷◌, ◌++◌, length, drop, get_or, Option, None, refl, sym, ap, ap₂, ◌∙◌, subst}
use Rattle.std.proofs.Math.Seq.{drop-nil}
use Rattle.wasm_shapes.specs.declared.SectionId.{SectionId}
use Rattle.wasm_shapes.specs.declared.Visit.{Visit}
use Rattle.wasm_shapes.specs.declared.Visit.TheVariants.{Index, Pop}
use Rattle.wasm_shapes.specs.declared.Space.TheVariants as space
use Rattle.wasm_shapes.specs.Tree.{Tree, visits, visits_from, before, behind, kind, after, past, fill, aimed_at, normal, Listed}
use Rattle.wasm_shapes.specs.Spells.{Spells}
use Rattle.wasm_shapes.proofs.Laws.{one_tree, filled_read_back}
use Rattle.reencode_core.specs.Kept.{OwnAnswers, IsKept}
use Rattle.reencode_core.specs.Kept as statements

-- ---- lists of visits one behind another

drop_more : {A : Type 0} (n : ℕ) (xs : List A) → drop n (drop 1 xs) ≡ drop (suc n) xs
drop_more {A = A} n [] = drop-nil {A = A} n
drop_more n (x ∷ xs) = refl

pub own_both : (xs ys : List Visit) (a : List ℕ) → OwnAnswers xs a → OwnAnswers ys (drop (length xs) a) → OwnAnswers (xs ++ ys) a
own_both [] ys a p q = q
own_both (v ∷ xs) ys a p q =
    let P : List ℕ → Type 0 = λ z. OwnAnswers ys z in
    (p.0, own_both xs ys (drop 1 a) p.1 (subst P (sym (drop_more (length xs) a)) q))

pub own_parts : (xs ys : List Visit) (a : List ℕ) → OwnAnswers (xs ++ ys) a → OwnAnswers xs a × OwnAnswers ys (drop (length xs) a)
own_parts [] ys a p = (tt, p)
own_parts (v ∷ xs) ys a p =
    let P : List ℕ → Type 0 = λ z. OwnAnswers ys z in
    let q = own_parts xs ys (drop 1 a) p.1 in
    ((p.0, q.0), subst P (drop_more (length xs) a) q.1)

-- a visit of the section hook asks no index, nor does one of the closing hook
own_before : (l : Option SectionId) (t : Tree) (a : List ℕ) → OwnAnswers (before l t) a
own_before l (Tree.row k t) a = own_before l t a
own_before l (Tree.told k t) a = (tt, tt)
own_before l _ a = tt

own_behind : (t : Tree) (a : List ℕ) → OwnAnswers (behind t) a
own_behind (Tree.row k t) a = own_behind t a
own_behind (Tree.told k t) a = (tt, tt)
own_behind _ a = tt

length-before : (t : Tree) (l m : Option SectionId) → length (before l t) ≡ length (before m t)
length-before (Tree.row k t) l m = length-before t l m
length-before _ l m = refl

-- ---- a tree that stays as it is

left_parts : (w : Listed) (n : ℕ) (o o' t t' : Tree) → aimed_at w n o' t' ≡ Tree.left w o t → (n ≡ 0) × (o' ≡ o) × (t' ≡ t)
left_parts w zero o o' t t' e = (refl, cc, cc)
left_parts w (suc n) o o' t t' e = absurd cc

pub own_filled : (l : Option SectionId) (t : Tree) (a : List ℕ) → fill t a ≡ t → OwnAnswers (visits_from l t) a
own_filled l (Tree.ix s i) a e = (cc, tt)
own_filled l (Tree.sx s i) a e = (cc, tt)
own_filled l (Tree.outer s c i) a e = (cc, tt)
own_filled l (Tree.mem al i o) a e = (cc, tt)
own_filled l (Tree.pair t u) a e =
    let p : fill t a ≡ t = cc in
    let q : fill u (after t a) ≡ u = cc in
    own_both (visits t) (visits u) a (own_filled None t a p) (own_filled None u (after t a) q)
own_filled l (Tree.swap t u) a e =
    let p : fill t (after u a) ≡ t = cc in
    let q : fill u a ≡ u = cc in
    own_both (visits u) (visits t) a (own_filled None u a q) (own_filled None t (after u a) p)
own_filled l (Tree.cons t u) a e =
    let p : fill t a ≡ t = cc in
    let q : fill u (after t a) ≡ u = cc in
    own_both (visits t) (visits u) a (own_filled None t a p) (own_filled None u (after t a) q)
own_filled l (Tree.final t u) a e =
    let p : fill t a ≡ t = cc in
    let q : fill u (after t a) ≡ u = cc in
    own_both (visits t) (visits u) a (own_filled None t a p) (own_filled None u (after t a) q)
own_filled l (Tree.vec t) a e = let p : fill t a ≡ t = cc in own_filled None t a p
own_filled l (Tree.present t) a e = let p : fill t a ≡ t = cc in own_filled None t a p
own_filled l (Tree.sized t) a e = let p : fill t a ≡ t = cc in own_filled None t a p
own_filled l (Tree.row k t) a e = let p : fill t a ≡ t = cc in own_filled None t a p
own_filled l (Tree.scope t) a e =
    let p : fill t (drop 1 a) ≡ t = cc in
    (tt, own_both (visits t) (Pop ∷ []) (drop 1 a) (own_filled None t (drop 1 a) p) (tt, tt))
own_filled l (Tree.spare b t) a e = let p : fill t a ≡ t = cc in own_filled None t a p
own_filled l (Tree.kept b t) a e = let p : fill t a ≡ t = cc in own_filled None t a p
own_filled l (Tree.until b t) a e = let p : fill t a ≡ t = cc in own_filled None t a p
own_filled l (Tree.op c t) a e = let p : fill t a ≡ t = cc in own_filled None t a p
own_filled l (Tree.told k t) a e = let p : fill t a ≡ t = cc in own_filled None t a p
own_filled l (Tree.left w o t) a e =
    let p = left_parts w (get_or (after t a) 0 0) o (fill o (drop 1 (after t a))) t (fill t a) e in
    own_both (visits t) (Index space.Table 0 ∷ visits o) a (own_filled None t a p.2) (p.0, own_filled None o (drop 1 (after t a)) p.1)
own_filled l (Tree.aimed w i o t) a e =
    let p : get_or (after t a) 0 0 ≡ i = cc in
    let q : fill o (drop 1 (after t a)) ≡ o = cc in
    let r : fill t a ≡ t = cc in
    own_both (visits t) (Index space.Table i ∷ visits o) a (own_filled None t a r) (p, own_filled None o (drop 1 (after t a)) q)
own_filled l (Tree.placed i o t) a e =
    let p : get_or a 0 0 ≡ i = cc in
    let q : fill o (drop 1 a) ≡ o = cc in
    let r : fill t (after o (drop 1 a)) ≡ t = cc in
    (p, own_both (visits o) (visits t) (drop 1 a) (own_filled None o (drop 1 a) q) (own_filled None t (after o (drop 1 a)) r))
own_filled l (Tree.also t u) a e =
    let b : List ℕ = drop (length (before None t)) a in
    let p : fill t b ≡ t = cc in
    let q : fill u (past t b) ≡ u = cc in
    let others : List Visit = visits_from (kind l t) u in
    let P : ℕ → Type 0 = λ n. OwnAnswers (visits t ++ (behind t ++ others)) (drop n a) in
    own_both (before l t) (visits t ++ (behind t ++ others)) a (own_before l t a)
    (subst P (length-before t None l)
    (own_both (visits t) (behind t ++ others) b (own_filled None t b p) (own_both (behind t) others (after t b) (own_behind t (after t b)) (own_filled (kind l t) u (past t b) q))))
own_filled l Tree.finish a e = (tt, tt)
own_filled l _ a e = tt

pub filled_own : (l : Option SectionId) (t : Tree) (a : List ℕ) → OwnAnswers (visits_from l t) a → fill t a ≡ t
filled_own l (Tree.ix s i) a p = ap (λ (n : ℕ). Tree.ix s n) p.0
filled_own l (Tree.sx s i) a p = ap (λ (n : ℕ). Tree.sx s n) p.0
filled_own l (Tree.outer s c i) a p = ap (λ (n : ℕ). Tree.outer s c n) p.0
filled_own l (Tree.mem al i o) a p = ap (λ (n : ℕ). Tree.mem al n o) p.0
filled_own l (Tree.pair t u) a p =
    let q = own_parts (visits t) (visits u) a p in
    ap₂ Tree.pair (filled_own None t a q.0) (filled_own None u (after t a) q.1)
filled_own l (Tree.swap t u) a p =
    let q = own_parts (visits u) (visits t) a p in
    ap₂ Tree.swap (filled_own None t (after u a) q.1) (filled_own None u a q.0)
filled_own l (Tree.cons t u) a p =
    let q = own_parts (visits t) (visits u) a p in
    ap₂ Tree.cons (filled_own None t a q.0) (filled_own None u (after t a) q.1)
filled_own l (Tree.final t u) a p =
    let q = own_parts (visits t) (visits u) a p in
    ap₂ Tree.final (filled_own None t a q.0) (filled_own None u (after t a) q.1)
filled_own l (Tree.vec t) a p = ap Tree.vec (filled_own None t a p)
filled_own l (Tree.present t) a p = ap Tree.present (filled_own None t a p)
filled_own l (Tree.sized t) a p = ap Tree.sized (filled_own None t a p)
filled_own l (Tree.row k t) a p = ap (λ (u : Tree). Tree.row k u) (filled_own None t a p)
filled_own l (Tree.scope t) a p = ap Tree.scope (filled_own None t (drop 1 a) (own_parts (visits t) (Pop ∷ []) (drop 1 a) p.1).0)
filled_own l (Tree.spare b t) a p = ap (λ (u : Tree). Tree.spare b u) (filled_own None t a p)
filled_own l (Tree.kept b t) a p = ap (λ (u : Tree). Tree.kept b u) (filled_own None t a p)
filled_own l (Tree.until b t) a p = ap (λ (u : Tree). Tree.until b u) (filled_own None t a p)
filled_own l (Tree.op c t) a p = ap (λ (u : Tree). Tree.op c u) (filled_own None t a p)
filled_own l (Tree.told k t) a p = ap (λ (u : Tree). Tree.told k u) (filled_own None t a p)
filled_own l (Tree.left w o t) a p =
    let q = own_parts (visits t) (Index space.Table 0 ∷ visits o) a p in
    ap (λ (n : ℕ). aimed_at w n (fill o (drop 1 (after t a))) (fill t a)) q.1.0
    ∙ ap₂ (λ (x y : Tree). Tree.left w x y) (filled_own None o (drop 1 (after t a)) q.1.1) (filled_own None t a q.0)
filled_own l (Tree.aimed w i o t) a p =
    let q = own_parts (visits t) (Index space.Table i ∷ visits o) a p in
    ap (λ (n : ℕ). Tree.aimed w n (fill o (drop 1 (after t a))) (fill t a)) q.1.0
    ∙ ap₂ (λ (x y : Tree). Tree.aimed w i x y) (filled_own None o (drop 1 (after t a)) q.1.1) (filled_own None t a q.0)
filled_own l (Tree.placed i o t) a p =
    let q = own_parts (visits o) (visits t) (drop 1 a) p.1 in
    ap (λ (n : ℕ). Tree.placed n (fill o (drop 1 a)) (fill t (after o (drop 1 a)))) p.0
    ∙ ap₂ (λ (x y : Tree). Tree.placed i x y) (filled_own None o (drop 1 a) q.0) (filled_own None t (after o (drop 1 a)) q.1)
filled_own l (Tree.also t u) a p =
    let b : List ℕ = drop (length (before None t)) a in
    let others : List Visit = visits_from (kind l t) u in
    let P : ℕ → Type 0 = λ n. OwnAnswers (visits t ++ (behind t ++ others)) (drop n a) in
    let from : OwnAnswers (visits t ++ (behind t ++ others)) b = subst P (length-before t l None) (own_parts (before l t) (visits t ++ (behind t ++ others)) a p).1 in
    let q = own_parts (visits t) (behind t ++ others) b from in
    ap₂ Tree.also (filled_own None t b q.0) (filled_own (kind l t) u (past t b) (own_parts (behind t) others (after t b) q.1).1)
filled_own l _ a p = refl

pub fill_is_own : statements.FillIsOwn
fill_is_own t a = (own_filled None t a, filled_own None t a)

-- ---- a text that stays as it is

pub spelling_is_kept : statements.SpellingIsKept
spelling_is_kept s bytes t a passes p small fits = (forth, back)
  where
    forth : normal (fill t a) ≡ bytes → IsKept bytes t a
    forth e =
        let read : Spells s (normal (fill t a)) (fill t a) = filled_read_back s bytes t a small p fits in
        let P : List ℕ → Type 0 = λ z. Spells s z (fill t a) in
        let same : fill t a ≡ t = one_tree s passes bytes (fill t a) t (subst P e read) p in record {
          normally = ap normal (sym same) ∙ e;
          own = own_filled None t a same;
        }

    back : IsKept bytes t a → normal (fill t a) ≡ bytes
    back k = ap normal (filled_own None t a k.own) ∙ k.normally
