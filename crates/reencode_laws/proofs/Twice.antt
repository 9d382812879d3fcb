-- Trees that are filled twice.
use Rattle.std.proofs.Common.{◌≡◌, ℕ, zero, suc, List, [], ◌∷◌, ◌++◌, length, drop, get_or, Option, None, refl, sym, ap, ap₂, ◌∙◌, subst, append-nil}
use Rattle.wasm_shapes.specs.declared.SectionId.{SectionId}
use Rattle.wasm_shapes.specs.declared.Space.TheVariants as space
use Rattle.wasm_shapes.specs.declared.Visit.{Visit}
use Rattle.wasm_shapes.specs.declared.Visit.TheVariants.{Index, Push, Pop}
use Rattle.wasm_shapes.specs.Tree.{Tree, Listed, visits, visits_from, before, behind, kind, after, past, fill, aimed_at, typed}
use Rattle.wasm_shapes.specs.Own.{own}
use Rattle.wasm_shapes.proofs.OwnAnswers.{fill_own}
use Rattle.reencode_hooks.specs.Chains.{reindexed}
use Rattle.reencode_laws.specs.Chained.{written_at, written, asked_again, KeepsFirstTable}
use Rattle.reencode_laws.specs.Chained as statements

-- ---- visits asked again

length-asked_again : (vs : List Visit) (a : List ℕ) → length (asked_again vs a) ≡ length vs
length-asked_again [] a = refl
length-asked_again (v ∷ vs) a = ap suc (length-asked_again vs (drop 1 a))

drop_nothing : (n : ℕ) → drop {A = ℕ} n [] ≡ []
drop_nothing zero = refl
drop_nothing (suc n) = refl

pub drop_one_more : (n : ℕ) (a : List ℕ) → drop n (drop 1 a) ≡ drop (suc n) a
drop_one_more n [] = drop_nothing n
drop_one_more n (x ∷ a) = refl

asked_again-append : (xs ys : List Visit) (a : List ℕ) → asked_again (xs ++ ys) a ≡ asked_again xs a ++ asked_again ys (drop (length xs) a)
asked_again-append [] ys a = refl
asked_again-append (x ∷ xs) ys a =
    ap (λ (z : List Visit). reindexed x (get_or a 0 0) ∷ z)
    (asked_again-append xs ys (drop 1 a) ∙ ap (λ (z : List ℕ). asked_again xs (drop 1 a) ++ asked_again ys z) (drop_one_more (length xs) a))

before-again : (l : Option SectionId) (t : Tree) (a : List ℕ) → asked_again (before l t) a ≡ before l t
before-again l (Tree.row k t) a = before-again l t a
before-again l (Tree.told k t) a = refl
before-again l _ a = refl

behind-again : (t : Tree) (a : List ℕ) → asked_again (behind t) a ≡ behind t
behind-again (Tree.row k t) a = behind-again t a
behind-again (Tree.told k t) a = refl
behind-again _ a = refl

pub length-before : (t : Tree) (l m : Option SectionId) → length (before l t) ≡ length (before m t)
length-before (Tree.row k t) l m = length-before t l m
length-before _ l m = refl

-- ---- sections of a filled tree

before-aimed_at : (l : Option SectionId) (w : Listed) (n : ℕ) (o t : Tree) → before l (aimed_at w n o t) ≡ []
before-aimed_at l w zero o t = refl
before-aimed_at l w (suc n) o t = refl

behind-aimed_at : (w : Listed) (n : ℕ) (o t : Tree) → behind (aimed_at w n o t) ≡ []
behind-aimed_at w zero o t = refl
behind-aimed_at w (suc n) o t = refl

kind-aimed_at : (l : Option SectionId) (w : Listed) (n : ℕ) (o t : Tree) → kind l (aimed_at w n o t) ≡ l
kind-aimed_at l w zero o t = refl
kind-aimed_at l w (suc n) o t = refl

pub before-fill : (l : Option SectionId) (t : Tree) (a : List ℕ) → before l (fill t a) ≡ before l t
before-fill l (Tree.row k t) a = before-fill l t a
before-fill l (Tree.left w o t) a = before-aimed_at l w (get_or (after t a) 0 0) (fill o (drop 1 (after t a))) (fill t a)
before-fill l _ a = refl

pub behind-fill : (t : Tree) (a : List ℕ) → behind (fill t a) ≡ behind t
behind-fill (Tree.row k t) a = behind-fill t a
behind-fill (Tree.left w o t) a = behind-aimed_at w (get_or (after t a) 0 0) (fill o (drop 1 (after t a))) (fill t a)
behind-fill _ a = refl

pub kind-fill : (l : Option SectionId) (t : Tree) (a : List ℕ) → kind l (fill t a) ≡ kind l t
kind-fill l (Tree.row k t) a = kind-fill l t a
kind-fill l (Tree.left w o t) a = kind-aimed_at l w (get_or (after t a) 0 0) (fill o (drop 1 (after t a))) (fill t a)
kind-fill l _ a = refl

-- ---- the visits of a filled tree

visits-typed : (w : Listed) (t : Tree) → visits (typed w t) ≡ visits t
visits-typed Listed.functions t = refl
visits-typed Listed.expressions t = append-nil (visits t)

visits-aimed_at : (l : Option SectionId) (w : Listed) (n : ℕ) (o t : Tree) → visits_from l (aimed_at w n o t) ≡ visits t ++ (Index space.Table n ∷ visits o)
visits-aimed_at l w zero o t = refl
visits-aimed_at l w (suc n) o t = ap (λ (z : List Visit). z ++ (Index space.Table (suc n) ∷ visits o)) (visits-typed w t)

both : (xs ys xs' ys' : List Visit) (a : List ℕ) → xs' ≡ asked_again xs a → ys' ≡ asked_again ys (drop (length xs) a) → xs' ++ ys' ≡ asked_again (xs ++ ys) a
both xs ys xs' ys' a p q = ap₂ (λ (x y : List Visit). x ++ y) p q ∙ sym (asked_again-append xs ys a)

pub visits-fill : (l : Option SectionId) (t : Tree) (a : List ℕ) → visits_from l (fill t a) ≡ asked_again (visits_from l t) a
visits-fill l (Tree.ix s i) a = refl
visits-fill l (Tree.sx s i) a = refl
visits-fill l (Tree.outer s c i) a = refl
visits-fill l (Tree.mem m i o) a = refl
visits-fill l (Tree.pair t u) a = both (visits t) (visits u) (visits (fill t a)) (visits (fill u (after t a))) a (visits-fill None t a) (visits-fill None u (after t a))
visits-fill l (Tree.swap t u) a = both (visits u) (visits t) (visits (fill u a)) (visits (fill t (after u a))) a (visits-fill None u a) (visits-fill None t (after u a))
visits-fill l (Tree.cons t u) a = both (visits t) (visits u) (visits (fill t a)) (visits (fill u (after t a))) a (visits-fill None t a) (visits-fill None u (after t a))
visits-fill l (Tree.final t u) a = both (visits t) (visits u) (visits (fill t a)) (visits (fill u (after t a))) a (visits-fill None t a) (visits-fill None u (after t a))
visits-fill l (Tree.vec t) a = visits-fill None t a
visits-fill l (Tree.present t) a = visits-fill None t a
visits-fill l (Tree.sized t) a = visits-fill None t a
visits-fill l (Tree.row k t) a = visits-fill None t a
visits-fill l (Tree.scope t) a =
    ap (λ (z : List Visit). Push ∷ z) (both (visits t) (Pop ∷ []) (visits (fill t (drop 1 a))) (Pop ∷ []) (drop 1 a) (visits-fill None t (drop 1 a)) refl)
visits-fill l (Tree.spare b t) a = visits-fill None t a
visits-fill l (Tree.kept b t) a = visits-fill None t a
visits-fill l (Tree.until b t) a = visits-fill None t a
visits-fill l (Tree.op c t) a = visits-fill None t a
visits-fill l (Tree.left w o t) a =
    let n = get_or (after t a) 0 0 in
    let rest = drop 1 (after t a) in
    visits-aimed_at l w n (fill o rest) (fill t a)
    ∙ both (visits t) (Index space.Table 0 ∷ visits o) (visits (fill t a)) (Index space.Table n ∷ visits (fill o rest)) a
    (visits-fill None t a) (ap (λ (z : List Visit). Index space.Table n ∷ z) (visits-fill None o rest))
visits-fill l (Tree.aimed w i o t) a =
    let n = get_or (after t a) 0 0 in
    let rest = drop 1 (after t a) in
    both (visits t) (Index space.Table i ∷ visits o) (visits (fill t a)) (Index space.Table n ∷ visits (fill o rest)) a
    (visits-fill None t a) (ap (λ (z : List Visit). Index space.Table n ∷ z) (visits-fill None o rest))
visits-fill l (Tree.placed i o t) a =
    let rest = drop 1 a in
    ap (λ (z : List Visit). Index space.Memory (get_or a 0 0) ∷ z)
    (both (visits o) (visits t) (visits (fill o rest)) (visits (fill t (after o rest))) rest (visits-fill None o rest) (visits-fill None t (after o rest)))
visits-fill l (Tree.told k t) a = visits-fill None t a
visits-fill l (Tree.also t u) a =
    let own = drop (length (before None t)) a in
    let t' = fill t own in
    let u' = fill u (past t own) in
    let others : List Visit = visits_from (kind l t) u in
    let begun : drop (length (before l t)) a ≡ own = ap (λ (n : ℕ). drop n a) (length-before t l None) in
    both (before l t) (visits t ++ (behind t ++ others)) (before l t') (visits t' ++ (behind t' ++ visits_from (kind l t') u')) a
    (before-fill l t own ∙ sym (before-again l t a))
    (ap (λ (k : Option SectionId). visits t' ++ (behind t' ++ visits_from k u')) (kind-fill l t own)
    ∙ both (visits t) (behind t ++ others) (visits t') (behind t' ++ visits_from (kind l t) u') own (visits-fill None t own)
    (both (behind t) others (behind t') (visits_from (kind l t) u') (after t own)
    (behind-fill t own ∙ sym (behind-again t (after t own))) (visits-fill (kind l t) u (past t own)))
    ∙ ap (asked_again (visits t ++ (behind t ++ others))) (sym begun))
visits-fill l _ a = refl

length-visits-fill : (t : Tree) (a : List ℕ) → length (visits (fill t a)) ≡ length (visits t)
length-visits-fill t a = ap length (visits-fill None t a) ∙ length-asked_again (visits t) a

after-fill : (t : Tree) (a b : List ℕ) → after (fill t a) b ≡ after t b
after-fill t a b = ap (λ (n : ℕ). drop n b) (length-visits-fill t a)

past-fill : (t : Tree) (a b : List ℕ) → past (fill t a) b ≡ past t b
past-fill t a b = ap₂ (λ (n : ℕ) (z : List ℕ). drop n z) (ap length (behind-fill t a)) (after-fill t a b)

after-typed : (w : Listed) (t : Tree) (b : List ℕ) → after (typed w t) b ≡ after t b
after-typed w t b = ap (λ (z : List Visit). drop (length z) b) (visits-typed w t)

-- ---- filled a second time

fill-typed : (w : Listed) (t : Tree) (b : List ℕ) → fill (typed w t) b ≡ typed w (fill t b)
fill-typed Listed.functions t b = refl
fill-typed Listed.expressions t b = refl

written-typed : (w : Listed) (t : Tree) (a : List ℕ) → written (typed w t) a ≡ typed w (written t a)
written-typed Listed.functions t a = refl
written-typed Listed.expressions t a = refl

-- two parts, in the order in which they are visited
two : (t u : Tree) (join : Tree → Tree → Tree) (a b : List ℕ) → fill (fill t a) b ≡ written (fill t b) a
    → fill (fill u (after t a)) (after t b) ≡ written (fill u (after t b)) (after t a)
    → join (fill (fill t a) b) (fill (fill u (after t a)) (after (fill t a) b)) ≡ join (written (fill t b) a) (written (fill u (after t b)) (after (fill t b) a))
two t u join a b p q =
    ap₂ join p (ap (fill (fill u (after t a))) (after-fill t a b) ∙ q ∙ ap (written (fill u (after t b))) (sym (after-fill t b a)))

-- an element segment: its table is written or left out, the first time and the second
table : (w : Listed) (i j : ℕ) (o t : Tree) (a b p q : List ℕ) → get_or p 0 0 ≡ i → get_or q 0 0 ≡ j → after t a ≡ p → after t b ≡ q
    → fill (fill t a) b ≡ written (fill t b) a → fill (fill o (drop 1 p)) (drop 1 q) ≡ written (fill o (drop 1 q)) (drop 1 p)
    → fill (aimed_at w i (fill o (drop 1 p)) (fill t a)) b ≡ written (aimed_at w j (fill o (drop 1 q)) (fill t b)) a
table w i j o t a b p q at_p at_q is_p is_q same_t same_o = go i j at_p at_q
  where
    o1 : Tree
    o1 = fill o (drop 1 p)

    t1 : Tree
    t1 = fill t a

    o2 : Tree
    o2 = fill o (drop 1 q)

    t2 : Tree
    t2 = fill t b

    again : after t1 b ≡ q
    again = after-fill t a b ∙ is_q

    first : after t2 a ≡ p
    first = after-fill t b a ∙ is_p

    -- the second time, where the table is left out by then, and where it is written
    left_then : fill (Tree.left w o1 t1) b ≡ aimed_at w (get_or q 0 0) (fill o1 (drop 1 q)) (fill t1 b)
    left_then = ap (λ (z : List ℕ). aimed_at w (get_or z 0 0) (fill o1 (drop 1 z)) (fill t1 b)) again

    aimed_then : (n : ℕ) → fill (Tree.aimed w n o1 (typed w t1)) b ≡ Tree.aimed w (get_or q 0 0) (fill o1 (drop 1 q)) (typed w (fill t1 b))
    aimed_then n =
        ap (λ (z : List ℕ). Tree.aimed w (get_or z 0 0) (fill o1 (drop 1 z)) (fill (typed w t1) b)) (after-typed w t1 b ∙ again)
        ∙ ap (λ (z : Tree). Tree.aimed w (get_or q 0 0) (fill o1 (drop 1 q)) z) (fill-typed w t1 b)

    left_here : written (Tree.left w o2 t2) a ≡ written_at w (get_or p 0 0) (written o2 (drop 1 p)) (written t2 a)
    left_here = ap (λ (z : List ℕ). written_at w (get_or z 0 0) (written o2 (drop 1 z)) (written t2 a)) first

    aimed_here : (n : ℕ) → written (Tree.aimed w n o2 (typed w t2)) a ≡ Tree.aimed w n (written o2 (drop 1 p)) (typed w (written t2 a))
    aimed_here n =
        ap (λ (z : List ℕ). Tree.aimed w n (written o2 (drop 1 z)) (written (typed w t2) a)) (after-typed w t2 a ∙ first)
        ∙ ap (λ (z : Tree). Tree.aimed w n (written o2 (drop 1 p)) z) (written-typed w t2 a)

    go : (i j : ℕ) → get_or p 0 0 ≡ i → get_or q 0 0 ≡ j → fill (aimed_at w i o1 t1) b ≡ written (aimed_at w j o2 t2) a
    go zero zero x y =
        left_then ∙ ap (λ (n : ℕ). aimed_at w n (fill o1 (drop 1 q)) (fill t1 b)) y
        ∙ ap₂ (λ (c d : Tree). Tree.left w c d) same_o same_t
        ∙ sym (left_here ∙ ap (λ (n : ℕ). written_at w n (written o2 (drop 1 p)) (written t2 a)) x)
    go zero (suc j) x y =
        left_then ∙ ap (λ (n : ℕ). aimed_at w n (fill o1 (drop 1 q)) (fill t1 b)) y
        ∙ ap₂ (λ (c d : Tree). Tree.aimed w (suc j) c (typed w d)) same_o same_t
        ∙ sym (aimed_here (suc j))
    go (suc i) zero x y =
        aimed_then (suc i) ∙ ap (λ (n : ℕ). Tree.aimed w n (fill o1 (drop 1 q)) (typed w (fill t1 b))) y
        ∙ ap₂ (λ (c d : Tree). Tree.aimed w 0 c (typed w d)) same_o same_t
        ∙ sym (left_here ∙ ap (λ (n : ℕ). written_at w n (written o2 (drop 1 p)) (written t2 a)) x)
    go (suc i) (suc j) x y =
        aimed_then (suc i) ∙ ap (λ (n : ℕ). Tree.aimed w n (fill o1 (drop 1 q)) (typed w (fill t1 b))) y
        ∙ ap₂ (λ (c d : Tree). Tree.aimed w (suc j) c (typed w d)) same_o same_t
        ∙ sym (aimed_here (suc j))

pub fill-fill : (t : Tree) (a b : List ℕ) → fill (fill t a) b ≡ written (fill t b) a
fill-fill (Tree.ix s i) a b = refl
fill-fill (Tree.sx s i) a b = refl
fill-fill (Tree.outer s c i) a b = refl
fill-fill (Tree.mem m i o) a b = refl
fill-fill (Tree.pair t u) a b = two t u Tree.pair a b (fill-fill t a b) (fill-fill u (after t a) (after t b))
fill-fill (Tree.swap t u) a b = two u t (λ x y. Tree.swap y x) a b (fill-fill u a b) (fill-fill t (after u a) (after u b))
fill-fill (Tree.cons t u) a b = two t u Tree.cons a b (fill-fill t a b) (fill-fill u (after t a) (after t b))
fill-fill (Tree.final t u) a b = two t u Tree.final a b (fill-fill t a b) (fill-fill u (after t a) (after t b))
fill-fill (Tree.vec t) a b = ap Tree.vec (fill-fill t a b)
fill-fill (Tree.present t) a b = ap Tree.present (fill-fill t a b)
fill-fill (Tree.sized t) a b = ap Tree.sized (fill-fill t a b)
fill-fill (Tree.row k t) a b = ap (λ (u : Tree). Tree.row k u) (fill-fill t a b)
fill-fill (Tree.scope t) a b = ap Tree.scope (fill-fill t (drop 1 a) (drop 1 b))
fill-fill (Tree.spare c t) a b = ap (λ (u : Tree). Tree.spare c u) (fill-fill t a b)
fill-fill (Tree.kept c t) a b = ap (λ (u : Tree). Tree.kept c u) (fill-fill t a b)
fill-fill (Tree.until c t) a b = ap (λ (u : Tree). Tree.until c u) (fill-fill t a b)
fill-fill (Tree.op c t) a b = ap (λ (u : Tree). Tree.op c u) (fill-fill t a b)
fill-fill (Tree.left w o t) a b =
    table w (get_or (after t a) 0 0) (get_or (after t b) 0 0) o t a b (after t a) (after t b) refl refl refl refl
    (fill-fill t a b) (fill-fill o (drop 1 (after t a)) (drop 1 (after t b)))
fill-fill (Tree.aimed w i o t) a b =
    let p = drop 1 (after t a) in
    let q = drop 1 (after t b) in
    ap (λ (z : List ℕ). Tree.aimed w (get_or z 0 0) (fill (fill o p) (drop 1 z)) (fill (fill t a) b)) (after-fill t a b)
    ∙ ap₂ (λ (c d : Tree). Tree.aimed w (get_or (after t b) 0 0) c d) (fill-fill o p q) (fill-fill t a b)
    ∙ ap (λ (z : List ℕ). Tree.aimed w (get_or (after t b) 0 0) (written (fill o q) (drop 1 z)) (written (fill t b) a)) (sym (after-fill t b a))
fill-fill (Tree.placed i o t) a b =
    two o t (λ x y. Tree.placed (get_or b 0 0) x y) (drop 1 a) (drop 1 b) (fill-fill o (drop 1 a) (drop 1 b)) (fill-fill t (after o (drop 1 a)) (after o (drop 1 b)))
fill-fill (Tree.told k t) a b = ap (λ (u : Tree). Tree.told k u) (fill-fill t a b)
fill-fill (Tree.also t u) a b =
    let n = length (before None t) in
    let p = drop n a in
    let q = drop n b in
    let same : (z : List ℕ) → length (before None (fill t z)) ≡ n = λ z. ap length (before-fill None t z) in
    ap (λ (m : ℕ). Tree.also (fill (fill t p) (drop m b)) (fill (fill u (past t p)) (past (fill t p) (drop m b)))) (same p)
    ∙ ap₂ Tree.also (fill-fill t p q)
    (ap (fill (fill u (past t p))) (past-fill t p q) ∙ fill-fill u (past t p) (past t q) ∙ ap (written (fill u (past t q))) (sym (past-fill t q p)))
    ∙ ap (λ (m : ℕ). Tree.also (written (fill t q) (drop m a)) (written (fill u (past t q)) (past (fill t q) (drop m a)))) (sym (same q))
fill-fill _ a b = refl

-- ---- where the first answers keep the table 0

keeps_split : (xs ys : List Visit) (a : List ℕ) → KeepsFirstTable (xs ++ ys) a → KeepsFirstTable xs a × KeepsFirstTable ys (drop (length xs) a)
keeps_split [] ys a h = (tt, h)
keeps_split (x ∷ xs) ys a h =
    let rest = keeps_split xs ys (drop 1 a) h.1 in
    let P : List ℕ → Type 0 = KeepsFirstTable ys in
    ((h.0, rest.0), subst P (drop_one_more (length xs) a) rest.1)

two_kept : (t u : Tree) (join : Tree → Tree → Tree) (a b d : List ℕ) → written (fill t b) a ≡ fill t b → written (fill u d) (after t a) ≡ fill u d
    → join (written (fill t b) a) (written (fill u d) (after (fill t b) a)) ≡ join (fill t b) (fill u d)
two_kept t u join a b d p q = ap₂ join p (ap (written (fill u d)) (after-fill t b a) ∙ q)

table_kept : (w : Listed) (j : ℕ) (o t : Tree) (a p : List ℕ) → after t a ≡ p → get_or p 0 0 ≡ 0 → written t a ≡ t → written o (drop 1 p) ≡ o
    → written (aimed_at w j o t) a ≡ aimed_at w j o t
table_kept w zero o t a p is_p none same_t same_o =
    ap (λ (z : List ℕ). written_at w (get_or z 0 0) (written o (drop 1 z)) (written t a)) is_p
    ∙ ap (λ (n : ℕ). written_at w n (written o (drop 1 p)) (written t a)) none
    ∙ ap₂ (λ (c d : Tree). Tree.left w c d) same_o same_t
table_kept w (suc j) o t a p is_p none same_t same_o =
    ap (λ (z : List ℕ). Tree.aimed w (suc j) (written o (drop 1 z)) (written (typed w t) a)) (after-typed w t a ∙ is_p)
    ∙ ap (λ (z : Tree). Tree.aimed w (suc j) (written o (drop 1 p)) z) (written-typed w t a)
    ∙ ap₂ (λ (c d : Tree). Tree.aimed w (suc j) c (typed w d)) same_o same_t

kept : (l : Option SectionId) (t : Tree) (a b : List ℕ) → KeepsFirstTable (visits_from l t) a → written (fill t b) a ≡ fill t b
kept l (Tree.pair t u) a b h =
    let k = keeps_split (visits t) (visits u) a h in two_kept t u Tree.pair a b (after t b) (kept None t a b k.0) (kept None u (after t a) (after t b) k.1)
kept l (Tree.swap t u) a b h =
    let k = keeps_split (visits u) (visits t) a h in two_kept u t (λ x y. Tree.swap y x) a b (after u b) (kept None u a b k.0) (kept None t (after u a) (after u b) k.1)
kept l (Tree.cons t u) a b h =
    let k = keeps_split (visits t) (visits u) a h in two_kept t u Tree.cons a b (after t b) (kept None t a b k.0) (kept None u (after t a) (after t b) k.1)
kept l (Tree.final t u) a b h =
    let k = keeps_split (visits t) (visits u) a h in two_kept t u Tree.final a b (after t b) (kept None t a b k.0) (kept None u (after t a) (after t b) k.1)
kept l (Tree.vec t) a b h = ap Tree.vec (kept None t a b h)
kept l (Tree.present t) a b h = ap Tree.present (kept None t a b h)
kept l (Tree.sized t) a b h = ap Tree.sized (kept None t a b h)
kept l (Tree.row k t) a b h = ap (λ (u : Tree). Tree.row k u) (kept None t a b h)
kept l (Tree.scope t) a b h = ap Tree.scope (kept None t (drop 1 a) (drop 1 b) (keeps_split (visits t) (Pop ∷ []) (drop 1 a) h.1).0)
kept l (Tree.spare c t) a b h = ap (λ (u : Tree). Tree.spare c u) (kept None t a b h)
kept l (Tree.kept c t) a b h = ap (λ (u : Tree). Tree.kept c u) (kept None t a b h)
kept l (Tree.until c t) a b h = ap (λ (u : Tree). Tree.until c u) (kept None t a b h)
kept l (Tree.op c t) a b h = ap (λ (u : Tree). Tree.op c u) (kept None t a b h)
kept l (Tree.left w o t) a b h =
    let k = keeps_split (visits t) (Index space.Table 0 ∷ visits o) a h in
    table_kept w (get_or (after t b) 0 0) (fill o (drop 1 (after t b))) (fill t b) a (after t a) (after-fill t b a) (k.1.0 refl)
    (kept None t a b k.0) (kept None o (drop 1 (after t a)) (drop 1 (after t b)) k.1.1)
kept l (Tree.aimed w i o t) a b h =
    let k = keeps_split (visits t) (Index space.Table i ∷ visits o) a h in
    ap (λ (z : List ℕ). Tree.aimed w (get_or (after t b) 0 0) (written (fill o (drop 1 (after t b))) (drop 1 z)) (written (fill t b) a)) (after-fill t b a)
    ∙ ap₂ (λ (c d : Tree). Tree.aimed w (get_or (after t b) 0 0) c d) (kept None o (drop 1 (after t a)) (drop 1 (after t b)) k.1.1) (kept None t a b k.0)
kept l (Tree.placed i o t) a b h =
    let k = keeps_split (visits o) (visits t) (drop 1 a) h.1 in
    two_kept o t (λ x y. Tree.placed (get_or b 0 0) x y) (drop 1 a) (drop 1 b) (after o (drop 1 b)) (kept None o (drop 1 a) (drop 1 b) k.0) (kept None t (after o (drop 1 a)) (after o (drop 1 b)) k.1)
kept l (Tree.told k t) a b h = ap (λ (u : Tree). Tree.told k u) (kept None t a b h)
kept l (Tree.also t u) a b h =
    let n = length (before None t) in
    let p = drop n a in
    let q = drop n b in
    let begun : drop (length (before l t)) a ≡ p = ap (λ (m : ℕ). drop m a) (length-before t l None) in
    let others : List Visit = visits_from (kind l t) u in
    let P : List ℕ → Type 0 = KeepsFirstTable (visits t ++ (behind t ++ others)) in
    let rest = subst P begun (keeps_split (before l t) (visits t ++ (behind t ++ others)) a h).1 in
    let k = keeps_split (visits t) (behind t ++ others) p rest in
    let later = (keeps_split (behind t) others (after t p) k.1).1 in
    ap (λ (m : ℕ). Tree.also (written (fill t q) (drop m a)) (written (fill u (past t q)) (past (fill t q) (drop m a)))) (ap length (before-fill None t q))
    ∙ ap₂ Tree.also (kept None t p q k.0) (ap (written (fill u (past t q))) (past-fill t q p) ∙ kept (kind l t) u (past t p) (past t q) later)
kept l _ a b h = refl

pub filled_twice : statements.FilledTwice
filled_twice = record {
  asked = visits-fill None;
  filled = fill-fill;
  alike = λ t a b h. fill-fill t a b ∙ kept None t a b h;
  undone_alike = λ t a h. ap (λ (z : Tree). written z a) (sym (fill_own t)) ∙ kept None t a (own t) h ∙ fill_own t;
  undone = λ t a. fill-fill t a (own t) ∙ ap (λ (z : Tree). written z a) (fill_own t);
}
