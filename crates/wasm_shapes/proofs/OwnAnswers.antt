-- A tree filled with its own indices is the same tree.
use Rattle.std.proofs.Common.{◌≡◌, ℕ, ◌+◌, List, [], ◌∷◌, ◌++◌, length, map, drop, get_or, Option, None, refl, sym, ap, ap₂, ◌∙◌, append_assoc, append-nil, length-append}
use Rattle.std.proofs.lemmas.List.{map-append, length-map}
use Rattle.std.proofs.Math.Seq.{drop-append_seam}
use Rattle.wasm_shapes.specs.declared.SectionId.{SectionId}
use Rattle.wasm_shapes.specs.declared.Visit.{Visit}
use Rattle.wasm_shapes.specs.declared.Visit.TheVariants.{Index, Pop}
use Rattle.wasm_shapes.specs.declared.Space.TheVariants as space
use Rattle.wasm_shapes.specs.Tree.{Tree, visits, visits_from, before, behind, kind, after, past, fill, aimed_at, Listed}
use Rattle.wasm_shapes.specs.Own.{asked_index, own}
use Rattle.wasm_shapes.specs.Own as statements

-- ---- how many visits a tree has doesn't hang on the section before it

length-before : (t : Tree) (l m : Option SectionId) → length (before l t) ≡ length (before m t)
length-before (Tree.row k t) l m = length-before t l m
length-before _ l m = refl

length-visits : (t : Tree) (l m : Option SectionId) → length (visits_from l t) ≡ length (visits_from m t)
length-visits (Tree.also t u) l m =
    length-append (before l t) _ ∙ ap₂ (λ (a b : ℕ). a + b) (length-before t l m)
    (length-append (visits t) (behind t ++ visits_from (kind l t) u) ∙ ap (λ (b : ℕ). length (visits t) + b)
    (length-append (behind t) _ ∙ ap (λ (b : ℕ). length (behind t) + b) (length-visits u (kind l t) (kind m t)) ∙ sym (length-append (behind t) _))
    ∙ sym (length-append (visits t) (behind t ++ visits_from (kind m t) u)))
    ∙ sym (length-append (before m t) _)
length-visits _ l m = refl

-- ---- the answers to a tree, and others behind them

abbrev given : List Visit → List ℕ → List ℕ
given vs r = map asked_index vs ++ r

split : (xs ys : List Visit) (r : List ℕ) → given (xs ++ ys) r ≡ given xs (given ys r)
split xs ys r = ap (λ (z : List ℕ). z ++ r) (map-append asked_index xs ys) ∙ append_assoc (map asked_index xs) (map asked_index ys) r

drop-given : (xs : List Visit) (r : List ℕ) → drop (length xs) (given xs r) ≡ r
drop-given xs r = ap (λ (n : ℕ). drop n (given xs r)) (sym (length-map xs asked_index)) ∙ drop-append_seam (map asked_index xs) r

after-given : (t : Tree) (l : Option SectionId) (r : List ℕ) → after t (given (visits_from l t) r) ≡ r
after-given t l r = ap (λ (n : ℕ). drop n (given (visits_from l t) r)) (length-visits t None l) ∙ drop-given (visits_from l t) r

past-given : (t : Tree) (r : List ℕ) → past t (given (visits t) (given (behind t) r)) ≡ r
past-given t r = ap (λ (z : List ℕ). drop (length (behind t)) z) (after-given t None (given (behind t) r)) ∙ drop-given (behind t) r

-- the table that was asked, with what is listed and the offset behind it
left_own : (w : Listed) (i : ℕ) (o t o' t' : Tree) → i ≡ 0 → o ≡ o' → t ≡ t' → aimed_at w i o t ≡ Tree.left w o' t'
left_own w i o t o' t' z e f = ap (λ (n : ℕ). aimed_at w n o t) z ∙ ap₂ (λ (a b : Tree). Tree.left w a b) e f

-- two parts, in the order in which they are visited
two : (t u : Tree) (join : Tree → Tree → Tree) (r : List ℕ) → fill t (given (visits t) (given (visits u) r)) ≡ t → fill u (given (visits u) r) ≡ u →
    join (fill t (given (visits t ++ visits u) r)) (fill u (after t (given (visits t ++ visits u) r))) ≡ join t u
two t u join r p q =
    ap (λ (z : List ℕ). join (fill t z) (fill u (after t z))) (split (visits t) (visits u) r)
    ∙ ap₂ join p (ap (λ (z : List ℕ). fill u z) (after-given t None (given (visits u) r)) ∙ q)

fill-given : (t : Tree) (l : Option SectionId) (r : List ℕ) → fill t (given (visits_from l t) r) ≡ t
fill-given (Tree.ix s i) l r = refl
fill-given (Tree.sx s i) l r = refl
fill-given (Tree.outer s c i) l r = refl
fill-given (Tree.mem a i o) l r = refl
fill-given (Tree.pair t u) l r = two t u Tree.pair r (fill-given t None (given (visits u) r)) (fill-given u None r)
fill-given (Tree.swap t u) l r = two u t (λ b a. Tree.swap a b) r (fill-given u None (given (visits t) r)) (fill-given t None r)
fill-given (Tree.cons t u) l r = two t u Tree.cons r (fill-given t None (given (visits u) r)) (fill-given u None r)
fill-given (Tree.final t u) l r = two t u Tree.final r (fill-given t None (given (visits u) r)) (fill-given u None r)
fill-given (Tree.vec t) l r = ap Tree.vec (fill-given t None r)
fill-given (Tree.present t) l r = ap Tree.present (fill-given t None r)
fill-given (Tree.sized t) l r = ap Tree.sized (fill-given t None r)
fill-given (Tree.row k t) l r = ap (λ (u : Tree). Tree.row k u) (fill-given t None r)
fill-given (Tree.scope t) l r =
    ap (λ (z : List ℕ). Tree.scope (fill t z)) (split (visits t) (Pop ∷ []) r) ∙ ap Tree.scope (fill-given t None (given (Pop ∷ []) r))
fill-given (Tree.spare b t) l r = ap (λ (u : Tree). Tree.spare b u) (fill-given t None r)
fill-given (Tree.kept b t) l r = ap (λ (u : Tree). Tree.kept b u) (fill-given t None r)
fill-given (Tree.until b t) l r = ap (λ (u : Tree). Tree.until b u) (fill-given t None r)
fill-given (Tree.op c t) l r = ap (λ (u : Tree). Tree.op c u) (fill-given t None r)
fill-given (Tree.told k t) l r = ap (λ (u : Tree). Tree.told k u) (fill-given t None r)
fill-given (Tree.left w o t) l r =
    let rest = given (Index space.Table 0 ∷ visits o) r in
    let behind : after t (given (visits t) rest) ≡ rest = after-given t None rest in
    ap (λ (z : List ℕ). aimed_at w (get_or (after t z) 0 0) (fill o (drop 1 (after t z))) (fill t z)) (split (visits t) (Index space.Table 0 ∷ visits o) r)
    ∙ left_own w _ _ _ o t (ap (λ (z : List ℕ). get_or z 0 0) behind) (ap (λ (z : List ℕ). fill o (drop 1 z)) behind ∙ fill-given o None r) (fill-given t None rest)
fill-given (Tree.aimed w i o t) l r =
    let rest = given (Index space.Table i ∷ visits o) r in
    let behind : after t (given (visits t) rest) ≡ rest = after-given t None rest in
    ap (λ (z : List ℕ). Tree.aimed w (get_or (after t z) 0 0) (fill o (drop 1 (after t z))) (fill t z)) (split (visits t) (Index space.Table i ∷ visits o) r)
    ∙ ap (λ (n : ℕ). Tree.aimed w n (fill o (drop 1 (after t (given (visits t) rest)))) (fill t (given (visits t) rest))) (ap (λ (z : List ℕ). get_or z 0 0) behind)
    ∙ ap₂ (λ (a b : Tree). Tree.aimed w i a b) (ap (λ (z : List ℕ). fill o (drop 1 z)) behind ∙ fill-given o None r) (fill-given t None rest)
fill-given (Tree.placed i o t) l r = two o t (λ a b. Tree.placed i a b) r (fill-given o None (given (visits t) r)) (fill-given t None r)
fill-given (Tree.also t u) l r =
    let bs = before l t in
    let rest = given (visits_from (kind l t) u) r in
    let told = given (behind t) rest in
    let own_rest = given (visits t) told in
    let inner : given (visits t ++ (behind t ++ visits_from (kind l t) u)) r ≡ own_rest =
    split (visits t) (behind t ++ visits_from (kind l t) u) r ∙ ap (λ (z : List ℕ). given (visits t) z) (split (behind t) (visits_from (kind l t) u) r) in
    let same : given (visits_from l (Tree.also t u)) r ≡ given bs own_rest =
    split bs (visits t ++ (behind t ++ visits_from (kind l t) u)) r ∙ ap (λ (z : List ℕ). given bs z) inner in
    let begun : drop (length (before None t)) (given (visits_from l (Tree.also t u)) r) ≡ own_rest =
    ap (λ (n : ℕ). drop n (given (visits_from l (Tree.also t u)) r)) (length-before t None l) ∙ ap (λ (z : List ℕ). drop (length bs) z) same ∙ drop-given bs own_rest in
    ap (λ (z : List ℕ). Tree.also (fill t z) (fill u (past t z))) begun
    ∙ ap₂ Tree.also (fill-given t None told) (ap (λ (z : List ℕ). fill u z) (past-given t rest) ∙ fill-given u (kind l t) r)
fill-given _ l r = refl

pub fill_own : statements.IsOwn
fill_own t = ap (λ (z : List ℕ). fill t z) (sym (append-nil (own t))) ∙ fill-given t None []
