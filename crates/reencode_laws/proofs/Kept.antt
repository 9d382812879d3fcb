-- The parts of a filled tree.
use Rattle.std.proofs.Common.{◌≡◌, inl, inr, ℕ, zero, suc, ◌+◌, List, [], ◌∷◌, ◌++◌, length, drop, get_or, map, Option, Some, None, refl, sym, ap, ap₂, ◌∙◌, append-nil, length-append}
use Rattle.std.specs.Prelude.{filter_map}
use Rattle.std.specs.List.{AllZip}
use Rattle.wasm_shapes.specs.declared.SectionId.{SectionId}
use Rattle.wasm_shapes.specs.declared.Space.TheVariants as space
use Rattle.wasm_shapes.specs.declared.Visit.{Visit}
use Rattle.wasm_shapes.specs.declared.Visit.TheVariants.{Index, Pop}
use Rattle.wasm_shapes.specs.Tree as trees
use Rattle.wasm_shapes.specs.Tree.{Tree, Listed, count, kind, visits, visits_from, before, after, past, fill, aimed_at, typed, left_flag, aimed_flag}
use Rattle.reencode_laws.specs.Kept.{erased, Part, parts, typed_parts, section_of, row_of, items_of, operator_of, leaf_of, space_of, flags_in, BecomesFlag, flags_asked, flag_by, flags_by}
use Rattle.reencode_laws.specs.Kept as statements
use Rattle.reencode_laws.proofs.Twice.{drop_one_more, length-before, before-fill, behind-fill}

-- two lists of parts side by side
both : {x y x' y' : List Part} → x' ≡ x → y' ≡ y → x' ++ y' ≡ x ++ y
both p q = ap₂ (λ (a b : List Part). a ++ b) p q

typed-parts : (w : Listed) (t : Tree) → parts (typed w t) ≡ typed_parts w (parts t)
typed-parts Listed.functions t = refl
typed-parts Listed.expressions t = refl

-- ---- the indices of a filled tree taken away

erased-typed : (w : Listed) (t : Tree) → erased (typed w t) ≡ typed w (erased t)
erased-typed Listed.functions t = refl
erased-typed Listed.expressions t = refl

erased-aimed_at : (w : Listed) (n : ℕ) (o t : Tree) → erased (aimed_at w n o t) ≡ Tree.aimed w 0 (erased o) (typed w (erased t))
erased-aimed_at w zero o t = refl
erased-aimed_at w (suc n) o t = ap (λ (z : Tree). Tree.aimed w 0 (erased o) z) (erased-typed w t)

pub erased-fill : (t : Tree) (a : List ℕ) → erased (fill t a) ≡ erased t
erased-fill (Tree.pair t u) a = ap₂ Tree.pair (erased-fill t a) (erased-fill u (after t a))
erased-fill (Tree.swap t u) a = ap₂ Tree.swap (erased-fill t (after u a)) (erased-fill u a)
erased-fill (Tree.cons t u) a = ap₂ Tree.cons (erased-fill t a) (erased-fill u (after t a))
erased-fill (Tree.vec t) a = ap Tree.vec (erased-fill t a)
erased-fill (Tree.present t) a = ap Tree.present (erased-fill t a)
erased-fill (Tree.sized t) a = ap Tree.sized (erased-fill t a)
erased-fill (Tree.row k t) a = ap (λ (z : Tree). Tree.row k z) (erased-fill t a)
erased-fill (Tree.scope t) a = ap Tree.scope (erased-fill t (drop 1 a))
erased-fill (Tree.spare b t) a = ap (λ (z : Tree). Tree.spare b z) (erased-fill t a)
erased-fill (Tree.kept b t) a = ap (λ (z : Tree). Tree.kept b z) (erased-fill t a)
erased-fill (Tree.final t u) a = ap₂ Tree.final (erased-fill t a) (erased-fill u (after t a))
erased-fill (Tree.until b t) a = ap (λ (z : Tree). Tree.until b z) (erased-fill t a)
erased-fill (Tree.op c t) a = ap (λ (z : Tree). Tree.op c z) (erased-fill t a)
erased-fill (Tree.left w o t) a =
    erased-aimed_at w (get_or (after t a) 0 0) (fill o (drop 1 (after t a))) (fill t a)
    ∙ ap₂ (λ (y z : Tree). Tree.aimed w 0 y (typed w z)) (erased-fill o (drop 1 (after t a))) (erased-fill t a)
erased-fill (Tree.aimed w i o t) a =
    ap₂ (λ (y z : Tree). Tree.aimed w 0 y z) (erased-fill o (drop 1 (after t a))) (erased-fill t a)
erased-fill (Tree.placed i o t) a =
    ap₂ (λ (y z : Tree). Tree.placed 0 y z) (erased-fill o (drop 1 a)) (erased-fill t (after o (drop 1 a)))
erased-fill (Tree.told k t) a = ap (λ (z : Tree). Tree.told k z) (erased-fill t a)
erased-fill (Tree.also t u) a =
    let own = drop (length (before None t)) a in ap₂ Tree.also (erased-fill t own) (erased-fill u (past t own))
erased-fill _ a = refl

-- ---- the parts of a tree without its indices

count-erased : (t : Tree) → count (erased t) ≡ count t
count-erased (Tree.cons t u) = ap suc (count-erased u)
count-erased _ = refl

kind-erased : (t : Tree) → kind None (erased t) ≡ kind None t
kind-erased (Tree.row k t) = kind-erased t
kind-erased _ = refl

parts-erased : (t : Tree) → parts (erased t) ≡ parts t
parts-erased (Tree.pair t u) = both (parts-erased t) (parts-erased u)
parts-erased (Tree.swap t u) = both (parts-erased t) (parts-erased u)
parts-erased (Tree.cons t u) = both (parts-erased t) (parts-erased u)
parts-erased (Tree.vec t) = ap₂ (λ (n : ℕ) (z : List Part). Part.items n ∷ z) (count-erased t) (parts-erased t)
parts-erased (Tree.present t) = ap (λ (z : List Part). Part.leaf (Tree.fixed 1) ∷ z) (parts-erased t)
parts-erased (Tree.sized t) = ap (λ (z : List Part). Part.frame ∷ z) (parts-erased t)
parts-erased (Tree.row k t) = ap (λ (z : List Part). Part.row k ∷ z) (parts-erased t)
parts-erased (Tree.scope t) = ap (λ (z : List Part). Part.scope ∷ z) (parts-erased t)
parts-erased (Tree.spare b t) = parts-erased t
parts-erased (Tree.kept b t) = ap (λ (z : List Part). Part.leaf (Tree.fixed b) ∷ z) (parts-erased t)
parts-erased (Tree.final t u) =
    ap₂ (λ (n : ℕ) (z : List Part). Part.items n ∷ z) (count-erased t) (both (parts-erased t) (parts-erased u))
parts-erased (Tree.until b t) = ap (λ (z : List Part). z ++ (Part.leaf (Tree.fixed b) ∷ [])) (parts-erased t)
parts-erased (Tree.op c t) = ap (λ (z : List Part). Part.operator c ∷ z) (parts-erased t)
parts-erased (Tree.left w o t) =
    ap (λ (z : List Part). Part.index space.Table ∷ z) (both (parts-erased o) (typed-parts w (erased t) ∙ ap (typed_parts w) (parts-erased t)))
parts-erased (Tree.aimed w i o t) = ap (λ (z : List Part). Part.index space.Table ∷ z) (both (parts-erased o) (parts-erased t))
parts-erased (Tree.placed i o t) = ap (λ (z : List Part). Part.index space.Memory ∷ z) (both (parts-erased o) (parts-erased t))
parts-erased (Tree.told k t) = parts-erased t
parts-erased (Tree.also t u) =
    ap₂ (λ k (z : List Part). Part.section k ∷ z) (kind-erased t) (both (parts-erased t) (parts-erased u))
parts-erased _ = refl

parts-fill : (t : Tree) (a : List ℕ) → parts (fill t a) ≡ parts t
parts-fill t a = sym (parts-erased (fill t a)) ∙ ap parts (erased-fill t a) ∙ parts-erased t

-- ---- flags

stays : {n : ℕ} → BecomesFlag n n
stays = inl refl

zip_both : (xs xs' ys ys' : List ℕ) → AllZip BecomesFlag xs xs' → AllZip BecomesFlag ys ys' → AllZip BecomesFlag (xs ++ ys) (xs' ++ ys')
zip_both [] [] ys ys' p q = q
zip_both [] (x' ∷ xs') ys ys' p q = absurd p
zip_both (x ∷ xs) [] ys ys' p q = absurd p
zip_both (x ∷ xs) (x' ∷ xs') ys ys' p q = (p.0, zip_both xs xs' ys ys' p.1 q)

typed-flags : (w : Listed) (t : Tree) → flags_in (typed w t) ≡ flags_in t
typed-flags Listed.functions t = refl
typed-flags Listed.expressions t = refl

written_flag : (w : Listed) → BecomesFlag (left_flag w) (aimed_flag w)
written_flag Listed.functions = inr (inl (refl, refl))
written_flag Listed.expressions = inr (inr (refl, refl))

aimed_at-flags : (w : Listed) (n : ℕ) (o t : Tree) (fs : List ℕ) → AllZip BecomesFlag fs (flags_in o ++ flags_in t)
    → AllZip BecomesFlag (left_flag w ∷ fs) (flags_in (aimed_at w n o t))
aimed_at-flags w zero o t fs h = (stays, h)
aimed_at-flags w (suc n) o t fs h = (written_flag w, rw (typed-flags w t) h)

pub flags-fill : (t : Tree) (a : List ℕ) → AllZip BecomesFlag (flags_in t) (flags_in (fill t a))
flags-fill (Tree.flag n) a = (stays, tt)
flags-fill (Tree.pair t u) a = zip_both (flags_in t) _ (flags_in u) _ (flags-fill t a) (flags-fill u (after t a))
flags-fill (Tree.swap t u) a = zip_both (flags_in t) _ (flags_in u) _ (flags-fill t (after u a)) (flags-fill u a)
flags-fill (Tree.cons t u) a = zip_both (flags_in t) _ (flags_in u) _ (flags-fill t a) (flags-fill u (after t a))
flags-fill (Tree.vec t) a = flags-fill t a
flags-fill (Tree.present t) a = flags-fill t a
flags-fill (Tree.sized t) a = flags-fill t a
flags-fill (Tree.row k t) a = flags-fill t a
flags-fill (Tree.scope t) a = flags-fill t (drop 1 a)
flags-fill (Tree.spare b t) a = flags-fill t a
flags-fill (Tree.kept b t) a = flags-fill t a
flags-fill (Tree.final t u) a = zip_both (flags_in t) _ (flags_in u) _ (flags-fill t a) (flags-fill u (after t a))
flags-fill (Tree.until b t) a = flags-fill t a
flags-fill (Tree.op c t) a = flags-fill t a
flags-fill (Tree.left w o t) a =
    aimed_at-flags w (get_or (after t a) 0 0) (fill o (drop 1 (after t a))) (fill t a) (flags_in o ++ flags_in t)
    (zip_both (flags_in o) _ (flags_in t) _ (flags-fill o (drop 1 (after t a))) (flags-fill t a))
flags-fill (Tree.aimed w i o t) a = (stays, zip_both (flags_in o) _ (flags_in t) _ (flags-fill o (drop 1 (after t a))) (flags-fill t a))
flags-fill (Tree.placed i o t) a = zip_both (flags_in o) _ (flags_in t) _ (flags-fill o (drop 1 a)) (flags-fill t (after o (drop 1 a)))
flags-fill (Tree.told k t) a = flags-fill t a
flags-fill (Tree.also t u) a =
    let own = drop (length (before None t)) a in zip_both (flags_in t) _ (flags_in u) _ (flags-fill t own) (flags-fill u (past t own))
flags-fill _ a = tt

-- ---- flags by the visits

-- of these visits no table of a segment is asked
abbrev no_flags : List Visit → List (Option ℕ)
no_flags vs = map (λ (v : Visit). None) vs

length-no_flags : (vs : List Visit) → length (no_flags vs) ≡ length vs
length-no_flags [] = refl
length-no_flags (v ∷ vs) = ap suc (length-no_flags vs)

flags_length : (xs ys : List Visit) (xs' ys' : List (Option ℕ)) → length xs' ≡ length xs → length ys' ≡ length ys → length (xs' ++ ys') ≡ length (xs ++ ys)
flags_length xs ys xs' ys' p q = length-append xs' ys' ∙ ap₂ (λ (m n : ℕ). m + n) p q ∙ sym (length-append xs ys)

flags-each : (l : Option SectionId) (t : Tree) → length (flags_asked t) ≡ length (visits_from l t)
flags-each l (Tree.pair t u) = flags_length (visits t) (visits u) (flags_asked t) (flags_asked u) (flags-each None t) (flags-each None u)
flags-each l (Tree.swap t u) = flags_length (visits u) (visits t) (flags_asked u) (flags_asked t) (flags-each None u) (flags-each None t)
flags-each l (Tree.cons t u) = flags_length (visits t) (visits u) (flags_asked t) (flags_asked u) (flags-each None t) (flags-each None u)
flags-each l (Tree.vec t) = flags-each None t
flags-each l (Tree.present t) = flags-each None t
flags-each l (Tree.sized t) = flags-each None t
flags-each l (Tree.row k t) = flags-each None t
flags-each l (Tree.scope t) = ap suc (flags_length (visits t) (Pop ∷ []) (flags_asked t) (None ∷ []) (flags-each None t) refl)
flags-each l (Tree.spare b t) = flags-each None t
flags-each l (Tree.kept b t) = flags-each None t
flags-each l (Tree.final t u) = flags_length (visits t) (visits u) (flags_asked t) (flags_asked u) (flags-each None t) (flags-each None u)
flags-each l (Tree.until b t) = flags-each None t
flags-each l (Tree.op c t) = flags-each None t
flags-each l (Tree.left w o t) =
    flags_length (visits t) (Index space.Table 0 ∷ visits o) (flags_asked t) (Some (left_flag w) ∷ flags_asked o) (flags-each None t) (ap suc (flags-each None o))
flags-each l (Tree.aimed w i o t) =
    flags_length (visits t) (Index space.Table i ∷ visits o) (flags_asked t) (Some (aimed_flag w) ∷ flags_asked o) (flags-each None t) (ap suc (flags-each None o))
flags-each l (Tree.placed i o t) = ap suc (flags_length (visits o) (visits t) (flags_asked o) (flags_asked t) (flags-each None o) (flags-each None t))
flags-each l (Tree.told k t) = flags-each None t
flags-each l (Tree.also t u) =
    let others : List Visit = visits_from (kind l t) u in
    let closing : List Visit = trees.behind t in
    flags_length (before l t) (visits t ++ (closing ++ others)) (no_flags (before None t)) (flags_asked t ++ (no_flags closing ++ flags_asked u))
    (length-no_flags (before None t) ∙ length-before t None l)
    (flags_length (visits t) (closing ++ others) (flags_asked t) (no_flags closing ++ flags_asked u) (flags-each None t)
    (flags_length closing others (no_flags closing) (flags_asked u) (length-no_flags closing) (flags-each (kind l t) u)))
flags-each l _ = refl

flags_by-append : (xs ys : List (Option ℕ)) (a : List ℕ) → flags_by (xs ++ ys) a ≡ flags_by xs a ++ flags_by ys (drop (length xs) a)
flags_by-append [] ys a = refl
flags_by-append (None ∷ xs) ys a =
    ap (λ (z : List (Option ℕ)). None ∷ z) (flags_by-append xs ys (drop 1 a) ∙ ap (λ (z : List ℕ). flags_by xs (drop 1 a) ++ flags_by ys z) (drop_one_more (length xs) a))
flags_by-append (Some f ∷ xs) ys a =
    ap (λ (z : List (Option ℕ)). Some (flag_by f (get_or a 0 0)) ∷ z)
    (flags_by-append xs ys (drop 1 a) ∙ ap (λ (z : List ℕ). flags_by xs (drop 1 a) ++ flags_by ys z) (drop_one_more (length xs) a))

flags_by-none : (vs : List Visit) (a : List ℕ) → flags_by (no_flags vs) a ≡ no_flags vs
flags_by-none [] a = refl
flags_by-none (v ∷ vs) a = ap (λ (z : List (Option ℕ)). None ∷ z) (flags_by-none vs (drop 1 a))

-- the flags of what is visited behind visits that have none
none_first : (vs : List Visit) (ys ys' : List (Option ℕ)) (a : List ℕ) → ys' ≡ flags_by ys (drop (length vs) a) → no_flags vs ++ ys' ≡ flags_by (no_flags vs ++ ys) a
none_first vs ys ys' a q =
    ap₂ (λ (x y : List (Option ℕ)). x ++ y) (sym (flags_by-none vs a)) (q ∙ ap (λ (n : ℕ). flags_by ys (drop n a)) (sym (length-no_flags vs)))
    ∙ sym (flags_by-append (no_flags vs) ys a)

-- the flags of a part and of what is visited behind it
behind : (t : Tree) (xs' ys ys' : List (Option ℕ)) (a : List ℕ) → xs' ≡ flags_by (flags_asked t) a → ys' ≡ flags_by ys (after t a) → xs' ++ ys' ≡ flags_by (flags_asked t ++ ys) a
behind t xs' ys ys' a p q =
    ap₂ (λ (x y : List (Option ℕ)). x ++ y) p (q ∙ ap (λ (n : ℕ). flags_by ys (drop n a)) (sym (flags-each None t))) ∙ sym (flags_by-append (flags_asked t) ys a)

flags-typed : (w : Listed) (t : Tree) → flags_asked (typed w t) ≡ flags_asked t
flags-typed Listed.functions t = refl
flags-typed Listed.expressions t = append-nil (flags_asked t)

flag-written : (w : Listed) (n : ℕ) → flag_by (left_flag w) (suc n) ≡ aimed_flag w
flag-written Listed.functions n = refl
flag-written Listed.expressions n = refl

flags-aimed_at : (w : Listed) (n : ℕ) (o t : Tree) → flags_asked (aimed_at w n o t) ≡ flags_asked t ++ (Some (flag_by (left_flag w) n) ∷ flags_asked o)
flags-aimed_at w zero o t = refl
flags-aimed_at w (suc n) o t = ap₂ (λ (z : List (Option ℕ)) (f : ℕ). z ++ (Some f ∷ flags_asked o)) (flags-typed w t) (sym (flag-written w n))

flag-stays : (w : Listed) (n : ℕ) → flag_by (aimed_flag w) n ≡ aimed_flag w
flag-stays w zero = refl
flag-stays Listed.functions (suc n) = refl
flag-stays Listed.expressions (suc n) = refl

flags-become : (t : Tree) (a : List ℕ) → flags_asked (fill t a) ≡ flags_by (flags_asked t) a
flags-become (Tree.pair t u) a = behind t (flags_asked (fill t a)) (flags_asked u) _ a (flags-become t a) (flags-become u (after t a))
flags-become (Tree.swap t u) a = behind u (flags_asked (fill u a)) (flags_asked t) _ a (flags-become u a) (flags-become t (after u a))
flags-become (Tree.cons t u) a = behind t (flags_asked (fill t a)) (flags_asked u) _ a (flags-become t a) (flags-become u (after t a))
flags-become (Tree.vec t) a = flags-become t a
flags-become (Tree.present t) a = flags-become t a
flags-become (Tree.sized t) a = flags-become t a
flags-become (Tree.row k t) a = flags-become t a
flags-become (Tree.scope t) a =
    ap (λ (z : List (Option ℕ)). None ∷ z) (behind t (flags_asked (fill t (drop 1 a))) (None ∷ []) (None ∷ []) (drop 1 a) (flags-become t (drop 1 a)) refl)
flags-become (Tree.spare b t) a = flags-become t a
flags-become (Tree.kept b t) a = flags-become t a
flags-become (Tree.final t u) a = behind t (flags_asked (fill t a)) (flags_asked u) _ a (flags-become t a) (flags-become u (after t a))
flags-become (Tree.until b t) a = flags-become t a
flags-become (Tree.op c t) a = flags-become t a
flags-become (Tree.left w o t) a =
    let n = get_or (after t a) 0 0 in
    let rest = drop 1 (after t a) in
    flags-aimed_at w n (fill o rest) (fill t a)
    ∙ behind t (flags_asked (fill t a)) (Some (left_flag w) ∷ flags_asked o) (Some (flag_by (left_flag w) n) ∷ flags_asked (fill o rest)) a
    (flags-become t a) (ap (λ (z : List (Option ℕ)). Some (flag_by (left_flag w) n) ∷ z) (flags-become o rest))
flags-become (Tree.aimed w i o t) a =
    let n = get_or (after t a) 0 0 in
    let rest = drop 1 (after t a) in
    behind t (flags_asked (fill t a)) (Some (aimed_flag w) ∷ flags_asked o) (Some (aimed_flag w) ∷ flags_asked (fill o rest)) a
    (flags-become t a) (ap₂ (λ (f : ℕ) (z : List (Option ℕ)). Some f ∷ z) (sym (flag-stays w n)) (flags-become o rest))
flags-become (Tree.placed i o t) a =
    let rest = drop 1 a in
    ap (λ (z : List (Option ℕ)). None ∷ z)
    (behind o (flags_asked (fill o rest)) (flags_asked t) (flags_asked (fill t (after o rest))) rest (flags-become o rest) (flags-become t (after o rest)))
flags-become (Tree.told k t) a = flags-become t a
flags-become (Tree.also t u) a =
    let bs = before None t in
    let closing = trees.behind t in
    let own = drop (length bs) a in
    let t' = fill t own in
    let u' = fill u (past t own) in
    let rest : List (Option ℕ) = no_flags closing ++ flags_asked u in
    let rest' : List (Option ℕ) = no_flags (trees.behind t') ++ flags_asked u' in
    ap (λ (vs : List Visit). no_flags vs ++ (flags_asked t' ++ rest')) (before-fill None t own)
    ∙ none_first bs (flags_asked t ++ rest) (flags_asked t' ++ rest') a
    (behind t (flags_asked t') rest rest' own (flags-become t own)
    (ap (λ (vs : List Visit). no_flags vs ++ flags_asked u') (behind-fill t own)
    ∙ none_first closing (flags_asked u) (flags_asked u') (after t own) (flags-become u (past t own))))
flags-become _ a = refl

pub keeps_parts : statements.KeepsParts
keeps_parts = record {
  erases = erased-fill;
  flags_become = flags-become;
  flags_each = flags-each None;
  erased_parts = parts-erased;
  all = parts-fill;
  sections = λ t a. ap (filter_map section_of) (parts-fill t a);
  rows = λ t a. ap (filter_map row_of) (parts-fill t a);
  items = λ t a. ap (filter_map items_of) (parts-fill t a);
  operators = λ t a. ap (filter_map operator_of) (parts-fill t a);
  flags = flags-fill;
}

pub keeps_leaves : statements.KeepsLeaves
keeps_leaves = record {
  leaves = λ t a. ap (filter_map leaf_of) (parts-fill t a);
  spaces = λ t a. ap (filter_map space_of) (parts-fill t a);
}
