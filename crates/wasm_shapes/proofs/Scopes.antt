-- The scopes along the visits of a tree.
use Rattle.std.proofs.Common.{◌≡◌, ◌++◌, ◌+◌, ◌≤◌, ℕ, suc, max, List, [], ◌∷◌, Option, None, refl, sym, ap, ◌∙◌, append_assoc, append-nil, arith}
use Rattle.wasm_shapes.specs.declared.Space.TheVariants as space
use Rattle.wasm_shapes.specs.declared.SectionId.{SectionId}
use Rattle.wasm_shapes.specs.declared.Visit.{Visit}
use Rattle.wasm_shapes.specs.declared.Visit.TheVariants.{Index, Outer, Section, Closed, Push, Pop}
use Rattle.wasm_shapes.specs.Tree as trees
use Rattle.wasm_shapes.specs.Tree.{Tree, Listed, visits, visits_from, before, behind}
use Rattle.wasm_shapes.specs.Depth.{opens}
use Rattle.wasm_shapes.proofs.Unscoped.{core_unscoped}
use Rattle.wasm_shapes.specs.Scopes.{open_behind, most_open, pushes, pops, scopes, AreBracketed, AreDeepest}

-- ---- what a tree opens it closes

before_closed : (last : Option SectionId) (t : Tree) (k : ℕ) (vs : List Visit) → open_behind k (before last t ++ vs) ≡ open_behind k vs
before_closed last (Tree.row n t) k vs = before_closed last t k vs
before_closed last _ k vs = refl

behind_closed : (t : Tree) (k : ℕ) (vs : List Visit) → open_behind k (behind t ++ vs) ≡ open_behind k vs
behind_closed (Tree.row n t) k vs = behind_closed t k vs
behind_closed _ k vs = refl

closed : (last : Option SectionId) (t : Tree) (k : ℕ) (vs : List Visit) → open_behind k (visits_from last t ++ vs) ≡ open_behind k vs
closed last (Tree.pair t u) k vs = rw append_assoc (closed None t k (visits u ++ vs) ∙ closed None u k vs)
closed last (Tree.swap t u) k vs = rw append_assoc (closed None u k (visits t ++ vs) ∙ closed None t k vs)
closed last (Tree.cons t u) k vs = rw append_assoc (closed None t k (visits u ++ vs) ∙ closed None u k vs)
closed last (Tree.final t u) k vs = rw append_assoc (closed None t k (visits u ++ vs) ∙ closed None u k vs)
closed last (Tree.vec t) k vs = closed None t k vs
closed last (Tree.present t) k vs = closed None t k vs
closed last (Tree.sized t) k vs = closed None t k vs
closed last (Tree.row n t) k vs = closed None t k vs
closed last (Tree.spare b t) k vs = closed None t k vs
closed last (Tree.kept b t) k vs = closed None t k vs
closed last (Tree.until b t) k vs = closed None t k vs
closed last (Tree.op c t) k vs = closed None t k vs
closed last (Tree.told n t) k vs = closed None t k vs
closed last (Tree.scope t) k vs = rw append_assoc (closed None t (suc k) (Pop ∷ vs))
closed last (Tree.left w o t) k vs = rw append_assoc (closed None t k ((Index space.Table 0 ∷ visits o) ++ vs) ∙ closed None o k vs)
closed last (Tree.aimed w i o t) k vs = rw append_assoc (closed None t k ((Index space.Table i ∷ visits o) ++ vs) ∙ closed None o k vs)
closed last (Tree.placed i o t) k vs = rw append_assoc (closed None o k (visits t ++ vs) ∙ closed None t k vs)
closed last (Tree.also t u) k vs =
    let others : List Visit = visits_from (trees.kind last t) u in
    let own : List Visit = visits t ++ (behind t ++ others) in
    ap (open_behind k) (append_assoc (before last t) own vs) ∙ before_closed last t k (own ++ vs)
    ∙ ap (open_behind k) (append_assoc (visits t) (behind t ++ others) vs) ∙ closed None t k ((behind t ++ others) ++ vs)
    ∙ ap (open_behind k) (append_assoc (behind t) others vs) ∙ behind_closed t k (others ++ vs) ∙ closed (trees.kind last t) u k vs
closed last _ k vs = refl

-- ---- as many are open at once as the tree opens

at_least : (k : ℕ) (vs : List Visit) → k ≤ most_open k vs
at_least k [] = omega arith
at_least k (Index s i ∷ vs) = at_least k vs
at_least k (Outer s c i ∷ vs) = at_least k vs
at_least k (Section after before ∷ vs) = at_least k vs
at_least k (Closed kind ∷ vs) = at_least k vs
at_least k (Push ∷ vs) = omega arith
at_least k (Pop ∷ vs) = omega arith

before_most : (last : Option SectionId) (t : Tree) (k : ℕ) (vs : List Visit) → most_open k (before last t ++ vs) ≡ most_open k vs
before_most last (Tree.row n t) k vs = before_most last t k vs
before_most last _ k vs = refl

behind_most : (t : Tree) (k : ℕ) (vs : List Visit) → most_open k (behind t ++ vs) ≡ most_open k vs
behind_most (Tree.row n t) k vs = behind_most t k vs
behind_most _ k vs = refl

most : (last : Option SectionId) (t : Tree) (k : ℕ) (vs : List Visit) → most_open k (visits_from last t ++ vs) ≡ max (k + opens t) (most_open k vs)
most last (Tree.pair t u) k vs = rw append_assoc (let p = most None t k (visits u ++ vs) in let q = most None u k vs in omega (arith, p, q))
most last (Tree.swap t u) k vs = rw append_assoc (let p = most None u k (visits t ++ vs) in let q = most None t k vs in omega (arith, p, q))
most last (Tree.cons t u) k vs = rw append_assoc (let p = most None t k (visits u ++ vs) in let q = most None u k vs in omega (arith, p, q))
most last (Tree.final t u) k vs = rw append_assoc (let p = most None t k (visits u ++ vs) in let q = most None u k vs in omega (arith, p, q))
most last (Tree.vec t) k vs = most None t k vs
most last (Tree.present t) k vs = most None t k vs
most last (Tree.sized t) k vs = most None t k vs
most last (Tree.row n t) k vs = most None t k vs
most last (Tree.spare b t) k vs = most None t k vs
most last (Tree.kept b t) k vs = most None t k vs
most last (Tree.until b t) k vs = most None t k vs
most last (Tree.op c t) k vs = most None t k vs
most last (Tree.told n t) k vs = most None t k vs
most last (Tree.scope t) k vs =
    let regrouped : (visits t ++ (Pop ∷ [])) ++ vs ≡ visits t ++ (Pop ∷ vs) = append_assoc (visits t) (Pop ∷ []) vs in
    let p : most_open (suc k) ((visits t ++ (Pop ∷ [])) ++ vs) ≡ max (suc k + opens t) (max (suc k) (most_open k vs)) =
    ap (most_open (suc k)) regrouped ∙ most None t (suc k) (Pop ∷ vs) in
    let q = at_least k vs in
    omega (arith, p, q)
most last (Tree.left w o t) k vs = rw append_assoc (let p = most None t k ((Index space.Table 0 ∷ visits o) ++ vs) in let q = most None o k vs in omega (arith, p, q))
most last (Tree.aimed w i o t) k vs = rw append_assoc (let p = most None t k ((Index space.Table i ∷ visits o) ++ vs) in let q = most None o k vs in omega (arith, p, q))
most last (Tree.placed i o t) k vs = rw append_assoc (let p = most None o k (visits t ++ vs) in let q = most None t k vs in omega (arith, p, q))
most last (Tree.also t u) k vs =
    let others : List Visit = visits_from (trees.kind last t) u in
    let own : List Visit = visits t ++ (behind t ++ others) in
    let p : most_open k ((before last t ++ own) ++ vs) ≡ most_open k (visits t ++ ((behind t ++ others) ++ vs)) =
    ap (most_open k) (append_assoc (before last t) own vs) ∙ before_most last t k (own ++ vs)
    ∙ ap (most_open k) (append_assoc (visits t) (behind t ++ others) vs) in
    let q = most None t k ((behind t ++ others) ++ vs) in
    let b : most_open k ((behind t ++ others) ++ vs) ≡ most_open k (others ++ vs) =
    ap (most_open k) (append_assoc (behind t) others vs) ∙ behind_most t k (others ++ vs) in
    let r = most (trees.kind last t) u k vs in
    omega (arith, p, q, b, r)
most last _ k vs = let q = at_least k vs in omega (arith, q)

pub most_is_opens : AreDeepest
most_is_opens t =
    let p : most_open 0 (visits t ++ []) ≡ max (0 + opens t) 0 = most None t 0 [] in
    ap (most_open 0) (sym (append-nil (visits t))) ∙ p ∙ (omega arith)

-- ---- each scope is opened once and closed once

pushes-append : (xs ys : List Visit) → pushes (xs ++ ys) ≡ pushes xs + pushes ys
pushes-append [] ys = omega arith
pushes-append (Index s i ∷ xs) ys = pushes-append xs ys
pushes-append (Outer s c i ∷ xs) ys = pushes-append xs ys
pushes-append (Section after before ∷ xs) ys = pushes-append xs ys
pushes-append (Closed kind ∷ xs) ys = pushes-append xs ys
pushes-append (Push ∷ xs) ys = let p = pushes-append xs ys in omega (arith, p)
pushes-append (Pop ∷ xs) ys = pushes-append xs ys

pops-append : (xs ys : List Visit) → pops (xs ++ ys) ≡ pops xs + pops ys
pops-append [] ys = omega arith
pops-append (Index s i ∷ xs) ys = pops-append xs ys
pops-append (Outer s c i ∷ xs) ys = pops-append xs ys
pops-append (Section after before ∷ xs) ys = pops-append xs ys
pops-append (Closed kind ∷ xs) ys = pops-append xs ys
pops-append (Push ∷ xs) ys = pops-append xs ys
pops-append (Pop ∷ xs) ys = let p = pops-append xs ys in omega (arith, p)

before_pushes : (last : Option SectionId) (t : Tree) → pushes (before last t) ≡ 0
before_pushes last (Tree.row n t) = before_pushes last t
before_pushes last _ = refl

behind_pushes : (t : Tree) → pushes (behind t) ≡ 0
behind_pushes (Tree.row n t) = behind_pushes t
behind_pushes _ = refl

before_pops : (last : Option SectionId) (t : Tree) → pops (before last t) ≡ 0
before_pops last (Tree.row n t) = before_pops last t
before_pops last _ = refl

behind_pops : (t : Tree) → pops (behind t) ≡ 0
behind_pops (Tree.row n t) = behind_pops t
behind_pops _ = refl

pushed : (last : Option SectionId) (t : Tree) → pushes (visits_from last t) ≡ scopes t
pushed last (Tree.pair t u) = let p = pushed None t in let q = pushed None u in omega (arith, p, q, pushes-append (visits t) (visits u))
pushed last (Tree.swap t u) = let p = pushed None t in let q = pushed None u in omega (arith, p, q, pushes-append (visits u) (visits t))
pushed last (Tree.cons t u) = let p = pushed None t in let q = pushed None u in omega (arith, p, q, pushes-append (visits t) (visits u))
pushed last (Tree.final t u) = let p = pushed None t in let q = pushed None u in omega (arith, p, q, pushes-append (visits t) (visits u))
pushed last (Tree.vec t) = pushed None t
pushed last (Tree.present t) = pushed None t
pushed last (Tree.sized t) = pushed None t
pushed last (Tree.row n t) = pushed None t
pushed last (Tree.spare b t) = pushed None t
pushed last (Tree.kept b t) = pushed None t
pushed last (Tree.until b t) = pushed None t
pushed last (Tree.op c t) = pushed None t
pushed last (Tree.told n t) = pushed None t
pushed last (Tree.scope t) =
    let p : pushes (visits t ++ (Pop ∷ [])) ≡ pushes (visits t) + 0 = pushes-append (visits t) (Pop ∷ []) in
    let q = pushed None t in
    omega (arith, p, q)
pushed last (Tree.left w o t) =
    let r : pushes (visits t ++ (Index space.Table 0 ∷ visits o)) ≡ pushes (visits t) + pushes (visits o) = pushes-append (visits t) (Index space.Table 0 ∷ visits o) in
    let p = pushed None t in let q = pushed None o in omega (arith, p, q, r)
pushed last (Tree.aimed w i o t) =
    let r : pushes (visits t ++ (Index space.Table i ∷ visits o)) ≡ pushes (visits t) + pushes (visits o) = pushes-append (visits t) (Index space.Table i ∷ visits o) in
    let p = pushed None t in let q = pushed None o in omega (arith, p, q, r)
pushed last (Tree.placed i o t) = let p = pushed None o in let q = pushed None t in omega (arith, p, q, pushes-append (visits o) (visits t))
pushed last (Tree.also t u) =
    let others : List Visit = visits_from (trees.kind last t) u in
    let a = pushes-append (before last t) (visits t ++ (behind t ++ others)) in
    let b = before_pushes last t in
    let c = pushes-append (visits t) (behind t ++ others) in
    let d = pushes-append (behind t) others in
    let e = behind_pushes t in
    let p = pushed None t in
    let q = pushed (trees.kind last t) u in
    omega (arith, a, b, c, d, e, p, q)
pushed last _ = refl

popped : (last : Option SectionId) (t : Tree) → pops (visits_from last t) ≡ scopes t
popped last (Tree.pair t u) = let p = popped None t in let q = popped None u in omega (arith, p, q, pops-append (visits t) (visits u))
popped last (Tree.swap t u) = let p = popped None t in let q = popped None u in omega (arith, p, q, pops-append (visits u) (visits t))
popped last (Tree.cons t u) = let p = popped None t in let q = popped None u in omega (arith, p, q, pops-append (visits t) (visits u))
popped last (Tree.final t u) = let p = popped None t in let q = popped None u in omega (arith, p, q, pops-append (visits t) (visits u))
popped last (Tree.vec t) = popped None t
popped last (Tree.present t) = popped None t
popped last (Tree.sized t) = popped None t
popped last (Tree.row n t) = popped None t
popped last (Tree.spare b t) = popped None t
popped last (Tree.kept b t) = popped None t
popped last (Tree.until b t) = popped None t
popped last (Tree.op c t) = popped None t
popped last (Tree.told n t) = popped None t
popped last (Tree.scope t) =
    let p : pops (visits t ++ (Pop ∷ [])) ≡ pops (visits t) + 1 = pops-append (visits t) (Pop ∷ []) in
    let q = popped None t in
    omega (arith, p, q)
popped last (Tree.left w o t) =
    let r : pops (visits t ++ (Index space.Table 0 ∷ visits o)) ≡ pops (visits t) + pops (visits o) = pops-append (visits t) (Index space.Table 0 ∷ visits o) in
    let p = popped None t in let q = popped None o in omega (arith, p, q, r)
popped last (Tree.aimed w i o t) =
    let r : pops (visits t ++ (Index space.Table i ∷ visits o)) ≡ pops (visits t) + pops (visits o) = pops-append (visits t) (Index space.Table i ∷ visits o) in
    let p = popped None t in let q = popped None o in omega (arith, p, q, r)
popped last (Tree.placed i o t) = let p = popped None o in let q = popped None t in omega (arith, p, q, pops-append (visits o) (visits t))
popped last (Tree.also t u) =
    let others : List Visit = visits_from (trees.kind last t) u in
    let a = pops-append (before last t) (visits t ++ (behind t ++ others)) in
    let b = before_pops last t in
    let c = pops-append (visits t) (behind t ++ others) in
    let d = pops-append (behind t) others in
    let e = behind_pops t in
    let p = popped None t in
    let q = popped (trees.kind last t) u in
    omega (arith, a, b, c, d, e, p, q)
popped last _ = refl

pub bracketed : AreBracketed
bracketed = record {
  between = λ t. refl;
  closed = λ t. ap (open_behind 0) (sym (append-nil (visits t))) ∙ closed None t 0 [];
  pushed = pushed None;
  popped = popped None;
  core = λ t. refl;
  component = λ t. refl;
  in_core = λ bytes t r. (core_unscoped r).scopes;
}
