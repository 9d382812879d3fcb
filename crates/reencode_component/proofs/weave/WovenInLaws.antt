-- The laws of `specs/WovenIn.antt`.
use Rattle.std.proofs.Common.{◌≡◌, ℕ, ◌≤◌, Ok, Err, List, [], ◌∷◌, ◌++◌, length, drop, nat_le, Bool, true, false, if◌then◌else◌, refl, sym, ap, ap₂, ◌∙◌, subst}
use Rattle.std.proofs.lemmas.Bool.{leb-true}
use Rattle.std.proofs.Math.Seq.{take-append_seam, drop-append_seam}
use Rattle.wasm_shapes.specs.declared.Visit.{Visit}
use Rattle.wasm_shapes.specs.declared.Visit.TheVariants.{Push, Pop}
use Rattle.wasm_shapes.specs.Tree.{Tree, visits, after, normal}
use Rattle.wasm_shapes.specs.Spells.{Spelled}
use Rattle.reencode_hooks.specs.declared.error.Error.{Error}
use Rattle.reencode_hooks.specs.declared.error.Error.TheVariants.{TooLarge}
use Rattle.reencode_hooks.specs.Run.{Step, accepted, refused, run, state_after}
use Rattle.reencode_hooks.specs.Walk.{closed}
use Rattle.reencode_hooks.proofs.Agrees.{inv, given, run_length}
use Rattle.reencode_hooks.specs.declared.indices.ReencodeIndices.{Ghosts}
use Rattle.reencode_core.specs.Clauses.{asks}
use Rattle.reencode_core.specs.Rows.{Asks}
use Rattle.reencode_core.specs.Weave.{Puts, added}
use Rattle.reencode_core.proofs.rows_walked.SmallCounts.{run_parts, run_then}
use Rattle.reencode_core.proofs.sections_walked.KnownKind.{closed_fits}
use Rattle.reencode_core.proofs.weave.Weaves.{weave_is_run}
use Rattle.reencode_component.specs.WeaveIn.{weave_in}
use Rattle.reencode_component.specs.WovenIn as statements
use Rattle.reencode_component.specs.WovenIn.{first, woven_in, FitsIn, AcceptsIn, WeaveInIsRun}

module _ {S E : Type 0} (asked : Asks S E) where
  -- ---- runs one behind another

  same_state : (s m n : S) (xs : List Visit) (a : List ℕ) → run asked s xs ≡ accepted a n → n ≡ m → run asked s xs ≡ accepted a m
  same_state s m n xs a h e = h ∙ ap (λ (z : S). accepted a z) e

  run_cons : (s k m : S) (v : Visit) (n : ℕ) (xs : List Visit) (a : List ℕ) → asked s v ≡ accepted n k → run asked k xs ≡ accepted a m → run asked s (v ∷ xs) ≡ accepted (n ∷ a) m
  run_cons s k m v n xs a h r = rw (h, r) refl

  first_is : (s m : S) (t : Tree) (a b : List ℕ) → run asked s (visits t) ≡ accepted a m → first t (a ++ b) ≡ a
  first_is s m t a b h = rw (← run_length asked 0 s (visits t) h) (take-append_seam a b)

  after_is : (s m : S) (t : Tree) (a b : List ℕ) → run asked s (visits t) ≡ accepted a m → after t (a ++ b) ≡ b
  after_is s m t a b h = rw (← run_length asked 0 s (visits t) h) (drop-append_seam a b)

  record Parts (s m : S) (xs ys : List Visit) (a : List ℕ) : Type 0 where
    front : List ℕ
    rest : List ℕ
    at : S
    ran : run asked s xs ≡ accepted front at
    onward : run asked at ys ≡ accepted rest m
    is : a ≡ front ++ rest

  parts : (s m : S) (xs ys : List Visit) (a : List ℕ) → run asked s (xs ++ ys) ≡ accepted a m → Parts s m xs ys a
  parts s m xs ys a h =
      let r = run_parts asked s m xs ys a h in
      let both : ◌≡◌ {A = Step S (Error E) (List ℕ)} (accepted a m) (accepted (r.0 ++ r.2) m) = sym h ∙ run_then asked s r.1 m xs ys r.0 r.2 r.3 r.4 in
      record { front = r.0; rest = r.2; at = r.1; ran = r.3; onward = r.4; is = cc }

  closed_inv : (c : ℕ) (u v : Tree) (n m : S) → closed {E = E} c u n ≡ accepted v m → (length (normal u) ≤ c) × (Tree.sized u ≡ v) × (n ≡ m)
  closed_inv c u v n m h = go (nat_le (length (normal u)) c) refl h
    where
      go : (b : Bool) → nat_le (length (normal u)) c ≡ b →
          ◌≡◌ {A = Step S (Error E) Tree} (if b then accepted (Tree.sized u) n else refused (TooLarge (length (normal u))) n) (accepted v m) →
          (length (normal u) ≤ c) × (Tree.sized u ≡ v) × (n ≡ m)
      go true e h = let g = given h in (leb-true _ _ e, g.0, g.1)
      go false e h = absurd cc

  module _ (put : Puts S Tree) (c : ℕ) where
    -- ---- two parts

    two : (s n m : S) (t u t' u' : Tree) → AcceptsIn asked put c s t t' n → AcceptsIn asked put c n u u' m →
        (g : List ℕ) × (run asked s (visits t ++ visits u) ≡ accepted g m) × (woven_in asked put s t (first t g) ≡ t')
        × (woven_in asked put (state_after (run asked s (visits t))) u (after t g) ≡ u')
        × FitsIn asked put c s t (first t g) × FitsIn asked put c (state_after (run asked s (visits t))) u (after t g)
    two s n m t u t' u' p q =
        let f = first_is s n t p.given q.given p.ran in
        let a = after_is s n t p.given q.given p.ran in
        let state : state_after (run asked s (visits t)) ≡ n = ap state_after p.ran in
        let P : List ℕ → Type 0 = λ z. (woven_in asked put s t z ≡ t') × FitsIn asked put c s t z in
        let Q : S → List ℕ → Type 0 = λ k z. (woven_in asked put k u z ≡ u') × FitsIn asked put c k u z in
        let R : S → Type 0 = λ k. Q k (after t (p.given ++ q.given)) in
        let x = subst P (sym f) (p.wove, p.fits) in
        let y0 : Q n (after t (p.given ++ q.given)) = subst (Q n) (sym a) (q.wove, q.fits) in
        let y = subst R (sym state) y0 in
        (p.given ++ q.given, run_then asked s n m (visits t) (visits u) p.given q.given p.ran q.ran, x.0, y.0, x.1, y.1)

    onto_state : (s m n : S) (t u : Tree) → AcceptsIn asked put c s t u n → n ≡ m → AcceptsIn asked put c s t u m
    onto_state s m n t u p e = let P : S → Type 0 = λ z. AcceptsIn asked put c s t u z in subst P e p

    pub forth : (s m : S) (t u : Tree) → weave_in asked put c s t ≡ accepted u m → AcceptsIn asked put c s t u m
    forth s m (Tree.cons t u) v h =
        let i = inv (weave_in asked put c s t) _ h in
        let j = inv (weave_in asked put c i.1 u) _ i.3 in
        let g = given j.3 in
        let x = two s i.1 m t u i.0 j.0 (forth s i.1 t i.0 i.2) (onto_state i.1 m j.1 u j.0 (forth i.1 j.1 u j.0 j.2) g.1) in
        record { given = x.0; ran = x.1; wove = ap₂ Tree.cons x.2 x.3 ∙ g.0; fits = (x.4, x.5) }
    forth s m (Tree.pair t u) v h =
        let i = inv (weave_in asked put c s t) _ h in
        let j = inv (weave_in asked put c i.1 u) _ i.3 in
        let g = given j.3 in
        let x = two s i.1 m t u i.0 j.0 (forth s i.1 t i.0 i.2) (onto_state i.1 m j.1 u j.0 (forth i.1 j.1 u j.0 j.2) g.1) in
        record { given = x.0; ran = x.1; wove = ap₂ Tree.pair x.2 x.3 ∙ g.0; fits = (x.4, x.5) }
    forth s m (Tree.row k t) v h =
        let i = inv (weave_in asked put c s t) _ h in
        let g = given i.3 in
        let p = onto_state s m i.1 t i.0 (forth s i.1 t i.0 i.2) g.1 in
        record { given = p.given; ran = p.ran; wove = ap (Tree.row k) p.wove ∙ g.0; fits = p.fits }
    forth s m (Tree.sized t) v h =
        let i = inv (weave_in asked put c s t) _ h in
        let g = closed_inv c i.0 v i.1 m i.3 in
        let p = onto_state s m i.1 t i.0 (forth s i.1 t i.0 i.2) g.2 in
        let P : Tree → Type 0 = λ z. length (normal z) ≤ c in
        record { given = p.given; ran = p.ran; wove = ap Tree.sized p.wove ∙ g.1; fits = (p.fits, subst P (sym p.wove) g.0) }
    forth s m (Tree.scope t) v h =
        let a = inv (asked s Push) _ h in
        let i = inv (weave_in asked put c a.1 t) _ a.3 in
        let b = inv (asked i.1 Pop) _ i.3 in
        let g = given b.3 in
        let p = forth a.1 i.1 t i.0 i.2 in
        let popped : run asked i.1 (Pop ∷ []) ≡ accepted (b.0 ∷ []) m = same_state i.1 m b.1 (Pop ∷ []) (b.0 ∷ []) (run_cons i.1 b.1 b.1 Pop b.0 [] [] b.2 refl) g.1 in
        let inner : run asked a.1 (visits t ++ (Pop ∷ [])) ≡ accepted (p.given ++ b.0 ∷ []) m = run_then asked a.1 i.1 m (visits t) (Pop ∷ []) p.given (b.0 ∷ []) p.ran popped in
        let f = first_is a.1 i.1 t p.given (b.0 ∷ []) p.ran in
        let state : state_after (asked s Push) ≡ a.1 = ap state_after a.2 in
        let Q : S → List ℕ → Type 0 = λ k z. (woven_in asked put k t z ≡ i.0) × FitsIn asked put c k t z in
        let R : S → Type 0 = λ k. Q k (first t (p.given ++ b.0 ∷ [])) in
        let y0 : Q a.1 (first t (p.given ++ b.0 ∷ [])) = subst (Q a.1) (sym f) (p.wove, p.fits) in
        let y = subst R (sym state) y0 in
        record { given = a.0 ∷ (p.given ++ b.0 ∷ []); ran = run_cons s a.1 m Push a.0 (visits t ++ (Pop ∷ [])) (p.given ++ b.0 ∷ []) a.2 inner; wove = ap Tree.scope y.0 ∙ g.0; fits = y.1 }
    forth s m t u h = let a = (weave_is_run asked).forth put c s m t u h in record { given = a.given; ran = a.ran; wove = a.wove; fits = a.fits }

    -- ---- and back

    halves : (s m : S) (t u v w : Tree) (g : List ℕ) (p : Parts s m (visits t) (visits u) g) → woven_in asked put s t (first t g) ≡ v → woven_in asked put (state_after (run asked s (visits t))) u (after t g) ≡ w →
        FitsIn asked put c s t (first t g) → FitsIn asked put c (state_after (run asked s (visits t))) u (after t g) → AcceptsIn asked put c s t v p.at × AcceptsIn asked put c p.at u w m
    halves s m t u v w g p x y fx fy =
        let f : first t g ≡ p.front = ap (first t) p.is ∙ first_is s p.at t p.front p.rest p.ran in
        let a : after t g ≡ p.rest = ap (after t) p.is ∙ after_is s p.at t p.front p.rest p.ran in
        let state : state_after (run asked s (visits t)) ≡ p.at = ap state_after p.ran in
        let P : List ℕ → Type 0 = λ z. (woven_in asked put s t z ≡ v) × FitsIn asked put c s t z in
        let Q : S → List ℕ → Type 0 = λ k z. (woven_in asked put k u z ≡ w) × FitsIn asked put c k u z in
        let R : S → Type 0 = λ k. Q k (after t g) in
        let one = subst P f (x, fx) in
        let two0 : Q p.at (after t g) = subst R state (y, fy) in
        let two = subst (Q p.at) a two0 in
        (record { given = p.front; ran = p.ran; wove = one.0; fits = one.1 }, record { given = p.rest; ran = p.onward; wove = two.0; fits = two.1 })

    pub back : (s m : S) (t u : Tree) (x : List ℕ) → Spelled t x → AcceptsIn asked put c s t u m → weave_in asked put c s t ≡ accepted u m
    back s m (Tree.cons t u) v x h a =
        let p = parts s m (visits t) (visits u) a.given a.ran in
        let q = halves s m t u _ _ a.given p refl refl a.fits.0 a.fits.1 in
        rw (back s p.at t _ h.0 h.3 q.0, back p.at m u _ h.1 h.4 q.1) (ap (λ (z : Tree). accepted z m) a.wove)
    back s m (Tree.pair t u) v x h a =
        let p = parts s m (visits t) (visits u) a.given a.ran in
        let q = halves s m t u _ _ a.given p refl refl a.fits.0 a.fits.1 in
        rw (back s p.at t _ h.0 h.3 q.0, back p.at m u _ h.1 h.4 q.1) (ap (λ (z : Tree). accepted z m) a.wove)
    back s m (Tree.row k t) v x h a =
        rw (back s m t (woven_in asked put s t a.given) x h (record { given = a.given; ran = a.ran; wove = refl; fits = a.fits })) (ap (λ (z : Tree). accepted z m) a.wove)
    back s m (Tree.sized t) v x h a =
        rw (back s m t (woven_in asked put s t a.given) h.1 h.4 (record { given = a.given; ran = a.ran; wove = refl; fits = a.fits.0 }), closed_fits {E = E} c (woven_in asked put s t a.given) m a.fits.1)
        (ap (λ (z : Tree). accepted z m) a.wove)
    back s m (Tree.scope t) v x h a =
        let i = inv (asked s Push) _ a.ran in
        let j = inv (run asked i.1 (visits t ++ (Pop ∷ []))) _ i.3 in
        let g = given j.3 in
        let p = parts i.1 m (visits t) (Pop ∷ []) j.0 (same_state i.1 m j.1 (visits t ++ (Pop ∷ [])) j.0 j.2 g.1) in
        let o = inv (asked p.at Pop) _ p.onward in
        let e = given o.3 in
        let state : state_after (asked s Push) ≡ i.1 = ap state_after i.2 in
        let f : first t (drop 1 a.given) ≡ p.front = ap (λ (z : List ℕ). first t (drop 1 z)) (sym g.0) ∙ ap (first t) p.is ∙ first_is i.1 p.at t p.front p.rest p.ran in
        let W : Tree = woven_in asked put (state_after (asked s Push)) t (first t (drop 1 a.given)) in
        let Q : S → List ℕ → Type 0 = λ k z. (woven_in asked put k t z ≡ W) × FitsIn asked put c k t z in
        let R : S → Type 0 = λ k. Q k (first t (drop 1 a.given)) in
        let y0 : Q i.1 (first t (drop 1 a.given)) = subst R state (refl, a.fits) in
        let y = subst (Q i.1) f y0 in
        let inner = back i.1 p.at t W x h (record { given = p.front; ran = p.ran; wove = y.0; fits = y.1 }) in
        rw (i.2, inner, o.2) (ap₂ (λ (z : Tree) (k : S). accepted z k) a.wove e.1)
    back s m t u x h a = (weave_is_run asked).back put c s m t u x h (record { given = a.given; ran = a.ran; wove = a.wove; fits = a.fits })

pub weave_in_is_run : {S E : Type 0} (asked : Asks S E) → WeaveInIsRun asked
weave_in_is_run asked = record { forth = λ put c s m t u h. forth asked put c s m t u h; back = λ put c s m t u x h a. back asked put c s m t u x h a }

pub ok_is_woven : {S E : Type 0} (i : Ghosts S E) → statements.OkIsWoven i
ok_is_woven i depth bytes s m old new (Err e) g keeps = tt
ok_is_woven i depth bytes s m old new (Ok u) g keeps =
    let d = g.default keeps in
    let t = d.readable.0 in
    let q = d.reading t d.readable.1 in (
      normal q.0,
      record { rows = q.1; gains = q.3; spelled = q.4 },
      record { tree = t; reads = d.readable.1; made = q.0; accepts = forth (asks i) (added i.adds) old.ceiling s m t q.0 q.2; spelled = refl },
      d.fits t d.readable.1,
    )
