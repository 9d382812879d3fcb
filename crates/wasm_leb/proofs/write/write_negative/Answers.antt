use Rattle.std.proofs.Common.{◌≡◌, ℕ, suc, ◌+◌, ◌-◌, ◌++◌, [], ◌∷◌, length, length-set, take, set, refl, sym, ap, ◌∙◌, arith, append-nil}
use Rattle.wasm_leb.specs.Leb.{shortest, inverted, inverted_byte}
use Rattle.wasm_leb.proofs.Shortest.{inverted_low}
use Rattle.wasm_leb.proofs.Writing.{shortest_last, shortest_step, one_more, one_more_inverted, room_for}
use Rattle.wasm_leb.proofs.write.write_negative.Goals as goal

pub loop-rest-init : goal.loop-rest-init
loop-rest-init c = (9, refl, room_for 64 c.args.n (omega arith) c.ranges.n.fits, refl, refl)

pub loop-rest-preserved : goal.loop-rest-preserved
loop-rest-preserved c =
    let kept = c.loop-rest.invariant in
    let step = shortest_step kept.0 64 c.loop-rest.rest c.loop-rest-test.true kept.2 in
    let counted : kept.0 ≡ suc step.0 = step.1 in
    let left : c.loop-rest.len + kept.0 ≡ 9 = kept.1 in
    let wide : length c.loop-rest.text ≡ 10 = kept.4 in (
      step.0,
      omega arith,
      step.2,
      one_more_inverted c.loop-rest.text c.loop-rest.len _ 64 c.loop-rest.rest step.0 _ c.loop-rest-test.true refl (omega arith)
          (ap (λ z. take c.loop-rest.len c.loop-rest.text ++ inverted z) (sym step.3) ∙ kept.3),
      simp length-set wide,
    )

pub returns-in-Ok-clause-ok : goal.returns-in-Ok-clause-ok
returns-in-Ok-clause-ok c =
    let kept = c.loop-rest.invariant in
    let left : c.loop-rest.len + kept.0 ≡ 9 = kept.1 in
    let wide : length c.loop-rest.text ≡ 10 = kept.4 in
    let low : inverted_byte c.loop-rest.rest ≡ 127 - c.loop-rest.rest = inverted_low c.loop-rest.rest (omega arith) in
    let here : inverted (shortest kept.0 64 c.loop-rest.rest) ≡ (127 - c.loop-rest.rest) ∷ [] =
    ap inverted (shortest_last kept.0 64 c.loop-rest.rest c.loop-rest-test.false) ∙ ap (λ (b : ℕ). b ∷ []) low in
    let last : take c.loop-rest.len c.loop-rest.text ++ ((127 - c.loop-rest.rest) ∷ []) ≡ inverted (shortest 9 64 c.args.n) =
    ap (λ z. take c.loop-rest.len c.loop-rest.text ++ z) (sym here) ∙ kept.3 in
    let all : take (c.loop-rest.len + 1) (set c.loop-rest.text c.loop-rest.len (127 - c.loop-rest.rest)) ≡ inverted (shortest 9 64 c.args.n) =
    sym (append-nil _) ∙ one_more c.loop-rest.text c.loop-rest.len (127 - c.loop-rest.rest) [] _ (omega arith) last in
    rw (← all) c.in-Ok.ensures.items
