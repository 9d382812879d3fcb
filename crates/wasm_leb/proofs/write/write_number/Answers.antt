use Rattle.std.proofs.Common.{◌≡◌, suc, ◌+◌, ◌++◌, [], ◌∷◌, ◌/◌, length, length-set, take, set, refl, sym, ap, ◌∙◌, arith, append-nil}
use Rattle.wasm_leb.specs.Leb.{shortest}
use Rattle.wasm_leb.proofs.Writing.{shortest_last, shortest_step, one_more, room_for}
use Rattle.wasm_leb.proofs.write.write_number.Goals as goal

pub loop-rest-init : goal.loop-rest-init
loop-rest-init c = (9, refl, room_for c.args.limit c.args.number c.requires.low c.ranges.number.fits, refl, refl)

pub loop-rest-preserved : goal.loop-rest-preserved
loop-rest-preserved c =
    let kept = c.loop-rest.invariant in
    let step = shortest_step kept.0 c.args.limit c.loop-rest.rest c.loop-rest-test.true kept.2 in
    let counted : kept.0 ≡ suc step.0 = step.1 in
    let left : c.loop-rest.len + kept.0 ≡ 9 = kept.1 in
    let wide : length c.loop-rest.text ≡ 10 = kept.4 in (
      step.0,
      omega arith,
      step.2,
      one_more c.loop-rest.text c.loop-rest.len _ (shortest step.0 c.args.limit (c.loop-rest.rest / 128)) _ (omega arith)
          (ap (λ z. take c.loop-rest.len c.loop-rest.text ++ z) (sym step.3) ∙ kept.3),
      simp length-set wide,
    )

pub returns-in-Ok-clause-ok : goal.returns-in-Ok-clause-ok
returns-in-Ok-clause-ok c =
    let kept = c.loop-rest.invariant in
    let left : c.loop-rest.len + kept.0 ≡ 9 = kept.1 in
    let wide : length c.loop-rest.text ≡ 10 = kept.4 in
    let last : take c.loop-rest.len c.loop-rest.text ++ (c.loop-rest.rest ∷ []) ≡ shortest 9 c.args.limit c.args.number =
    ap (λ z. take c.loop-rest.len c.loop-rest.text ++ z) (sym (shortest_last kept.0 c.args.limit c.loop-rest.rest c.loop-rest-test.false)) ∙ kept.3 in
    let all : take (c.loop-rest.len + 1) (set c.loop-rest.text c.loop-rest.len c.loop-rest.rest) ≡ shortest 9 c.args.limit c.args.number =
    sym (append-nil _) ∙ one_more c.loop-rest.text c.loop-rest.len c.loop-rest.rest [] _ (omega arith) last in
    rw (← all) c.in-Ok.ensures.items
