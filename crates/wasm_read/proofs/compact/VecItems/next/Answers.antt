use Rattle.std.proofs.Common.{◌≡◌, suc, ◌-◌, ◌<◌, sym, ◌∙◌, arith}
use Rattle.wasm_read.proofs.VectorItems.{held_ended, held_some, held_next, held_next_is}
use Rattle.wasm_read.proofs.compact.VecItems.next.Goals as goal

pub returns-then-self-eq0-clause-none : goal.returns-then-self-eq0-clause-none
returns-then-self-eq0-clause-none g c = let e = sym c.self.view_is ∙ held_ended c.self.inside.held c.if-self-eq0.true in (e, e)

pub invariant_of-self-inside : goal.invariant_of-self-inside
invariant_of-self-inside g c =
    let more : c.self.inside.left ≡ suc (c.self.inside.left - 1) = omega (arith, c.if-self-eq0.false) in
    (held_next c.self.inside.held g.T.Entry.rows_sound more c.in-Some.ensures.some, tt)

pub returns-in-Some-clause-some : goal.returns-in-Some-clause-some
returns-in-Some-clause-some g c =
    let more : c.self.inside.left ≡ suc (c.self.inside.left - 1) = omega (arith, c.if-self-eq0.false) in
    sym c.self.view_is ∙ held_next_is c.self.inside.held g.T.Entry.rows_sound more c.in-Some.ensures.some _

pub returns-in-None-clause-none : goal.returns-in-None-clause-none
returns-in-None-clause-none g c =
    let some : 0 < c.self.inside.left = omega (arith, c.if-self-eq0.false) in
    absurd (held_some c.self.inside.held some c.in-None.ensures.none)
