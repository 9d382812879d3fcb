use Rattle.std.proofs.Common.{◌++◌, ◌∷◌, [], List, length, refl, sym, ap, subst, arith}
use Rattle.wasm_shapes.specs.Tree.{Tree}
use Rattle.wasm_shapes.specs.Shape.{Shape, Named}
use Rattle.wasm_shapes.specs.Place.{Begins}
use Rattle.wasm_shapes.specs.Types.{expression_of}
use Rattle.wasm_shapes.proofs.Begins.{none_here, none_at_end, none_ref, at_byte}
use Rattle.wasm_shapes.proofs.Expressions.{no_operators, operator_more, operators_ended, none_begins}
use Rattle.wasm_read.proofs.HeldExpressions.{expression_held, expression_held_is, front_spells, front_stands}
use Rattle.wasm_read.proofs.expressions.front_expr.Goals as goal

pub operators-init : goal.operators-init
operators-init c = (([], no_operators _), omega arith)

pub slice_bounds-bytes-count : goal.slice_bounds-bytes-count
slice_bounds-bytes-count c =
    let shorter = ap length c.in-Some.ensures.some in
    let before = c.operators.invariant.1 in
    omega arith

pub invariant_of-result : goal.invariant_of-result
invariant_of-result c =
    let so_far = c.operators.invariant.0 in
    let begins = operators_ended (at_byte c.in-Some.ensures.some c.if-first-eq11.true) so_far.1 in
    (expression_held so_far.0 (front_spells begins), tt)

pub returns-then-first-eq11-clause-some : goal.returns-then-first-eq11-clause-some
returns-then-first-eq11-clause-some c =
    let so_far = c.operators.invariant.0 in
    let begins = operators_ended (at_byte c.in-Some.ensures.some c.if-first-eq11.true) so_far.1 in
    let B : List Tree → Type 0 = λ operators. Begins (Shape.ref Named.expression) c.args.bytes.now (expression_of operators) c.in-Some.behind.now in
    subst B (sym (expression_held_is _ so_far.0 (front_spells begins))) begins

pub returns-then-first-eq11-clause-text : goal.returns-then-first-eq11-clause-text
returns-then-first-eq11-clause-text c =
    front_stands (operators_ended (at_byte c.in-Some.ensures.some c.if-first-eq11.true) c.operators.invariant.0.1)

pub operators-smaller : goal.operators-smaller
operators-smaller c = c.in-Some-behind_operator.ensures.shorter

pub operators-preserved : goal.operators-preserved
operators-preserved c =
    let so_far = c.operators.invariant.0 in
    let shorter = c.in-Some-behind_operator.ensures.shorter in
    let before = c.operators.invariant.1 in (
      (so_far.0 ++ _ ∷ [], operator_more so_far.0 c.in-Some.ensures.some c.if-first-eq11.false c.in-Some-behind_operator.ensures.some.1 so_far.1),
      omega arith,
    )

pub returns-in-None-clause-none : goal.returns-in-None-clause-none
returns-in-None-clause-none c =
    none_ref (c.operators.invariant.0.1.back (none_begins c.in-Some.ensures.some c.if-first-eq11.false c.in-None.ensures.none))

pub returns-clause-none : goal.returns-clause-none
returns-clause-none c =
    none_ref (c.operators.invariant.0.1.back (none_here c.in_default.ensures.none (none_at_end refl)))
