use Rattle.wasm_write.proofs.HoldingBodies.{body_new, body_new_is}
use Rattle.wasm_write.proofs.bodies.Function.new.Goals as goal

pub invariant_of-result : goal.invariant_of-result
invariant_of-result c =
    (body_new c.args.locals.now (rw (c.in-Ok.ensures.items, c.as_slice.ensures) at c.in-Ok-write_list.ensures.ok) (rw c.as_slice.ensures at c.in-Ok-write_list.ensures.in_range), tt)

pub returns-in-Ok-write_list-clause-ok : goal.returns-in-Ok-write_list-clause-ok
returns-in-Ok-write_list-clause-ok c =
    body_new_is c.args.locals.now (rw (c.in-Ok.ensures.items, c.as_slice.ensures) at c.in-Ok-write_list.ensures.ok) (rw c.as_slice.ensures at c.in-Ok-write_list.ensures.in_range) _
