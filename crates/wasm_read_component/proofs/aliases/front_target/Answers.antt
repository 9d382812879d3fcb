use Rattle.wasm_shapes.proofs.Begins.{begins_row, none_or, none_row}
use Rattle.wasm_read_component.proofs.aliases.front_target.Goals as goal

pub returns-in-Some-clause-some : goal.returns-in-Some-clause-some
returns-in-Some-clause-some c s = begins_row {k = 0} c.in-Some.ensures.some

pub returns-in-Some-front_outer-clause-some : goal.returns-in-Some-front_outer-clause-some
returns-in-Some-front_outer-clause-some c s = begins_row {k = 1} (c.in-Some-front_outer.ensures.some s)

pub returns-in-None-clause-none : goal.returns-in-None-clause-none
returns-in-None-clause-none c s = none_or c.in_default.ensures.none (none_or (c.in-None.ensures.none s) none_row)
