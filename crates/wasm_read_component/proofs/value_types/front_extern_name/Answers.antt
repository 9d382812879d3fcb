use Rattle.std.proofs.Common.{arith}
use Rattle.wasm_read_component.proofs.ComponentValues.{extern_begins}
use Rattle.wasm_read_component.proofs.value_types.front_extern_name.Goals as goal

pub returns-in-Some-front_name-clause-some : goal.returns-in-Some-front_name-clause-some
returns-in-Some-front_name-clause-some c = extern_begins c.in-Some.ensures.some (omega arith) c.in-Some-front_name.ensures.some
