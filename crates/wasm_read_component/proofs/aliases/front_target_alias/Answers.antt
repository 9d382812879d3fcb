use Rattle.std.proofs.Common.{inl, inr, refl}
use Rattle.wasm_read_component.proofs.aliases.front_target_alias.Goals as goal

pub returns-in-Some-Export-default-clause-some : goal.returns-in-Some-Export-default-clause-some
returns-in-Some-Export-default-clause-some c = inl (record { export = _; is = refl; begins = rw c.in-Some-Export-default.field-0-0-is at c.in-Some-Export-default.ensures.some })

pub returns-in-Some-Outer-default-clause-some : goal.returns-in-Some-Outer-default-clause-some
returns-in-Some-Outer-default-clause-some c = inr (record { count = c.in-Some-Outer-default.count; index = c.in-Some-Outer-default.index; is = refl; begins = rw c.in-Some-Outer-default.field-0-0-is at c.in-Some-Outer-default.ensures.some })
