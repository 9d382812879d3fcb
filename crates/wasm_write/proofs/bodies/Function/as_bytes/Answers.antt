use Rattle.std.proofs.Common.{sym, ◌∙◌}
use Rattle.wasm_write.proofs.HoldingBodies.{body_normal, body_spells}
use Rattle.wasm_write.proofs.bodies.Function.as_bytes.Goals as goal

pub returns-clause-value : goal.returns-clause-value
returns-clause-value c = rw (← c.self.view_is) (c.deref.ensures.value ∙ sym (body_normal c.self.inside.held))

pub returns-clause-spells : goal.returns-clause-spells
returns-clause-spells c = rw (← c.self.view_is) (body_spells c.self.inside.held)
