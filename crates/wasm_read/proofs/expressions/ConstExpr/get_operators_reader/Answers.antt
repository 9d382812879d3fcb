use Rattle.wasm_read.proofs.HeldExpressions.{expression_spells}
use Rattle.wasm_read.proofs.expressions.ConstExpr.get_operators_reader.Goals as goal

pub returns-clause-spells : goal.returns-clause-spells
returns-clause-spells c = rw (← c.self.view_is) (expression_spells c.self.inside.held)
