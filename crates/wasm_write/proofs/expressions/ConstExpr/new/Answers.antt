use Rattle.wasm_write.proofs.HoldingBodies.{expression_none, expression_none_is}
use Rattle.wasm_write.proofs.expressions.ConstExpr.new.Goals as goal

pub invariant_of-result : goal.invariant_of-result
invariant_of-result c = (expression_none c.new.ensures.items, tt)

pub returns : goal.returns
returns c = expression_none_is _ c.new.ensures.items
