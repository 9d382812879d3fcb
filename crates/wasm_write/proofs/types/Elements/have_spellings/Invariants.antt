use Rattle.std.proofs.Common.{All, take}
use Rattle.wasm_write.specs.Rows.{HasSpelling}
use Rattle.wasm_write.proofs.types.Elements.have_spellings.Given as goal

-- the expressions so far have spellings
abbrev pub invariant-loop-expression : goal.invariant-loop-expression
invariant-loop-expression l = All HasSpelling (take l.expression-index l.expressions)
