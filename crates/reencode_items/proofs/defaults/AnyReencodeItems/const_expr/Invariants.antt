use Rattle.std.proofs.Common.{◌-◌, length}
use Rattle.reencode_hooks.specs.Run.{ask}
use Rattle.reencode_items.proofs.Expressions.{ExpressionDone}
use Rattle.reencode_items.proofs.defaults.AnyReencodeItems.const_expr.Given as goal

-- the operators so far are mapped
abbrev pub invariant-operators : goal.invariant-operators
invariant-operators g l = let i = g.T.ReencodeIndices in
    ExpressionDone (ask i.reply i.next) i.keeps_defaults l.initial.self l.fn.const_expr.operators l.reader l.self l.mapped

abbrev pub decreases-operators : goal.decreases-operators
decreases-operators g l = length l.reader.bytes - l.reader.at
