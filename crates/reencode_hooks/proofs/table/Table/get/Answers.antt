use Rattle.std.proofs.Common.{sym, arith}
use Rattle.reencode_hooks.proofs.Tables.{none_held}
use Rattle.reencode_hooks.proofs.table.Table.get.Goals as goal

pub returns-then-is_empty : goal.returns-then-is_empty
returns-then-is_empty c = rw (← c.self.view_is) (sym (none_held c.self.inside.pairs.items c.args.key (grind (arith))))
