use Rattle.std.proofs.Common.{None}
use Rattle.wasm_shapes.proofs.OperatorRows.{row_here, row_past}
use Rattle.wasm_shapes.proofs.operators.row_at.Goals as goal

pub returns-in-Some : goal.returns-in-Some
returns-in-Some c = row_here {rows = c.args.rows.now} c.in-Some.ensures.lookup.3.0 (c.in-Some.ensures.lookup.3.1 None)

pub returns-in-None : goal.returns-in-None
returns-in-None c = row_past {rows = c.args.rows.now} c.in-None.ensures.lookup.3
