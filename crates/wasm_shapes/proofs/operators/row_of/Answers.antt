use Rattle.std.proofs.Common.{true, refl}
use Rattle.wasm_shapes.specs.Operators.{one_byte_operators, behind_fb, behind_fc, behind_fd, behind_fe}
use Rattle.wasm_shapes.specs.OperatorRows.{looked_up, lie_below}
use Rattle.wasm_shapes.proofs.OperatorRows.{row_found, row_missing}
use Rattle.wasm_shapes.proofs.operators.row_of.Goals as goal

pub returns-in-0-clause-some : goal.returns-in-0-clause-some
unfolding looked_up lie_below
returns-in-0-clause-some c = row_found c.args.op 0 c.in-0.is c.row_at.result (c.row_at.ensures (one_byte_operators true) (record { same = refl; whole = refl }))

pub returns-in-0-clause-none : goal.returns-in-0-clause-none
unfolding looked_up lie_below
returns-in-0-clause-none c = row_missing c.args.op 0 c.in-0.is c.row_at.result (c.row_at.ensures (one_byte_operators true) (record { same = refl; whole = refl }))

pub returns-in-251-clause-some : goal.returns-in-251-clause-some
unfolding looked_up lie_below
returns-in-251-clause-some c = row_found c.args.op 251 c.in-251.is c.row_at-in-251.result (c.row_at-in-251.ensures behind_fb (record { same = refl; whole = refl }))

pub returns-in-251-clause-none : goal.returns-in-251-clause-none
unfolding looked_up lie_below
returns-in-251-clause-none c = row_missing c.args.op 251 c.in-251.is c.row_at-in-251.result (c.row_at-in-251.ensures behind_fb (record { same = refl; whole = refl }))

pub returns-in-252-clause-some : goal.returns-in-252-clause-some
unfolding looked_up lie_below
returns-in-252-clause-some c = row_found c.args.op 252 c.in-252.is c.row_at-in-252.result (c.row_at-in-252.ensures behind_fc (record { same = refl; whole = refl }))

pub returns-in-252-clause-none : goal.returns-in-252-clause-none
unfolding looked_up lie_below
returns-in-252-clause-none c = row_missing c.args.op 252 c.in-252.is c.row_at-in-252.result (c.row_at-in-252.ensures behind_fc (record { same = refl; whole = refl }))

pub returns-in-253-clause-some : goal.returns-in-253-clause-some
unfolding looked_up lie_below
returns-in-253-clause-some c = row_found c.args.op 253 c.in-253.is c.row_at-in-253.result (c.row_at-in-253.ensures behind_fd (record { same = refl; whole = refl }))

pub returns-in-253-clause-none : goal.returns-in-253-clause-none
unfolding looked_up lie_below
returns-in-253-clause-none c = row_missing c.args.op 253 c.in-253.is c.row_at-in-253.result (c.row_at-in-253.ensures behind_fd (record { same = refl; whole = refl }))

pub returns-in-254-clause-some : goal.returns-in-254-clause-some
unfolding looked_up lie_below
returns-in-254-clause-some c = row_found c.args.op 254 c.in-254.is c.row_at-in-254.result (c.row_at-in-254.ensures behind_fe (record { same = refl; whole = refl }))

pub returns-in-254-clause-none : goal.returns-in-254-clause-none
unfolding looked_up lie_below
returns-in-254-clause-none c = row_missing c.args.op 254 c.in-254.is c.row_at-in-254.result (c.row_at-in-254.ensures behind_fe (record { same = refl; whole = refl }))
