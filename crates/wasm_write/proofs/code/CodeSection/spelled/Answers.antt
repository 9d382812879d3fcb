use Rattle.std.proofs.Common.{◌+◌, List, length, ap, arith}
use Rattle.wasm_shapes.specs.Tree.{Tree}
use Rattle.wasm_write.specs.Bodies.{CodeRows}
use Rattle.wasm_write.proofs.Holding.{OnOk-map}
use Rattle.wasm_write.proofs.HoldingBodies.{code_large, gains_row}
use Rattle.wasm_write.proofs.code.CodeSection.spelled.Goals as goal

pub returns-clause-ok : goal.returns-clause-ok
returns-clause-ok c =
    let made : List Tree → CodeRows = λ rows. record { ceiling = c.self.inside.ceiling; rows = rows } in
    rw (← c.self.view_is) (OnOk-map c.add.result c.add.ensures.ok (λ e. gains_row _ (made c.self.inside.rows) (made c.add.new.self) (ap made e)))

pub returns-clause-large : goal.returns-clause-large
returns-clause-large c =
    rw (← c.self.view_is) (code_large c.add.result _ c.self.inside.ceiling (length c.self.inside.rows + 1) (omega arith) c.add.ensures.large)
