use Rattle.wasm_write.proofs.Holding.{OnOk-map}
use Rattle.wasm_write.proofs.HoldingBodies.{body_held, gained_row}
use Rattle.wasm_write.proofs.code.CodeSection.function.Goals as goal

pub spelled-requires : goal.spelled-requires
spelled-requires c = body_held c.args.f.now c.as_bytes.ensures.value c.as_bytes.ensures.spells

pub returns-clause-ok : goal.returns-clause-ok
returns-clause-ok c = OnOk-map c.spelled.result c.spelled.ensures.ok (gained_row c.args.f.now _ _ c.as_bytes.ensures.value c.as_bytes.ensures.spells)
