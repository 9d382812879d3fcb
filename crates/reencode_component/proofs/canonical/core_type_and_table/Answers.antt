use Rattle.wasm_shapes.specs.declared.Space.TheVariants as space
use Rattle.wasm_types.specs.declared.components.Operands.TheVariants as operands
use Rattle.reencode_component.proofs.rows_walked.OperandsWalked.{hands_on_operands}
use Rattle.reencode_component.proofs.rows_walked.PartsWalked.{first_ended, index_ended, index_mapped, second_ended}
use Rattle.reencode_component.proofs.canonical.core_type_and_table.Goals as goal

pub returns-in_err-ty : goal.returns-in_err-ty
returns-in_err-ty g c =
    let gone = c.in_err-ty.ensures in
    hands_on_operands g.T.ReencodeIndices (operands.CoreTypeAndTable c.args.ty c.args.table) _ (first_ended _ (index_ended space.Type_ c.args.ty gone.answer gone.sure)) _ c.from_residual.ensures.1

pub returns-in_err-table : goal.returns-in_err-table
returns-in_err-table g c =
    let ty = index_mapped space.Type_ c.args.ty c.in_ok-ty.ensures.answer in
    let gone = c.in_err-table.ensures in
    hands_on_operands g.T.ReencodeIndices (operands.CoreTypeAndTable c.args.ty c.args.table) _ (second_ended ty (index_ended space.Table c.args.table gone.answer gone.sure)) _ c.from_residual-in_err-table.ensures.1
