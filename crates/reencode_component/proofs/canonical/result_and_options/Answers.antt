use Rattle.wasm_types.specs.declared.components.Operands.TheVariants as operands
use Rattle.wasm_types.specs.ComponentTrees.{canonical_options_tree, result_tree}
use Rattle.reencode_component.proofs.rows_walked.OperandsWalked.{hands_on_operands}
use Rattle.reencode_component.proofs.rows_walked.PartsWalked.{early_ended, list_ended}
use Rattle.reencode_component.proofs.canonical.result_and_options.Goals as goal

pub returns-in_err-options : goal.returns-in_err-options
returns-in_err-options g c =
    hands_on_operands g.T.ReencodeIndices (operands.ResultAndOptions c.args.ty c.args.options.now) _
    (early_ended (result_tree c.args.ty) (list_ended (canonical_options_tree c.args.options.now) canonical_options_tree c.in_err-options.ensures)) _ c.from_residual.ensures.1
