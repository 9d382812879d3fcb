use Rattle.std.proofs.Common.{refl}
use Rattle.wasm_shapes.specs.declared.Space.TheVariants as space
use Rattle.wasm_types.specs.declared.components.Operands.TheVariants as operands
use Rattle.wasm_types.specs.ComponentTrees.{canonical_options_tree}
use Rattle.reencode_component.proofs.rows_walked.OperandsWalked.{gives_operands, hands_on_operands}
use Rattle.reencode_component.proofs.rows_walked.PartsWalked.{both_mapped, index_mapped, led_ended, led_mapped, list_ended, list_mapped, second_ended}
use Rattle.reencode_component.proofs.canonical.lower.Goals as goal

pub returns-in_err-options : goal.returns-in_err-options
returns-in_err-options g c =
    let func = index_mapped space.ComponentFunc c.args.func c.component_func_index-func.ensures.answer in
    hands_on_operands g.T.ReencodeIndices (operands.Lower c.args.func c.args.options.now) _
    (led_ended 0 (second_ended func (list_ended (canonical_options_tree c.args.options.now) canonical_options_tree c.in_err-options.ensures))) _ c.from_residual.ensures.1

pub returns : goal.returns
returns g c =
    let func = index_mapped space.ComponentFunc c.args.func c.component_func_index-func.ensures.answer in
    let options = list_mapped {t = canonical_options_tree c.args.options.now} canonical_options_tree c.in_ok-options.options c.in_ok-options.ensures in
    gives_operands g.T.ReencodeIndices (operands.Lower c.args.func c.args.options.now) (operands.Lower c.component_func_index-func.result c.in_ok-options.options) refl (led_mapped 0 (both_mapped func options))
