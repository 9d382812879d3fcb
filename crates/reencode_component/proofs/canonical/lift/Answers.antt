use Rattle.std.proofs.Common.{refl}
use Rattle.wasm_shapes.specs.declared.Space.TheVariants as space
use Rattle.wasm_types.specs.declared.components.Operands.TheVariants as operands
use Rattle.wasm_types.specs.ComponentTrees.{canonical_options_tree}
use Rattle.reencode_component.proofs.rows_walked.OperandsWalked.{gives_operands, hands_on_operands}
use Rattle.reencode_component.proofs.rows_walked.PartsWalked.{both_mapped, first_ended, index_ended, index_mapped, late_ended, led_ended, led_mapped, list_ended, list_mapped, second_ended, swap_mapped}
use Rattle.reencode_component.proofs.canonical.lift.Goals as goal

pub returns-in_err-func : goal.returns-in_err-func
returns-in_err-func g c =
    let gone = c.in_err-func.ensures in
    hands_on_operands g.T.ReencodeIndices (operands.Lift c.args.func c.args.options.now c.args.ty) _ (led_ended 0 (first_ended _ (index_ended space.Function c.args.func gone.answer gone.sure))) _ c.from_residual.ensures.1

pub returns-in_err-options : goal.returns-in_err-options
returns-in_err-options g c =
    let func = index_mapped space.Function c.args.func c.in_ok-func.ensures.answer in
    let ty = index_mapped space.ComponentType c.args.ty c.component_type_index-ty.ensures.answer in
    hands_on_operands g.T.ReencodeIndices (operands.Lift c.args.func c.args.options.now c.args.ty) _
    (led_ended 0 (second_ended func (late_ended ty (list_ended (canonical_options_tree c.args.options.now) canonical_options_tree c.in_err-options.ensures)))) _ c.from_residual-in_err-options.ensures.1

pub returns : goal.returns
returns g c =
    let func = index_mapped space.Function c.args.func c.in_ok-func.ensures.answer in
    let ty = index_mapped space.ComponentType c.args.ty c.component_type_index-ty.ensures.answer in
    let options = list_mapped {t = canonical_options_tree c.args.options.now} canonical_options_tree c.in_ok-options.options c.in_ok-options.ensures in
    gives_operands g.T.ReencodeIndices (operands.Lift c.args.func c.args.options.now c.args.ty) (operands.Lift c.in_ok-func.func c.in_ok-options.options c.component_type_index-ty.result) refl
    (led_mapped 0 (both_mapped func (swap_mapped ty options)))
