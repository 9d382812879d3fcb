use Rattle.std.proofs.Common.{map}
use Rattle.wasm_shapes.specs.Types.{vector_tree}
use Rattle.wasm_types.specs.ComponentTrees.{component_func_type_tree, named_value_tree, result_tree}
use Rattle.reencode_component.proofs.types_walked.TypeParts.{func_ended}
use Rattle.reencode_component.proofs.rows_walked.PartsWalked.{first_ended, hands_on, list_ended}
use Rattle.reencode_component.proofs.types.parse_component_func_type.Goals as goal

pub returns-in_err-params : goal.returns-in_err-params
returns-in_err-params g c =
    let i = g.T.ReencodeIndices in
    let ty = c.args.ty in
    let gone = list_ended {i = i} (vector_tree (map named_value_tree ty.params)) (λ made. vector_tree (map named_value_tree made)) c.in_err-params.ensures in
    hands_on (component_func_type_tree ty) component_func_type_tree _ (func_ended ty.async_ (first_ended (result_tree ty.result) gone)) _ c.from_residual.ensures.1
