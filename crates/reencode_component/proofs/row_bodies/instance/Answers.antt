use Rattle.std.proofs.Common.{map}
use Rattle.wasm_shapes.specs.declared.Space.TheVariants as space
use Rattle.wasm_shapes.specs.Types.{vector_tree}
use Rattle.wasm_types.specs.declared.components.Instance.TheVariants as instance
use Rattle.wasm_types.specs.ComponentTrees.{instance_tree, instantiation_arg_tree}
use Rattle.wasm_read.specs.Types.{export_tree}
use Rattle.wasm_write_component.specs.ComponentRows as write
use Rattle.reencode_component.proofs.rows_walked.PartsWalked.{hands_on, index_mapped, led_ended, list_ended, row_ended, second_ended}
use Rattle.reencode_component.proofs.row_bodies.instance.Goals as goal

pub returns-in_err-args-in-Instantiate : goal.returns-in_err-args-in-Instantiate
returns-in_err-args-in-Instantiate g c =
    let index = c.in-Instantiate.module_index in
    let args = c.in-Instantiate.args in
    let first = index_mapped {i = g.T.ReencodeIndices} space.Module index c.module_index-module_index.ensures.answer in
    let gone = list_ended {i = g.T.ReencodeIndices} (vector_tree (map instantiation_arg_tree args)) (λ made. vector_tree (map instantiation_arg_tree made)) c.in_err-args-in-Instantiate.ensures in
    rw c.in-Instantiate.is (hands_on (instance_tree export_tree (instance.Instantiate index args)) write.instance_tree _ (row_ended 0 (led_ended 0 (second_ended first gone))) _ c.from_residual.ensures.1)
