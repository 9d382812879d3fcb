use Rattle.std.proofs.Common.{map, refl}
use Rattle.wasm_shapes.specs.declared.Space.TheVariants as space
use Rattle.wasm_shapes.specs.Tree.{Tree}
use Rattle.wasm_shapes.specs.Types.{vector_tree}
use Rattle.wasm_read_component.specs.ComponentRows.{start_tree}
use Rattle.wasm_write_component.specs.ComponentRows.{value_index_tree}
use Rattle.reencode_component.proofs.sections_walked.SectionAdded.{made_tree}
use Rattle.reencode_component.proofs.rows_walked.PartsWalked.{Mapped, both_mapped, first_ended, gives_list, hands_on, index_mapped, list_ended, list_mapped, second_ended}
use Rattle.reencode_component.proofs.row_bodies.start.Goals as goal

pub returns-in_err-args : goal.returns-in_err-args
returns-in_err-args g c =
    let f = c.args.func in
    let first = index_mapped {i = g.T.ReencodeIndices} space.ComponentFunc f.func_index c.component_func_index-function_index.ensures.answer in
    let gone = list_ended {i = g.T.ReencodeIndices} (vector_tree (map value_index_tree f.arguments)) (λ made. vector_tree (map value_index_tree made)) c.in_err-args.ensures in
    hands_on (start_tree f) made_tree _ (second_ended first (first_ended (Tree.u32 f.results) gone)) _ c.from_residual.ensures.1

pub returns : goal.returns
returns g c =
    let i = g.T.ReencodeIndices in
    let f = c.args.func in
    let first = index_mapped {i = i} space.ComponentFunc f.func_index c.component_func_index-function_index.ensures.answer in
    let values = list_mapped {i = i} {t = vector_tree (map value_index_tree f.arguments)} (λ made. vector_tree (map value_index_tree made)) c.in_ok-args.args c.in_ok-args.ensures in
    let results : Mapped i c.map_items.new.reencoder (Tree.u32 f.results) (Tree.u32 f.results) c.map_items.new.reencoder = record { walks = λ k n. refl } in
    gives_list (start_tree f) made_tree (record { function_index = c.component_func_index-function_index.result; args = c.in_ok-args.args; results = f.results }) (both_mapped first (both_mapped values results))
