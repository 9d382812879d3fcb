use Rattle.std.proofs.Common.{◌++◌, [], length, refl}
use Rattle.wasm_shapes.specs.declared.Space.TheVariants as space
use Rattle.wasm_shapes.specs.declared.Visit.TheVariants.{Index}
use Rattle.wasm_shapes.specs.Tree.{visits}
use Rattle.wasm_shapes.specs.Types.{active_data_of, expression_of, passive_data_tree}
use Rattle.wasm_read.specs.Expressions.{expr_tree}
use Rattle.wasm_write.specs.Counts.{counts}
use Rattle.reencode_items.proofs.Leaving.{first_visited, hook_visited}
use Rattle.reencode_core.proofs.rows_walked.DataRow.{as_it_is, data_large, memory_refused, offset_refused, offset_visited, passive_mapped, segment_mapped}
use Rattle.reencode_core.proofs.rows_walked.OneRow.{row_not_added, row_unmapped}
use Rattle.reencode_core.proofs.rows.parse_data.Goals as goal

pub returns-in_err-memory-in-Active : goal.returns-in_err-memory-in-Active
returns-in_err-memory-in-Active g c =
    let i = g.T.ReencodeIndices in
    let memory = c.in-Active.memory_index in
    let offset = expr_tree c.in-Active.offset_expr in
    let gone = c.in_err-memory-in-Active.ensures in
    rw c.in-Active.is (row_unmapped i (active_data_of memory offset c.args.datum.contents.now) as_it_is _ _ _ (memory_refused i memory offset c.args.datum.contents.now _ _ _ gone.answer)
    (λ k sure. first_visited (visits offset ++ []) (hook_visited i.reply i.next (Index space.Memory memory) _ gone.answer gone.sure sure)) refl _
    c.from_residual.ensures.1)

pub returns-in_err-offset-in-Active : goal.returns-in_err-offset-in-Active
returns-in_err-offset-in-Active g c =
    let i = g.T.ReencodeIndices in
    let memory = c.in-Active.memory_index in
    let offset = expr_tree c.in-Active.offset_expr in
    let bytes = c.args.datum.contents.now in
    let given = c.in_ok-memory-in-Active.ensures.answer in
    let gone = c.in_err-offset-in-Active.ensures in
    rw c.in-Active.is (row_unmapped i (active_data_of memory offset bytes) as_it_is _ _ _ (offset_refused i memory offset bytes _ _ _ _ given _ gone.default)
    (λ k sure. offset_visited i memory offset bytes _ _ _ _ given (gone.after_error k sure)) refl _ c.from_residual-in_err-offset-in-Active.ensures.1)

pub returns-in_err-active-in-Active : goal.returns-in_err-active-in-Active
returns-in_err-active-in-Active g c =
    let i = g.T.ReencodeIndices in
    let memory = c.in-Active.memory_index in
    let offset = expr_tree c.in-Active.offset_expr in
    let made = c.in_ok-offset-in-Active.offset in
    let bytes = c.args.datum.contents.now in
    let gone = c.in_err-active-in-Active.ensures in
    rw c.in-Active.is (row_not_added i (active_data_of memory offset bytes) as_it_is _ _ (active_data_of c.in_ok-memory-in-Active.memory (expression_of made) bytes) _
    (segment_mapped i memory offset bytes _ _ _ _ c.in_ok-memory-in-Active.ensures.answer made c.in_ok-offset-in-Active.ensures.default) gone.err
    (data_large (counts (expression_of made)) (length bytes) _ _ gone.large) _ c.from_residual-in_err-active-in-Active.ensures.1)

pub returns-in_err-passive-in-Passive : goal.returns-in_err-passive-in-Passive
returns-in_err-passive-in-Passive g c =
    let i = g.T.ReencodeIndices in
    let bytes = c.args.datum.contents.now in
    let gone = c.in_err-passive-in-Passive.ensures in
    rw c.in-Passive.is (row_not_added i (passive_data_tree bytes) as_it_is _ _ (passive_data_tree bytes) _ (passive_mapped i bytes _) gone.err
    (data_large [] (length bytes) _ _ gone.large) _ c.from_residual-in_err-passive-in-Passive.ensures.1)
