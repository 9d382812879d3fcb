use Rattle.std.proofs.Common.{Err, refl}
use Rattle.wasm_shapes.specs.declared.SectionId.TheVariants as id
use Rattle.wasm_shapes.specs.Drawn.{IsItem}
use Rattle.wasm_read.specs.Types as read
use Rattle.wasm_write.specs.Types as write
use Rattle.reencode_core.proofs.rows_walked.EachRow.{rows_begun, rows_ended, rows_stuck, rows_added, rows_refused_at}
use Rattle.reencode_core.proofs.rows_walked.OneRow.{row_mapped, row_unmapped, row_not_added}
use Rattle.reencode_core.proofs.utils.parse_type_section.Goals as goal

pub rows-init : goal.rows-init
rows-init g c = rows_begun g.T.ReencodeIndices (IsItem.row id.Type_) refl refl

pub rows-preserved : goal.rows-preserved
rows-preserved g c =
    let i = g.T.ReencodeIndices in
    let row = rw c.in-Some.is at c.in_ok-row.ensures.row in
    rows_added i c.rows.invariant row (row_mapped i (read.group_tree c.in-Some.row) write.group_tree _ _ c.in_ok-parse_recursive_type_group.field-0 c.in_ok-parse_recursive_type_group.ensures.default c.in_ok-group.ensures.ok)

pub returns-in_err-row : goal.returns-in_err-row
returns-in_err-row g c = rows_stuck g.T.ReencodeIndices c.rows.invariant _ c.in_err-row.ensures.err _ c.from_residual.ensures.1

pub returns-in_err-parse_recursive_type_group : goal.returns-in_err-parse_recursive_type_group
returns-in_err-parse_recursive_type_group g c =
    let i = g.T.ReencodeIndices in
    let row = rw c.in-Some.is at c.in_ok-row.ensures.row in
    let maps = c.in_err-parse_recursive_type_group.ensures.default in
    rows_refused_at i c.rows.invariant row _ (row_unmapped i (read.group_tree c.in-Some.row) write.group_tree _ _ _ maps c.in_err-parse_recursive_type_group.ensures.after_error refl (Err _) refl) _ c.from_residual-in_err-parse_recursive_type_group.ensures.1

pub returns-in_err-group : goal.returns-in_err-group
returns-in_err-group g c =
    let i = g.T.ReencodeIndices in
    let row = rw c.in-Some.is at c.in_ok-row.ensures.row in
    let gone = c.in_err-group.ensures in
    rows_refused_at i c.rows.invariant row _ (row_not_added i (read.group_tree c.in-Some.row) write.group_tree _ _ c.in_ok-parse_recursive_type_group.field-0 _ c.in_ok-parse_recursive_type_group.ensures.default gone.err gone.large (Err _) refl) _ c.from_residual-in_err-group.ensures.1

pub returns : goal.returns
returns g c = rows_ended g.T.ReencodeIndices c.rows.invariant (rw c.in_default.is at c.in_ok-row.ensures.ended)
