use Rattle.std.proofs.Common.{false, refl}
use Rattle.wasm_shapes.specs.declared.SectionId.TheVariants as id
use Rattle.wasm_shapes.specs.Drawn.{IsItem}
use Rattle.reencode_core.proofs.rows_walked.EachRow.{rows_begun, rows_ended, rows_stuck}
use Rattle.reencode_core.proofs.rows_walked.RowLoop.{none_if}
use Rattle.reencode_core.proofs.rows_walked.TypeRow.{group_added, group_refused}
use Rattle.reencode_core.proofs.direct.parse_type_section.Goals as goal

pub rows-init : goal.rows-init
rows-init g c = rows_begun g.R.ReencodeIndices (IsItem.row id.Type_) refl refl

pub rows-preserved : goal.rows-preserved
rows-preserved g c = group_added g.R.ReencodeIndices c.rows.invariant (rw c.in-Some.is at c.in_ok-bytes.ensures.row) c.in_ok-parse_group.ensures

pub returns-in_err-bytes : goal.returns-in_err-bytes
returns-in_err-bytes g c = rows_stuck g.R.ReencodeIndices c.rows.invariant _ (none_if false _ _ _ c.in_err-bytes.ensures.err) _ c.from_residual.ensures.1

pub returns-in_err-parse_group : goal.returns-in_err-parse_group
returns-in_err-parse_group g c =
    group_refused g.R.ReencodeIndices c.rows.invariant (rw c.in-Some.is at c.in_ok-bytes.ensures.row) _ c.in_err-parse_group.ensures _ c.from_residual-in_err-parse_group.ensures.1

pub returns : goal.returns
returns g c = rows_ended g.R.ReencodeIndices c.rows.invariant (rw c.in_default.is at c.in_ok-bytes.ensures.ended)
