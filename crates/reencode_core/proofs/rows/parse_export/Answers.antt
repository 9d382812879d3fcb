use Rattle.std.proofs.Common.{refl}
use Rattle.wasm_shapes.specs.Tree.{Tree}
use Rattle.wasm_read.specs.Types as read
use Rattle.wasm_write.specs.Rows.{export_tree}
use Rattle.reencode_items.proofs.Leaving.{never_wants, sure_visited}
use Rattle.reencode_core.specs.Clauses.{asks}
use Rattle.reencode_core.proofs.after_error.StateLeft.{item_leaves, item_refused, never_refused}
use Rattle.reencode_core.proofs.rows_walked.OneRow.{export_accepted, export_large, row_mapped, row_not_added, row_unmapped}
use Rattle.reencode_core.proofs.rows.parse_export.Goals as goal

pub returns-in_err-kind : goal.returns-in_err-kind
returns-in_err-kind g c =
    let gone = c.in_err-kind.ensures in
    row_unmapped g.T.ReencodeIndices (read.export_tree c.args.export) (λ (t : Tree). t) _ _ _ (λ k ceiling other. absurd (never_refused (gone.default k 0 other)))
    (λ k sure. absurd (never_refused (gone.default k 0 (never_wants _ (gone.sure k) sure)))) refl _ c.from_residual.ensures.1

pub returns-in_err-index : goal.returns-in_err-index
returns-in_err-index g c =
    let i = g.T.ReencodeIndices in
    let row = c.args.export in
    let kind = c.in_ok-kind.kind in
    let same = c.in_ok-kind.ensures.default in
    let gone = c.in_err-index.ensures in
    row_unmapped i (read.export_tree row) (λ (t : Tree). t) _ _ _ (λ k ceiling other. item_refused (asks i) ceiling _ row _ kind row.index (same k row.index) (gone.default k ceiling other))
    (λ k sure. item_leaves row _ _ _ kind row.index (same k row.index)
    (sure_visited i.reply i.next (read.item_tree row.kind row.index) (read.item_tree row.kind) _ (gone.default k) (gone.sure k) sure)) refl _ c.from_residual-in_err-index.ensures.1

pub returns-in_err-export : goal.returns-in_err-export
returns-in_err-export g c =
    let i = g.T.ReencodeIndices in
    let row = c.args.export in
    let gone = c.in_err-export.ensures in
    row_not_added i (read.export_tree row) (λ (t : Tree). t) _ _ (export_tree row.name.now c.in_ok-kind.kind c.in_ok-index.index) _ (λ k n. export_accepted (asks i) n row _ _ _ c.in_ok-kind.kind c.in_ok-index.index (c.in_ok-kind.ensures.default k _) (c.in_ok-index.ensures.default k n)) gone.err (export_large _ _ _ _ _ gone.large) _
    c.from_residual-in_err-export.ensures.1

pub returns : goal.returns
returns g c =
    let i = g.T.ReencodeIndices in
    let row = c.args.export in
    row_mapped i (read.export_tree row) (λ (t : Tree). t) _ _ (export_tree row.name.now c.in_ok-kind.kind c.in_ok-index.index) (λ k n. export_accepted (asks i) n row _ _ _ c.in_ok-kind.kind c.in_ok-index.index (c.in_ok-kind.ensures.default k _) (c.in_ok-index.ensures.default k n)) c.in_ok-export.ensures.ok
