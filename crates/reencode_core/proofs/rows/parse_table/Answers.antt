use Rattle.std.proofs.Common.{Ok, refl}
use Rattle.wasm_shapes.specs.Tree.{Tree}
use Rattle.wasm_read.specs.declared.types.TableInit.TheVariants as init
use Rattle.wasm_read.specs.Types as read
use Rattle.wasm_write.specs.Types as write
use Rattle.wasm_write.specs.Rows.{null_table_tree, table_with_init_tree}
use Rattle.reencode_items.proofs.Leaving.{second_visited, sure_visited}
use Rattle.reencode_core.specs.Clauses.{asks}
use Rattle.reencode_core.proofs.after_error.StateLeft.{init_refused, table_leaves, table_refused}
use Rattle.reencode_core.proofs.rows_walked.OneRow.{null_table_mapped, one_too_many, row_not_added, row_unmapped, table_mapped}
use Rattle.reencode_core.proofs.rows.parse_table.Goals as goal

pub returns-in_err-ty : goal.returns-in_err-ty
returns-in_err-ty g c =
    let i = g.T.ReencodeIndices in
    let row = c.args.table in
    let gone = c.in_err-ty.ensures in
    row_unmapped i (read.table_parts row.init row.ty) (λ (t : Tree). t) _ _ _ (λ k ceiling other. table_refused (asks i) ceiling _ row.ty row.init (gone.default k ceiling other))
    (λ k sure. table_leaves row.ty row.init (sure_visited i.reply i.next (read.table_type_tree row.ty) write.table_type_tree _ (gone.default k) (gone.sure k) sure)) refl _
    c.from_residual.ensures.1

pub returns-in_err-table-in-RefNull : goal.returns-in_err-table-in-RefNull
returns-in_err-table-in-RefNull g c =
    let i = g.T.ReencodeIndices in
    let ty = c.args.table.ty in
    let made = c.in_ok-ty.ty in
    let gone = c.in_err-table-in-RefNull.ensures in
    rw c.in-RefNull.is (row_not_added i (read.table_parts init.RefNull ty) null_table_tree _ _ made _ (null_table_mapped i _ _ ty (Ok made) c.in_ok-ty.ensures.default) gone.err (one_too_many (null_table_tree made) _ _ gone.large) _
    c.from_residual-in_err-table-in-RefNull.ensures.1)

pub returns-in_err-init-in-Expr : goal.returns-in_err-init-in-Expr
returns-in_err-init-in-Expr g c =
    let i = g.T.ReencodeIndices in
    let ty = c.args.table.ty in
    let expr = c.in-Expr.expr in
    let first = c.in_ok-ty.ensures.default in
    let maps = rw c.in-Expr.is at c.in_err-init-in-Expr.ensures.default in
    let left = rw c.in-Expr.is at c.in_err-init-in-Expr.ensures.after_error in
    rw c.in-Expr.is (row_unmapped i (read.table_parts (init.Expr expr) ty) (λ (t : Tree). t) _ _ _
    (λ k ceiling other. init_refused (asks i) ceiling _ _ (write.table_type_tree c.in_ok-ty.ty) ty expr (first k ceiling) (maps k ceiling other))
    (λ k sure. second_visited 0 (read.table_type_tree ty) (first k 0) (left k sure)) refl _ c.from_residual-in_err-init-in-Expr.ensures.1)

pub returns-in_err-table_with_init-in-Expr : goal.returns-in_err-table_with_init-in-Expr
returns-in_err-table_with_init-in-Expr g c =
    let i = g.T.ReencodeIndices in
    let ty = c.args.table.ty in
    let made = c.in_ok-ty.ty in
    let expr = c.in-Expr.expr in
    let value = c.in_ok-init-in-Expr.init in
    let gone = c.in_err-table_with_init-in-Expr.ensures in
    let maps = rw c.in-Expr.is at c.in_ok-init-in-Expr.ensures.default in
    rw c.in-Expr.is (row_not_added i (read.table_parts (init.Expr expr) ty) (table_with_init_tree made) _ _ value _
    (table_mapped i _ _ _ ty expr made (Ok value) c.in_ok-ty.ensures.default maps) gone.err (one_too_many (table_with_init_tree made value) _ _ gone.large) _
    c.from_residual-in_err-table_with_init-in-Expr.ensures.1)
