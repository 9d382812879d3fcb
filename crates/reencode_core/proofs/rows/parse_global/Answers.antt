use Rattle.std.proofs.Common.{Err, Ok, refl}
use Rattle.wasm_shapes.specs.Tree.{Tree, visits}
use Rattle.wasm_shapes.specs.Types.{expression_of}
use Rattle.wasm_read.specs.Expressions.{expr_tree}
use Rattle.wasm_read.specs.Types as read
use Rattle.wasm_write.specs.Rows.{global_tree}
use Rattle.wasm_write.specs.Types as write
use Rattle.reencode_items.proofs.Leaving.{first_visited, second_visited, sure_visited}
use Rattle.reencode_core.proofs.rows_walked.OneRow.{first_refused, one_too_many, row_not_added, row_unmapped, second_mapped}
use Rattle.reencode_core.proofs.rows.parse_global.Goals as goal

pub returns-in_err-ty : goal.returns-in_err-ty
returns-in_err-ty g c =
    let i = g.T.ReencodeIndices in
    let row = c.args.global in
    let gone = c.in_err-ty.ensures in
    row_unmapped i (read.global_tree row) (λ (t : Tree). t) _ _ _ (first_refused i _ _ (read.global_type_tree row.ty) (expr_tree row.init_expr) write.global_type_tree (λ (t : Tree). t) _ gone.default)
    (λ k sure. first_visited (visits (expr_tree row.init_expr)) (sure_visited i.reply i.next (read.global_type_tree row.ty) write.global_type_tree _ (gone.default k) (gone.sure k) sure)) refl _
    c.from_residual.ensures.1

pub returns-in_err-init : goal.returns-in_err-init
returns-in_err-init g c =
    let i = g.T.ReencodeIndices in
    let row = c.args.global in
    let ty = c.in_ok-ty.ty in
    let gone = c.in_err-init.ensures in
    row_unmapped i (read.global_tree row) (global_tree ty) _ _ _
    (second_mapped i _ _ _ (read.global_type_tree row.ty) (expr_tree row.init_expr) write.global_type_tree expression_of ty (Err _) c.in_ok-ty.ensures.default gone.default)
    (λ k sure. second_visited 0 (read.global_type_tree row.ty) (c.in_ok-ty.ensures.default k 0) (gone.after_error k sure)) refl _ c.from_residual-in_err-init.ensures.1

pub returns-in_err-global : goal.returns-in_err-global
returns-in_err-global g c =
    let i = g.T.ReencodeIndices in
    let row = c.args.global in
    let ty = c.in_ok-ty.ty in
    let value = c.in_ok-init.init in
    let gone = c.in_err-global.ensures in
    row_not_added i (read.global_tree row) (global_tree ty) _ _ value _
    (second_mapped i _ _ _ (read.global_type_tree row.ty) (expr_tree row.init_expr) write.global_type_tree expression_of ty (Ok value) c.in_ok-ty.ensures.default c.in_ok-init.ensures.default) gone.err (one_too_many (global_tree ty value) _ _ gone.large) _
    c.from_residual-in_err-global.ensures.1
