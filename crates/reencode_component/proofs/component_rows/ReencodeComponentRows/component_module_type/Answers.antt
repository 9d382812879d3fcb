use Rattle.std.proofs.Common.{Err, refl, arith}
use Rattle.wasm_shapes.specs.Component.{module_declaration}
use Rattle.wasm_shapes.specs.Drawn.{IsItem}
use Rattle.reencode_core.proofs.rows_walked.EachRow.{rows_begun, rows_ended, rows_stuck, rows_added, rows_refused_at}
use Rattle.reencode_component.proofs.types_walked.ScopeCalls.{scope_closed, scope_stopped}
use Rattle.reencode_component.proofs.component_rows.ReencodeComponentRows.component_module_type.Goals as goal

pub rows-init : goal.rows-init
rows-init g c = rows_begun g.Self.ReencodeIndices IsItem.module_declaration refl refl

pub rows-preserved : goal.rows-preserved
rows-preserved g c =
    let row = rw c.in-Some.is at c.in_ok-row.ensures.row in
    rows_added g.Self.ReencodeIndices c.rows.invariant row c.in_ok-parse_component_module_type_declaration.ensures

pub returns-in_err-row : goal.returns-in_err-row
returns-in_err-row g c =
    let i = g.Self.ReencodeIndices in
    scope_stopped i module_declaration c.args.ty _ c.in_ok-push_depth.ensures.answer c.new-module.ensures (omega arith) _ (rows_stuck i c.rows.invariant _ c.in_err-row.ensures.err (Err _) refl) _ c.from_residual-in_err-row.ensures.1

pub returns-in_err-parse_component_module_type_declaration : goal.returns-in_err-parse_component_module_type_declaration
returns-in_err-parse_component_module_type_declaration g c =
    let i = g.Self.ReencodeIndices in
    let row = rw c.in-Some.is at c.in_ok-row.ensures.row in
    scope_stopped i module_declaration c.args.ty _ c.in_ok-push_depth.ensures.answer c.new-module.ensures (omega arith) _ (rows_refused_at i c.rows.invariant row _ c.in_err-parse_component_module_type_declaration.ensures (Err _) refl) _ c.from_residual-in_err-parse_component_module_type_declaration.ensures.1

pub returns : goal.returns
returns g c =
    let i = g.Self.ReencodeIndices in
    scope_closed i module_declaration c.args.ty _ c.in_ok-push_depth.ensures.answer c.new-module.ensures (rows_ended i c.rows.invariant (rw c.in_default.is at c.in_ok-row.ensures.ended)) c.pop_depth.ensures.answer
