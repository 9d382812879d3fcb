use Rattle.std.proofs.Common.{◌≡◌, ℕ, suc, ◌-◌, ◌<◌, ◌^◌, ◌++◌, ◌∙◌, List, ap, refl, arith}
use Rattle.reencode_items.proofs.Streaming.{kept_same, unasked_stops}
use Rattle.reencode_component.proofs.types_walked.StreamedScopes.{declared_full, declared_streams, declared_uncounted, rows_all, rows_begun, rows_more, rows_none, rows_stop, scope_none, scope_stops, scope_streams, scope_unopened}
use Rattle.reencode_component.proofs.direct.+direct.Goals as goal

pub stream_declaration-returns-in-Component : goal.stream_declaration-returns-in-Component
stream_declaration-returns-in-Component g t c = rw c.in-Component.is c.stream_component_row.ensures

pub stream_declaration-returns-in-Instance : goal.stream_declaration-returns-in-Instance
stream_declaration-returns-in-Instance g t c = rw c.in-Instance.is c.stream_instance_row.ensures

pub stream_declaration-returns-then-depth-ge-DEPTH : goal.stream_declaration-returns-then-depth-ge-DEPTH
stream_declaration-returns-then-depth-ge-DEPTH g t c = declared_full c.args.scope c.in-Some.inner c.in-Some.ensures g.T.ReencodeIndices (omega arith)

pub stream_declaration-returns-in_default-front_u32 : goal.stream_declaration-returns-in_default-front_u32
stream_declaration-returns-in_default-front_u32 g t c = declared_uncounted c.args.scope c.in-Some.inner c.in-Some.ensures g.T.ReencodeIndices c.in_default-front_u32.ensures.none

pub stream_declaration-returns-in-Ok : goal.stream_declaration-returns-in-Ok
stream_declaration-returns-in-Ok g t c =
    declared_streams c.args.scope c.in-Some.inner c.in-Some.ensures g.T.ReencodeIndices c.args.out.now.items c.in-Some-front_u32.ensures.some
    (c.in-Ok.ensures.items ∙ ap (λ (z : List ℕ). c.args.out.now.items ++ z) c.declared_front_of.ensures) _ c.stream_scope.ensures

pub stream_declarations-rows-init : goal.stream_declarations-rows-init
stream_declarations-rows-init g t c = rows_begun g.T.ReencodeIndices _ _ _ _

pub stream_declarations-rows-preserved : goal.stream_declarations-rows-preserved
stream_declarations-rows-preserved g t c =
    let more : c.rows.left ≡ suc (c.rows.left - 1) = omega arith in
    rows_more g.T.ReencodeIndices c.rows.invariant more (rw c.in-Ok-Some.field-0-is at c.in-Ok-Some.ensures)

pub stream_declarations-returns-in-Ok-None : goal.stream_declarations-returns-in-Ok-None
stream_declarations-returns-in-Ok-None g t c =
    let more : c.rows.left ≡ suc (c.rows.left - 1) = omega arith in
    rows_none g.T.ReencodeIndices c.rows.invariant more (rw c.in-Ok-None.field-0-is at c.in-Ok-None.ensures)

pub stream_declarations-returns-in-Err : goal.stream_declarations-returns-in-Err
stream_declarations-returns-in-Err g t c =
    let more : c.rows.left ≡ suc (c.rows.left - 1) = omega arith in
    rows_stop g.T.ReencodeIndices c.rows.invariant _ more c.in-Err.ensures

pub stream_declarations-returns : goal.stream_declarations-returns
stream_declarations-returns g t c = let ended : c.rows.left ≡ 0 = omega arith in rows_all g.T.ReencodeIndices _ c.rows.invariant ended

pub stream_scope-returns-in-Err : goal.stream_scope-returns-in-Err
stream_scope-returns-in-Err g t c = unasked_stops g.T.ReencodeIndices (kept_same c.args.out.now.items c.in-Err.ensures.err) refl

pub stream_scope-returns-in-Err-push_depth : goal.stream_scope-returns-in-Err-push_depth
stream_scope-returns-in-Err-push_depth g t c = scope_unopened g.T.ReencodeIndices c.args.out.now.items c.in-Err-push_depth.e c.in-Ok.ensures.ok c.in-Err-push_depth.ensures.answer c.in-Err-push_depth.ensures.sure

pub stream_scope-returns-in-Ok-Some : goal.stream_scope-returns-in-Ok-Some
stream_scope-returns-in-Ok-Some g t c =
    let small : c.args.count < 2 ^ 32 = omega arith in
    scope_streams g.T.ReencodeIndices c.args.out.now.items c.in-Ok.ensures.ok c.in-Ok-push_depth.ensures.answer c.in-Ok-Some.rest small (rw c.in-Ok-Some.field-0-is at c.in-Ok-Some.ensures) c.pop_depth.ensures.answer

pub stream_scope-returns-in-Ok-None : goal.stream_scope-returns-in-Ok-None
stream_scope-returns-in-Ok-None g t c =
    scope_none g.T.ReencodeIndices c.args.out.now.items c.in-Ok.ensures.ok c.in-Ok-push_depth.ensures.answer (rw c.in-Ok-None.field-0-is at c.in-Ok-None.ensures)

pub stream_scope-returns-in-Err-stream_declarations : goal.stream_scope-returns-in-Err-stream_declarations
stream_scope-returns-in-Err-stream_declarations g t c =
    scope_stops g.T.ReencodeIndices c.args.out.now.items c.in-Ok.ensures.ok c.in-Ok-push_depth.ensures.answer c.in-Err-stream_declarations.e c.in-Err-stream_declarations.ensures
