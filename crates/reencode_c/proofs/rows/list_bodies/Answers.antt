use Rattle.std.proofs.Common.{◌≡◌, ◌-◌, ap, ◌∙◌}
use Rattle.wasm_shapes.specs.declared.SectionId.TheVariants as ids
use Rattle.wasm_shapes.specs.Tree.{Tree}
use Rattle.reencode_core.proofs.bodies.BodyLoop.{code_read}
use Rattle.reencode_c.specs.Visits.{in_row}
use Rattle.reencode_c.proofs.RowsPlaced.{listed_at, rows_begin, rows_ended, rows_more}
use Rattle.reencode_c.proofs.rows.list_bodies.Goals as goal

pub bodies-init : goal.bodies-init
bodies-init c = rows_begin ids.Code c.args.lister.now c.in-Ok.ensures.ok

pub bodies-preserved : goal.bodies-preserved
bodies-preserved c =
    let read = rw c.in-Ok-Some.field-0-is at c.in-Ok-Some.ensures.row in
    let number : c.saturating_sub-number.result ≡ c.bodies.bodies.count - c.bodies.bodies.left = rw (c.count.ensures, c.left.ensures) at c.saturating_sub-number.ensures in
    let listed = c.in-Ok-list_body.ensures in
    rows_more ids.Code c.bodies.invariant (code_read read listed.1) (listed_at (Tree.sized listed.0) c.bodies.lister c.move_to.new.self c.list_body.new.lister c.move_to.ensures (c.in_row.ensures ∙ ap (in_row ids.Code) number) listed.2)

pub returns-in-Ok-None : goal.returns-in-Ok-None
returns-in-Ok-None c = rows_ended c.bodies.invariant (rw c.in-Ok-None.field-0-is at c.in-Ok-None.ensures.ended)
