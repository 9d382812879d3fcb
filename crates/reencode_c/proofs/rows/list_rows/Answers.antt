use Rattle.std.proofs.Common.{◌≡◌, ◌-◌, ap, ◌∙◌}
use Rattle.reencode_c.specs.Visits.{in_row}
use Rattle.reencode_c.proofs.RowsPlaced.{listed_at, rows_begin, rows_ended, rows_more}
use Rattle.reencode_c.proofs.rows.list_rows.Goals as goal

pub rows-init : goal.rows-init
rows-init g c = rows_begin c.args.id c.args.lister.now c.in-Ok.ensures.ok

pub rows-preserved : goal.rows-preserved
rows-preserved g c =
    let read = rw c.in-Ok-Some.field-0-is at c.in-Ok-Some.ensures.row in
    let number : c.saturating_sub-number.result ≡ c.rows.rows.count - c.rows.rows.left = rw (c.count.ensures, c.left.ensures) at c.saturating_sub-number.ensures in
    rows_more c.args.id c.rows.invariant read (listed_at (g.K.ReadRow.tree c.in-Ok-Some.row) c.rows.lister c.move_to.new.self c.list.new.lister c.move_to.ensures (c.in_row.ensures ∙ ap (in_row c.args.id) number) c.in-Ok-list.ensures)

pub returns-in-Ok-None : goal.returns-in-Ok-None
returns-in-Ok-None g c = rows_ended c.rows.invariant (rw c.in-Ok-None.field-0-is at c.in-Ok-None.ensures.ended)
