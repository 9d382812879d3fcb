use Rattle.std.proofs.Common.{◌≡◌, ◌+◌, ◌-◌, ℕ, length, refl, ap, ◌∙◌}
use Rattle.wasm_visits.specs.declared.lister.Lister.{Lister}
use Rattle.wasm_visits.proofs.Runs.{listed_at}
use Rattle.wasm_visits.proofs.RowsListed.{reader_begin, reader_ended, reader_more, reader_place}
use Rattle.wasm_visits.proofs.rows.list_rows.Goals as goal

pub rows-init : goal.rows-init
rows-init g c = reader_begin c.args.lister.now.visits c.in-Ok.ensures.ok refl

pub rows-preserved : goal.rows-preserved
rows-preserved g c =
    let read = rw c.in-Ok-Some.field-0-is at c.in-Ok-Some.ensures.row in
    let place : (c.args.end - length c.args.body.now) + c.place.result ≡ c.args.end - length c.rows.rows.rest =
    ap (λ (n : ℕ). (c.args.end - length c.args.body.now) + n) c.place.ensures ∙ reader_place c.rows.invariant c.requires in
    let moves : c.move_to.new.self ≡ record c.rows.lister { place = c.args.end - length c.rows.rows.rest; section = c.args.id } =
    c.move_to.ensures ∙ ap (λ (n : ℕ). record c.rows.lister { place = n; section = c.args.id }) place in
    reader_more c.rows.invariant read
    (listed_at (g.K.ReadRow.tree c.in-Ok-Some.row) c.args.id (c.args.end - length c.rows.rows.rest) c.rows.lister c.move_to.new.self c.list.new.lister moves c.in-Ok-list.ensures)

pub returns-in-Ok-None : goal.returns-in-Ok-None
returns-in-Ok-None g c =
    let r = reader_ended c.rows.invariant (rw c.in-Ok-None.field-0-is at c.in-Ok-None.ensures.ended) in
    (r.0, r.1, r.2, ap (λ (z : Lister). z.visits) c.move_to.ensures ∙ r.3)
