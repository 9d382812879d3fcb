use Rattle.std.proofs.Common.{◌≡◌, ◌+◌, ◌-◌, ℕ, length, refl, ap, ◌∙◌}
use Rattle.wasm_shapes.specs.declared.SectionId.TheVariants as ids
use Rattle.wasm_shapes.specs.Tree.{Tree}
use Rattle.reencode_core.proofs.bodies.BodyLoop.{code_read}
use Rattle.wasm_visits.specs.declared.lister.Lister.{Lister}
use Rattle.wasm_visits.proofs.Runs.{listed_at}
use Rattle.wasm_visits.proofs.RowsListed.{reader_begin, reader_ended, reader_more, reader_place}
use Rattle.wasm_visits.proofs.rows.list_bodies.Goals as goal

pub bodies-init : goal.bodies-init
bodies-init c = reader_begin c.args.lister.now.visits c.in-Ok.ensures.ok refl

pub bodies-preserved : goal.bodies-preserved
bodies-preserved c =
    let read = rw c.in-Ok-Some.field-0-is at c.in-Ok-Some.ensures.row in
    let place : (c.args.end - length c.args.body.now) + c.place.result ≡ c.args.end - length c.bodies.bodies.rest =
    ap (λ (n : ℕ). (c.args.end - length c.args.body.now) + n) c.place.ensures ∙ reader_place c.bodies.invariant c.requires in
    let moves : c.move_to.new.self ≡ record c.bodies.lister { place = c.args.end - length c.bodies.bodies.rest; section = ids.Code } =
    c.move_to.ensures ∙ ap (λ (n : ℕ). record c.bodies.lister { place = n; section = ids.Code }) place in
    let listed = c.in-Ok-list_body.ensures in
    reader_more c.bodies.invariant (code_read read listed.1)
    (listed_at (Tree.sized listed.0) ids.Code (c.args.end - length c.bodies.bodies.rest) c.bodies.lister c.move_to.new.self c.list_body.new.lister moves listed.2)

pub returns-in-Ok-None : goal.returns-in-Ok-None
returns-in-Ok-None c =
    let r = reader_ended c.bodies.invariant (rw c.in-Ok-None.field-0-is at c.in-Ok-None.ensures.ended) in
    (r.0, r.1, r.2, ap (λ (z : Lister). z.visits) c.move_to.ensures ∙ r.3)
