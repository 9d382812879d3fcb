use Rattle.std.proofs.Common.{ap, refl}
use Rattle.wasm_shapes.specs.declared.SectionId.TheVariants as id
use Rattle.reencode_core.proofs.sections_walked.MappedSection.{code_done, section_unread}
use Rattle.reencode_core.proofs.rows_walked.RowLoop.{at_ceiling}
use Rattle.reencode_core.specs.Sinks.{CodeGrown}
use Rattle.reencode_core.specs.Clauses.{asks}
use Rattle.reencode_core.proofs.kept_pieces.KeptFrames.{section_kept}
use Rattle.reencode_core.proofs.kept_pieces.StandsAt.{rows_counted}
use Rattle.reencode_core.proofs.pieces.reencode.add_code_section.Goals as goal

pub add_bodies-mapped-requires-clause-stands : goal.add_bodies-mapped-requires-clause-stands
add_bodies-mapped-requires-clause-stands g c = rw c.input-input.ensures (rows_counted c.args.sink.now.input c.args.body.now c.args.start _ c.requires c.in_ok-section.ensures.ok)

pub returns-clause-section : goal.returns-clause-section
returns-clause-section g c =
    let m = c.add_bodies-mapped.ensures in
    code_done g.R.ReencodeIndices _ _ refl (ap CodeGrown.code c.new_code-code.ensures) refl c.in_ok-section.ensures.ok (record { kept = m.kept; default = m.default; after_error = m.after_error }) c.add_mapped.ensures.adds

pub returns-clause-ranges : goal.returns-clause-ranges
returns-clause-ranges g c =
    λ more k. section_kept (asks g.R.ReencodeIndices) c.args.reencoder.now c.add_bodies-mapped.new.reencoder c.args.start c.args.body.now _ c.new_code-code.result c.add_bodies-mapped.new.code c.args.sink.now c.add_mapped.new.sink c.add_bodies-mapped.result c.add_mapped.result
    (ap (λ (z : CodeGrown). z.code.rows) c.new_code-code.ensures) (ap CodeGrown.kept c.new_code-code.ensures) c.in_ok-section.ensures.ok
    (at_ceiling _ _ (ap (λ (z : CodeGrown). z.code.ceiling) c.new_code-code.ensures) (c.add_bodies-mapped.ensures.default k)) c.add_mapped.ensures.adds (c.add_bodies-mapped.ensures.ranges more k) c.add_mapped.ensures.kept

pub returns-in_err-section-clause-section : goal.returns-in_err-section-clause-section
returns-in_err-section-clause-section g c =
    section_unread g.R.ReencodeIndices {kind = id.Code} {body = c.args.body.now} {s = c.args.reencoder.now} {old = c.args.sink.now.sections} refl refl _ c.in_err-section.ensures.err _ c.from_residual.ensures.1
