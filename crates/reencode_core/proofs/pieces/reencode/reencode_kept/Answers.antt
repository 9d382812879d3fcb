use Rattle.std.proofs.Common.{◌<◌, ◌^◌, ap, ◌∙◌, refl, arith}
use Rattle.reencode_core.specs.Pieces.{Grown}
use Rattle.reencode_core.specs.Sinks.{ModuleGrown}
use Rattle.reencode_core.proofs.kept_pieces.KeptRanges.{answered_kept}
use Rattle.reencode_core.proofs.sections_walked.BytesMade.{bytes_made, bytes_stopped, bytes_unmade}
use Rattle.reencode_core.proofs.pieces.reencode.reencode_kept.Goals as goal

pub returns-in_err-sink-clause-bytes : goal.returns-in_err-sink-clause-bytes
returns-in_err-sink-clause-bytes g c = bytes_unmade g.R.ReencodeIndices g.met.R.ReencodeIndices.adds_ok _ _ c.from_residual.ensures.1

pub returns-in_err-walk-clause-bytes : goal.returns-in_err-walk-clause-bytes
returns-in_err-walk-clause-bytes g c =
    let gone = c.in_err-walk.ensures in
    bytes_stopped g.R.ReencodeIndices g.met.R.ReencodeIndices.adds_ok _ (ap ModuleGrown.sections c.in_ok-sink.ensures) _ gone.core _ c.from_residual-in_err-walk.ensures.1

pub returns-clause-bytes : goal.returns-clause-bytes
returns-clause-bytes g c =
    let given = c.in_ok-walk.ensures in
    bytes_made g.R.ReencodeIndices g.met.R.ReencodeIndices.adds_ok _ (ap ModuleGrown.sections c.in_ok-sink.ensures) given.core _ (ap Grown.bytes c.into_kept.ensures)

pub returns-clause-input : goal.returns-clause-input
returns-clause-input g c = ap Grown.input c.into_kept.ensures ∙ c.in_ok-walk.ensures.input ∙ ap ModuleGrown.input c.in_ok-sink.ensures

pub returns-clause-kept : goal.returns-clause-kept
returns-clause-kept g c =
    let fresh = c.in_ok-sink.ensures in
    λ k.
    let i = g.R.ReencodeIndices in
    let keeps = rw (ap (λ (m : ModuleGrown). m.sections.ceiling) fresh, ap ModuleGrown.kept fresh) at (c.in_ok-walk.ensures.ranges refl k) in
    let bound : c.args.ceiling < 2 ^ 32 = omega (arith, c.ranges.ceiling.fits) in
    rw (ap Grown.kept c.into_kept.ensures) (answered_kept i.reply i.next c.args.ceiling c.args.bytes.now c.args.r.now _ _ g.met.R.ReencodeIndices.answers_ok bound keeps)
