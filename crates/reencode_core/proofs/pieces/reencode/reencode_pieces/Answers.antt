use Rattle.std.proofs.Common.{◌<◌, ◌^◌, ℕ, List, Err, refl, ap, ◌∙◌, sym, arith}
use Rattle.reencode_core.specs.Pieces.{joined}
use Rattle.reencode_core.specs.Sinks.{ModuleGrown}
use Rattle.reencode_core.proofs.kept_pieces.KeptRanges.{answered_kept}
use Rattle.reencode_core.proofs.sections_walked.BytesMade.{bytes_lost, bytes_made, bytes_stopped, bytes_unmade}
use Rattle.reencode_core.proofs.pieces.reencode.reencode_pieces.Goals as goal

pub returns-in_err-sink-clause-bytes : goal.returns-in_err-sink-clause-bytes
returns-in_err-sink-clause-bytes g c = bytes_unmade g.R.ReencodeIndices g.met.R.ReencodeIndices.adds_ok _ _ c.from_residual.ensures.1

pub returns-in-Err-clause-bytes : goal.returns-in-Err-clause-bytes
returns-in-Err-clause-bytes g c = bytes_stopped g.R.ReencodeIndices g.met.R.ReencodeIndices.adds_ok _ (ap ModuleGrown.sections c.in_ok-sink.ensures) c.in-Err.e c.in-Err.ensures.core (Err c.in-Err.e) refl

pub returns-in_err-finish-in-Ok-clause-bytes : goal.returns-in_err-finish-in-Ok-clause-bytes
returns-in_err-finish-in-Ok-clause-bytes g c = bytes_lost g.R.ReencodeIndices g.met.R.ReencodeIndices.adds_ok _ (ap ModuleGrown.sections c.in_ok-sink.ensures) c.in-Ok.ensures.core _ c.from_residual-in_err-finish-in-Ok.ensures.1

pub returns-in_ok-finish-in-Ok-clause-bytes : goal.returns-in_ok-finish-in-Ok-clause-bytes
returns-in_ok-finish-in-Ok-clause-bytes g c =
    let input = c.in-Ok.ensures.input ∙ ap ModuleGrown.input c.in_ok-sink.ensures in
    bytes_made g.R.ReencodeIndices g.met.R.ReencodeIndices.adds_ok _ (ap ModuleGrown.sections c.in_ok-sink.ensures) c.in-Ok.ensures.core _ (ap (λ (z : List ℕ). joined z c.in_ok-finish-in-Ok.field-0) (sym input) ∙ c.in_ok-finish-in-Ok.ensures.joins)

pub returns-in_ok-finish-in-Ok-clause-kept : goal.returns-in_ok-finish-in-Ok-clause-kept
returns-in_ok-finish-in-Ok-clause-kept g c =
    let made = c.in_ok-finish-in-Ok.ensures in
    let fresh = c.in_ok-sink.ensures in
    λ k.
    let i = g.R.ReencodeIndices in
    let keeps = rw (ap (λ (m : ModuleGrown). m.sections.ceiling) fresh, ap ModuleGrown.kept fresh) at (c.in-Ok.ensures.ranges refl k) in
    let bound : c.args.ceiling < 2 ^ 32 = omega (arith, c.ranges.ceiling.fits) in
    rw made.ranges (answered_kept i.reply i.next c.args.ceiling c.args.bytes.now c.args.r.now _ _ g.met.R.ReencodeIndices.answers_ok bound keeps)
