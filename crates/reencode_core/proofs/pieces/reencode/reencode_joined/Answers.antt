use Rattle.std.proofs.Common.{ap, ◌∙◌}
use Rattle.reencode_core.specs.Sinks.{ModuleGrown}
use Rattle.reencode_core.proofs.sections_walked.BytesMade.{bytes_lost, bytes_made, bytes_stopped, bytes_unmade}
use Rattle.reencode_core.proofs.pieces.reencode.reencode_joined.Goals as goal

pub returns-in_err-sink : goal.returns-in_err-sink
returns-in_err-sink g c = bytes_unmade g.R.ReencodeIndices g.met.R.ReencodeIndices.adds_ok _ _ c.from_residual.ensures.1

pub returns-in_err-walk : goal.returns-in_err-walk
returns-in_err-walk g c =
    let gone = c.in_err-walk.ensures in
    bytes_stopped g.R.ReencodeIndices g.met.R.ReencodeIndices.adds_ok _ (ap ModuleGrown.sections c.in_ok-sink.ensures) _ gone.core _ c.from_residual-in_err-walk.ensures.1

pub returns-in_err-into_vec : goal.returns-in_err-into_vec
returns-in_err-into_vec g c =
    let given = c.in_ok-walk.ensures in
    bytes_lost g.R.ReencodeIndices g.met.R.ReencodeIndices.adds_ok _ (ap ModuleGrown.sections c.in_ok-sink.ensures) given.core _ c.from_residual-in_err-into_vec.ensures.1

pub returns : goal.returns
returns g c =
    let given = c.in_ok-walk.ensures in
    bytes_made g.R.ReencodeIndices g.met.R.ReencodeIndices.adds_ok _ (ap ModuleGrown.sections c.in_ok-sink.ensures) given.core _ (c.in_ok-into_vec.ensures ∙ c.into_output.ensures)
