use Rattle.reencode_core.proofs.sections_walked.BytesMade.{bytes_made, bytes_stopped, bytes_unmade}
use Rattle.reencode_core.proofs.reencode.reencode_core.Goals as goal

pub returns-in_err-module : goal.returns-in_err-module
returns-in_err-module g c = bytes_unmade g.R.ReencodeIndices g.met.R.ReencodeIndices.adds_ok _ _ c.from_residual.ensures.1

pub returns-in_err-parse_core_module : goal.returns-in_err-parse_core_module
returns-in_err-parse_core_module g c =
    let gone = c.in_err-parse_core_module.ensures in
    bytes_stopped g.R.ReencodeIndices g.met.R.ReencodeIndices.adds_ok _ c.in_ok-module.ensures _ (record { kept = gone.kept; default = gone.default; woven = gone.woven; after_error = gone.after_error; headless = gone.headless }) _ c.from_residual-in_err-parse_core_module.ensures.1

pub returns : goal.returns
returns g c =
    let given = c.in_ok-parse_core_module.ensures in
    bytes_made g.R.ReencodeIndices g.met.R.ReencodeIndices.adds_ok _ c.in_ok-module.ensures (record { kept = given.kept; default = given.default; woven = given.woven; after_error = given.after_error; headless = given.headless }) _ c.finish.ensures
