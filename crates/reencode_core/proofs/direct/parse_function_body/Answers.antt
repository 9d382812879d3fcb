use Rattle.reencode_core.proofs.bodies.SkippedFront.{stays_added, stays_refused}
use Rattle.reencode_core.proofs.direct.parse_function_body.Goals as goal

pub returns-in_err-spelled : goal.returns-in_err-spelled
returns-in_err-spelled g c =
    let given = rw c.if-not-stays.false at c.in_ok-stays.ensures in
    let gone = c.in_err-spelled.ensures in
    stays_refused g.R.ReencodeIndices given.1 given.0 _ gone.err gone.large _ c.from_residual-in_err-spelled.ensures.1

pub returns : goal.returns
returns g c =
    let given = rw c.if-not-stays.false at c.in_ok-stays.ensures in
    let added = c.in_ok-spelled.ensures in
    stays_added g.R.ReencodeIndices given.1 given.0 added.ok added.fits.0
