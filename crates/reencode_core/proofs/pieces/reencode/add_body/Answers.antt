use Rattle.std.proofs.Common.{ap, ◌∙◌, ℕ, refl}
use Rattle.reencode_core.proofs.bodies.SkippedFront.{stays_added}
use Rattle.reencode_core.proofs.kept_pieces.FreshSink.{body_stopped, fresh_code, rows_not_added}
use Rattle.reencode_core.proofs.kept_pieces.KeptFrames.{row_kept, row_stays}
use Rattle.reencode_core.proofs.pieces.reencode.add_body.Goals as goal

pub returns-in-Err-clause-body : goal.returns-in-Err-clause-body
returns-in-Err-clause-body g c =
    let fresh = c.clear.ensures ∙ ap (λ (n : ℕ). fresh_code n) c.requires.same_ceiling in
    body_stopped g.R.ReencodeIndices {old = c.args.code.now.code} c.in-Err.e (rw fresh at c.in-Err.ensures)

pub returns-then-stays-clause-body : goal.returns-then-stays-clause-body
returns-then-stays-clause-body g c =
    let given = rw c.if-stays.true at c.in-Ok.ensures in
    let kept = c.in_ok-keep.ensures in
    stays_added g.R.ReencodeIndices given.1 refl kept.ok kept.fits

pub returns-then-stays-clause-ranges : goal.returns-then-stays-clause-ranges
returns-then-stays-clause-ranges g c =
    let given = rw c.if-stays.true at c.in-Ok.ensures in
    let kept = c.in_ok-keep.ensures in
    λ more k. row_stays g.R.ReencodeIndices _ c.args.end _ _ c.args.code.now c.keep.new.self given.1 kept.ok (kept.kept more)

pub returns-in-Err-add-clause-body : goal.returns-in-Err-add-clause-body
returns-in-Err-add-clause-body g c =
    let fresh = c.clear.ensures ∙ ap (λ (n : ℕ). fresh_code n) c.requires.same_ceiling in
    let given = rw c.if-stays.false at c.in-Ok.ensures in
    rw (c.from.ensures, c.in-Err-add.ensures.err) (rows_not_added g.R.ReencodeIndices {old = c.args.code.now.code} c.in-Err-add.fault (rw fresh at given) c.in-Err-add.ensures.large)

pub returns-in-Ok-add-clause-ranges : goal.returns-in-Ok-add-clause-ranges
returns-in-Ok-add-clause-ranges g c =
    let fresh = c.clear.ensures ∙ ap (λ (n : ℕ). fresh_code n) c.requires.same_ceiling in
    let given = rw c.if-stays.false at c.in-Ok.ensures in
    λ more k. row_kept g.R.ReencodeIndices _ c.args.end c.args.reencoder.now _ c.args.code.now c.add.new.self _ c.requires.small k (rw fresh at given) c.in-Ok-add.ensures.ok c.in-Ok-add.ensures.kept
