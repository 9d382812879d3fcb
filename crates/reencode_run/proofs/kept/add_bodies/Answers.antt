use Rattle.std.proofs.Common.{arith, ◌∙◌}
use Rattle.reencode_core.specs.Pieces.{range}
use Rattle.reencode_run.proofs.KeptLines.{lines_end, lines_step}
use Rattle.reencode_run.proofs.kept.add_bodies.Goals as goal
use Rattle.reencode_run.proofs.kept.add_bodies.Goals.{in-Some+in_ok-add_kept-in-Some, in-None}

pub bodies-preserved : goal.bodies-preserved
bodies-preserved c =
    elim c.match-body.branch [
      | in-Some+in_ok-add_kept-in-Some w ↦
          let step = lines_step c.args.output.now.kept c.bodies.i (range w.in-Some.body.start w.in-Some.body.end) c.bodies.text.items w.add_kept.new.text.items w.in-Some.ensures.some w.in_ok-add_kept-in-Some.ensures in
          rw w.text-is (step ∙ c.bodies.invariant)
      | in-None w ↦ absurd (omega (arith, w.in-None.ensures.none, c.bodies-test.true, c.bodies-i-end.ensures))
    ]

pub returns : goal.returns
returns c = lines_end c.args.output.now.kept c.bodies.i _ _ (omega (arith, c.bodies-test.false, c.bodies-i-end.ensures)) c.bodies.invariant
