use Rattle.std.proofs.Common.{◌≤◌, ◌-◌, length, take}
use Rattle.reencode_run.specs.Outside.{WhereTold, followed}
use Rattle.reencode_run.proofs.write.write_all.Given as goal

abbrev pub invariant-pieces : goal.invariant-pieces
invariant-pieces g l = record {
  within : l.at ≤ length l.text;
  rises : g.K.Sink.faults l.initial.out ≤ g.K.Sink.faults l.out;
  taken : WhereTold (g.K.Sink.held l.out) (followed (g.K.Sink.held l.initial.out) (take l.at l.text));
}

abbrev pub decreases-pieces : goal.decreases-pieces
decreases-pieces g l = length l.text - l.at
