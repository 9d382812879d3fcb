use Rattle.std.proofs.Common.{◌≤◌, ◌<◌}
use Rattle.reencode_run.specs.Outside.{Rose}
use Rattle.reencode_run.proofs.standard.StdSinkSink.write.Given as goal

abbrev pub invariant-tries : goal.invariant-tries
invariant-tries g l = record {
  rises : l.initial.self.faults ≤ l.self.faults;
  rose : 0 < l.counter → Rose l.initial.self.faults l.self.faults;
}
