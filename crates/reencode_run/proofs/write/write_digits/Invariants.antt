use Rattle.std.proofs.Common.{◌≤◌, ◌-◌, length, take}
use Rattle.hex.specs.Hex.{encode_lower}
use Rattle.reencode_run.specs.Outside.{WhereTold, followed}
use Rattle.reencode_run.proofs.write.write_digits.Given as goal

abbrev pub invariant-pieces : goal.invariant-pieces
invariant-pieces g l = record {
  within : l.at ≤ length l.bytes;
  rises : g.K.Sink.faults l.initial.out ≤ g.K.Sink.faults l.out;
  taken : WhereTold (g.K.Sink.held l.out) (followed (g.K.Sink.held l.initial.out) (encode_lower (take l.at l.bytes)));
}

abbrev pub decreases-pieces : goal.decreases-pieces
decreases-pieces g l = length l.bytes - l.at
