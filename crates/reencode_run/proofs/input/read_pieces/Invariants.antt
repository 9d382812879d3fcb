use Rattle.std.proofs.Common.{◌≡◌, ◌≤◌, ◌+◌, ◌-◌, vec_len}
use Rattle.reencode_run.specs.Outside.{before}
use Rattle.reencode_run.proofs.input.read_pieces.Given as goal

abbrev pub invariant-pieces : goal.invariant-pieces
invariant-pieces g l = record {
  rises : g.S.Source.faults l.initial.input ≤ g.S.Source.faults l.input;
  can_read : g.S.Source.can_read l.input;
  gave : g.S.Source.left l.initial.input ≡ before l.bytes.items (g.S.Source.left l.input);
}

abbrev pub decreases-pieces : goal.decreases-pieces
decreases-pieces g l = l.most + 1 - vec_len l.bytes
