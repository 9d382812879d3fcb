use Rattle.std.proofs.Common.{arith}
use Rattle.reencode_core.proofs.kept_pieces.KeptLengths.{ranges_len}
use Rattle.reencode_core.proofs.pieces.growing.Growing.ranges.Goals as goal

pub returns : goal.returns
returns c = rw (← c.self.view_is) (omega (arith, c.len.ensures, ranges_len c.self.inside.cuts.items))
