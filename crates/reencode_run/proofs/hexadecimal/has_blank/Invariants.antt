use Rattle.std.proofs.Common.{◌≡◌, false, take}
use Rattle.reencode_run.specs.Hexadecimal.{without_blanks}
use Rattle.reencode_run.proofs.hexadecimal.has_blank.Given as goal

abbrev pub invariant-bytes : goal.invariant-bytes
invariant-bytes l = l.low ≡ false → without_blanks (take l.i l.text) ≡ take l.i l.text
