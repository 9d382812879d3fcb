use Rattle.std.proofs.Common.{◌≡◌, drop}
use Rattle.reencode_run.specs.Renamings.{space_among, space_of, spaces}
use Rattle.reencode_run.proofs.renaming.space_of.Given as goal

-- what is left goes on as the whole does
abbrev pub invariant-spaces : goal.invariant-spaces
invariant-spaces l = space_among (drop l.i spaces) l.name ≡ space_of l.name
