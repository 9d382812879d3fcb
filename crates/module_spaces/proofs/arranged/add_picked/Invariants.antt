use Rattle.std.proofs.Common.{take}
use Rattle.module_spaces.specs.Texts.{Picks, pieces}
use Rattle.module_spaces.proofs.arranged.add_picked.Given as goal

-- the pieces at the places so far
abbrev pub invariant-loop-place : goal.invariant-loop-place
invariant-loop-place l = Picks (pieces l.bytes l.bounds) (take l.place-index l.places) l.initial.out.items l.out.items
