use Rattle.std.proofs.Common.{take}
use Rattle.module_spaces.specs.Texts.{HasSize, pieces}
use Rattle.module_spaces.proofs.arranged.picked_size.Given as goal

-- the pieces at the places so far
abbrev pub invariant-loop-place : goal.invariant-loop-place
invariant-loop-place l = HasSize (pieces l.bytes l.bounds) (take l.place-index l.places) l.front l.size
