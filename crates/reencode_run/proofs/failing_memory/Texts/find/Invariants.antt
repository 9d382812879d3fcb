use Rattle.std.proofs.Common.{◌≡◌, drop, map}
use Rattle.reencode_run.specs.Memory.{text_of}
use Rattle.reencode_run.proofs.Shelves.{named}
use Rattle.reencode_run.proofs.failing_memory.Texts.find.Given as goal

-- what is left is found as in the whole
abbrev pub invariant-texts : goal.invariant-texts
invariant-texts l = text_of (map named (drop l.text-index l.text-items)) l.name ≡ text_of (map named l.text-items) l.name
