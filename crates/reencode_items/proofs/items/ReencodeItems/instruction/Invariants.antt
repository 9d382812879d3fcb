use Rattle.std.specs.Vec.Iter.{into_iter_items, into_iter_len}
use Rattle.reencode_hooks.specs.Run.{ask}
use Rattle.reencode_items.proofs.Operators.{ImmsDone}
use Rattle.reencode_items.proofs.items.ReencodeItems.instruction.Given as goal

-- the immediates so far are mapped
abbrev pub invariant-loop-imm : goal.invariant-loop-imm
invariant-loop-imm g l = let i = g.Self.ReencodeIndices in
    ImmsDone (ask i.reply i.next) i.keeps_defaults l.initial.self l.fn.arg.imms l.yielded (into_iter_items l.imm-iterator) (into_iter_len l.imm-iterator) l.self l.mapped
