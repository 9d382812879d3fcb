use Rattle.wasm_read.specs.Immediates as read
use Rattle.wasm_write.specs.Instructions as write
use Rattle.reencode_hooks.specs.Run.{ask}
use Rattle.reencode_items.proofs.Loops.{ItemsDone}
use Rattle.reencode_items.proofs.items.ReencodeItems.immediate.Given as goal

-- what is caught below the index is mapped
abbrev pub invariant-loop-arg : goal.invariant-loop-arg
invariant-loop-arg g l = let i = g.Self.ReencodeIndices in
    ItemsDone (ask i.reply i.next) i.keeps_defaults read.catch_tree write.catch_tree l.initial.self l.arg-items l.arg-index l.self l.mapped

-- what is handled below the index is mapped
abbrev pub invariant-loop-on : goal.invariant-loop-on
invariant-loop-on g l = let i = g.Self.ReencodeIndices in
    ItemsDone (ask i.reply i.next) i.keeps_defaults read.handle_tree write.handle_tree l.initial.self l.on-items l.on-index l.self l.mapped
