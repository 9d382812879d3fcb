use Rattle.wasm_read.specs.Types as read
use Rattle.wasm_write.specs.Types as write
use Rattle.reencode_hooks.specs.Run.{ask}
use Rattle.reencode_items.proofs.Loops.{ItemsDone}
use Rattle.reencode_items.proofs.items.ReencodeItems.func_type.Given as goal

-- the parameters below the index are mapped
abbrev pub invariant-loop-ty : goal.invariant-loop-ty
invariant-loop-ty g l = let i = g.Self.ReencodeIndices in
    ItemsDone (ask i.reply i.next) i.keeps_defaults read.val_type_tree write.val_type_tree l.initial.self l.fn.func_ty.params l.ty-index l.self l.mapped

-- the results below the index are mapped
abbrev pub invariant-loop-ty-2 : goal.invariant-loop-ty-2
invariant-loop-ty-2 g l = let i = g.Self.ReencodeIndices in
    ItemsDone (ask i.reply i.next) i.keeps_defaults read.val_type_tree write.val_type_tree l.initial.self l.fn.func_ty.results l.ty-index l.self l.mapped
