use Rattle.wasm_read.specs.Types as read
use Rattle.wasm_write.specs.Types as write
use Rattle.reencode_hooks.specs.Run.{ask}
use Rattle.reencode_items.proofs.Loops.{ItemsDone}
use Rattle.reencode_items.proofs.items.ReencodeItems.sub_type.Given as goal

-- the supertypes below the index are mapped
abbrev pub invariant-loop-index : goal.invariant-loop-index
invariant-loop-index g l = let i = g.Self.ReencodeIndices in
    ItemsDone (ask i.reply i.next) i.keeps_defaults read.type_index write.type_index l.initial.self l.fn.sub_ty.supertype_idxs l.index-index l.self l.supertype_idxs
