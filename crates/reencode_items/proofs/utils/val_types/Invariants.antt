use Rattle.wasm_read.specs.Types as read
use Rattle.wasm_write.specs.Types as write
use Rattle.reencode_hooks.specs.Run.{ask}
use Rattle.reencode_items.proofs.Loops.{ItemsDone}
use Rattle.reencode_items.proofs.utils.val_types.Given as goal

-- the types below the index are mapped
abbrev pub invariant-loop-ty : goal.invariant-loop-ty
invariant-loop-ty g l = let i = g.T.ReencodeIndices in
    ItemsDone (ask i.reply i.next) i.keeps_defaults read.val_type_tree write.val_type_tree l.initial.reencoder l.fn.val_tys l.ty-index l.reencoder l.mapped
