use Rattle.wasm_read.specs.Types as read
use Rattle.wasm_write.specs.Types as write
use Rattle.reencode_hooks.specs.Run.{ask}
use Rattle.reencode_items.proofs.Loops.{ItemsDone}
use Rattle.reencode_items.proofs.utils.struct_type.Given as goal

-- the fields below the index are mapped
abbrev pub invariant-loop-field : goal.invariant-loop-field
invariant-loop-field g l = let i = g.T.ReencodeIndices in
    ItemsDone (ask i.reply i.next) i.keeps_defaults read.field_type_tree write.field_type_tree l.initial.reencoder l.fn.struct_ty.fields l.field-index l.reencoder l.fields
