use Rattle.std.proofs.Common.{◌≡◌, ◌++◌, IsTrue, length}
use Rattle.wasm_read.specs.Types as read
use Rattle.wasm_write.specs.Types as write
use Rattle.reencode_hooks.specs.Run.{ask}
use Rattle.reencode_core.proofs.rows_walked.TypeGroup.{ItemsDone}
use Rattle.reencode_core.proofs.rows.parse_recursive_type_group.Given as goal

-- the types so far are mapped
abbrev pub invariant-loop-ty : goal.invariant-loop-ty
invariant-loop-ty g l =
    record {
      left : l.yielded ++ l.ty-iterator.rest.items ≡ l.fn.rec_group.types;
      counted : length l.types ≡ length l.yielded;
      default : IsTrue g.T.ReencodeIndices.keeps_defaults
          → ItemsDone (ask g.T.ReencodeIndices.reply g.T.ReencodeIndices.next) read.sub_type_tree write.sub_type_tree
          l.initial.reencoder l.yielded l.reencoder l.types;
    }
