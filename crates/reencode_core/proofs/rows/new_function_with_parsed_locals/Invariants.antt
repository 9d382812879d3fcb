use Rattle.std.proofs.Common.{◌≡◌, ◌++◌, IsTrue, length}
use Rattle.wasm_read.specs.Immediates as read
use Rattle.wasm_write.specs.Bodies as write
use Rattle.reencode_hooks.specs.Run.{ask}
use Rattle.reencode_core.proofs.rows_walked.TypeGroup.{ItemsDone}
use Rattle.reencode_core.proofs.rows.new_function_with_parsed_locals.Given as goal

-- the locals so far are mapped
abbrev pub invariant-loop-local : goal.invariant-loop-local
invariant-loop-local g l =
    record {
      left : l.yielded ++ l.local-iterator.rest.items ≡ l.initial.local-iterator.rest.items;
      counted : length l.mapped ≡ length l.yielded;
      default : IsTrue g.T.ReencodeIndices.keeps_defaults
          → ItemsDone (ask g.T.ReencodeIndices.reply g.T.ReencodeIndices.next) read.local_tree write.local_tree
          l.initial.reencoder l.yielded l.reencoder l.mapped;
    }
