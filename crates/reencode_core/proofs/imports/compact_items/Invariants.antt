use Rattle.std.proofs.Common.{◌≡◌, ◌++◌, List, IsTrue, length}
use Rattle.wasm_shapes.specs.Tree.{Tree}
use Rattle.wasm_write.specs.Rows.{compact_tree}
use Rattle.reencode_hooks.specs.Run.{ask}
use Rattle.reencode_core.proofs.rows_walked.TypeGroup.{ItemsDone}
use Rattle.reencode_core.proofs.imports.compact_items.Given as goal

-- the items so far are mapped, and the others are left
abbrev pub invariant-items : goal.invariant-items
invariant-items g l =
    (done : List Tree) × (done ++ l.rest ≡ l.fn.items)
    × (IsTrue g.T.ReencodeIndices.keeps_defaults
    → ItemsDone (ask g.T.ReencodeIndices.reply g.T.ReencodeIndices.next) (λ (t : Tree). t) compact_tree l.initial.reencoder done l.reencoder l.mapped)

abbrev pub decreases-items : goal.decreases-items
decreases-items g l = length l.rest
