use Rattle.std.proofs.Common.{map, rules}
use Rattle.wasm_shapes.specs.Tree.{visits}
use Rattle.wasm_shapes.specs.Types.{vector_tree}
use Rattle.wasm_read.specs.Expressions.{expr_tree}
use Rattle.wasm_read.specs.Types as read
use Rattle.wasm_write.specs.Types as write
use Rattle.reencode_items.proofs.Leaving.{first_visited, second_visited, sure_visited, visited_left}
use Rattle.reencode_core.proofs.rows.element_items.Goals as goal

pub returns-in_err-expressions-in-Expressions : goal.returns-in_err-expressions-in-Expressions
returns-in_err-expressions-in-Expressions g c =
    record { default = search rules; after_error = rw c.in-Expressions.is (λ k sure. visited_left _ (first_visited (visits (read.ref_type_tree c.in-Expressions.ty)) (c.in_err-expressions-in-Expressions.ensures.after_error k sure))) }

pub returns-in_err-ty-in-Expressions : goal.returns-in_err-ty-in-Expressions
returns-in_err-ty-in-Expressions g c =
    let i = g.T.ReencodeIndices in
    let ty = c.in-Expressions.ty in
    let gone = c.in_err-ty-in-Expressions.ensures in
    record {
      default = search rules;
      after_error = rw c.in-Expressions.is (λ k sure. visited_left _ (second_visited 0 (vector_tree (map expr_tree c.in-Expressions.expressions)) (c.in_ok-expressions-in-Expressions.ensures.default k 0)
          (sure_visited i.reply i.next (read.ref_type_tree ty) write.ref_type_tree _ (gone.default k) (gone.sure k) sure)));
    }
