use Rattle.std.proofs.Common.{refl, sym, ap, ◌∙◌, rules}
use Rattle.wasm_shapes.specs.Operators.{code_of}
use Rattle.wasm_write.specs.Instructions.{imms_tree, instruction_tree}
use Rattle.reencode_hooks.proofs.Leaving.{handed, visited_left}
use Rattle.reencode_items.proofs.DirectExpressions.{kept_left, kept_refused, mapped_there, operator_left, operator_refused, read_there, run_finished, run_gains, run_left_there, run_made, run_more_left, run_other, run_spelled, some_left}
use Rattle.reencode_items.proofs.Expressions.{expression_step, is_end, left_there, no_end_made}
use Rattle.reencode_items.proofs.defaults.AnyReencodeItems.const_expr.Goals as goal

pub slice_bounds-bytes-count : goal.slice_bounds-bytes-count
slice_bounds-bytes-count g c = let i = g.T.ReencodeIndices in some_left i.reply i.next c.operators.invariant c.rest-left.ensures

pub returns-in_err-kept : goal.returns-in_err-kept
returns-in_err-kept g c =
    let i = g.T.ReencodeIndices in
    record {
      default = rw (handed _ c.from_residual.ensures.1) (λ k. kept_refused i.reply i.next c.operators.invariant c.rest-left.ensures c.in_err-kept.ensures.err k);
      after_error = λ k sure. visited_left _ (kept_left i.reply i.next c.operators.invariant c.rest-left.ensures c.in_err-kept.ensures.err k sure c.in_err-kept.ensures.sure);
    }

pub spelled-requires : goal.spelled-requires
spelled-requires g c = let i = g.T.ReencodeIndices in run_spelled i.reply i.next c.operators.invariant c.rest-left.ensures c.in_ok-kept.ensures.ok

pub returns-in_err-spelled : goal.returns-in_err-spelled
returns-in_err-spelled g c =
    let i = g.T.ReencodeIndices in
    record { default = search rules; after_error = λ k sure. visited_left _ (run_left_there i.reply i.next c.operators.invariant c.rest-left.ensures c.in_ok-kept.ensures.ok k) }

pub returns-then-kept-bytes : goal.returns-then-kept-bytes
returns-then-kept-bytes g c =
    let i = g.T.ReencodeIndices in
    let run = c.in_ok-kept.ensures.ok in
    let added = run_gains i.reply i.next c.operators.invariant c.rest-left.ensures run c.in_ok-spelled.ensures.ok in
    record { default = λ k. run_finished i.reply i.next c.operators.invariant c.rest-left.ensures run k c.if-kept-bytes.true added; after_error = search rules }

pub returns-in_err-add-in-Made : goal.returns-in_err-add-in-Made
returns-in_err-add-in-Made g c =
    let i = g.T.ReencodeIndices in
    record { default = search rules; after_error = λ k sure. visited_left _ (run_left_there i.reply i.next c.operators.invariant c.rest-left.ensures c.in_ok-kept.ensures.ok k) }

pub operators-preserved-in-Made : goal.operators-preserved-in-Made
operators-preserved-in-Made g c = let i = g.T.ReencodeIndices in
    let run = c.in_ok-kept.ensures.ok in
    let added = run_gains i.reply i.next c.operators.invariant c.rest-left.ensures run c.in_ok-spelled.ensures.ok in
    let m = c.in-Made in
    run_made i.reply i.next c.operators.invariant c.rest-left.ensures run c.pass.new.self c.pass.ensures.rest m.opcode m.fresh m.count m.is added c.in_ok-add-in-Made.ensures.ok c.pass-in-Made.ensures.rest

pub returns-in_err-operator-in-Other : goal.returns-in_err-operator-in-Other
returns-in_err-operator-in-Other g c =
    let i = g.T.ReencodeIndices in
    let run = c.in_ok-kept.ensures.ok in
    let added = run_gains i.reply i.next c.operators.invariant c.rest-left.ensures run c.in_ok-spelled.ensures.ok in
    let here = run_other i.reply i.next c.operators.invariant c.rest-left.ensures run c.pass.new.self c.pass.ensures.rest c.in-Other.is added in
    let more = run_more_left i.reply i.next c.operators.invariant c.rest-left.ensures run c.pass.new.self c.pass.ensures.rest c.if-kept-bytes.false in
    record { default = rw (handed _ c.from_residual-in_err-operator-in-Other.ensures.1) (λ k. read_there i.reply i.next k here more _ _ c.in_err-operator-in-Other.ensures.err); after_error = λ k sure. visited_left _ (run_left_there i.reply i.next c.operators.invariant c.rest-left.ensures c.in_ok-kept.ensures.ok k) }

pub returns-in_err-instruction-in-Other : goal.returns-in_err-instruction-in-Other
returns-in_err-instruction-in-Other g c =
    let i = g.T.ReencodeIndices in
    let run = c.in_ok-kept.ensures.ok in
    let added = run_gains i.reply i.next c.operators.invariant c.rest-left.ensures run c.in_ok-spelled.ensures.ok in
    let here = run_other i.reply i.next c.operators.invariant c.rest-left.ensures run c.pass.new.self c.pass.ensures.rest c.in-Other.is added in
    let more = run_more_left i.reply i.next c.operators.invariant c.rest-left.ensures run c.pass.new.self c.pass.ensures.rest c.if-kept-bytes.false in
    record {
      default = rw (handed _ c.from_residual-in_err-instruction-in-Other.ensures.1)
          (λ k. operator_refused i.reply i.next k here more c.in_ok-operator-in-Other.ensures.row instruction_tree _ (c.in_err-instruction-in-Other.ensures.default k));
      after_error = λ k sure. visited_left _ (left_there i.reply i.next k here more c.in_ok-operator-in-Other.ensures.row (c.in_err-instruction-in-Other.ensures.after_error k sure));
    }

pub returns-then-eq : goal.returns-then-eq
returns-then-eq g c =
    let i = g.T.ReencodeIndices in
    let run = c.in_ok-kept.ensures.ok in
    let added = run_gains i.reply i.next c.operators.invariant c.rest-left.ensures run c.in_ok-spelled.ensures.ok in
    let here = run_other i.reply i.next c.operators.invariant c.rest-left.ensures run c.pass.new.self c.pass.ensures.rest c.in-Other.is added in
    let more = run_more_left i.reply i.next c.operators.invariant c.rest-left.ensures run c.pass.new.self c.pass.ensures.rest c.if-kept-bytes.false in
    let made = c.in_ok-instruction-in-Other.instruction in
    let row = c.in_ok-operator-in-Other.ensures.row in
    record {
      default = λ k ceiling other. absurd
          (no_end_made i.reply i.next k here more instruction_tree made (code_of made.opcode) (imms_tree made.imms) (mapped_there i.reply i.next c.read.new.self row instruction_tree made (c.in_ok-instruction-in-Other.ensures.default k)) refl
          (ap code_of (sym c.opcode.ensures) ∙ is_end c.opcode.result c.if-eq.ensures));
      after_error = λ k sure. operator_left i.reply i.next k here more c.in_ok-operator-in-Other.ensures.row instruction_tree c.in_ok-instruction-in-Other.instruction (c.in_ok-instruction-in-Other.ensures.default k);
    }

pub returns-in_err-instruction-in-Other-2 : goal.returns-in_err-instruction-in-Other-2
returns-in_err-instruction-in-Other-2 g c =
    let i = g.T.ReencodeIndices in
    let run = c.in_ok-kept.ensures.ok in
    let added = run_gains i.reply i.next c.operators.invariant c.rest-left.ensures run c.in_ok-spelled.ensures.ok in
    let here = run_other i.reply i.next c.operators.invariant c.rest-left.ensures run c.pass.new.self c.pass.ensures.rest c.in-Other.is added in
    let more = run_more_left i.reply i.next c.operators.invariant c.rest-left.ensures run c.pass.new.self c.pass.ensures.rest c.if-kept-bytes.false in
    record { default = search rules; after_error = λ k sure. visited_left _ (operator_left i.reply i.next k here more c.in_ok-operator-in-Other.ensures.row instruction_tree c.in_ok-instruction-in-Other.instruction (c.in_ok-instruction-in-Other.ensures.default k)) }

pub operators-preserved : goal.operators-preserved
operators-preserved g c = let i = g.T.ReencodeIndices in
    let run = c.in_ok-kept.ensures.ok in
    let added = run_gains i.reply i.next c.operators.invariant c.rest-left.ensures run c.in_ok-spelled.ensures.ok in
    let here = run_other i.reply i.next c.operators.invariant c.rest-left.ensures run c.pass.new.self c.pass.ensures.rest c.in-Other.is added in
    let more = run_more_left i.reply i.next c.operators.invariant c.rest-left.ensures run c.pass.new.self c.pass.ensures.rest c.if-kept-bytes.false in
    expression_step here more c.in_ok-operator-in-Other.ensures.row refl (instruction_tree c.in_ok-instruction-in-Other.instruction) (λ k. c.in_ok-instruction-in-Other.ensures.default k) c.in_ok-instruction-in-Other-2.ensures.ok
