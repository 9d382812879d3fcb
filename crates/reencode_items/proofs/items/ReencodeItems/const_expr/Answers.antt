use Rattle.std.proofs.Common.{refl, sym, ap, ◌∙◌, rules}
use Rattle.wasm_shapes.specs.Operators.{code_of}
use Rattle.wasm_read.specs.Operations.{rest_of}
use Rattle.wasm_write.specs.Instructions.{imms_tree, instruction_tree}
use Rattle.reencode_hooks.proofs.Leaving.{handed, visited_left}
use Rattle.reencode_items.proofs.Expressions.{end_behind, expression_begins, expression_left, expression_mapped, expression_more, expression_refused, expression_visited, is_end, no_end_made, no_more, none_behind, some_more}
use Rattle.reencode_items.proofs.items.ReencodeItems.const_expr.Goals as goal
use Rattle.reencode_items.proofs.items.ReencodeItems.const_expr.Goals.{then-eq-via-then-eq, then-eq-via-else-eq+then-eof}

pub operators-init : goal.operators-init
operators-init g c = λ k. expression_begins c.get_operators_reader-reader.ensures.reader c.get_operators_reader-reader.ensures.spells c.new-mapped.ensures

pub returns-in_err-instruction : goal.returns-in_err-instruction
returns-in_err-instruction g c =
    let i = g.Self.ReencodeIndices in
    let more = some_more c.is_end_then_eof.result (rest_of c.operators.reader) c.is_end_then_eof.ensures c.operators-test.true in
    record {
      default = rw (handed _ c.from_residual.ensures.1) (λ k. expression_refused i.reply i.next k (c.operators.invariant k) more c.parse_instruction.new.reader instruction_tree _ (c.in_err-instruction.ensures.default k));
      after_error = λ k sure. visited_left _ (expression_left i.reply i.next k (c.operators.invariant k) more (c.in_err-instruction.ensures.after_error k sure));
    }

pub returns-then-eq : goal.returns-then-eq
returns-then-eq g c =
    let i = g.Self.ReencodeIndices in
    let more = some_more c.is_end_then_eof.result (rest_of c.operators.reader) c.is_end_then_eof.ensures c.operators-test.true in
    record {
      default = λ k ceiling other. let given = c.in_ok-instruction.ensures.default k in
          let made = c.in_ok-instruction.instruction in
          let never : ⊥ = elim c.then-eq.branch [
            | then-eq-via-then-eq w ↦
                no_end_made i.reply i.next k (c.operators.invariant k) more instruction_tree made (code_of made.opcode) (imms_tree made.imms) given refl (ap code_of (sym c.opcode.ensures) ∙ is_end c.opcode.result w.if-eq.ensures)
            | then-eq-via-else-eq+then-eof w ↦
                end_behind i.reply i.next k (c.operators.invariant k) more instruction_tree made given (none_behind w.eof.result (rest_of c.parse_instruction.new.reader) w.eof.ensures w.if-eof.true)
          ] in
          absurd never;
      after_error = λ k sure. expression_visited i.reply i.next k (c.operators.invariant k) more instruction_tree c.in_ok-instruction.instruction (c.in_ok-instruction.ensures.default k);
    }

pub returns-in_err-instruction-2 : goal.returns-in_err-instruction-2
returns-in_err-instruction-2 g c =
    let i = g.Self.ReencodeIndices in
    let more = some_more c.is_end_then_eof.result (rest_of c.operators.reader) c.is_end_then_eof.ensures c.operators-test.true in
    record { default = search rules; after_error = λ k sure. visited_left _ (expression_visited i.reply i.next k (c.operators.invariant k) more instruction_tree c.in_ok-instruction.instruction (c.in_ok-instruction.ensures.default k)) }

pub operators-preserved : goal.operators-preserved
operators-preserved g c = λ k. let i = g.Self.ReencodeIndices in
    let more = some_more c.is_end_then_eof.result (rest_of c.operators.reader) c.is_end_then_eof.ensures c.operators-test.true in
    expression_more i.reply i.next k (c.operators.invariant k) more instruction_tree c.in_ok-instruction.instruction (c.in_ok-instruction.ensures.default k) c.in_ok-instruction-2.ensures.ok

pub returns : goal.returns
returns g c =
    let i = g.Self.ReencodeIndices in
    record { default = λ k ceiling. expression_mapped i.reply i.next k (c.operators.invariant k) ceiling (no_more c.is_end_then_eof.result (rest_of c.operators.reader) c.is_end_then_eof.ensures c.operators-test.false); after_error = search rules }
