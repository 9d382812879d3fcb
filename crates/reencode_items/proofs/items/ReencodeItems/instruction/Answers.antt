use Rattle.std.proofs.Common.{ap, ◌∙◌, length, arith, rules}
use Rattle.wasm_read.specs.Immediates as read
use Rattle.wasm_shapes.specs.Operators.{code_of}
use Rattle.reencode_hooks.proofs.Leaving.{accepted_visited, handed, visited_left}
use Rattle.reencode_items.proofs.Operators.{all_kinds, imms_begin, imms_leave, imms_more, next_has, operator_accepted, operator_kinds, operator_refused}
use Rattle.reencode_items.proofs.items.ReencodeItems.instruction.Goals as goal

pub loop-imm-init : goal.loop-imm-init
loop-imm-init g c =
    let gives = c.into_iter-imm-iterator.ensures.into_iter_gives in
    imms_begin c.args.self.now (operator_kinds c.args.arg.opcode c.args.arg.imms c.into_imms-imms.ensures.fit) (gives.0 ∙ c.into_vec-imm-items.ensures ∙ c.into_imms-imms.ensures.items)
    (let same = ap length gives.0 in omega (arith, gives.1, c.into_vec-imm-items.result.ok.0)) c.in_ok-mapped.ensures

pub immediate-requires : goal.immediate-requires
immediate-requires g c = next_has c.in-Some.imm c.loop-imm.invariant c.in-Some.ensures.steps.0

pub returns-in_err-imm : goal.returns-in_err-imm
returns-in_err-imm g c =
    record {
      default = rw (handed _ c.from_residual-in_err-imm.ensures.1) (λ k ceiling other.
          operator_refused c.in-Some.imm c.loop-imm.invariant c.in-Some.ensures.steps.0 (code_of c.args.arg.opcode) ceiling k (c.in_err-imm.ensures.default k ceiling other));
      after_error = λ k sure. visited_left _ (imms_leave c.in-Some.imm c.loop-imm.invariant c.in-Some.ensures.steps.0 k (c.in_err-imm.ensures.after_error k sure));
    }

pub returns-in_err-push : goal.returns-in_err-push
returns-in_err-push g c =
    record { default = search rules; after_error = λ k sure. visited_left _ (imms_leave c.in-Some.imm c.loop-imm.invariant c.in-Some.ensures.steps.0 k (accepted_visited 0 (read.imm_tree c.in-Some.imm) (c.in_ok-imm.ensures.default k 0))) }

pub loop-imm-preserved : goal.loop-imm-preserved
loop-imm-preserved g c =
    imms_more c.in-Some.imm c.loop-imm.invariant c.in-Some.ensures.steps.0 c.in_ok-imm.imm (omega (arith, c.in-Some.ensures.steps.1)) c.in_ok-imm.ensures.kind c.in_ok-imm.ensures.default c.in_ok-push.ensures.ok

pub of_kinds-requires : goal.of_kinds-requires
of_kinds-requires g c = rw c.opcode-opcode.ensures (all_kinds c.loop-imm.invariant c.in-None.ensures.steps.0 c.args.arg.opcode c.into_imms-imms.ensures.fit)

pub returns : goal.returns
returns g c =
    record { default = λ k ceiling. rw (c.of_kinds.ensures, c.opcode-opcode.ensures) (operator_accepted c.loop-imm.invariant c.in-None.ensures.steps.0 (code_of c.args.arg.opcode) ceiling k); after_error = search rules }
