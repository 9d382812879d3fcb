use Rattle.std.proofs.Common.{◌≡◌, [], ◌∷◌, ◌++◌}
use Rattle.wasm_read.proofs.OfKinds.{one_imm_more, no_imm, imms_ended, core_of}
use Rattle.wasm_read.proofs.immediates.front_imms.Goals as goal

pub front_imm-requires : goal.front_imm-requires
front_imm-requires c = (core_of c.in-Some.ensures.some c.kinds.invariant.1).0

pub kinds-preserved : goal.kinds-preserved
kinds-preserved c =
    let pushed : c.push.new.self ≡ c.kinds.imms ++ c.in-Ok-Some.imm ∷ [] = c.in-Ok-push.ensures.ok in
    let begins = rw c.in-Ok-Some.field-0-is at c.in-Ok-Some.ensures.some in
    let same = rw c.in-Ok-Some.field-0-is at c.in-Ok-Some.ensures.kind in
    rw pushed (
      one_imm_more c.kinds.imms c.in-Some.kind c.in-Ok-Some.imm c.in-Some.ensures.some c.kinds.invariant.0 begins same,
      (core_of c.in-Some.ensures.some c.kinds.invariant.1).1,
    )

pub returns-in-Ok-None-clause-none : goal.returns-in-Ok-None-clause-none
returns-in-Ok-None-clause-none c =
    let none = rw c.in-Ok-None.field-0-is at c.in-Ok-None.ensures.none in
    no_imm c.in-Some.ensures.some c.kinds.invariant.0 none

pub returns-clause-some : goal.returns-clause-some
returns-clause-some c = (imms_ended c.kinds.imms c.in_default.ensures.none c.kinds.invariant.0).0

pub returns-clause-kinds : goal.returns-clause-kinds
returns-clause-kinds c = (imms_ended c.kinds.imms c.in_default.ensures.none c.kinds.invariant.0).1
