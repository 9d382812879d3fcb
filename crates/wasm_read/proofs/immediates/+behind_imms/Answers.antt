use Rattle.std.proofs.Common.{length, ap, arith}
use Rattle.wasm_read.proofs.OfKinds.{core_of, imms_passed, no_first_imm, no_other_imms, no_imms_passed}
use Rattle.wasm_read.proofs.immediates.+behind_imms.Goals as goal

pub behind_imm-requires : goal.behind_imm-requires
behind_imm-requires t c = (core_of c.in-Some.ensures.some c.requires).0

pub behind_imms-requires : goal.behind_imms-requires
behind_imms-requires t c =
    let long = ap length c.in-Some.ensures.some in
    (omega (arith, long), (core_of c.in-Some.ensures.some c.requires).1)

pub returns-in_default-clause-some : goal.returns-in_default-clause-some
returns-in_default-clause-some t c = no_imms_passed c.in_default.ensures.none

pub returns-in_default-behind_imm-clause-none : goal.returns-in_default-behind_imm-clause-none
returns-in_default-behind_imm-clause-none t c = no_first_imm c.in-Some.ensures.some c.in_default-behind_imm.ensures.none

pub returns-in-Some-behind_imms-clause-some : goal.returns-in-Some-behind_imms-clause-some
returns-in-Some-behind_imms-clause-some t c =
    imms_passed c.in-Some.ensures.some c.in-Some-behind_imm.ensures.some c.in-Some-behind_imms.ensures.some

pub returns-in-None-clause-none : goal.returns-in-None-clause-none
returns-in-None-clause-none t c = no_other_imms c.in-Some.ensures.some c.in-Some-behind_imm.ensures.some c.in-None.ensures.none
