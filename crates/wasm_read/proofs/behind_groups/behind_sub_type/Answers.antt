use Rattle.std.proofs.Common.{◌≢◌, refl, arith}
use Rattle.wasm_shapes.proofs.Begins.{at_byte, none_here, none_at_end}
use Rattle.wasm_read.proofs.BehindTypes.{behind_more, behind_none, final_behind, open_behind}
use Rattle.wasm_read.proofs.TypeRows.{alone_begins, alone_none, final_none, open_none}
use Rattle.wasm_read.proofs.behind_groups.behind_sub_type.Goals as goal

pub returns-in_default-clause-none : goal.returns-in_default-clause-none
returns-in_default-clause-none c = none_here c.in_default.ensures.none (none_at_end refl)

pub returns-in-80-clause-some : goal.returns-in-80-clause-some
returns-in-80-clause-some c = open_behind (at_byte c.in-Some.ensures.some c.in-80.is) c.behind_parts.result c.behind_parts.ensures.some

pub returns-in-80-clause-none : goal.returns-in-80-clause-none
returns-in-80-clause-none c = behind_none c.behind_parts.result (λ none. open_none (at_byte c.in-Some.ensures.some c.in-80.is) none) c.behind_parts.ensures.none

pub returns-in-79-clause-some : goal.returns-in-79-clause-some
returns-in-79-clause-some c = final_behind (at_byte c.in-Some.ensures.some c.in-79.is) c.behind_parts-in-79.result c.behind_parts-in-79.ensures.some

pub returns-in-79-clause-none : goal.returns-in-79-clause-none
returns-in-79-clause-none c = behind_none c.behind_parts-in-79.result (λ none. final_none (at_byte c.in-Some.ensures.some c.in-79.is) none) c.behind_parts-in-79.ensures.none

pub returns-in_default-first-clause-some : goal.returns-in_default-first-clause-some
returns-in_default-first-clause-some c = behind_more c.behind_composite.result (λ t l p. (_, alone_begins p)) c.behind_composite.ensures.some

pub returns-in_default-first-clause-none : goal.returns-in_default-first-clause-none
returns-in_default-first-clause-none c =
    let other : c.in-Some.first ≢ 0x4f = omega arith in
    let another : c.in-Some.first ≢ 0x50 = omega arith in
    behind_none c.behind_composite.result (λ none. alone_none c.in-Some.ensures.some other another none) c.behind_composite.ensures.none
