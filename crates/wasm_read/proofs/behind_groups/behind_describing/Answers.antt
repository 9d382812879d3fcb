use Rattle.std.proofs.Common.{refl}
use Rattle.wasm_shapes.proofs.Begins.{at_byte, none_here, none_at_end}
use Rattle.wasm_read.proofs.BehindTypes.{behind_more, behind_none}
use Rattle.wasm_read.proofs.TypeRows.{undescribing_begins, undescribing_none, describing_begins, describing_no_index, describing_none}
use Rattle.wasm_read.proofs.behind_groups.behind_describing.Goals as goal

pub returns-in_default-clause-none : goal.returns-in_default-clause-none
returns-in_default-clause-none c = none_here c.in_default.ensures.none (none_at_end refl)

pub returns-then-first-ne76-clause-some : goal.returns-then-first-ne76-clause-some
returns-then-first-ne76-clause-some c = behind_more c.behind_described.result (λ t l p. (t, undescribing_begins p)) c.behind_described.ensures.some

pub returns-then-first-ne76-clause-none : goal.returns-then-first-ne76-clause-none
returns-then-first-ne76-clause-none c = behind_none c.behind_described.result (λ none. undescribing_none c.in-Some.ensures.some c.if-first-ne76.true none) c.behind_described.ensures.none

pub returns-in_default-front_u32-clause-none : goal.returns-in_default-front_u32-clause-none
returns-in_default-front_u32-clause-none c =
    describing_no_index (at_byte c.in-Some.ensures.some c.if-first-ne76.false) c.in_default-front_u32.ensures.none

pub returns-clause-some : goal.returns-clause-some
returns-clause-some c =
    behind_more c.behind_described-2.result (λ t l p. (_, describing_begins (at_byte c.in-Some.ensures.some c.if-first-ne76.false) c.in-Some-front_u32.ensures.some p)) c.behind_described-2.ensures.some

pub returns-clause-none : goal.returns-clause-none
returns-clause-none c =
    behind_none c.behind_described-2.result (λ none. describing_none (at_byte c.in-Some.ensures.some c.if-first-ne76.false) c.in-Some-front_u32.ensures.some none) c.behind_described-2.ensures.none
