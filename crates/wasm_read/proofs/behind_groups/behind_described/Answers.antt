use Rattle.std.proofs.Common.{refl}
use Rattle.wasm_shapes.proofs.Begins.{at_byte, none_here, none_at_end}
use Rattle.wasm_read.proofs.BehindTypes.{behind_more, behind_none}
use Rattle.wasm_read.proofs.TypeRows.{undescribed_begins, undescribed_none, described_begins, described_no_index, described_none}
use Rattle.wasm_read.proofs.behind_groups.behind_described.Goals as goal

pub returns-in_default-clause-none : goal.returns-in_default-clause-none
returns-in_default-clause-none c = none_here c.in_default.ensures.none (none_at_end refl)

pub returns-then-first-ne77-clause-some : goal.returns-then-first-ne77-clause-some
returns-then-first-ne77-clause-some c = behind_more c.behind_inner.result (λ t l p. (t, undescribed_begins p)) c.behind_inner.ensures.some

pub returns-then-first-ne77-clause-none : goal.returns-then-first-ne77-clause-none
returns-then-first-ne77-clause-none c = behind_none c.behind_inner.result (λ none. undescribed_none c.in-Some.ensures.some c.if-first-ne77.true none) c.behind_inner.ensures.none

pub returns-in_default-front_u32-clause-none : goal.returns-in_default-front_u32-clause-none
returns-in_default-front_u32-clause-none c =
    described_no_index (at_byte c.in-Some.ensures.some c.if-first-ne77.false) c.in_default-front_u32.ensures.none

pub returns-clause-some : goal.returns-clause-some
returns-clause-some c =
    behind_more c.behind_inner-2.result (λ t l p. (_, described_begins (at_byte c.in-Some.ensures.some c.if-first-ne77.false) c.in-Some-front_u32.ensures.some p)) c.behind_inner-2.ensures.some

pub returns-clause-none : goal.returns-clause-none
returns-clause-none c =
    behind_none c.behind_inner-2.result (λ none. described_none (at_byte c.in-Some.ensures.some c.if-first-ne77.false) c.in-Some-front_u32.ensures.some none) c.behind_inner-2.ensures.none
