use Rattle.std.proofs.Common.{refl}
use Rattle.wasm_shapes.proofs.Begins.{at_byte, none_here, none_at_end}
use Rattle.wasm_read.proofs.BehindTypes.{behind_more, behind_none}
use Rattle.wasm_read.proofs.TypeRows.{bare_begins, bare_none, explicit_begins, explicit_none}
use Rattle.wasm_read.proofs.behind_groups.behind_group.Goals as goal

pub returns-in_default-clause-none : goal.returns-in_default-clause-none
returns-in_default-clause-none c = none_here c.in_default.ensures.none (none_at_end refl)

pub returns-then-first-eq78-clause-some : goal.returns-then-first-eq78-clause-some
returns-then-first-eq78-clause-some c =
    behind_more c.behind_sub_types.result (λ t l p. (_, explicit_begins (at_byte c.in-Some.ensures.some c.if-first-eq78.true) p)) c.behind_sub_types.ensures.some

pub returns-then-first-eq78-clause-none : goal.returns-then-first-eq78-clause-none
returns-then-first-eq78-clause-none c =
    behind_none c.behind_sub_types.result (λ none. explicit_none (at_byte c.in-Some.ensures.some c.if-first-eq78.true) none) c.behind_sub_types.ensures.none

pub returns-else-first-eq78-clause-some : goal.returns-else-first-eq78-clause-some
returns-else-first-eq78-clause-some c = behind_more c.behind_sub_type.result (λ t l p. (t, bare_begins p)) c.behind_sub_type.ensures.some

pub returns-else-first-eq78-clause-none : goal.returns-else-first-eq78-clause-none
returns-else-first-eq78-clause-none c =
    behind_none c.behind_sub_type.result (λ none. bare_none c.in-Some.ensures.some c.if-first-eq78.false none) c.behind_sub_type.ensures.none
