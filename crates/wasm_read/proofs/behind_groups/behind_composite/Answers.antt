use Rattle.std.proofs.Common.{refl}
use Rattle.wasm_shapes.proofs.Begins.{at_byte, none_here, none_at_end}
use Rattle.wasm_read.proofs.BehindTypes.{behind_more, behind_none}
use Rattle.wasm_read.proofs.TypeRows.{shared_begins, shared_none, unshared_begins, unshared_none}
use Rattle.wasm_read.proofs.behind_groups.behind_composite.Goals as goal

pub returns-in_default-clause-none : goal.returns-in_default-clause-none
returns-in_default-clause-none c = none_here c.in_default.ensures.none (none_at_end refl)

pub returns-then-first-eq101-clause-some : goal.returns-then-first-eq101-clause-some
returns-then-first-eq101-clause-some c =
    behind_more c.behind_describing.result (λ t l p. (_, shared_begins (at_byte c.in-Some.ensures.some c.if-first-eq101.true) p)) c.behind_describing.ensures.some

pub returns-then-first-eq101-clause-none : goal.returns-then-first-eq101-clause-none
returns-then-first-eq101-clause-none c =
    behind_none c.behind_describing.result (λ none. shared_none (at_byte c.in-Some.ensures.some c.if-first-eq101.true) none) c.behind_describing.ensures.none

pub returns-else-first-eq101-clause-some : goal.returns-else-first-eq101-clause-some
returns-else-first-eq101-clause-some c = behind_more c.behind_describing-else-first-eq101.result (λ t l p. (t, unshared_begins p)) c.behind_describing-else-first-eq101.ensures.some

pub returns-else-first-eq101-clause-none : goal.returns-else-first-eq101-clause-none
returns-else-first-eq101-clause-none c =
    behind_none c.behind_describing-else-first-eq101.result (λ none. unshared_none c.in-Some.ensures.some c.if-first-eq101.false none) c.behind_describing-else-first-eq101.ensures.none
