use Rattle.reencode_items.proofs.Passing.{mem_begins, mem_short}
use Rattle.reencode_items.proofs.direct.fronts.front_access.Goals as goal

pub returns-in-Some-front_offset-clause-begins : goal.returns-in-Some-front_offset-clause-begins
returns-in-Some-front_offset-clause-begins c = mem_begins c.in-Some.ensures.some c.if-align-lt64.true c.in-Some-front_offset.ensures.begins

pub returns-in-Some-front_offset-clause-short : goal.returns-in-Some-front_offset-clause-short
returns-in-Some-front_offset-clause-short c = λ short. mem_short _ _ _ c.in-Some.ensures.some c.if-align-lt64.true (c.in-Some-front_offset.ensures.short short)
