use Rattle.wasm_merge.proofs.Rows.{has_rows, no_number, no_rows, too_many}
use Rattle.wasm_merge.proofs.sections.Bodies.rows.Goals as goal

pub returns-in-Some : goal.returns-in-Some
returns-in-Some c = λ bytes t a. let f = c.in-One.ensures bytes t a in has_rows f.1 f.2 c.in-Some.ensures.some

pub returns-in-None : goal.returns-in-None
returns-in-None c = λ bytes t a. let f = c.in-One.ensures bytes t a in no_number f.2 c.in-None.ensures.none

pub returns-in-Missing : goal.returns-in-Missing
returns-in-Missing c = λ bytes t a. no_rows (c.in-Missing.ensures bytes t a)

pub returns-in-Repeated : goal.returns-in-Repeated
returns-in-Repeated c = λ bytes t a. too_many (c.in-Repeated.ensures bytes t a)
