use Rattle.std.proofs.Common.{arith}
use Rattle.wasm_write.proofs.FramesFound.{body_within, length_there, parts_are}
use Rattle.wasm_write.proofs.frames.front_frame.Goals as goal

pub returns-in_default-clause-framed : goal.returns-in_default-clause-framed
returns-in_default-clause-framed c = λ f left is e. length_there f left is e (rw c.behind.ensures at c.in_default.ensures.none)

pub returns-then-rest-size-clause-framed : goal.returns-then-rest-size-clause-framed
returns-then-rest-size-clause-framed c = λ f left is e. absurd (omega (arith, body_within f left is e c.in-Some.size c.in-Some.rest.now (rw c.behind.ensures at c.in-Some.ensures.some)))

pub returns-clause-framed : goal.returns-clause-framed
returns-clause-framed c = λ f left is e. parts_are f left is e c.in-Some.size c.in-Some.rest.now (rw c.behind.ensures at c.in-Some.ensures.some)
