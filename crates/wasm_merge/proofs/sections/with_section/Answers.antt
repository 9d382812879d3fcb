use Rattle.std.proofs.Common.{length, ap, arith}
use Rattle.wasm_merge.proofs.Finding.{first_found, second_found}
use Rattle.wasm_merge.proofs.sections.with_section.Goals as goal

pub returns-in-Missing : goal.returns-in-Missing
returns-in-Missing c = rw c.in-Missing.is (λ bytes t k bodies s none there. first_found k bodies s there none)

pub returns-in-One : goal.returns-in-One
returns-in-One c = rw c.in-One.is (λ bytes t k bodies s one there. second_found k bodies s there (let is = ap length one.1 in omega (arith, is)))

pub returns-in-Repeated : goal.returns-in-Repeated
returns-in-Repeated c = rw c.in-Repeated.is (λ bytes t k bodies s more there. second_found k bodies s there (omega (arith, more)))
