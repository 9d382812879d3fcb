use Rattle.std.proofs.Common.{arith, subst, ℕ, List}
use Rattle.wasm_leb.specs.Place.{BeginsNoNumber}
use Rattle.wasm_read.proofs.Accesses.{begins_mem_left, begins_mem_written, none_mem, same_number}
use Rattle.wasm_read.proofs.immediates.front_mem.Goals as goal

pub returns-then-flags-ge128-clause-none : goal.returns-then-flags-ge128-clause-none
returns-then-flags-ge128-clause-none c =
    none_mem c.in-Some.ensures.some (λ low. absurd (omega arith)) (λ i behind low high p. absurd (omega arith))

pub returns-in-Some-front_u64-clause-some : goal.returns-in-Some-front_u64-clause-some
returns-in-Some-front_u64-clause-some c =
    rw c.mem_arg.ensures.tree (begins_mem_left c.if-flags-lt64.true c.in-Some.ensures.some c.in-Some-front_u64.ensures.some)

pub returns-in-None-clause-none : goal.returns-in-None-clause-none
returns-in-None-clause-none c =
    none_mem c.in-Some.ensures.some (λ low. c.in-None.ensures.none) (λ i behind low high p. absurd (omega arith))

pub returns-in_default-front_u32-clause-none : goal.returns-in_default-front_u32-clause-none
returns-in_default-front_u32-clause-none c =
    none_mem c.in-Some.ensures.some (λ low. absurd (omega arith)) (λ i behind low high p. absurd (c.in_default-front_u32.ensures.none p.0 behind i p.1 p.2))

pub returns-in-Some-front_u64-2-clause-some : goal.returns-in-Some-front_u64-2-clause-some
returns-in-Some-front_u64-2-clause-some c =
    rw c.mem_arg-in-Some-front_u64-2.ensures.tree
    (begins_mem_written (omega arith) (omega arith) c.in-Some.ensures.some c.in-Some-front_u32.ensures.some c.in-Some-front_u64-2.ensures.some)

pub returns-in-None-front_u64-clause-none : goal.returns-in-None-front_u64-clause-none
returns-in-None-front_u64-clause-none c =
    none_mem c.in-Some.ensures.some (λ low. absurd (omega arith))
    (λ i behind low high p.
    let N : List ℕ → Type 0 = λ z. BeginsNoNumber 128 64 64 z in
    subst N (same_number c.in-Some-front_u32.ensures.some p) c.in-None-front_u64.ensures.none)
