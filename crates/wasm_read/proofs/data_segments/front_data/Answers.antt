use Rattle.std.proofs.Common.{arith}
use Rattle.wasm_read.proofs.DataSegments.{begins_left, begins_passive, begins_written, none_behind, none_data, none_flag}
use Rattle.wasm_read.proofs.data_segments.front_data.Goals as goal

pub returns-in_default-clause-none : goal.returns-in_default-clause-none
returns-in_default-clause-none c = none_flag c.in_default.ensures.none

pub returns-in_default-front_u32-clause-none : goal.returns-in_default-front_u32-clause-none
returns-in_default-front_u32-clause-none c =
    none_data c.in-Some.ensures.some (λ e. absurd (omega arith)) (λ e. absurd (omega arith)) (λ e i behind p. absurd (c.in_default-front_u32.ensures.none p.0 behind i p.1 p.2))

pub returns-in-Some-front_placed-clause-some : goal.returns-in-Some-front_placed-clause-some
returns-in-Some-front_placed-clause-some c =
    rw c.active.ensures (begins_left (rw c.in-0.is at c.in-Some.ensures.some) c.in-Some-front_placed.ensures.some)

pub returns-in-None-clause-none : goal.returns-in-None-clause-none
returns-in-None-clause-none c =
    none_data c.in-Some.ensures.some (λ e. c.in-None.ensures.none) (λ e. absurd (omega arith)) (λ e i behind p. absurd (omega arith))

pub returns-in-Some-front_content-clause-some : goal.returns-in-Some-front_content-clause-some
returns-in-Some-front_content-clause-some c =
    rw c.passive.ensures (begins_passive (rw c.in-1.is at c.in-Some.ensures.some) c.in-Some-front_content.ensures.some)

pub returns-in-None-front_content-clause-none : goal.returns-in-None-front_content-clause-none
returns-in-None-front_content-clause-none c =
    none_data c.in-Some.ensures.some (λ e. absurd (omega arith)) (λ e. c.in-None-front_content.ensures.none) (λ e i behind p. absurd (omega arith))

pub returns-in-Some-front_placed-2-clause-some : goal.returns-in-Some-front_placed-2-clause-some
returns-in-Some-front_placed-2-clause-some c =
    rw c.active-in-Some-front_placed-2.ensures
    (begins_written (rw c.in-2.is at c.in-Some.ensures.some) c.in-Some-front_u32.ensures.some c.in-Some-front_placed-2.ensures.some)

pub returns-in-None-front_placed-clause-none : goal.returns-in-None-front_placed-clause-none
returns-in-None-front_placed-clause-none c =
    none_data c.in-Some.ensures.some (λ e. absurd (omega arith)) (λ e. absurd (omega arith))
    (λ e i behind p. none_behind c.in-Some-front_u32.ensures.some p c.in-None-front_placed.ensures.none)

pub returns-in_default-flag-clause-none : goal.returns-in_default-flag-clause-none
returns-in_default-flag-clause-none c =
    none_data c.in-Some.ensures.some (λ e. absurd (omega arith)) (λ e. absurd (omega arith)) (λ e i behind p. absurd (omega arith))
