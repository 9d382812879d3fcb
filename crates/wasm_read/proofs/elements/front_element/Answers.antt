use Rattle.std.proofs.Common.{inl, inr, refl, arith}
use Rattle.wasm_shapes.proofs.Begins.{none_seq_first, none_seq_second}
use Rattle.wasm_read.proofs.ElementFlags.{functions_begin, no_functions, left_functions, left_expressions, aimed_functions, aimed_expressions, passive_functions, declared_functions, passive_expressions, declared_expressions, no_flag, none_behind, unknown_flag}
use Rattle.wasm_read.proofs.elements.front_element.Goals as goal

pub returns-in_default-clause-none : goal.returns-in_default-clause-none
returns-in_default-clause-none c =
    no_flag c.in_default.ensures.none

pub returns-in_default-front_expr-clause-none : goal.returns-in_default-front_expr-clause-none
returns-in_default-front_expr-clause-none c =
    none_behind c.in-Some.ensures.some c.in-0.is (none_seq_first c.in_default-front_expr.ensures.none)

pub returns-in-Ok-Some-clause-some : goal.returns-in-Ok-Some-clause-some
returns-in-Ok-Some-clause-some c =
    let some = rw c.in-Ok-Some.field-0-is at c.in-Ok-Some.ensures.some in
    left_functions c.in-Some.ensures.some c.in-0.is c.in-Some-front_expr.ensures.some (functions_begin c.in-Ok-Some.functions some)

pub returns-in-Ok-None-clause-none : goal.returns-in-Ok-None-clause-none
returns-in-Ok-None-clause-none c =
    let none = rw c.in-Ok-None.field-0-is at c.in-Ok-None.ensures.none in
    none_behind c.in-Some.ensures.some c.in-0.is (none_seq_second refl refl c.in-Some-front_expr.ensures.some (no_functions none))

pub returns-in-Ok-Some-front_kinded-clause-some : goal.returns-in-Ok-Some-front_kinded-clause-some
returns-in-Ok-Some-front_kinded-clause-some c =
    let some = rw c.in-Ok-Some-front_kinded.field-0-is at c.in-Ok-Some-front_kinded.ensures.some in
    passive_functions c.in-Some.ensures.some c.in-1.is some

pub returns-in-Ok-None-front_kinded-clause-none : goal.returns-in-Ok-None-front_kinded-clause-none
returns-in-Ok-None-front_kinded-clause-none c =
    let none = rw c.in-Ok-None-front_kinded.field-0-is at c.in-Ok-None-front_kinded.ensures.none in
    none_behind c.in-Some.ensures.some c.in-1.is none

pub returns-in_default-front_aim-clause-none : goal.returns-in_default-front_aim-clause-none
returns-in_default-front_aim-clause-none c =
    none_behind c.in-Some.ensures.some c.in-2.is (none_seq_first c.in_default-front_aim.ensures.none)

pub returns-in-Ok-Some-front_kinded-2-clause-some : goal.returns-in-Ok-Some-front_kinded-2-clause-some
returns-in-Ok-Some-front_kinded-2-clause-some c =
    let some = rw c.in-Ok-Some-front_kinded-2.field-0-is at c.in-Ok-Some-front_kinded-2.ensures.some in
    aimed_functions c.in-Some.ensures.some c.in-2.is c.in-Some-front_aim.ensures.some some

pub returns-in-Ok-None-front_kinded-2-clause-none : goal.returns-in-Ok-None-front_kinded-2-clause-none
returns-in-Ok-None-front_kinded-2-clause-none c =
    let none = rw c.in-Ok-None-front_kinded-2.field-0-is at c.in-Ok-None-front_kinded-2.ensures.none in
    none_behind c.in-Some.ensures.some c.in-2.is (none_seq_second refl refl c.in-Some-front_aim.ensures.some none)

pub returns-in-Ok-Some-front_kinded-3-clause-some : goal.returns-in-Ok-Some-front_kinded-3-clause-some
returns-in-Ok-Some-front_kinded-3-clause-some c =
    let some = rw c.in-Ok-Some-front_kinded-3.field-0-is at c.in-Ok-Some-front_kinded-3.ensures.some in
    declared_functions c.in-Some.ensures.some c.in-3.is some

pub returns-in-Ok-None-front_kinded-3-clause-none : goal.returns-in-Ok-None-front_kinded-3-clause-none
returns-in-Ok-None-front_kinded-3-clause-none c =
    let none = rw c.in-Ok-None-front_kinded-3.field-0-is at c.in-Ok-None-front_kinded-3.ensures.none in
    none_behind c.in-Some.ensures.some c.in-3.is none

pub returns-in_default-front_expr-2-clause-none : goal.returns-in_default-front_expr-2-clause-none
returns-in_default-front_expr-2-clause-none c =
    none_behind c.in-Some.ensures.some c.in-4.is (none_seq_first c.in_default-front_expr-2.ensures.none)

pub returns-in-Ok-Some-front_vec-clause-some : goal.returns-in-Ok-Some-front_vec-clause-some
returns-in-Ok-Some-front_vec-clause-some c =
    let some = rw c.in-Ok-Some-front_vec.field-0-is at c.in-Ok-Some-front_vec.ensures.some in
    left_expressions c.in-Some.ensures.some c.in-4.is c.in-Some-front_expr-2.ensures.some some

pub returns-in-Ok-None-front_vec-clause-none : goal.returns-in-Ok-None-front_vec-clause-none
returns-in-Ok-None-front_vec-clause-none c =
    let none = rw c.in-Ok-None-front_vec.field-0-is at c.in-Ok-None-front_vec.ensures.none in
    none_behind c.in-Some.ensures.some c.in-4.is (none_seq_second refl refl c.in-Some-front_expr-2.ensures.some none)

pub returns-in-Ok-Some-front_typed-clause-some : goal.returns-in-Ok-Some-front_typed-clause-some
returns-in-Ok-Some-front_typed-clause-some c =
    let some = rw c.in-Ok-Some-front_typed.field-0-is at c.in-Ok-Some-front_typed.ensures.some in
    passive_expressions c.in-Some.ensures.some c.in-5.is some

pub returns-in-Ok-None-front_typed-clause-none : goal.returns-in-Ok-None-front_typed-clause-none
returns-in-Ok-None-front_typed-clause-none c =
    let none = rw c.in-Ok-None-front_typed.field-0-is at c.in-Ok-None-front_typed.ensures.none in
    none_behind c.in-Some.ensures.some c.in-5.is none

pub returns-in_default-front_aim-2-clause-none : goal.returns-in_default-front_aim-2-clause-none
returns-in_default-front_aim-2-clause-none c =
    none_behind c.in-Some.ensures.some c.in-6.is (none_seq_first c.in_default-front_aim-2.ensures.none)

pub returns-in-Ok-Some-front_typed-2-clause-some : goal.returns-in-Ok-Some-front_typed-2-clause-some
returns-in-Ok-Some-front_typed-2-clause-some c =
    let some = rw c.in-Ok-Some-front_typed-2.field-0-is at c.in-Ok-Some-front_typed-2.ensures.some in
    aimed_expressions c.in-Some.ensures.some c.in-6.is c.in-Some-front_aim-2.ensures.some some

pub returns-in-Ok-None-front_typed-2-clause-none : goal.returns-in-Ok-None-front_typed-2-clause-none
returns-in-Ok-None-front_typed-2-clause-none c =
    let none = rw c.in-Ok-None-front_typed-2.field-0-is at c.in-Ok-None-front_typed-2.ensures.none in
    none_behind c.in-Some.ensures.some c.in-6.is (none_seq_second refl refl c.in-Some-front_aim-2.ensures.some none)

pub returns-in-Ok-Some-front_typed-3-clause-some : goal.returns-in-Ok-Some-front_typed-3-clause-some
returns-in-Ok-Some-front_typed-3-clause-some c =
    let some = rw c.in-Ok-Some-front_typed-3.field-0-is at c.in-Ok-Some-front_typed-3.ensures.some in
    declared_expressions c.in-Some.ensures.some c.in-7.is some

pub returns-in-Ok-None-front_typed-3-clause-none : goal.returns-in-Ok-None-front_typed-3-clause-none
returns-in-Ok-None-front_typed-3-clause-none c =
    let none = rw c.in-Ok-None-front_typed-3.field-0-is at c.in-Ok-None-front_typed-3.ensures.none in
    none_behind c.in-Some.ensures.some c.in-7.is none

pub returns-in_default-flag-clause-none : goal.returns-in_default-flag-clause-none
returns-in_default-flag-clause-none c =
    unknown_flag c.in-Some.ensures.some (omega arith)

pub returns-in-Ok-Some-clause-beside : goal.returns-in-Ok-Some-clause-beside
returns-in-Ok-Some-clause-beside c = record { flag = c.in-Some.flag; rest = c.in-Some.rest.now; flagged = c.in-Some.ensures.some; says = inl c.in-0.is }

pub returns-in-Ok-Some-front_kinded-clause-beside : goal.returns-in-Ok-Some-front_kinded-clause-beside
returns-in-Ok-Some-front_kinded-clause-beside c = record { flag = c.in-Some.flag; rest = c.in-Some.rest.now; flagged = c.in-Some.ensures.some; says = tt }

pub returns-in-Ok-Some-front_kinded-2-clause-beside : goal.returns-in-Ok-Some-front_kinded-2-clause-beside
returns-in-Ok-Some-front_kinded-2-clause-beside c = record { flag = c.in-Some.flag; rest = c.in-Some.rest.now; flagged = c.in-Some.ensures.some; says = inl c.in-2.is }

pub returns-in-Ok-Some-front_kinded-3-clause-beside : goal.returns-in-Ok-Some-front_kinded-3-clause-beside
returns-in-Ok-Some-front_kinded-3-clause-beside c = record { flag = c.in-Some.flag; rest = c.in-Some.rest.now; flagged = c.in-Some.ensures.some; says = tt }

pub returns-in-Ok-Some-front_vec-clause-beside : goal.returns-in-Ok-Some-front_vec-clause-beside
returns-in-Ok-Some-front_vec-clause-beside c = record { flag = c.in-Some.flag; rest = c.in-Some.rest.now; flagged = c.in-Some.ensures.some; says = inr c.in-4.is }

pub returns-in-Ok-Some-front_typed-clause-beside : goal.returns-in-Ok-Some-front_typed-clause-beside
returns-in-Ok-Some-front_typed-clause-beside c = record { flag = c.in-Some.flag; rest = c.in-Some.rest.now; flagged = c.in-Some.ensures.some; says = tt }

pub returns-in-Ok-Some-front_typed-2-clause-beside : goal.returns-in-Ok-Some-front_typed-2-clause-beside
returns-in-Ok-Some-front_typed-2-clause-beside c = record { flag = c.in-Some.flag; rest = c.in-Some.rest.now; flagged = c.in-Some.ensures.some; says = inr c.in-6.is }

pub returns-in-Ok-Some-front_typed-3-clause-beside : goal.returns-in-Ok-Some-front_typed-3-clause-beside
returns-in-Ok-Some-front_typed-3-clause-beside c = record { flag = c.in-Some.flag; rest = c.in-Some.rest.now; flagged = c.in-Some.ensures.some; says = tt }
