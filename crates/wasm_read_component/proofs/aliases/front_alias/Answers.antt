use Rattle.std.proofs.Common.{◌≡◌, refl, false, arith}
use Rattle.std.proofs.lemmas.Bool.Decides.{nat_tests}
use Rattle.wasm_shapes.specs.declared.Space.TheVariants as space
use Rattle.wasm_shapes.specs.Sound.{contains, first_bytes}
use Rattle.wasm_shapes.specs.Component.{alias_rows}
use Rattle.wasm_shapes.proofs.Begins.{at_byte, none_here, none_at_end, none_by_front, none_choice, none_lead, none_ref}
use Rattle.wasm_read_component.proofs.AliasSorts.{some_to, none_to, core_begins, func_begins, value_begins, instance_begins, type_begins, component_begins}
use Rattle.wasm_read_component.proofs.aliases.front_alias.Goals as goal

pub returns-in_default-clause-none : goal.returns-in_default-clause-none
returns-in_default-clause-none c = none_here c.in_default.ensures.none (none_at_end refl)

pub returns-in-0-clause-some : goal.returns-in-0-clause-some
returns-in-0-clause-some c = some_to c.front_core_alias.result c.front_core_alias.ensures.some (λ r p. core_begins c.in-Some.ensures.some c.in-0.is p)

pub returns-in-0-clause-none : goal.returns-in-0-clause-none
returns-in-0-clause-none c =
    none_to c.front_core_alias.result c.front_core_alias.ensures.none
    (λ n. none_here (at_byte c.in-Some.ensures.some c.in-0.is) (none_ref (none_choice alias_rows 0 _ refl (none_lead refl n, tt))))

pub returns-in-1-clause-some : goal.returns-in-1-clause-some
returns-in-1-clause-some c = some_to c.front_export_alias.result c.front_export_alias.ensures.some (λ r p. func_begins c.in-Some.ensures.some c.in-1.is p)

pub returns-in-1-clause-none : goal.returns-in-1-clause-none
returns-in-1-clause-none c =
    none_to c.front_export_alias.result c.front_export_alias.ensures.none
    (λ n. none_here (at_byte c.in-Some.ensures.some c.in-1.is) (none_ref (none_choice alias_rows 1 _ refl (none_lead refl n, tt))))

pub returns-in-2-clause-some : goal.returns-in-2-clause-some
returns-in-2-clause-some c = some_to c.front_export_alias-in-2.result c.front_export_alias-in-2.ensures.some (λ r p. value_begins c.in-Some.ensures.some c.in-2.is p)

pub returns-in-2-clause-none : goal.returns-in-2-clause-none
returns-in-2-clause-none c =
    none_to c.front_export_alias-in-2.result c.front_export_alias-in-2.ensures.none
    (λ n. none_here (at_byte c.in-Some.ensures.some c.in-2.is) (none_ref (none_choice alias_rows 2 _ refl (none_lead refl n, tt))))

pub returns-in-3-clause-some : goal.returns-in-3-clause-some
returns-in-3-clause-some c = some_to c.front_target_alias.result c.front_target_alias.ensures.some (λ r p. type_begins c.in-Some.ensures.some c.in-3.is p)

pub returns-in-3-clause-none : goal.returns-in-3-clause-none
returns-in-3-clause-none c =
    none_to c.front_target_alias.result c.front_target_alias.ensures.none
    (λ n. none_here (at_byte c.in-Some.ensures.some c.in-3.is) (none_ref (none_choice alias_rows 3 _ refl (none_lead refl (n space.ComponentType), tt))))

pub returns-in-4-clause-some : goal.returns-in-4-clause-some
returns-in-4-clause-some c = some_to c.front_target_alias-in-4.result c.front_target_alias-in-4.ensures.some (λ r p. component_begins c.in-Some.ensures.some c.in-4.is p)

pub returns-in-4-clause-none : goal.returns-in-4-clause-none
returns-in-4-clause-none c =
    none_to c.front_target_alias-in-4.result c.front_target_alias-in-4.ensures.none
    (λ n. none_here (at_byte c.in-Some.ensures.some c.in-4.is) (none_ref (none_choice alias_rows 4 _ refl (none_lead refl (n space.Component), tt))))

pub returns-in-5-clause-some : goal.returns-in-5-clause-some
returns-in-5-clause-some c = some_to c.front_export_alias-in-5.result c.front_export_alias-in-5.ensures.some (λ r p. instance_begins c.in-Some.ensures.some c.in-5.is p)

pub returns-in-5-clause-none : goal.returns-in-5-clause-none
returns-in-5-clause-none c =
    none_to c.front_export_alias-in-5.result c.front_export_alias-in-5.ensures.none
    (λ n. none_here (at_byte c.in-Some.ensures.some c.in-5.is) (none_ref (none_choice alias_rows 5 _ refl (none_lead refl n, tt))))

pub returns-in_default-sort-clause-none : goal.returns-in_default-sort-clause-none
returns-in_default-sort-clause-none c =
    let other : contains (first_bytes alias_rows) c.in-Some.sort ≡ false = grind (arith, nat_tests) in
    none_here c.in-Some.ensures.some (none_ref (none_by_front refl other))
