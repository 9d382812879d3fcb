use Rattle.std.proofs.Common.{◌≡◌, ◌≤◌, refl, false, arith}
use Rattle.std.proofs.lemmas.Bool.Decides.{nat_tests}
use Rattle.wasm_shapes.specs.declared.Space.TheVariants as space
use Rattle.wasm_shapes.specs.Sound.{contains, first_bytes}
use Rattle.wasm_shapes.specs.Component.{core_alias}
use Rattle.wasm_shapes.proofs.Begins.{begins_row, begins_seq, begins_byte, begins_within, at_byte, none_here, none_at_end, none_by_front, none_choice, none_lead}
use Rattle.wasm_read.specs.declared.types.ExternalKind.{ExternalKind}
use Rattle.wasm_read.specs.declared.types.ExternalKind.TheVariants as external
use Rattle.wasm_read_component.specs.Aliases.{core_sort_byte}
use Rattle.wasm_read_component.proofs.AliasSorts.{none_core}
use Rattle.wasm_read_component.proofs.aliases.front_core_alias.Goals as goal

small : (kind : ExternalKind) → core_sort_byte kind ≤ 4
small external.Func = omega arith
small _ = omega arith

pub returns-in_default-clause-none : goal.returns-in_default-clause-none
returns-in_default-clause-none c = none_here c.in_default.ensures.none (none_at_end refl)

pub returns-in_default-core_sort_of-clause-none : goal.returns-in_default-core_sort_of-clause-none
returns-in_default-core_sort_of-clause-none c =
    let other : contains (first_bytes core_alias) c.in-Some.sort ≡ false = grind (arith, nat_tests) in
    none_here c.in-Some.ensures.some (none_by_front refl other)

pub returns-in-Some-front_outer-clause-some : goal.returns-in-Some-front_outer-clause-some
returns-in-Some-front_outer-clause-some c = record {
  inner = _;
  is = refl;
  begins = begins_row {k = 1} (begins_seq (begins_byte (at_byte c.in-Some.ensures.some c.in-16.is)) (c.in-Some-front_outer.ensures.some space.Type_));
}

pub returns-in-None-clause-none : goal.returns-in-None-clause-none
returns-in-None-clause-none c =
    none_here (at_byte c.in-Some.ensures.some c.in-16.is) (none_choice core_alias 0x10 _ refl (none_lead refl (c.in-None.ensures.none space.Type_), tt))

pub returns-in-Some-Export-default-clause-some : goal.returns-in-Some-Export-default-clause-some
returns-in-Some-Export-default-clause-some c =
    let at-Export = rw c.in-Some-Export-default.field-0-0-is at c.in-Some-Export-default.ensures.some in record {
      inner = _;
      is = refl;
      begins = begins_row {k = 2} (begins_seq (begins_byte (at_byte c.in-Some.ensures.some c.in-17.is)) (at-Export space.Module));
    }

pub returns-in-Some-Outer-default-clause-some : goal.returns-in-Some-Outer-default-clause-some
returns-in-Some-Outer-default-clause-some c =
    let at-Outer = rw c.in-Some-Outer-default.field-0-0-is at c.in-Some-Outer-default.ensures.some in record {
      inner = _;
      is = refl;
      begins = begins_row {k = 2} (begins_seq (begins_byte (at_byte c.in-Some.ensures.some c.in-17.is)) (at-Outer space.Module));
    }

pub returns-in-None-front_target-clause-none : goal.returns-in-None-front_target-clause-none
returns-in-None-front_target-clause-none c =
    none_here (at_byte c.in-Some.ensures.some c.in-17.is) (none_choice core_alias 0x11 _ refl (none_lead refl (c.in-None-front_target.ensures.none space.Module), tt))

pub returns-in-Some-front_core_instance_export-clause-some : goal.returns-in-Some-front_core_instance_export-clause-some
returns-in-Some-front_core_instance_export-clause-some c =
    let low = small c.in-Some-core_sort_of.kind in record {
      inner = _;
      is = refl;
      begins = begins_row {k = 0}
          (begins_seq (begins_within (omega arith) low (omega (arith, low)) (at_byte c.in-Some.ensures.some c.in-Some-core_sort_of.ensures.some))
          c.in-Some-front_core_instance_export.ensures.some);
    }

pub returns-in-None-front_core_instance_export-clause-none : goal.returns-in-None-front_core_instance_export-clause-none
returns-in-None-front_core_instance_export-clause-none c =
    let low = small c.in-Some-core_sort_of.kind in
    let sort : c.in-Some.sort ≡ core_sort_byte c.in-Some-core_sort_of.kind = c.in-Some-core_sort_of.ensures.some in
    none_core c.in-Some.ensures.some (omega (arith, low, sort)) c.in-None-front_core_instance_export.ensures.none
