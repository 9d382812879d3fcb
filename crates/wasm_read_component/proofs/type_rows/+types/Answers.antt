use Rattle.std.proofs.Common.{◌≡◌, ◌+◌, ◌-◌, ◌++◌, ◌∷◌, suc, [], refl, true, false, arith}
use Rattle.std.proofs.lemmas.Bool.Decides.{nat_tests}
use Rattle.wasm_shapes.specs.Tree.{Tree}
use Rattle.wasm_shapes.specs.Rows.{rows_then}
use Rattle.wasm_shapes.specs.Component.{component_declaration, component_type_rows, instance_declaration}
use Rattle.wasm_shapes.specs.Sound.{contains, first_bytes}
use Rattle.wasm_shapes.proofs.Begins.{at_byte, begins_byte, begins_seq, none_at_end, none_by_front, none_here, none_lead, none_or, none_ref}
use Rattle.wasm_shapes.proofs.Depth.{at_full, at_here, at_lead, at_none, so_far_more, so_far_none}
use Rattle.wasm_read_component.specs.TypeRows.{declaration_of}
use Rattle.wasm_read_component.proofs.ScopeRows.{behind_first, declarations_closed, declarations_sound, func_is, no_type, scope_fresh, scope_held, scope_read, scope_reads, scope_stuck, scope_uncounted}
use Rattle.wasm_read_component.proofs.TypeDepth.{at_choice, behind_at, flat_row, named_reads}
use Rattle.wasm_read_component.proofs.type_rows.+types.Goals as goal

pub front_component_type-returns-in_default-clause-none : goal.front_component_type-returns-in_default-clause-none
front_component_type-returns-in_default-clause-none t c = at_none (none_here c.in_default.ensures.none (none_at_end refl))

pub front_component_type-returns-in-Ok-Some-clause-some : goal.front_component_type-returns-in-Ok-Some-clause-some
front_component_type-returns-in-Ok-Some-clause-some t c = named_reads (flat_row component_type_rows 1 refl refl c.requires (func_is false c.in-Ok-Some.ty (rw c.in-Ok-Some.field-0-is at c.in-Ok-Some.ensures.kind)) (begins_seq (begins_byte (at_byte c.in-Some.ensures.some c.in-64.is)) (rw c.in-Ok-Some.field-0-is at c.in-Ok-Some.ensures.some)))

pub front_component_type-returns-in-Ok-None-clause-none : goal.front_component_type-returns-in-Ok-None-clause-none
front_component_type-returns-in-Ok-None-clause-none t c = no_type 64 (at_byte c.in-Some.ensures.some c.in-64.is) (at_none (none_lead refl (rw c.in-Ok-None.field-0-is at c.in-Ok-None.ensures.none)), tt)

pub front_component_type-returns-in-Ok-Some-front_func_type-clause-some : goal.front_component_type-returns-in-Ok-Some-front_func_type-clause-some
front_component_type-returns-in-Ok-Some-front_func_type-clause-some t c = named_reads (flat_row component_type_rows 2 refl refl c.requires (func_is true c.in-Ok-Some-front_func_type.ty (rw c.in-Ok-Some-front_func_type.field-0-is at c.in-Ok-Some-front_func_type.ensures.kind)) (begins_seq (begins_byte (at_byte c.in-Some.ensures.some c.in-67.is)) (rw c.in-Ok-Some-front_func_type.field-0-is at c.in-Ok-Some-front_func_type.ensures.some)))

pub front_component_type-returns-in-Ok-None-front_func_type-clause-none : goal.front_component_type-returns-in-Ok-None-front_func_type-clause-none
front_component_type-returns-in-Ok-None-front_func_type-clause-none t c = no_type 67 (at_byte c.in-Some.ensures.some c.in-67.is) (at_none (none_lead refl (rw c.in-Ok-None-front_func_type.field-0-is at c.in-Ok-None-front_func_type.ensures.none)), tt)

pub front_component_type-returns-in-Some-reader_before-clause-some : goal.front_component_type-returns-in-Some-reader_before-clause-some
front_component_type-returns-in-Some-reader_before-clause-some t c = scope_reads {k = 3} _ refl (at_byte c.in-Some.ensures.some c.in-65.is) (rw c.in-Ok-Some-behind_scope.field-0-is at c.in-Ok-Some-behind_scope.ensures.some) c.in-Some-reader_before.ensures.some

pub front_component_type-returns-in-Some-reader_before-clause-beside : goal.front_component_type-returns-in-Some-reader_before-clause-beside
front_component_type-returns-in-Some-reader_before-clause-beside t c = scope_fresh _ c.in-Some.ensures.some (rw c.in-Ok-Some-behind_scope.field-0-is at c.in-Ok-Some-behind_scope.ensures.some) c.in-Some-reader_before.ensures.fresh

pub front_component_type-returns-in-Some-reader_before-2-clause-beside : goal.front_component_type-returns-in-Some-reader_before-2-clause-beside
front_component_type-returns-in-Some-reader_before-2-clause-beside t c = scope_fresh _ c.in-Some.ensures.some (rw c.in-Ok-Some-behind_scope-2.field-0-is at c.in-Ok-Some-behind_scope-2.ensures.some) c.in-Some-reader_before-2.ensures.fresh

pub front_component_type-returns-in-None-clause-none : goal.front_component_type-returns-in-None-clause-none
front_component_type-returns-in-None-clause-none t c = absurd (scope_held (rw c.in-Ok-Some-behind_scope.field-0-is at c.in-Ok-Some-behind_scope.ensures.some) c.in-None.ensures.none)

pub front_component_type-returns-in-Ok-None-behind_scope-clause-none : goal.front_component_type-returns-in-Ok-None-behind_scope-clause-none
front_component_type-returns-in-Ok-None-behind_scope-clause-none t c = no_type 65 (at_byte c.in-Some.ensures.some c.in-65.is) (at_lead refl (rw c.in-Ok-None-behind_scope.field-0-is at c.in-Ok-None-behind_scope.ensures.none), tt)

pub front_component_type-returns-in-Some-reader_before-2-clause-some : goal.front_component_type-returns-in-Some-reader_before-2-clause-some
front_component_type-returns-in-Some-reader_before-2-clause-some t c = scope_reads {k = 4} _ refl (at_byte c.in-Some.ensures.some c.in-66.is) (rw c.in-Ok-Some-behind_scope-2.field-0-is at c.in-Ok-Some-behind_scope-2.ensures.some) c.in-Some-reader_before-2.ensures.some

pub front_component_type-returns-in-None-reader_before-clause-none : goal.front_component_type-returns-in-None-reader_before-clause-none
front_component_type-returns-in-None-reader_before-clause-none t c = absurd (scope_held (rw c.in-Ok-Some-behind_scope-2.field-0-is at c.in-Ok-Some-behind_scope-2.ensures.some) c.in-None-reader_before.ensures.none)

pub front_component_type-returns-in-Ok-None-behind_scope-2-clause-none : goal.front_component_type-returns-in-Ok-None-behind_scope-2-clause-none
front_component_type-returns-in-Ok-None-behind_scope-2-clause-none t c = no_type 66 (at_byte c.in-Some.ensures.some c.in-66.is) (at_lead refl (rw c.in-Ok-None-behind_scope-2.field-0-is at c.in-Ok-None-behind_scope-2.ensures.none), tt)

pub front_component_type-returns-in-Some-front_resource-clause-some : goal.front_component_type-returns-in-Some-front_resource-clause-some
front_component_type-returns-in-Some-front_resource-clause-some t c = named_reads (flat_row component_type_rows 5 refl refl c.requires refl (begins_seq (begins_byte (at_byte c.in-Some.ensures.some c.in-63.is)) c.in-Some-front_resource.ensures.some))

pub front_component_type-returns-in-None-front_resource-clause-none : goal.front_component_type-returns-in-None-front_resource-clause-none
front_component_type-returns-in-None-front_resource-clause-none t c = no_type 63 (at_byte c.in-Some.ensures.some c.in-63.is) (at_none (none_lead refl c.in-None-front_resource.ensures.none), tt)

pub front_component_type-returns-in-Ok-Some-front_defined_type-clause-some : goal.front_component_type-returns-in-Ok-Some-front_defined_type-clause-some
front_component_type-returns-in-Ok-Some-front_defined_type-clause-some t c = named_reads (flat_row component_type_rows 0 refl refl c.requires refl (rw c.in-Ok-Some-front_defined_type.field-0-is at c.in-Ok-Some-front_defined_type.ensures.some))

pub front_component_type-returns-in-Ok-None-front_defined_type-clause-none : goal.front_component_type-returns-in-Ok-None-front_defined_type-clause-none
front_component_type-returns-in-Ok-None-front_defined_type-clause-none t c =
    let other : contains (first_bytes (behind_first component_type_rows)) c.in-Some.first ≡ false = grind (arith, nat_tests) in
    at_none (none_ref (none_or (rw c.in-Ok-None-front_defined_type.field-0-is at c.in-Ok-None-front_defined_type.ensures.none) (none_here c.in-Some.ensures.some (none_by_front refl other))))

pub front_instance_declaration-returns-in_default-clause-none : goal.front_instance_declaration-returns-in_default-clause-none
front_instance_declaration-returns-in_default-clause-none t c = at_none (none_here c.in_default.ensures.none (none_at_end refl))

pub front_instance_declaration-returns-in-Ok-Some-clause-some : goal.front_instance_declaration-returns-in-Ok-Some-clause-some
front_instance_declaration-returns-in-Ok-Some-clause-some t c = behind_at {k = 0} instance_declaration refl (at_byte c.in-Some.ensures.some c.in-0.is) (rw c.in-Ok-Some.field-0-is at c.in-Ok-Some.ensures.some)

pub front_instance_declaration-returns-in-Ok-None-clause-none : goal.front_instance_declaration-returns-in-Ok-None-clause-none
front_instance_declaration-returns-in-Ok-None-clause-none t c = at_here (at_byte c.in-Some.ensures.some c.in-0.is) (at_choice instance_declaration 0 _ _ refl (at_lead refl (rw c.in-Ok-None.field-0-is at c.in-Ok-None.ensures.none), tt))

pub front_instance_declaration-returns-in-Ok-Some-front_component_type-clause-some : goal.front_instance_declaration-returns-in-Ok-Some-front_component_type-clause-some
front_instance_declaration-returns-in-Ok-Some-front_component_type-clause-some t c = behind_at {k = 1} instance_declaration refl (at_byte c.in-Some.ensures.some c.in-1.is) (rw c.in-Ok-Some-front_component_type.field-0-is at c.in-Ok-Some-front_component_type.ensures.some)

pub front_instance_declaration-returns-in-Ok-None-front_component_type-clause-none : goal.front_instance_declaration-returns-in-Ok-None-front_component_type-clause-none
front_instance_declaration-returns-in-Ok-None-front_component_type-clause-none t c = at_here (at_byte c.in-Some.ensures.some c.in-1.is) (at_choice instance_declaration 1 _ _ refl (at_lead refl (rw c.in-Ok-None-front_component_type.field-0-is at c.in-Ok-None-front_component_type.ensures.none), tt))

pub front_instance_declaration-returns-in-Some-front_alias-clause-some : goal.front_instance_declaration-returns-in-Some-front_alias-clause-some
front_instance_declaration-returns-in-Some-front_alias-clause-some t c = flat_row instance_declaration 2 refl refl c.requires refl (begins_seq (begins_byte (at_byte c.in-Some.ensures.some c.in-2.is)) c.in-Some-front_alias.ensures.some)

pub front_instance_declaration-returns-in-None-clause-none : goal.front_instance_declaration-returns-in-None-clause-none
front_instance_declaration-returns-in-None-clause-none t c = at_here (at_byte c.in-Some.ensures.some c.in-2.is) (at_choice instance_declaration 2 _ _ refl (at_none (none_lead refl c.in-None.ensures.none), tt))

pub front_instance_declaration-returns-in-Some-front_component_import-clause-some : goal.front_instance_declaration-returns-in-Some-front_component_import-clause-some
front_instance_declaration-returns-in-Some-front_component_import-clause-some t c = flat_row instance_declaration 3 refl refl c.requires refl (begins_seq (begins_byte (at_byte c.in-Some.ensures.some c.in-4.is)) c.in-Some-front_component_import.ensures.some)

pub front_instance_declaration-returns-in-None-front_component_import-clause-none : goal.front_instance_declaration-returns-in-None-front_component_import-clause-none
front_instance_declaration-returns-in-None-front_component_import-clause-none t c = at_here (at_byte c.in-Some.ensures.some c.in-4.is) (at_choice instance_declaration 4 _ _ refl (at_none (none_lead refl c.in-None-front_component_import.ensures.none), tt))

pub front_instance_declaration-returns-in_default-first-clause-none : goal.front_instance_declaration-returns-in_default-first-clause-none
front_instance_declaration-returns-in_default-first-clause-none t c =
    let other : contains (first_bytes instance_declaration) c.in-Some.first ≡ false = grind (arith, nat_tests) in
    at_none (none_here c.in-Some.ensures.some (none_by_front refl other))

pub front_component_declaration-returns-in_default-clause-none : goal.front_component_declaration-returns-in_default-clause-none
front_component_declaration-returns-in_default-clause-none t c = at_none (none_here c.in_default.ensures.none (none_at_end refl))

pub front_component_declaration-returns-in-Ok-Some-clause-some : goal.front_component_declaration-returns-in-Ok-Some-clause-some
front_component_declaration-returns-in-Ok-Some-clause-some t c = behind_at {k = 0} component_declaration refl (at_byte c.in-Some.ensures.some c.in-0.is) (rw c.in-Ok-Some.field-0-is at c.in-Ok-Some.ensures.some)

pub front_component_declaration-returns-in-Ok-None-clause-none : goal.front_component_declaration-returns-in-Ok-None-clause-none
front_component_declaration-returns-in-Ok-None-clause-none t c = at_here (at_byte c.in-Some.ensures.some c.in-0.is) (at_choice component_declaration 0 _ _ refl (at_lead refl (rw c.in-Ok-None.field-0-is at c.in-Ok-None.ensures.none), tt))

pub front_component_declaration-returns-in-Ok-Some-front_component_type-clause-some : goal.front_component_declaration-returns-in-Ok-Some-front_component_type-clause-some
front_component_declaration-returns-in-Ok-Some-front_component_type-clause-some t c = behind_at {k = 1} component_declaration refl (at_byte c.in-Some.ensures.some c.in-1.is) (rw c.in-Ok-Some-front_component_type.field-0-is at c.in-Ok-Some-front_component_type.ensures.some)

pub front_component_declaration-returns-in-Ok-None-front_component_type-clause-none : goal.front_component_declaration-returns-in-Ok-None-front_component_type-clause-none
front_component_declaration-returns-in-Ok-None-front_component_type-clause-none t c = at_here (at_byte c.in-Some.ensures.some c.in-1.is) (at_choice component_declaration 1 _ _ refl (at_lead refl (rw c.in-Ok-None-front_component_type.field-0-is at c.in-Ok-None-front_component_type.ensures.none), tt))

pub front_component_declaration-returns-in-Some-front_alias-clause-some : goal.front_component_declaration-returns-in-Some-front_alias-clause-some
front_component_declaration-returns-in-Some-front_alias-clause-some t c = flat_row component_declaration 2 refl refl c.requires refl (begins_seq (begins_byte (at_byte c.in-Some.ensures.some c.in-2.is)) c.in-Some-front_alias.ensures.some)

pub front_component_declaration-returns-in-None-clause-none : goal.front_component_declaration-returns-in-None-clause-none
front_component_declaration-returns-in-None-clause-none t c = at_here (at_byte c.in-Some.ensures.some c.in-2.is) (at_choice component_declaration 2 _ _ refl (at_none (none_lead refl c.in-None.ensures.none), tt))

pub front_component_declaration-returns-in-Some-front_component_import-clause-some : goal.front_component_declaration-returns-in-Some-front_component_import-clause-some
front_component_declaration-returns-in-Some-front_component_import-clause-some t c = flat_row component_declaration 3 refl refl c.requires refl (begins_seq (begins_byte (at_byte c.in-Some.ensures.some c.in-3.is)) c.in-Some-front_component_import.ensures.some)

pub front_component_declaration-returns-in-None-front_component_import-clause-none : goal.front_component_declaration-returns-in-None-front_component_import-clause-none
front_component_declaration-returns-in-None-front_component_import-clause-none t c = at_here (at_byte c.in-Some.ensures.some c.in-3.is) (at_choice component_declaration 3 _ _ refl (at_none (none_lead refl c.in-None-front_component_import.ensures.none), tt))

pub front_component_declaration-returns-in-Some-front_component_import-2-clause-some : goal.front_component_declaration-returns-in-Some-front_component_import-2-clause-some
front_component_declaration-returns-in-Some-front_component_import-2-clause-some t c = flat_row component_declaration 4 refl refl c.requires refl (begins_seq (begins_byte (at_byte c.in-Some.ensures.some c.in-4.is)) c.in-Some-front_component_import-2.ensures.some)

pub front_component_declaration-returns-in-None-front_component_import-2-clause-none : goal.front_component_declaration-returns-in-None-front_component_import-2-clause-none
front_component_declaration-returns-in-None-front_component_import-2-clause-none t c = at_here (at_byte c.in-Some.ensures.some c.in-4.is) (at_choice component_declaration 4 _ _ refl (at_none (none_lead refl c.in-None-front_component_import-2.ensures.none), tt))

pub front_component_declaration-returns-in_default-first-clause-none : goal.front_component_declaration-returns-in_default-first-clause-none
front_component_declaration-returns-in_default-first-clause-none t c =
    let other : contains (first_bytes component_declaration) c.in-Some.first ≡ false = grind (arith, nat_tests) in
    at_none (none_here c.in-Some.ensures.some (none_by_front refl other))

pub behind_declaration-returns-in-Ok-Some-clause-some : goal.behind_declaration-returns-in-Ok-Some-clause-some
behind_declaration-returns-in-Ok-Some-clause-some t c =
    let row = (rw c.in-Ok-Some.field-0-is at c.in-Ok-Some.ensures.some) in
    rw c.in-Component.is (row.tree, row.begins)

pub behind_declaration-returns-in-Ok-None-clause-none : goal.behind_declaration-returns-in-Ok-None-clause-none
behind_declaration-returns-in-Ok-None-clause-none t c = rw c.in-Component.is (rw c.in-Ok-None.field-0-is at c.in-Ok-None.ensures.none)

pub behind_declaration-returns-in-Ok-Some-front_instance_declaration-clause-some : goal.behind_declaration-returns-in-Ok-Some-front_instance_declaration-clause-some
behind_declaration-returns-in-Ok-Some-front_instance_declaration-clause-some t c =
    let row = (rw c.in-Ok-Some-front_instance_declaration.field-0-is at c.in-Ok-Some-front_instance_declaration.ensures.some) in
    rw c.in-Instance.is (row.tree, row.begins)

pub behind_declaration-returns-in-Ok-None-front_instance_declaration-clause-none : goal.behind_declaration-returns-in-Ok-None-front_instance_declaration-clause-none
behind_declaration-returns-in-Ok-None-front_instance_declaration-clause-none t c = rw c.in-Instance.is (rw c.in-Ok-None-front_instance_declaration.field-0-is at c.in-Ok-None-front_instance_declaration.ensures.none)

pub behind_scope-returns-then-depth-ge-DEPTH-clause-none : goal.behind_scope-returns-then-depth-ge-DEPTH-clause-none
behind_scope-returns-then-depth-ge-DEPTH-clause-none t c = at_full c.if-depth-ge-DEPTH.true

pub behind_scope-returns-in_default-clause-none : goal.behind_scope-returns-in_default-clause-none
behind_scope-returns-in_default-clause-none t c = scope_uncounted c.in_default.ensures.none

pub behind_scope-rows-init : goal.behind_scope-rows-init
behind_scope-rows-init t c = ([], so_far_none (declaration_of c.args.scope) (c.args.depth + 1) _ _ (omega arith))

pub behind_scope-rows-preserved : goal.behind_scope-rows-preserved
behind_scope-rows-preserved t c =
    let so_far = c.rows.invariant in
    let row = rw c.in-Ok-Some.field-0-is at c.in-Ok-Some.ensures.some in
    let more : c.rows.left ≡ suc (c.rows.left - 1) = omega arith in
    (so_far.0 ++ row.0 ∷ [], so_far_more so_far.0 (declarations_sound c.args.scope) (declarations_closed c.args.scope) more row.1 so_far.1)

pub behind_scope-returns-in-Ok-None-clause-none : goal.behind_scope-returns-in-Ok-None-clause-none
behind_scope-returns-in-Ok-None-clause-none t c =
    let more : c.rows.left ≡ suc (c.rows.left - 1) = omega arith in
    scope_stuck c.in-Some.ensures.some more c.rows.invariant.1 (rw c.in-Ok-None.field-0-is at c.in-Ok-None.ensures.none)

pub behind_scope-returns-clause-some : goal.behind_scope-returns-clause-some
behind_scope-returns-clause-some t c =
    let ended : c.rows.left ≡ 0 = omega arith in
    let so_far = c.rows.invariant in
    (rows_then so_far.0 Tree.nil, scope_read c.in-Some.ensures.some ended so_far.1)
