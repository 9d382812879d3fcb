use Rattle.std.proofs.Common.{◌≢◌, refl, arith}
use Rattle.wasm_shapes.proofs.Begins.{at_byte, none_at_end, none_here}
use Rattle.wasm_shapes.proofs.ComponentParts.{none_scope}
use Rattle.wasm_shapes.proofs.Depth.{at_full, at_none}
use Rattle.wasm_read_component.proofs.CoreTypeRows.{closed_reads, module_reads, no_closed, no_module, no_open, open_reads}
use Rattle.wasm_read_component.proofs.core_types.front_core_type.Goals as goal

pub returns-in_default-clause-none : goal.returns-in_default-clause-none
returns-in_default-clause-none c = at_none (none_here c.in_default.ensures.none (none_at_end refl))

pub returns-then-depth-ge-DEPTH-clause-none : goal.returns-then-depth-ge-DEPTH-clause-none
returns-then-depth-ge-DEPTH-clause-none c = no_module (at_byte c.in-Some.ensures.some c.in-80.is) (at_full c.if-depth-ge-DEPTH.true)

pub returns-in-Ok-Some-clause-some : goal.returns-in-Ok-Some-clause-some
returns-in-Ok-Some-clause-some c =
    let held = rw c.in-Ok-Some.field-0-is at c.in-Ok-Some.ensures.some in
    module_reads _ c.if-depth-ge-DEPTH.false (at_byte c.in-Some.ensures.some c.in-80.is) held.1 held.2

pub returns-in-Ok-None-clause-none : goal.returns-in-Ok-None-clause-none
returns-in-Ok-None-clause-none c =
    no_module (at_byte c.in-Some.ensures.some c.in-80.is) (at_none (none_scope (rw c.in-Ok-None.field-0-is at c.in-Ok-None.ensures.none)))

pub returns-in-Ok-Some-front_open_group-clause-some : goal.returns-in-Ok-Some-front_open_group-clause-some
returns-in-Ok-Some-front_open_group-clause-some c =
    let found = rw c.in-Ok-Some-front_open_group.field-0-is at c.in-Ok-Some-front_open_group.ensures.some in
    open_reads c.in-Ok-Some-front_open_group.group found.0 c.requires (at_byte c.in-Some.ensures.some c.in-0.is) found.1 found.2

pub returns-in-Ok-None-front_open_group-clause-none : goal.returns-in-Ok-None-front_open_group-clause-none
returns-in-Ok-None-front_open_group-clause-none c =
    no_open (at_byte c.in-Some.ensures.some c.in-0.is) (rw c.in-Ok-None-front_open_group.field-0-is at c.in-Ok-None-front_open_group.ensures.none)

pub returns-in-Ok-Some-front_group-clause-some : goal.returns-in-Ok-Some-front_group-clause-some
returns-in-Ok-Some-front_group-clause-some c =
    let other : c.in-Some.first ≢ 0x50 = λ e. omega arith in
    closed_reads c.in-Ok-Some-front_group.group c.requires c.in-Some.ensures.some other (rw c.in-Ok-Some-front_group.field-0-is at c.in-Ok-Some-front_group.ensures.some)

pub returns-in-Ok-None-front_group-clause-none : goal.returns-in-Ok-None-front_group-clause-none
returns-in-Ok-None-front_group-clause-none c =
    let no_scope : c.in-Some.first ≢ 0x50 = λ e. omega arith in
    let open_one : c.in-Some.first ≢ 0x00 = λ e. omega arith in
    no_closed c.in-Some.ensures.some no_scope open_one (rw c.in-Ok-None-front_group.field-0-is at c.in-Ok-None-front_group.ensures.none)

pub returns-in-Ok-Some-clause-beside : goal.returns-in-Ok-Some-clause-beside
returns-in-Ok-Some-clause-beside c =
    record { first = _; rest = _; is = c.in-Some.ensures.some; says_so = rw c.in-Ok-Some.field-0-is at c.in-Ok-Some.ensures.fresh }
