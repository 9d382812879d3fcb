use Rattle.std.proofs.Common.{refl}
use Rattle.wasm_shapes.specs.Shape.{Named, Shape}
use Rattle.wasm_shapes.specs.declared.SectionId.TheVariants as id
use Rattle.module_spaces.specs.Spaces.{group_types}
use Rattle.module_spaces.proofs.RowSums.{rows_more, rows_ended, rows_stuck, why_none}
use Rattle.module_spaces.proofs.Groups.{at_front}
use Rattle.module_spaces.proofs.types.types_in.Goals as goal

pub rows-preserved : goal.rows-preserved
rows-preserved c =
    let row = rw c.in-Ok-Some.field-0-is at c.in-Ok-Some.ensures.row in
    rw c.saturating_add-sum.ensures (rows_more refl refl c.rows.invariant row.1.1 (c.of_group.ensures row.1.0 c.next_group.new.self.rest (at_front row.0 row.1.1.begins)))

pub returns-in-Ok-None-clause-some : goal.returns-in-Ok-None-clause-some
returns-in-Ok-None-clause-some c = rows_ended id.Type_ (Shape.ref Named.group) refl group_types c.rows.invariant (rw c.in-Ok-None.field-0-is at c.in-Ok-None.ensures.ended)

pub returns-in-Err-clause-none : goal.returns-in-Err-clause-none
returns-in-Err-clause-none c = rows_stuck id.Type_ (Shape.ref Named.group) refl c.rows.invariant (why_none c.in-Err.field-0 _ c.in-Err.ensures.err)
