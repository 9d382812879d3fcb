use Rattle.std.proofs.Common.{refl}
use Rattle.wasm_shapes.specs.Module.{import_row}
use Rattle.wasm_shapes.specs.declared.SectionId.TheVariants as id
use Rattle.wasm_shapes.specs.declared.Space.TheVariants as space
use Rattle.module_spaces.specs.Spaces.{import_adds}
use Rattle.module_spaces.proofs.Importing.{none_counted}
use Rattle.module_spaces.proofs.RowSums.{rows_begin, rows_more, rows_ended, rows_stuck, why_none}
use Rattle.module_spaces.proofs.imports.imports_in.Goals as goal

pub rows-init : goal.rows-init
rows-init c = λ s. rows_begin (none_counted c.none-sum.ensures s) c.in-Ok.ensures.ok

pub rows-preserved : goal.rows-preserved
rows-preserved c = λ s. rw (c.plus-sum.ensures s) (rows_more refl refl (c.rows.invariant s) (rw c.in-Ok-Some.field-0-is at c.in-Ok-Some.ensures.row) (c.of_row.ensures s))

pub returns-in-Ok-None-clause-some : goal.returns-in-Ok-None-clause-some
returns-in-Ok-None-clause-some c = λ s. rows_ended id.Import import_row refl (import_adds s) (c.rows.invariant s) (rw c.in-Ok-None.field-0-is at c.in-Ok-None.ensures.ended)

pub returns-in-Err-clause-none : goal.returns-in-Err-clause-none
returns-in-Err-clause-none c = rows_stuck id.Import import_row refl (c.rows.invariant space.Function) (why_none c.in-Err.field-0 _ c.in-Err.ensures.err)
