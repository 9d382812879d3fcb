use Rattle.std.proofs.Common.{refl, sym, ◌∙◌}
use Rattle.wasm_shapes.specs.Types.{expression_of}
use Rattle.wasm_write.specs.Counts.{counts}
use Rattle.wasm_write.proofs.InitRows.{expression_in_range}
use Rattle.wasm_write.proofs.ElementRows.{active_ok, large_behind, left_funcref, left_other}
use Rattle.wasm_write.proofs.elements.ActiveRowOfKindsElements.write.Goals as goal

pub returns-in-Ok-write_left-clause-spells : goal.returns-in-Ok-write_left-clause-spells
returns-in-Ok-write_left-clause-spells c =
    let row = c.args.self.now in
    let offset = expression_in_range row.offset.now c.len.ensures.spells in
    active_ok c.write_vec-in-Ok-write_left.result row.table row.offset.now row.elements.now c.len.ensures.spells c.have_spellings.ensures c.write_vec-in-Ok-write_left.ensures.in_range
    (λ r. rw (c.in-Expressions.is, c.in-None-table.is, (left_funcref row.offset.now c.in-Expressions.ty c.in-Expressions.expressions (sym c.is_funcref.ensures ∙ c.if-is_funcref.true)), ← c.as_slice-in-Ok-write_left.ensures) (offset, r))

pub returns-in-Ok-write_left-clause-large : goal.returns-in-Ok-write_left-clause-large
returns-in-Ok-write_left-clause-large c =
    large_behind c.write_vec-in-Ok-write_left.result (counts (expression_of c.args.self.now.offset.now)) _ _ (rw (c.in-Expressions.is, c.in-None-table.is, (left_funcref c.args.self.now.offset.now c.in-Expressions.ty c.in-Expressions.expressions (sym c.is_funcref.ensures ∙ c.if-is_funcref.true)), ← c.as_slice-in-Ok-write_left.ensures) refl) c.write_vec-in-Ok-write_left.ensures.large

pub returns-in-Ok-clause-spells : goal.returns-in-Ok-clause-spells
returns-in-Ok-clause-spells c =
    let row = c.args.self.now in
    let offset = expression_in_range row.offset.now c.len.ensures.spells in
    active_ok c.write_vec.result row.table row.offset.now row.elements.now c.len.ensures.spells c.have_spellings.ensures c.write_vec.ensures.in_range
    (λ r. rw (c.in-Functions.is, c.in-None.is, ← c.as_slice.ensures) (offset, r))

pub returns-in-Ok-clause-large : goal.returns-in-Ok-clause-large
returns-in-Ok-clause-large c =
    large_behind c.write_vec.result (counts (expression_of c.args.self.now.offset.now)) _ _ (rw (c.in-Functions.is, c.in-None.is, ← c.as_slice.ensures) refl) c.write_vec.ensures.large

pub returns-in-Ok-write_aimed-clause-spells : goal.returns-in-Ok-write_aimed-clause-spells
returns-in-Ok-write_aimed-clause-spells c =
    let row = c.args.self.now in
    let offset = expression_in_range row.offset.now c.len.ensures.spells in
    active_ok c.write_kinded.result row.table row.offset.now row.elements.now c.len.ensures.spells c.have_spellings.ensures c.write_kinded.ensures.in_range
    (λ r. rw (c.in-Functions.is, c.in-Some.is, ← c.as_slice-in-Ok-write_aimed.ensures) (c.in-Ok-write_aimed.ensures.fits, offset, r))

pub returns-in-Ok-write_aimed-clause-large : goal.returns-in-Ok-write_aimed-clause-large
returns-in-Ok-write_aimed-clause-large c =
    large_behind c.write_kinded.result (counts (expression_of c.args.self.now.offset.now)) _ _ (rw (c.in-Functions.is, c.in-Some.is, ← c.as_slice-in-Ok-write_aimed.ensures) refl) c.write_kinded.ensures.large

pub returns-in-Ok-write_aimed-2-clause-spells : goal.returns-in-Ok-write_aimed-2-clause-spells
returns-in-Ok-write_aimed-2-clause-spells c =
    let row = c.args.self.now in
    let offset = expression_in_range row.offset.now c.len.ensures.spells in
    active_ok c.write_typed.result row.table row.offset.now row.elements.now c.len.ensures.spells c.have_spellings.ensures c.write_typed.ensures.in_range
    (λ r. rw (c.in-Expressions.is, c.in-None-table.is, (left_other row.offset.now c.in-Expressions.ty c.in-Expressions.expressions (sym c.is_funcref.ensures ∙ c.if-is_funcref.false)), ← c.as_slice-in-Ok-write_aimed-2.ensures) (c.in-Ok-write_aimed-2.ensures.fits, offset, r))

pub returns-in-Ok-write_aimed-2-clause-large : goal.returns-in-Ok-write_aimed-2-clause-large
returns-in-Ok-write_aimed-2-clause-large c =
    large_behind c.write_typed.result (counts (expression_of c.args.self.now.offset.now)) _ _ (rw (c.in-Expressions.is, c.in-None-table.is, (left_other c.args.self.now.offset.now c.in-Expressions.ty c.in-Expressions.expressions (sym c.is_funcref.ensures ∙ c.if-is_funcref.false)), ← c.as_slice-in-Ok-write_aimed-2.ensures) refl) c.write_typed.ensures.large

pub returns-in-Ok-write_aimed-3-clause-spells : goal.returns-in-Ok-write_aimed-3-clause-spells
returns-in-Ok-write_aimed-3-clause-spells c =
    let row = c.args.self.now in
    let offset = expression_in_range row.offset.now c.len.ensures.spells in
    active_ok c.write_typed-in-Ok-write_aimed-3.result row.table row.offset.now row.elements.now c.len.ensures.spells c.have_spellings.ensures c.write_typed-in-Ok-write_aimed-3.ensures.in_range
    (λ r. rw (c.in-Expressions.is, c.in-Some-table.is, ← c.as_slice-in-Ok-write_aimed-3.ensures) (c.in-Ok-write_aimed-3.ensures.fits, offset, r))

pub returns-in-Ok-write_aimed-3-clause-large : goal.returns-in-Ok-write_aimed-3-clause-large
returns-in-Ok-write_aimed-3-clause-large c =
    large_behind c.write_typed-in-Ok-write_aimed-3.result (counts (expression_of c.args.self.now.offset.now)) _ _ (rw (c.in-Expressions.is, c.in-Some-table.is, ← c.as_slice-in-Ok-write_aimed-3.ensures) refl) c.write_typed-in-Ok-write_aimed-3.ensures.large
