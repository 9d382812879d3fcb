use Rattle.std.proofs.Common.{sym, ◌∙◌}
use Rattle.wasm_write.specs.Types.{composite_tree}
use Rattle.wasm_write.proofs.Subtypes.{marked_normal, alone_large}
use Rattle.wasm_write.proofs.groups.write_sub_type.Goals as goal

pub returns-then-is_empty-clause-large : goal.returns-then-is_empty-clause-large
returns-then-is_empty-clause-large c =
    let ty = c.args.ty.now in
    let none = sym c.is_empty.ensures ∙ c.if-is_empty.true in
    alone_large c.write_composite.result ty.is_final ty.supertype_idxs (composite_tree ty.composite_type) c.if-not-ty.false none c.write_composite.ensures.large

pub returns-else-is_empty-clause-ok : goal.returns-else-is_empty-clause-ok
returns-else-is_empty-clause-ok c =
    let ty = c.args.ty.now in
    let some = sym c.is_empty.ensures ∙ c.if-is_empty.false in
    rw (← marked_normal ty.is_final ty.supertype_idxs (composite_tree ty.composite_type) c.if-not-ty.false some) c.write_subtype-else-is_empty.ensures.ok
