use Rattle.std.proofs.Common.{List, ℕ, ap, sym, subst, ◌∙◌}
use Rattle.wasm_shapes.specs.Tree.{normal}
use Rattle.wasm_shapes.specs.Types.{rows_tree}
use Rattle.wasm_write.specs.Bodies.{CodeRows}
use Rattle.wasm_write.specs.Names.{SubsectionsSpell}
use Rattle.wasm_write.proofs.HeldSubsections.{subsections_normal, subsections_spell}
use Rattle.wasm_write.proofs.subsections.Subsections.as_slice.Goals as goal

pub returns-clause-value : goal.returns-clause-value
returns-clause-value g c =
    let bytes : CodeRows → List ℕ = λ z. normal (rows_tree z.rows) in
    c.deref.ensures.value ∙ sym (subsections_normal c.self.inside.held) ∙ ap bytes c.self.view_is

pub returns-clause-spells : goal.returns-clause-spells
returns-clause-spells g c =
    let P : CodeRows → Type 0 = λ z. SubsectionsSpell g.K.SubsectionKind.shape z.rows in
    subst P c.self.view_is (subsections_spell c.self.inside.held)
