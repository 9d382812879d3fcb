use Rattle.std.proofs.Common.{drop, ap, ◌∙◌, arith}
use Rattle.wasm_write.proofs.HoldingSections.{sections_are, sections_few, sections_held}
use Rattle.wasm_write.proofs.module.Module.sections_as_slice.Goals as goal

pub behind-requires : goal.behind-requires
behind-requires c = rw c.as_slice.ensures (omega (arith, sections_few c.self.inside.held))

pub returns-clause-value : goal.returns-clause-value
returns-clause-value c = rw (← c.self.view_is) (c.behind.ensures ∙ ap (drop 8) (c.as_slice.ensures ∙ sections_are c.self.inside.held))

pub returns-clause-held : goal.returns-clause-held
returns-clause-held c = rw (← c.self.view_is) (sections_held c.self.inside.held)
