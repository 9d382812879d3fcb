use Rattle.std.proofs.Common.{◌∙◌}
use Rattle.reencode_core.proofs.kept_pieces.SectionsHeld.{module_are}
use Rattle.reencode_core.proofs.pieces.module.ModulePieces.into_output.Goals as goal

pub returns : goal.returns
returns c = rw (← c.self.view_is) (c.of.ensures ∙ module_are c.self.inside.held)
