use Rattle.std.proofs.Common.{ℕ, List, ap, ◌∙◌}
use Rattle.reencode_core.specs.Pieces.{Grown}
use Rattle.reencode_core.proofs.kept_pieces.SectionsHeld.{module_are}
use Rattle.reencode_core.proofs.pieces.module.ModulePieces.into_kept.Goals as goal

pub returns : goal.returns
returns c =
    let p = c.self.inside.pieces in
    rw (← c.self.view_is) (c.of.ensures ∙ ap (λ (z : List ℕ). record p { bytes = z }) (module_are c.self.inside.held))
