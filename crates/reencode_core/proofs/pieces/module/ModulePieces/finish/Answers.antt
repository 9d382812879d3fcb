use Rattle.std.proofs.Common.{length, ap, sym, ◌∙◌}
use Rattle.reencode_core.proofs.kept_pieces.SectionsHeld.{module_are}
use Rattle.reencode_core.proofs.pieces.module.ModulePieces.finish.Goals as goal

pub returns-in-Ok : goal.returns-in-Ok
returns-in-Ok c =
    let g = c.in-Ok.ensures in
    rw (← c.self.view_is) (record {
      joins = g.joins ∙ module_are c.self.inside.held;
      ranges = g.ranges;
      within = g.within;
      alternate = g.alternate;
      size = g.size ∙ ap length (sym g.joins);
    })
