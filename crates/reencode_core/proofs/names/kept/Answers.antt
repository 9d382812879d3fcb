use Rattle.std.proofs.Common.{rules}
use Rattle.reencode_core.proofs.names_mapped.MapLoops.{keeps_names}
use Rattle.reencode_core.proofs.names.kept.Goals as goal

pub returns : goal.returns
returns g c = keeps_names _ (λ f i r f' k. search rules) _ _ _ _ c.map_names.ensures
