use Rattle.std.proofs.Common.{Ok, Err}
use Rattle.reencode_component.proofs.whole_binaries.WithinLaws.{component_made}
use Rattle.reencode_component.proofs.within.reencode_component.Goals as goal

pub returns-in-Ok-parse_component : goal.returns-in-Ok-parse_component
returns-in-Ok-parse_component g c =
    component_made g.R.ReencodeIndices c.args.ceiling c.args.bytes.now _ _ _ _ (Ok _) (λ v. v.items) c.in-Ok.ensures c.in-Ok-parse_component.ensures c.finish.ensures

pub returns-in-Err-parse_component : goal.returns-in-Err-parse_component
returns-in-Err-parse_component g c =
    component_made g.R.ReencodeIndices c.args.ceiling c.args.bytes.now _ _ _ _ (Err _) (λ v. v.items) c.in-Ok.ensures c.in-Err-parse_component.ensures tt
