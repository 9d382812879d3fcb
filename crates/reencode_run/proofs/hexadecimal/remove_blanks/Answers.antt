use Rattle.std.proofs.Common.{not, rules}
use Rattle.std.proofs.lemmas.List.Elements.{filter_from_retain}
use Rattle.reencode_run.specs.Hexadecimal.{is_blank}
use Rattle.reencode_run.proofs.hexadecimal.remove_blanks.Goals as goal

pub returns : goal.returns
returns c = filter_from_retain _ (λ byte. not (is_blank byte)) (λ p x b q h. search rules) _ _ _ c.retain.ensures.filtered
