use Rattle.std.proofs.Common.{◌≡◌, ℕ, List, false, sym, ap, ◌∙◌}
use Rattle.wasm_strip.specs.Choices.{is_stale}
use Rattle.wasm_reencode.proofs.StaleNames.{one_name}
use Rattle.wasm_reencode.proofs.stale.stale_name.Goals as goal

pub returns-else-is_stale-clause-none : goal.returns-else-is_stale-clause-none
returns-else-is_stale-clause-none c = λ name has. ap is_stale (one_name c.args.section.now name c.in-Some.name.now has c.in-Some.ensures.some) ∙ sym c.if-is_stale.ensures

pub returns-in-None-clause-none : goal.returns-in-None-clause-none
returns-in-None-clause-none c = λ name has. absurd (c.in-None.ensures.none name has)
