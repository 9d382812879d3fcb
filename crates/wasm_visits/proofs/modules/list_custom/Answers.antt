use Rattle.wasm_visits.proofs.ModulesListed.{of_custom, of_names}
use Rattle.wasm_visits.proofs.modules.list_custom.Goals as goal

pub returns-then-is_names : goal.returns-then-is_names
returns-then-is_names c =
    of_names c.args.end c.args.section.contents.now c.args.lister.now.visits c.list_names.new.lister.visits c.list_names.result c.args.section.name.now (c.is_names.ensures.0 c.if-is_names.true) c.list_names.ensures

pub returns-else-is_names : goal.returns-else-is_names
returns-else-is_names c =
    of_custom c.args.end c.args.section.name.now c.args.section.contents.now c.args.lister.now.visits (λ e. let is = c.is_names.ensures.1 e in absurd cc)
