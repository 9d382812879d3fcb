use Rattle.module_spaces.proofs.Importing.{both_counted}
use Rattle.module_spaces.proofs.imports.ImportCounts.plus.Goals as goal

pub returns : goal.returns
returns c = both_counted c.args.self c.args.more _ c.saturating_add.ensures c.saturating_add-2.ensures c.saturating_add-3.ensures c.saturating_add-4.ensures c.saturating_add-5.ensures
