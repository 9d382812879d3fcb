use Rattle.std.proofs.Common.{◌++◌, ℕ, List, sym, ap, ◌∙◌}
use Rattle.wasm_leb.specs.Leb.{leb}
use Rattle.wasm_write.proofs.Holding.{held_normal, held_spells}
use Rattle.wasm_write.proofs.names.Entries.as_parts.Goals as goal

pub returns-clause-value : goal.returns-clause-value
returns-clause-value g c =
    rw (← c.self.view_is) (ap (λ (z : List ℕ). leb c.self.inside.count ++ z) c.deref.ensures.value ∙ sym (held_normal c.self.inside.held))

pub returns-clause-spells : goal.returns-clause-spells
returns-clause-spells g c = rw (← c.self.view_is) (held_spells c.self.inside.held c.self.inside.small)
