use Rattle.wasm_write_component.proofs.ComponentNameRows.{section_spells}
use Rattle.wasm_write_component.proofs.names.ComponentNameSectionSection.encode_body.Goals as goal

pub returns-in-Ok-extend_from_slice-clause-spells : goal.returns-in-Ok-extend_from_slice-clause-spells
returns-in-Ok-extend_from_slice-clause-spells c = section_spells c.args.self.now.rows (rw c.self.view_is at c.as_slice.ensures.spells)
