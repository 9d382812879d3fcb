use Rattle.std.proofs.Common.{ℕ, List, ◌++◌, ap, ◌∙◌, refl}
use Rattle.wasm_leb.specs.Leb.{leb}
use Rattle.wasm_shapes.specs.Module.{names_name}
use Rattle.wasm_write.proofs.Holding.{behind_number}
use Rattle.wasm_write.proofs.NameRows.{section_spells}
use Rattle.wasm_write.proofs.name_section.NameSectionSection.encode_body.Goals as goal

pub returns-in-Ok-write_bytes-clause-ok : goal.returns-in-Ok-write_bytes-clause-ok
returns-in-Ok-write_bytes-clause-ok c =
    let held = rw c.self.view_is at c.as_slice.ensures.value in
    behind_number c.args.out.now.items (leb 4 ++ names_name) _ c.in-Ok.ensures.ok (c.in-Ok-write_bytes.ensures.ok ∙ ap (λ (z : List ℕ). c.write_behind.new.out.items ++ z) held) refl

pub returns-in-Ok-write_bytes-clause-spells : goal.returns-in-Ok-write_bytes-clause-spells
returns-in-Ok-write_bytes-clause-spells c = section_spells c.args.self.now.rows (rw c.self.view_is at c.as_slice.ensures.spells)
