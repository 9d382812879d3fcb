use Rattle.std.proofs.Common.{List, ap}
use Rattle.wasm_write.specs.Sections.{SectionRow, Sections}
use Rattle.wasm_write.proofs.HoldingSections.{sections_none, sections_none_is, sections_none_fit}
use Rattle.wasm_write.proofs.module.Module.behind_room.Goals as goal

pub invariant_of-result : goal.invariant_of-result
invariant_of-result c = (sections_none c.in-Ok.ensures, tt)

pub invariant_of-result-in-Ok : goal.invariant_of-result-in-Ok
invariant_of-result-in-Ok c = sections_none_fit c.args.ceiling _ c.in-Ok.ensures

pub returns-in-Ok : goal.returns-in-Ok
returns-in-Ok c =
    let made : List SectionRow → Sections = λ z. record { ceiling = c.args.ceiling; sections = z } in
    ap made (sections_none_is _ c.in-Ok.ensures)
