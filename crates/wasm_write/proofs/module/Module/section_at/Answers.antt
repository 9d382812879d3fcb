use Rattle.std.proofs.Common.{◌<◌, Some, length, get_or, ap, ap₂, sym, ◌∙◌, arith}
use Rattle.wasm_write.specs.Sections.{section_row}
use Rattle.wasm_write.proofs.FramesFound.{section_found, section_there, sections_counted}
use Rattle.wasm_write.proofs.module.Module.section_at.Goals as goal

pub bounds-head-0 : goal.bounds-head-0
bounds-head-0 c =
    let e = c.sections_as_slice.ensures in
    let rows = c.args.self.now.sections in
    let there = section_there rows c.args.i c.in-Some.head.now c.in-Some.body.now (section_found rows c.args.i e.value e.held c.in-Some.ensures) in
    let long : 0 < length c.in-Some.head.now = omega (arith, ap length there.2) in
    omega (arith, long)

pub returns-in-Some-clause-some : goal.returns-in-Some-clause-some
returns-in-Some-clause-some c =
    let e = c.sections_as_slice.ensures in
    let rows = c.args.self.now.sections in
    let there = section_there rows c.args.i c.in-Some.head.now c.in-Some.body.now (section_found rows c.args.i e.value e.held c.in-Some.ensures) in
    there.1 ∙ ap₂ (λ a b. Some (section_row a b)) (sym (ap (λ z. get_or z 0 0) there.2)) (sym there.3)

pub returns-in-None-clause-none : goal.returns-in-None-clause-none
returns-in-None-clause-none c =
    let e = c.sections_as_slice.ensures in
    let rows = c.args.self.now.sections in
    omega (arith, section_found rows c.args.i e.value e.held c.in-None.ensures, sections_counted rows)
