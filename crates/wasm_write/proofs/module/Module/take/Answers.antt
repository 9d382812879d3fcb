use Rattle.std.proofs.Common.{◌<◌, ◌^◌, length, ap, arith, length-append}
use Rattle.wasm_shapes.specs.Tree.{normal}
use Rattle.wasm_shapes.specs.Types.{vector_tree}
use Rattle.wasm_write.specs.Sections.{section_bytes, section_row}
use Rattle.wasm_write.proofs.HoldingSections.{IsWritable, sections_few, sections_grown, module_same, module_grown, fit_same, fit_grown}
use Rattle.wasm_write.proofs.module.Module.take.Goals as goal

pub overflow_add-self : goal.overflow_add-self
overflow_add-self g c = omega (arith, sections_few c.self.inside.held, c.in-Ok.ensures.short, ap length c.in-Ok.ensures.ok, length-append c.self.inside.bytes (section_bytes (section_row g.K.SectionKind.ID (normal (vector_tree c.args.section)))))

pub invariant_of-self-inside : goal.invariant_of-self-inside
invariant_of-self-inside g c =
    let body = normal (vector_tree c.args.section) in
    let short : length body < 2 ^ 32 = omega (arith, c.in-Ok.ensures.fits) in
    let w : IsWritable (section_row g.K.SectionKind.ID body) = record { byte = omega (arith, g.K.SectionKind.small); short = short } in
    (sections_grown c.self.inside.held _ c.in-Ok.ensures.ok w, tt)

pub invariant_of-self : goal.invariant_of-self
invariant_of-self g c =
    let body = normal (vector_tree c.args.section) in
    let short : length body < 2 ^ 32 = omega (arith, c.in-Ok.ensures.fits) in
    let w : IsWritable (section_row g.K.SectionKind.ID body) = record { byte = omega (arith, g.K.SectionKind.small); short = short } in
    fit_grown c.self.inside.held (section_row g.K.SectionKind.ID body) _ c.in-Ok.ensures.ok w c.in-Ok.ensures.fits c.self.invariant

pub invariant_of-self-in-Err : goal.invariant_of-self-in-Err
invariant_of-self-in-Err g c = fit_same c.self.inside.held _ c.in-Err.ensures.err c.self.invariant

pub returns-in-Ok-clause-ok : goal.returns-in-Ok-clause-ok
returns-in-Ok-clause-ok g c =
    let body = normal (vector_tree c.args.section) in
    let short : length body < 2 ^ 32 = omega (arith, c.in-Ok.ensures.fits) in
    let w : IsWritable (section_row g.K.SectionKind.ID body) = record { byte = omega (arith, g.K.SectionKind.small); short = short } in
    module_grown c.self.inside.held c.self.inside.ceiling (section_row g.K.SectionKind.ID body) _ c.in-Ok.ensures.ok w c.self.view_is

pub returns-in-Err-clause-err : goal.returns-in-Err-clause-err
returns-in-Err-clause-err g c =
    module_same c.self.inside.held c.self.inside.ceiling _ c.in-Err.ensures.err c.self.view_is
