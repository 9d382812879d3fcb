use Rattle.std.proofs.Common.{◌≡◌, ◌++◌, ◌<◌, ◌^◌, length, ap, arith, length-append}
use Rattle.wasm_write.specs.Sections.{section_bytes, section_row, sections_bytes}
use Rattle.wasm_write.proofs.HoldingSections.{IsWritable, sections_few, sections_grown, module_same, module_grown, fit_same, fit_grown, headed_anew}
use Rattle.wasm_write.proofs.module.Module.take_sections.Goals as goal

pub put_first-requires : goal.put_first-requires
put_first-requires c = omega (arith, sections_few c.nested.inside.held, c.told-header)

pub overflow_add-self : goal.overflow_add-self
overflow_add-self c = omega (arith, sections_few c.self.inside.held, c.in-Ok.ensures.short, ap length c.in-Ok.ensures.ok, length-append c.self.inside.bytes (section_bytes (section_row c.args.id c.put_first.new.self)))

pub invariant_of-self-inside : goal.invariant_of-self-inside
invariant_of-self-inside c =
    let body = c.put_first.new.self in
    let short : length body < 2 ^ 32 = omega (arith, c.in-Ok.ensures.fits) in
    let w : IsWritable (section_row c.args.id body) = record { byte = omega (arith, c.requires); short = short } in
    (sections_grown c.self.inside.held _ c.in-Ok.ensures.ok w, tt)

pub invariant_of-self : goal.invariant_of-self
invariant_of-self c =
    let body = c.put_first.new.self in
    let short : length body < 2 ^ 32 = omega (arith, c.in-Ok.ensures.fits) in
    let w : IsWritable (section_row c.args.id body) = record { byte = omega (arith, c.requires); short = short } in
    fit_grown c.self.inside.held (section_row c.args.id body) _ c.in-Ok.ensures.ok w c.in-Ok.ensures.fits c.self.invariant

pub invariant_of-self-in-Err : goal.invariant_of-self-in-Err
invariant_of-self-in-Err c = fit_same c.self.inside.held _ c.in-Err.ensures.err c.self.invariant

pub returns-in-Ok-clause-ok : goal.returns-in-Ok-clause-ok
returns-in-Ok-clause-ok c =
    let body = c.put_first.new.self in
    let made : body ≡ c.args.header.now ++ sections_bytes c.args.nested.sections = rw (← c.nested.view_is) (headed_anew c.nested.inside.held c.args.header.now c.told-header c.put_first.ensures) in
    let short : length body < 2 ^ 32 = omega (arith, c.in-Ok.ensures.fits) in
    let w : IsWritable (section_row c.args.id body) = record { byte = omega (arith, c.requires); short = short } in
    rw (← made) (module_grown c.self.inside.held c.self.inside.ceiling (section_row c.args.id body) _ c.in-Ok.ensures.ok w c.self.view_is)

pub returns-in-Ok-clause-fits : goal.returns-in-Ok-clause-fits
returns-in-Ok-clause-fits c =
    let made : c.put_first.new.self ≡ c.args.header.now ++ sections_bytes c.args.nested.sections = rw (← c.nested.view_is) (headed_anew c.nested.inside.held c.args.header.now c.told-header c.put_first.ensures) in
    rw (← made, ← c.self.view_is) c.in-Ok.ensures.fits

pub returns-in-Err-clause-err : goal.returns-in-Err-clause-err
returns-in-Err-clause-err c = module_same c.self.inside.held c.self.inside.ceiling _ c.in-Err.ensures.err c.self.view_is

pub returns-in-Err-clause-large : goal.returns-in-Err-clause-large
returns-in-Err-clause-large c =
    let made : c.put_first.new.self ≡ c.args.header.now ++ sections_bytes c.args.nested.sections = rw (← c.nested.view_is) (headed_anew c.nested.inside.held c.args.header.now c.told-header c.put_first.ensures) in
    rw (← made, ← c.self.view_is) c.in-Err.ensures.large
