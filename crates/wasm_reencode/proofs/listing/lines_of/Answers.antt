use Rattle.wasm_reencode.proofs.Lines.{lines_last, lines_step}
use Rattle.wasm_reencode.proofs.listing.lines_of.Goals as goal

pub sections-preserved : goal.sections-preserved
sections-preserved c =
    let added = c.in_ok-add_line.ensures in
    lines_step c.args.sections.now c.sections.section-index _ c.sections-test.true c.sections.invariant added.2 added.1

pub returns : goal.returns
returns c = lines_last c.args.sections.now c.sections.section-index c.sections-test.false c.sections.invariant
