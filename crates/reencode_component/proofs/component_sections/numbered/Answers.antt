use Rattle.std.proofs.Common.{arith}
use Rattle.reencode_component.proofs.sections_walked.EachSection.{raw_added, unknown_not_read}
use Rattle.reencode_component.proofs.component_sections.numbered.Goals as goal

pub returns-in_default : goal.returns-in_default
returns-in_default g c = unknown_not_read g.T.ReencodeIndices c.args.depth c.args.at _ _ c.args.id c.args.body.now (λ low high. omega arith)

pub returns-in-12-to-127 : goal.returns-in-12-to-127
returns-in-12-to-127 g c =
    let u = c.parse_unknown_component_section.ensures in
    raw_added g.T.ReencodeIndices c.args.depth c.requires.deep c.args.id c.args.body.now (omega arith) (omega arith) c.args.at _ u.kept u.default u.after_error u.usual

pub returns-in-2 : goal.returns-in-2
returns-in-2 g c = rw c.in-2.is c.flat_rows.ensures

pub returns-in-3 : goal.returns-in-3
returns-in-3 g c = rw c.in-3.is c.scoped_rows.ensures

pub returns-in-5 : goal.returns-in-5
returns-in-5 g c = rw c.in-5.is c.flat_rows-in-5.ensures

pub returns-in-6 : goal.returns-in-6
returns-in-6 g c = rw c.in-6.is c.flat_rows-in-6.ensures

pub returns-in-7 : goal.returns-in-7
returns-in-7 g c = rw c.in-7.is c.scoped_rows-in-7.ensures

pub returns-in-8 : goal.returns-in-8
returns-in-8 g c = rw c.in-8.is c.flat_rows-in-8.ensures

pub returns-in-9 : goal.returns-in-9
returns-in-9 g c = rw c.in-9.is c.start.ensures

pub returns-in-10 : goal.returns-in-10
returns-in-10 g c = rw c.in-10.is c.flat_rows-in-10.ensures

pub returns-in-11 : goal.returns-in-11
returns-in-11 g c = rw c.in-11.is c.flat_rows-in-11.ensures
