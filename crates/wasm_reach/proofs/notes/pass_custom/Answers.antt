use Rattle.std.proofs.Common.{refl}
use Rattle.wasm_shapes.proofs.SectionLaws.{in_frames}
use Rattle.wasm_reach.proofs.Noted.{walked}
use Rattle.wasm_reach.proofs.Seen.{custom_in_its_frame}
use Rattle.wasm_reach.proofs.notes.pass_custom.Goals as goal

pub returns-in-Ok-parse_custom_section-clause-read : goal.returns-in-Ok-parse_custom_section-clause-read
returns-in-Ok-parse_custom_section-clause-read c =
    custom_in_its_frame c.args.section.name.now c.args.section.contents.now (c.in-Ok-parse_custom_section.ensures.default refl).readable

pub returns-in-Ok-parse_custom_section-clause-noted : goal.returns-in-Ok-parse_custom_section-clause-noted
returns-in-Ok-parse_custom_section-clause-noted c = λ t i.
    let q = (c.in-Ok-parse_custom_section.ensures.default refl).reading t (in_frames.of_custom c.args.section.name.now c.args.section.contents.now t i) in
    walked _ _ _ t q.0 q.2
