use Rattle.std.proofs.Common.{refl}
use Rattle.wasm_shapes.specs.Module.{tree_of}
use Rattle.wasm_reach.proofs.Noted.{walked}
use Rattle.wasm_reach.proofs.Seen.{in_its_frame}
use Rattle.wasm_reach.proofs.notes.pass_rows.Goals as goal

pub returns-in-Ok-parse_section-clause-read : goal.returns-in-Ok-parse_section-clause-read
returns-in-Ok-parse_section-clause-read c = in_its_frame c.args.id (c.in-Ok-parse_section.ensures.default refl).readable

pub returns-in-Ok-parse_section-clause-noted : goal.returns-in-Ok-parse_section-clause-noted
returns-in-Ok-parse_section-clause-noted c t p =
    let q = (c.in-Ok-parse_section.ensures.default refl).reading (tree_of c.args.id t) (t, refl, p) in
    walked _ _ _ (tree_of c.args.id t) q.0 q.2
