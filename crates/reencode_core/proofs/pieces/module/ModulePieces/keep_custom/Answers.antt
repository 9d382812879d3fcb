use Rattle.std.proofs.Common.{◌<◌, ◌^◌, ◌∷◌, ◌++◌, ℕ, List, length, ap, ◌∙◌, arith}
use Rattle.wasm_leb.specs.Leb.{leb}
use Rattle.wasm_shapes.specs.Tree.{normal}
use Rattle.wasm_write.specs.Sections.{SectionRow, section_row, with_section}
use Rattle.wasm_write.specs.Types.{custom_section_tree}
use Rattle.reencode_core.specs.Sinks.{ModuleGrown}
use Rattle.reencode_core.proofs.kept_pieces.SectionsHeld.{same_seen, section_held, section_seen, sized_as}
use Rattle.reencode_core.proofs.pieces.module.ModulePieces.keep_custom.Goals as goal

pub invariant_of-self-inside : goal.invariant_of-self-inside
invariant_of-self-inside c =
    let body : List ℕ = normal (custom_section_tree c.args.section) in
    let short : length body < 2 ^ 32 = omega (arith, c.in-Some.ensures, c.if-size-from.false, c.from.ensures) in (
      section_held c.self.inside.ceiling c.self.inside.pieces c.self.inside.held c.keep_framed.new.pieces c.keep_framed.result 0 body (omega arith) short
          (sized_as c.keep_framed.result 0 _ _ body _ c.in-Some.ensures c.keep_framed.ensures.bytes) c.keep_framed.ensures.err,
      tt,
    )

pub returns-in-Err-clause-err : goal.returns-in-Err-clause-err
returns-in-Err-clause-err c = same_seen c.self.inside.ceiling c.self.inside.pieces c.self.inside.held c.keep_framed.new.pieces _ c.in-Err.ensures.err ∙ c.self.view_is

pub returns-clause-ok : goal.returns-clause-ok
returns-clause-ok c =
    let body : List ℕ = normal (custom_section_tree c.args.section) in
    let short : length body < 2 ^ 32 = omega (arith, c.in-Some.ensures, c.if-size-from.false, c.from.ensures) in
    let bytes = c.in-Ok.ensures.bytes ∙ ap (λ (k : ℕ). c.self.inside.pieces.bytes ++ (0 ∷ (leb k ++ body))) c.in-Some.ensures in
    ap (λ (rows : List SectionRow). record { ceiling = c.self.inside.ceiling; sections = rows }) (section_seen c.self.inside.ceiling c.self.inside.pieces c.self.inside.held c.keep_framed.new.pieces _ 0 body (omega arith) short bytes)
    ∙ ap (λ (m : ModuleGrown). with_section m.sections (section_row 0 body)) c.self.view_is
