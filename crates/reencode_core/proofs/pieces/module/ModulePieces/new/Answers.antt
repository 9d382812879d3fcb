use Rattle.std.proofs.Common.{List, ap, ap₂, ◌∙◌}
use Rattle.wasm_shapes.specs.Module.{core_header}
use Rattle.wasm_write.specs.Sections.{SectionRow}
use Rattle.reencode_core.specs.Pieces.{Grown, with_bytes}
use Rattle.reencode_core.specs.Sinks.{ModuleGrown}
use Rattle.reencode_core.proofs.kept_pieces.SectionsHeld.{module_none, module_none_is}
use Rattle.reencode_core.proofs.pieces.module.ModulePieces.new.Goals as goal

pub invariant_of-result : goal.invariant_of-result
invariant_of-result c =
    let grown = c.in-Ok.ensures.ok ∙ ap (λ (g : Grown). with_bytes g core_header) c.new-pieces.ensures in
    (module_none (ap Grown.bytes grown), tt)

pub returns-in-Ok : goal.returns-in-Ok
returns-in-Ok c =
    let grown = c.in-Ok.ensures.ok ∙ ap (λ (g : Grown). with_bytes g core_header) c.new-pieces.ensures in
    let made : Grown → List SectionRow → ModuleGrown = λ g z. record { input = g.input; sections = record { ceiling = c.args.ceiling; sections = z }; kept = g.kept } in
    ap₂ made grown (module_none_is _ (ap Grown.bytes grown))
