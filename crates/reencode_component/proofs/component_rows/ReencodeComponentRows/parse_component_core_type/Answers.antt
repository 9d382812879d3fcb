use Rattle.wasm_shapes.specs.Component.{module_declaration}
use Rattle.wasm_write_component.specs.declared.declarations.CoreType.TheVariants as core
use Rattle.wasm_write_component.specs.TypeRows.{core_type_tree, scope_tree}
use Rattle.reencode_component.proofs.types_walked.CoreGroups.{group_ended, group_mapped}
use Rattle.reencode_component.proofs.types_walked.TypesBehind.{scope_behind, scope_behind_ended}
use Rattle.std.proofs.Common.{refl}
use Rattle.reencode_component.proofs.component_rows.ReencodeComponentRows.parse_component_core_type.Goals as goal

pub returns-in_err-group-in-Rec : goal.returns-in_err-group-in-Rec
returns-in_err-group-in-Rec g c = rw c.in-Rec.is (group_ended g.Self.ReencodeIndices _ _ c.in-Rec.group _ c.in_err-group-in-Rec.ensures _ c.from_residual.ensures.1)

pub returns-in_ok-group-in-Rec : goal.returns-in_ok-group-in-Rec
returns-in_ok-group-in-Rec g c = rw c.in-Rec.is (group_mapped g.Self.ReencodeIndices _ _ c.in-Rec.group c.in_ok-group-in-Rec.group c.in_ok-group-in-Rec.ensures)

pub returns-in_err-declarations-in-Module : goal.returns-in_err-declarations-in-Module
returns-in_err-declarations-in-Module g c =
    rw c.in-Module.is (scope_behind_ended g.Self.ReencodeIndices module_declaration c.in-Module.declarations 0 0x50 _ _ (λ t. t) scope_tree core_type_tree _ c.in_err-declarations-in-Module.ensures _ c.from_residual-in_err-declarations-in-Module.ensures.1)

pub returns-in_ok-declarations-in-Module : goal.returns-in_ok-declarations-in-Module
returns-in_ok-declarations-in-Module g c =
    rw c.in-Module.is (scope_behind g.Self.ReencodeIndices module_declaration c.in-Module.declarations 0 0x50 _ _ (λ t. t) scope_tree core_type_tree c.in_ok-declarations-in-Module.declarations (core.Module c.in_ok-declarations-in-Module.declarations) refl c.in_ok-declarations-in-Module.ensures)
