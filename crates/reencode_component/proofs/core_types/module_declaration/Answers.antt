use Rattle.wasm_read.specs.Types as read_types
use Rattle.wasm_write.specs.Types as write_types
use Rattle.wasm_read_component.specs.declared.declarations.ModuleTypeDeclaration.TheVariants as decl
use Rattle.wasm_read_component.specs.TypeRows as read
use Rattle.wasm_write_component.specs.TypeRows as write
use Rattle.reencode_component.proofs.types_walked.TypeParts.{name_mapped, outer_ended}
use Rattle.reencode_component.proofs.rows_walked.PartsWalked.{hands_on, item_ended, led_ended, row_ended, second_ended}
use Rattle.reencode_component.proofs.core_types.module_declaration.Goals as goal

pub returns-in_err-ty-in-Export : goal.returns-in_err-ty-in-Export
returns-in_err-ty-in-Export g c =
    let i = g.T.ReencodeIndices in
    let name = c.in-Export.name in
    let ty = c.in-Export.ty in
    let gone = item_ended {i = i} (read_types.entity_tree ty) write_types.entity_tree c.in_err-ty-in-Export.ensures in
    rw c.in-Export.is (hands_on {i = i} (read.module_declaration_tree (decl.Export name ty)) write.module_declaration_tree _ (row_ended 3 (led_ended 0x03 (second_ended (name_mapped name.now) gone))) _ c.from_residual-in_err-ty-in-Export.ensures.1)

pub returns-in_err-index-in-OuterAlias : goal.returns-in_err-index-in-OuterAlias
returns-in_err-index-in-OuterAlias g c =
    let i = g.T.ReencodeIndices in
    let kind = c.in-OuterAlias.kind in
    let count = c.in-OuterAlias.count in
    let index = c.in-OuterAlias.index in
    let gone = outer_ended {i = i} count index c.in_err-index-in-OuterAlias.ensures.answer c.in_err-index-in-OuterAlias.ensures.sure in
    rw c.in-OuterAlias.is (hands_on {i = i} (read.module_declaration_tree (decl.OuterAlias kind count index)) write.module_declaration_tree _ (row_ended 2 (led_ended 0x02 (led_ended 0x10 (led_ended 0x01 gone)))) _ c.from_residual-in_err-index-in-OuterAlias.ensures.1)

pub returns-in_err-ty-in-Import : goal.returns-in_err-ty-in-Import
returns-in_err-ty-in-Import g c =
    let i = g.T.ReencodeIndices in
    let row = c.in-Import.import in
    let gone = item_ended {i = i} (read_types.entity_tree row.ty) write_types.entity_tree c.in_err-ty-in-Import.ensures in
    rw c.in-Import.is (hands_on {i = i} (read.module_declaration_tree (decl.Import row)) write.module_declaration_tree _ (row_ended 0 (led_ended 0x00 (second_ended (name_mapped row.module.now) (second_ended (name_mapped row.name.now) gone)))) _ c.from_residual-in_err-ty-in-Import.ensures.1)
