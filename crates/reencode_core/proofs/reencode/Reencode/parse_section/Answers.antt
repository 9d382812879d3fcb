use Rattle.std.proofs.Common.{refl}
use Rattle.reencode_core.proofs.bodies.EachBody.{code_clauses}
use Rattle.reencode_core.proofs.sections_walked.MappedSection.{body_missing, code_done, held, hook_item, item_done, item_refused, section_done}
use Rattle.reencode_core.proofs.reencode.Reencode.parse_section.Goals as goal

pub returns-in_err-content : goal.returns-in_err-content
returns-in_err-content g c = body_missing g.Self.ReencodeIndices _ c.in_err-content.ensures.err _ c.from_residual.ensures.1

pub returns-in-Types : goal.returns-in-Types
returns-in-Types g c = let b = held c.args.id c.args.body.now c.in_ok-content.ensures.ok c.in-Types.is in section_done g.Self.ReencodeIndices b.0 refl _ _ c.new-types.ensures b.1 c.parse_type_section-mapped.ensures c.add_rows.ensures

pub returns-in-Imports : goal.returns-in-Imports
returns-in-Imports g c = let b = held c.args.id c.args.body.now c.in_ok-content.ensures.ok c.in-Imports.is in section_done g.Self.ReencodeIndices b.0 refl _ _ c.new-imports.ensures b.1 c.parse_import_section-mapped.ensures c.add_rows-in-Imports.ensures

pub returns-in-Functions : goal.returns-in-Functions
returns-in-Functions g c = let b = held c.args.id c.args.body.now c.in_ok-content.ensures.ok c.in-Functions.is in section_done g.Self.ReencodeIndices b.0 refl _ _ c.new-functions.ensures b.1 c.parse_function_section-mapped.ensures c.add_rows-in-Functions.ensures

pub returns-in-Tables : goal.returns-in-Tables
returns-in-Tables g c = let b = held c.args.id c.args.body.now c.in_ok-content.ensures.ok c.in-Tables.is in section_done g.Self.ReencodeIndices b.0 refl _ _ c.new-tables.ensures b.1 c.parse_table_section-mapped.ensures c.add_rows-in-Tables.ensures

pub returns-in-Memories : goal.returns-in-Memories
returns-in-Memories g c = let b = held c.args.id c.args.body.now c.in_ok-content.ensures.ok c.in-Memories.is in section_done g.Self.ReencodeIndices b.0 refl _ _ c.new-memories.ensures b.1 c.parse_memory_section-mapped.ensures c.add_rows-in-Memories.ensures

pub returns-in-Globals : goal.returns-in-Globals
returns-in-Globals g c = let b = held c.args.id c.args.body.now c.in_ok-content.ensures.ok c.in-Globals.is in section_done g.Self.ReencodeIndices b.0 refl _ _ c.new-globals.ensures b.1 c.parse_global_section-mapped.ensures c.add_rows-in-Globals.ensures

pub returns-in-Exports : goal.returns-in-Exports
returns-in-Exports g c = let b = held c.args.id c.args.body.now c.in_ok-content.ensures.ok c.in-Exports.is in section_done g.Self.ReencodeIndices b.0 refl _ _ c.new-exports.ensures b.1 c.parse_export_section-mapped.ensures c.add_rows-in-Exports.ensures

pub returns-in-Elements : goal.returns-in-Elements
returns-in-Elements g c = let b = held c.args.id c.args.body.now c.in_ok-content.ensures.ok c.in-Elements.is in section_done g.Self.ReencodeIndices b.0 refl _ _ c.new-elements.ensures b.1 c.parse_element_section-mapped.ensures c.add_rows-in-Elements.ensures

pub returns-in-Tags : goal.returns-in-Tags
returns-in-Tags g c = let b = held c.args.id c.args.body.now c.in_ok-content.ensures.ok c.in-Tags.is in section_done g.Self.ReencodeIndices b.0 refl _ _ c.new-tags.ensures b.1 c.parse_tag_section-mapped.ensures c.add_rows-in-Tags.ensures

pub returns-in-Code : goal.returns-in-Code
returns-in-Code g c = let b = held c.args.id c.args.body.now c.in_ok-content.ensures.ok c.in-Code.is in code_done g.Self.ReencodeIndices _ _ b.0 c.with_room-code.ensures c.ceiling-ceiling.ensures b.1 (code_clauses g.Self.ReencodeIndices c.parse_code_section-mapped.ensures) (rw c.into_rows.ensures at c.take_section.ensures)

pub returns-in-Data : goal.returns-in-Data
returns-in-Data g c = let b = held c.args.id c.args.body.now c.in_ok-content.ensures.ok c.in-Data.is in section_done g.Self.ReencodeIndices b.0 refl _ _ c.with_room-segments.ensures b.1 c.parse_data_section-mapped.ensures c.take_section-in-Data.ensures

pub returns-in_err-function_index-in-Start : goal.returns-in_err-function_index-in-Start
returns-in_err-function_index-in-Start g c = let b = held c.args.id c.args.body.now c.in_ok-content.ensures.ok c.in-Start.is in item_refused g.Self.ReencodeIndices b.0 refl b.1 _ c.in_err-function_index-in-Start.ensures _ c.from_residual-in_err-function_index-in-Start.ensures.1

pub returns-in_ok-function_index-in-Start : goal.returns-in_ok-function_index-in-Start
returns-in_ok-function_index-in-Start g c = let b = held c.args.id c.args.body.now c.in_ok-content.ensures.ok c.in-Start.is in item_done g.Self.ReencodeIndices b.0 refl b.1 _ c.in_ok-function_index-in-Start.ensures c.add_section.ensures

pub returns-in_err-count-in-DataCount : goal.returns-in_err-count-in-DataCount
returns-in_err-count-in-DataCount g c = let b = held c.args.id c.args.body.now c.in_ok-content.ensures.ok c.in-DataCount.is in item_refused g.Self.ReencodeIndices b.0 refl b.1 _ (hook_item g.Self.ReencodeIndices _ _ _ _ _ c.in_err-count-in-DataCount.ensures) _ c.from_residual-in_err-count-in-DataCount.ensures.1

pub returns-in_ok-count-in-DataCount : goal.returns-in_ok-count-in-DataCount
returns-in_ok-count-in-DataCount g c = let b = held c.args.id c.args.body.now c.in_ok-content.ensures.ok c.in-DataCount.is in item_done g.Self.ReencodeIndices b.0 refl b.1 _ (hook_item g.Self.ReencodeIndices _ _ _ _ _ c.in_ok-count-in-DataCount.ensures) c.add_section-in-DataCount.ensures
