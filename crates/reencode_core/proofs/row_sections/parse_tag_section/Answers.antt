use Rattle.std.proofs.Common.{refl}
use Rattle.wasm_shapes.specs.declared.SectionId.TheVariants as id
use Rattle.wasm_shapes.specs.Drawn.{IsItem}
use Rattle.reencode_core.proofs.row_sections.parse_tag_section.Goals as goal

pub map_section-requires : goal.map_section-requires
map_section-requires g c κs = ((refl, tt), IsItem.row id.Tag)
