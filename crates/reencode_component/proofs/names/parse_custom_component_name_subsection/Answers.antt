use Rattle.std.proofs.Common.{ap}
use Rattle.wasm_read_component.specs.ComponentNames.{component_content}
use Rattle.reencode_component.proofs.names_mapped.NameCalls.{component_written, raw_written}
use Rattle.reencode_component.proofs.names.parse_custom_component_name_subsection.Goals as goal

pub returns-in-Component : goal.returns-in-Component
returns-in-Component g c = let w = c.component.ensures in component_written g.T.ReencodeIndices _ (ap component_content c.in-Component.is) _ w.ok w.fits w.err w.large _ c.written.ensures

pub returns-in-Unknown : goal.returns-in-Unknown
returns-in-Unknown g c = let w = c.raw.ensures in raw_written g.T.ReencodeIndices _ _ (rw c.in-Unknown.is at c.requires) (ap component_content c.in-Unknown.is) _ w.ok w.fits w.err w.large _ c.written-in-Unknown.ensures
