use Rattle.std.proofs.Common.{ap}
use Rattle.wasm_read.specs.Subsections.{content_of}
use Rattle.reencode_core.proofs.names_mapped.EachSubsection.{module_written, raw_written}
use Rattle.reencode_core.proofs.subsections.parse_custom_name_subsection.Goals as goal

pub returns-in-Module : goal.returns-in-Module
returns-in-Module g c = let w = c.module.ensures in module_written g.T.ReencodeIndices _ (ap content_of c.in-Module.is) _ w.ok w.fits w.err w.large _ c.written.ensures

pub returns-in-Unknown : goal.returns-in-Unknown
returns-in-Unknown g c = let w = c.raw.ensures in raw_written g.T.ReencodeIndices _ _ (ap content_of c.in-Unknown.is) _ w.ok w.fits w.err w.large _ c.written-in-Unknown.ensures
