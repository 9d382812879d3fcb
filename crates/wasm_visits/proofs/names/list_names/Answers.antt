use Rattle.wasm_read.proofs.Subsections.{frame_begins}
use Rattle.wasm_visits.proofs.NamesListed.{subsections_ended, subsections_more}
use Rattle.wasm_visits.proofs.names.list_names.Goals as goal

pub subsections-preserved : goal.subsections-preserved
subsections-preserved c = subsections_more c.subsections.invariant (frame_begins c.in-Some.ensures.is_byte c.in-Some.ensures.some c.in-Some-front_sized.ensures.some) c.in-Ok.ensures

pub returns : goal.returns
returns c = subsections_ended c.subsections.invariant c.in_default.ensures.none
