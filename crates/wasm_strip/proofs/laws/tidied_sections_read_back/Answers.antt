use Rattle.wasm_strip.proofs.Readings.{reads_as_tidied}
use Rattle.wasm_strip.proofs.laws.tidied_sections_read_back.Goals as goal

pub returns : goal.returns
returns g c = reads_as_tidied _ _
