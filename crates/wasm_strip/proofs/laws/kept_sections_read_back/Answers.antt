use Rattle.wasm_strip.proofs.Readings.{reads_as_kept}
use Rattle.wasm_strip.proofs.laws.kept_sections_read_back.Goals as goal

pub returns : goal.returns
returns g c = reads_as_kept _
