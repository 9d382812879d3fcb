use Rattle.wasm_strip.proofs.Readings.{one_reading}
use Rattle.wasm_strip.proofs.laws.bytes_have_one_reading.Goals as goal

pub returns : goal.returns
returns c = one_reading
