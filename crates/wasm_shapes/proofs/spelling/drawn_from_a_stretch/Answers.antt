use Rattle.wasm_shapes.proofs.Drawn.{drawn_from_whole}
use Rattle.wasm_shapes.proofs.spelling.drawn_from_a_stretch.Goals as goal

pub returns : goal.returns
returns c = drawn_from_whole
