use Rattle.wasm_shapes.proofs.Drawn.{drawn_joined}
use Rattle.wasm_shapes.proofs.spelling.drawn_lists_join.Goals as goal

pub returns : goal.returns
returns c = drawn_joined
