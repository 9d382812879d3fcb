use Rattle.wasm_shapes.proofs.Laws.{filled_read_back, read_back_as_is}
use Rattle.wasm_shapes.proofs.spelling.normal_reads_back.Goals as goal

pub returns-clause-filled : goal.returns-clause-filled
returns-clause-filled c = filled_read_back

pub returns-clause-as_is : goal.returns-clause-as_is
returns-clause-as_is c = read_back_as_is
