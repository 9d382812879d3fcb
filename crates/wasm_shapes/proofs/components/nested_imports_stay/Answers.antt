use Rattle.wasm_shapes.proofs.SingleImports.{nested_imports_stay}
use Rattle.wasm_shapes.proofs.components.nested_imports_stay.Goals as goal

pub returns : goal.returns
returns c = nested_imports_stay
