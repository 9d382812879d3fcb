-- The trees that the rows of a component stand for, beside those of `wasm_types`.
use Rattle.std.specs.Prelude.{ℕ, List}
use Rattle.std.specs.Borrow.{Bor}
use Rattle.wasm_shapes.specs.declared.Space.TheVariants as space
use Rattle.wasm_shapes.specs.Tree.{Tree}
use Rattle.wasm_types.specs.declared.components.CanonicalFunction.{CanonicalFunction}
use Rattle.wasm_types.specs.declared.components.CanonicalOption.{CanonicalOption}
use Rattle.wasm_types.specs.declared.components.Instance.{Instance}
use Rattle.wasm_types.specs.declared.components.Operands.{Operands}
use Rattle.wasm_types.specs.declared.components.Operands.TheVariants as operands
use Rattle.wasm_types.specs.ComponentTrees as component
use Rattle.wasm_write.specs.declared.types.Export.{Export}
use Rattle.wasm_write.specs.Rows.{export_tree}
use Rattle.wasm_write.specs.Types.{indices}

abbrev pub export_row_tree : Export → Tree
export_row_tree row = export_tree row.name.now row.kind row.index

abbrev pub instance_tree : Instance Export → Tree
instance_tree i = component.instance_tree export_row_tree i

-- an index of a value
abbrev pub value_index_tree : ℕ → Tree
value_index_tree i = Tree.ix space.ComponentValue i

abbrev pub operands_tree : Operands ℕ (List CanonicalOption) → Tree
operands_tree o = component.operands_tree indices o

-- what stands behind the byte, whose options are borrowed
abbrev pub borrowed_tree : Operands ℕ (Bor (List CanonicalOption)) → Tree
borrowed_tree o = operands_tree (component.borrowed_operands o)

-- of a lifted function: a function, options and a type
abbrev pub lift_tree : ℕ → List CanonicalOption → ℕ → Tree
lift_tree f options ty = operands_tree (operands.Lift f options ty)

abbrev pub canonical_tree : CanonicalFunction ℕ → Tree
canonical_tree f = component.canonical_tree indices f
