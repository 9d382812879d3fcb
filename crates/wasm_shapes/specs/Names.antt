-- The names of the index spaces.
use Rattle.std.specs.Prelude.{ℕ, List, codes}
use Rattle.wasm_shapes.specs.declared.Space.{Space}
use Rattle.wasm_shapes.specs.declared.Space.TheVariants as space

abbrev pub space_name : Space → List ℕ
space_name space.Data = codes "data"
space_name space.Element = codes "element"
space_name space.Function = codes "function"
space_name space.Global = codes "global"
space_name space.Memory = codes "memory"
space_name space.Table = codes "table"
space_name space.Tag = codes "tag"
space_name space.Type_ = codes "type"
space_name space.DataCount = codes "data_count"
space_name space.ComponentType = codes "component_type"
space_name space.ComponentInstance = codes "component_instance"
space_name space.ComponentFunc = codes "component_func"
space_name space.Component = codes "component"
space_name space.Module = codes "module"
space_name space.Instance = codes "instance"
space_name space.ComponentValue = codes "component_value"
