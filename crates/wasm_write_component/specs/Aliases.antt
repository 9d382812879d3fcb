-- The trees that aliases stand for, and what stands in front of their numbers.
use Rattle.std.specs.Prelude.{ℕ, List, [], ◌∷◌}
use Rattle.wasm_shapes.specs.Tree.{Tree}
use Rattle.wasm_types.specs.declared.components.Alias.{Alias}
use Rattle.wasm_types.specs.declared.components.ComponentExternalKind.{ComponentExternalKind}
use Rattle.wasm_types.specs.declared.components.ComponentExternalKind.TheVariants as component
use Rattle.wasm_types.specs.declared.components.ComponentOuterAliasKind.{ComponentOuterAliasKind}
use Rattle.wasm_types.specs.declared.components.ComponentOuterAliasKind.TheVariants as outer
use Rattle.wasm_types.specs.ComponentTrees as component_alias
use Rattle.wasm_write.specs.declared.types.ExportKind.{ExportKind}
use Rattle.wasm_write.specs.declared.types.ExportKind.TheVariants as export

-- the sort of what a core instance exports
abbrev pub core_sort_byte : ExportKind → ℕ
core_sort_byte export.Func = 0x00
core_sort_byte export.Table = 0x01
core_sort_byte export.Memory = 0x02
core_sort_byte export.Global = 0x03
core_sort_byte export.Tag = 0x04

abbrev pub alias_tree : Alias ExportKind → Tree
alias_tree a = component_alias.alias_tree core_sort_byte a

-- ---- what stands in front of the numbers

abbrev pub export_front : ComponentExternalKind → List ℕ
export_front component.Module = 0x00 ∷ 0x11 ∷ 0x00 ∷ []
export_front component.Func = 0x01 ∷ 0x00 ∷ []
export_front component.Value = 0x02 ∷ 0x00 ∷ []
export_front component.Type_ = 0x03 ∷ 0x00 ∷ []
export_front component.Instance = 0x05 ∷ 0x00 ∷ []
export_front component.Component = 0x04 ∷ 0x00 ∷ []

abbrev pub core_export_front : ExportKind → List ℕ
core_export_front kind = 0x00 ∷ core_sort_byte kind ∷ 0x01 ∷ []

abbrev pub outer_front : ComponentOuterAliasKind → List ℕ
outer_front outer.CoreModule = 0x00 ∷ 0x11 ∷ 0x02 ∷ []
outer_front outer.CoreType = 0x00 ∷ 0x10 ∷ 0x02 ∷ []
outer_front outer.Type_ = 0x03 ∷ 0x02 ∷ []
outer_front outer.Component = 0x04 ∷ 0x02 ∷ []
