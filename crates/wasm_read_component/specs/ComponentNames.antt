-- What the reader of the names of a component promises.
use Rattle.std.specs.Prelude.{◌≡◌, ℕ, List, ◌++◌}
use Rattle.wasm_shapes.specs.declared.Space.{Space}
use Rattle.wasm_shapes.specs.declared.Space.TheVariants as space
use Rattle.wasm_shapes.specs.ComponentNames.{IsRawNames, component_names_tree, raw_component_names_tree, sort_bytes}
use Rattle.wasm_shapes.specs.Shape.{Shape}
use Rattle.wasm_shapes.specs.Spells.{Spells}
use Rattle.wasm_shapes.specs.Tree.{Tree}
use Rattle.wasm_read.specs.Names.{MapStanding, whole_map}
use Rattle.wasm_read.specs.Subsections.{Content, ReadsContentAs}
use Rattle.wasm_read_component.specs.declared.types.ComponentName.{ComponentName}
use Rattle.wasm_read_component.specs.declared.types.ComponentName.TheVariants as name

-- what a subsection holds: the maps are all of the id 1
abbrev pub component_content : ComponentName → Content
component_content (name.Component n) = Content.text n.now
component_content (name.CoreFuncs m) = Content.direct 1 space.Function m
component_content (name.CoreTables m) = Content.direct 1 space.Table m
component_content (name.CoreMemories m) = Content.direct 1 space.Memory m
component_content (name.CoreGlobals m) = Content.direct 1 space.Global m
component_content (name.CoreTags m) = Content.direct 1 space.Tag m
component_content (name.CoreTypes m) = Content.direct 1 space.Type_ m
component_content (name.CoreModules m) = Content.direct 1 space.Module m
component_content (name.CoreInstances m) = Content.direct 1 space.Instance m
component_content (name.Funcs m) = Content.direct 1 space.ComponentFunc m
component_content (name.Values m) = Content.direct 1 space.ComponentValue m
component_content (name.Types m) = Content.direct 1 space.ComponentType m
component_content (name.Components m) = Content.direct 1 space.Component m
component_content (name.Instances m) = Content.direct 1 space.ComponentInstance m
component_content (name.Unknown id c) = Content.raw id c.now

-- the tree is what it is read as
abbrev pub ReadsComponentName : ComponentName → Tree → Type 0
ReadsComponentName n t = ReadsContentAs (λ _ p rows. component_names_tree p rows) raw_component_names_tree (component_content n) t

-- what is raw is read by its bytes
abbrev pub IsRawName : ComponentName → Type 0
IsRawName (name.Unknown id c) = IsRawNames id c.now
IsRawName _ = Unit {0}

-- a map of names of what a space counts stands behind its sort
pub record BehindSort (p : Space) (m : MapStanding) (body : List ℕ) : Type 0 where
  pub bytes : List ℕ
  pub sorted : body ≡ sort_bytes p ++ bytes
  pub map : m ≡ whole_map bytes

-- these are the id and the body of what holds the content
abbrev pub HoldsContent : ℕ → List ℕ → Content → Type 0
HoldsContent id body (Content.text n) = (id ≡ 0) × Spells Shape.name body (Tree.name n)
HoldsContent id body (Content.direct j p m) = (id ≡ 1) × BehindSort p m body
HoldsContent id body (Content.indirect j p m) = ⊥
HoldsContent id body (Content.raw j c) = (id ≡ j) × IsRawNames j c × (c ≡ body)

abbrev pub HoldsComponentName : ℕ → List ℕ → ComponentName → Type 0
HoldsComponentName id body n = HoldsContent id body (component_content n)
