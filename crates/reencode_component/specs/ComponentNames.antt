-- The names of a component, as a format of subsections.
use Rattle.std.specs.Prelude.{◌≡◌, ℕ, List, ◌++◌, true}
use Rattle.wasm_shapes.specs.declared.Space.{Space}
use Rattle.wasm_shapes.specs.Component.{component_name_subsection, component_names_name}
use Rattle.wasm_shapes.specs.ComponentNames.{has_sort, sort_bytes}
use Rattle.wasm_shapes.specs.Module.{naming_row}
use Rattle.wasm_shapes.specs.Shape.{Shape}
use Rattle.wasm_read.specs.Names.{MapStanding}
use Rattle.wasm_read.specs.Subsections.{Content}
use Rattle.wasm_read_component.specs.declared.types.ComponentName.{ComponentName}
use Rattle.wasm_read_component.specs.ComponentNames.{HoldsComponentName, ReadsComponentName, component_content}
use Rattle.reencode_core.specs.NameFormats.{CustomFormat, NameFormat, entries_bytes}

-- the fact about the rows of the content's map and about the map, if it has one
abbrev pub OfSortedMap : Content → (Shape → MapStanding → Type 0) → Type 0
OfSortedMap (Content.direct id p m) P = P (naming_row p) m
OfSortedMap _ P = ⊥

-- behind a sort stands the map of such rows
pub record SortedMap (body : List ℕ) (row : Shape) (map : List ℕ) : Type 0 where
  pub space : Space
  pub sort : has_sort space ≡ true
  pub is_row : row ≡ naming_row space
  pub stands : body ≡ sort_bytes space ++ map

abbrev pub component_names : NameFormat ComponentName
component_names = record {
  row = component_name_subsection;
  holds = HoldsComponentName;
  reads = ReadsComponentName;
  of_map = λ n P. OfSortedMap (component_content n) P;
  entries = λ n. entries_bytes (component_content n);
  map_at = λ id body row map. (id ≡ 1) × SortedMap body row map;
}

-- the custom sections of a component
abbrev pub component_custom : CustomFormat ComponentName
component_custom = record { names = component_names; called = component_names_name; number = 0 }
