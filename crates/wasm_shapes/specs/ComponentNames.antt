-- The names of a component: the sorts of what is named, and the subsections.
use Rattle.std.specs.Prelude.{◌≡◌, ◌⊎◌, ℕ, ◌≤◌, nat_eq, List, [], ◌∷◌, map, Bool, true, false}
use Rattle.wasm_shapes.specs.declared.Space.{Space}
use Rattle.wasm_shapes.specs.declared.Space.TheVariants as space
use Rattle.wasm_shapes.specs.Tree.{Tree}
use Rattle.wasm_shapes.specs.Shape.{begins_with_one}
use Rattle.wasm_shapes.specs.Types.{led, no_reading, vector_tree}
use Rattle.wasm_shapes.specs.Namings.{asked_in, subsection_tree}
use Rattle.wasm_shapes.specs.Component.{core_sort, sorts}

-- A sort: one of core modules, by its row among these and its byte; one of components, by its byte, which is its row too; or
-- none.
pub data Sort : Type 0 where
  core : ℕ → ℕ → Sort
  own : ℕ → Sort
  none : Sort

-- the sort of what a space counts
abbrev pub sort_of : Space → Sort
sort_of space.Function = Sort.core 0 0x00
sort_of space.Table = Sort.core 1 0x01
sort_of space.Memory = Sort.core 2 0x02
sort_of space.Global = Sort.core 3 0x03
sort_of space.Tag = Sort.core 4 0x04
sort_of space.Type_ = Sort.core 5 0x10
sort_of space.Module = Sort.core 6 0x11
sort_of space.Instance = Sort.core 7 0x12
sort_of space.ComponentFunc = Sort.own 0x01
sort_of space.ComponentValue = Sort.own 0x02
sort_of space.ComponentType = Sort.own 0x03
sort_of space.Component = Sort.own 0x04
sort_of space.ComponentInstance = Sort.own 0x05
sort_of _ = Sort.none

-- there is one
abbrev pub is_sort : Sort → Bool
is_sort Sort.none = false
is_sort _ = true

-- what the space counts has a sort
abbrev pub has_sort : Space → Bool
has_sort p = is_sort (sort_of p)

-- the bytes of a sort
abbrev pub spelled_sort : Sort → List ℕ
spelled_sort (Sort.core k b) = core_sort b
spelled_sort (Sort.own b) = b ∷ []
spelled_sort Sort.none = []

-- the same of what a space counts
abbrev pub sort_bytes : Space → List ℕ
sort_bytes p = spelled_sort (sort_of p)

-- what stands behind a sort
abbrev pub led_by : Sort → Tree → Tree
led_by (Sort.core k b) t = Tree.row 0 (led 0x00 (Tree.row k (led b t)))
led_by (Sort.own b) t = Tree.row b (led b t)
led_by Sort.none t = no_reading

-- the same of what a space counts
abbrev pub behind_sort : Space → Tree → Tree
behind_sort p t = led_by (sort_of p) t

-- ---- subsections

-- names of what a space counts, by entries whose indices are not asked for: they are asked for in the space
abbrev pub component_names_tree : Space → List Tree → Tree
component_names_tree p entries = subsection_tree 1 (behind_sort p (vector_tree (map (asked_in p) entries)))

-- The contents of a subsection of this id are read by their bytes: they begin with no sort, or the id is that of no other.
abbrev pub IsRawNames : ℕ → List ℕ → Type 0
IsRawNames id contents = ((id ≡ 1) × (begins_with_one sorts contents ≡ false)) ⊎ (2 ≤ id)

abbrev raw_row : Bool → ℕ → List ℕ → Tree
raw_row true id contents = subsection_tree 1 (Tree.raw contents)
raw_row false id contents = Tree.row 2 (Tree.pair (Tree.byte id) (Tree.sized (Tree.raw contents)))

-- a subsection by its bytes
abbrev pub raw_component_names_tree : ℕ → List ℕ → Tree
raw_component_names_tree id contents = raw_row (nat_eq id 1) id contents
