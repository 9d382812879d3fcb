-- The renaming that a text says.
use Rattle.std.specs.Prelude.{◌≡◌, ℕ, nat_eq, codes, List, [], ◌∷◌, Option, Some, None, option_map, option_and_then, if◌then◌else◌, IsUtf8}
use Rattle.std.specs.Cmp.Lexicographic.{pointwise}
use Rattle.std.specs.Ordering.{nat_cmp}
use Rattle.std.specs.BTreeMap.{insert_entry}
use Rattle.wasm_shapes.specs.declared.Space.{Space}
use Rattle.wasm_shapes.specs.declared.Space.TheVariants as space
use Rattle.wasm_shapes.specs.Names.{space_name}
use Rattle.reencode_hooks.specs.Renamings.{Renaming, if_index, no_renaming, with_entry}
use Rattle.serde_json.specs.Data.{Data, Members, no_members, member}
use Rattle.serde_json.specs.Find.{as_bool, as_number, as_object, as_u64}
use Rattle.serde_json.specs.Read.{read}
use Rattle.reencode_run.specs.Numerals.{index_of}

-- the spaces, in order
abbrev pub spaces : List Space
spaces =
    space.Data ∷ space.Element ∷ space.Function ∷ space.Global ∷ space.Memory ∷ space.Table ∷ space.Tag ∷ space.Type_ ∷ space.DataCount
    ∷ space.ComponentType ∷ space.ComponentInstance ∷ space.ComponentFunc ∷ space.Component ∷ space.Module ∷ space.Instance
    ∷ space.ComponentValue ∷ []

-- the first of these spaces that has this name
abbrev pub space_among : List Space → List ℕ → Option Space
space_among [] name = None
space_among (s ∷ ss) name = if pointwise nat_eq (space_name s) name then Some s else space_among ss name

abbrev pub space_of : List ℕ → Option Space
space_of name = space_among spaces name

-- the number of a value, where it is a whole one below 2^32 that is held without a sign
abbrev pub whole_of : Data → Option ℕ
whole_of d = if_index (option_and_then as_u64 (as_number d))

-- the entries that are there and those of these members, in the order of their keys
abbrev pub entries_from : List (ℕ × ℕ) → Members → Option (List (ℕ × ℕ))
entries_from found no_members = Some found
entries_from found (member k d ms) =
    option_and_then (λ from. option_and_then (λ to. entries_from (insert_entry nat_cmp found from to) ms) (whole_of d)) (index_of k)

-- the renaming with these entries set, one after another
abbrev pub set_all : Renaming → Space → List (ℕ × ℕ) → Renaming
set_all r s [] = r
set_all r s (e ∷ es) = set_all (with_entry r s e.0 e.1) s es

-- the renaming with what a value says of a space
abbrev pub set_space : Renaming → Space → Data → Option Renaming
set_space r s d = option_map (λ es. set_all r s es) (option_and_then (λ ms. entries_from [] ms) (as_object d))

-- the renaming with what a member says
abbrev pub set_member : Renaming → List ℕ → Data → Option Renaming
set_member r k d =
    if pointwise nat_eq k (codes "strict") then option_map (λ b. record r { strict = b }) (as_bool d)
    else option_and_then (λ s. set_space r s d) (space_of k)

-- the renaming with what these members say, one after another
abbrev pub set_members : Renaming → Members → Option Renaming
set_members r no_members = Some r
set_members r (member k d ms) = option_and_then (λ q. set_members q ms) (set_member r k d)

-- The text is UTF-8 and the text of an object, and its members say this renaming.
pub record IsRenaming (text : List ℕ) (r : Renaming) : Type 0 where
  pub utf8 : IsUtf8 text
  pub is : option_and_then (λ ms. set_members no_renaming ms) (option_and_then as_object (read text)) ≡ Some r

abbrev pub NoRenaming : List ℕ → Type 0
NoRenaming text = (r : Renaming) → IsRenaming text r → ⊥
