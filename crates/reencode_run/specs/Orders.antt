-- The order that a text says.
use Rattle.std.specs.Prelude.{◌≡◌, ℕ, List, [], ◌∷◌, ◌++◌, Option, Some, option_and_then, IsUtf8}
use Rattle.serde_json.specs.Data.{Items, no_items, item}
use Rattle.serde_json.specs.Find.{as_array}
use Rattle.serde_json.specs.Read.{read}
use Rattle.reencode_run.specs.Renamings.{whole_of}

-- these numbers and those of the items, where each is a whole one below 2^32 that is held without a sign
abbrev pub numbers_from : List ℕ → Items → Option (List ℕ)
numbers_from found no_items = Some found
numbers_from found (item d ds) = option_and_then (λ n. numbers_from (found ++ n ∷ []) ds) (whole_of d)

-- The text is UTF-8 and the text of an array, and its items are these numbers.
pub record IsOrderText (text : List ℕ) (order : List ℕ) : Type 0 where
  pub utf8 : IsUtf8 text
  pub is : option_and_then (λ ds. numbers_from [] ds) (option_and_then as_array (read text)) ≡ Some order

abbrev pub NoOrderText : List ℕ → Type 0
NoOrderText text = (order : List ℕ) → IsOrderText text order → ⊥
