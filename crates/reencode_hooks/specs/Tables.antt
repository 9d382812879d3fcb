-- A map as a list of pairs in the order of their keys.
use Rattle.std.specs.Prelude.{ℕ, ◌<◌, ◌≤◌, List, length, slice_index_or}

-- the key of the pair at a place
abbrev pub key_at : List (ℕ × ℕ) → ℕ → ℕ
key_at l i = let pair = slice_index_or l i (0, 0) in pair.0

-- the keys rise, so no key comes twice
abbrev pub IsStrictlySorted : List (ℕ × ℕ) → Type 0
IsStrictlySorted l = (i j : ℕ) → i < j → j < length l → key_at l i < key_at l j

-- the keys before this place are smaller, and those from it on are not
pub record IsPlaceOf (l : List (ℕ × ℕ)) (key i : ℕ) : Type 0 where
  pub in_range : i ≤ length l
  pub smaller_before : (j : ℕ) → j < i → key_at l j < key
  pub not_after : (j : ℕ) → i ≤ j → j < length l → key ≤ key_at l j
