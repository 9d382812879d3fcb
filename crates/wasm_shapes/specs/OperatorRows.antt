-- Lists that hold a table of operators by their numbers.
use Rattle.std.specs.Prelude.{◌≡◌, ℕ, zero, suc, Bool, true, nat_lt, ◌&&◌, List, [], ◌∷◌, length, map, Option, Some, None}
use Rattle.std.specs.Borrow.{Bor}
use Rattle.wasm_shapes.specs.declared.ImmKind.{ImmKind}
use Rattle.wasm_shapes.specs.Operators.{Operators, look_up}

-- the kinds in an entry
abbrev pub kinds_in : Option (Bor (List ImmKind)) → Option (List ImmKind)
kinds_in (Some kinds) = Some kinds.now
kinds_in None = None

-- what so many numbers from one on are looked up as
unfoldable pub looked_up : List Operators → ℕ → ℕ → List (Option (List ImmKind))
looked_up os from zero = []
looked_up os from (suc n) = look_up os from ∷ looked_up os (suc from) n

-- all operators lie below a number
unfoldable pub lie_below : ℕ → List Operators → Bool
lie_below n [] = true
lie_below n (o ∷ os) = nat_lt o.to n && lie_below n os

-- the list has the table's kinds at each number, and the table has no numbers behind it
pub record Holds (rows : List (Option (Bor (List ImmKind)))) (os : List Operators) : Type 0 where
  pub same : map kinds_in rows ≡ looked_up os 0 (length rows)
  pub whole : lie_below (length rows) os ≡ true
