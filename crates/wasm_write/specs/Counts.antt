-- The counts and lengths that a tree is spelled with.
use Rattle.std.specs.Prelude.{ℕ, ◌-◌, ◌^◌, ◌<◌, List, [], ◌∷◌, ◌++◌, length, Contains}
use Rattle.wasm_shapes.specs.Tree.{Tree, count}

-- the numbers of items and the lengths of texts, each behind those of its items
abbrev pub counts : Tree → List ℕ
counts (Tree.name bs) = length bs ∷ []
counts (Tree.content bs) = length bs ∷ []
counts (Tree.pair t u) = counts t ++ counts u
counts (Tree.swap t u) = counts t ++ counts u
counts (Tree.cons t u) = counts t ++ counts u
counts (Tree.vec t) = counts t ++ (count t ∷ [])
counts (Tree.present t) = counts t
counts (Tree.sized t) = counts t
counts (Tree.row k t) = counts t
counts (Tree.scope t) = counts t
counts (Tree.spare b t) = counts t
counts (Tree.kept b t) = counts t
counts (Tree.final t u) = counts t ++ (count t ∷ counts u)
counts (Tree.until b t) = counts t
counts (Tree.op c t) = counts t
counts (Tree.left w o t) = counts o ++ counts t
counts (Tree.aimed w i o t) = counts o ++ counts t
counts (Tree.placed i o t) = counts o ++ counts t
counts (Tree.told k t) = counts t
counts (Tree.also t u) = counts t ++ counts u
counts _ = []

-- one of some counts and lengths, which has no spelling of 32 bits
pub record IsTooLarge (among : List ℕ) (size : ℕ) : Type 0 where
  pub counted : Contains among size
  pub large : 2 ^ 32 - 1 < size
