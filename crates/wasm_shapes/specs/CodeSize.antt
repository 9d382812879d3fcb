-- The size of a code section as a fault of its own.
use Rattle.std.specs.Prelude.{◌≡◌, ℕ, ◌<◌, List, ◌∷◌, length}
use Rattle.wasm_leb.specs.Place.{BeginsNumber}
use Rattle.wasm_shapes.specs.declared.SectionId.TheVariants as id
use Rattle.wasm_shapes.specs.SectionTable.{number}

-- The bytes begin with the id of a code section and a size that passes their end; and what is left behind the size begins with a
-- number, as that of the bodies would be.
pub record InvalidCodeSize (bytes : List ℕ) : Type 0 where
  pub size : ℕ
  pub count : ℕ
  pub sized : List ℕ
  pub left : List ℕ
  pub body : List ℕ
  pub is_code : bytes ≡ number id.Code ∷ sized
  pub states : BeginsNumber 128 32 32 sized size body
  pub passes : length body < size
  pub counts : BeginsNumber 128 32 32 body count left
