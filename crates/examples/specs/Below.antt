-- Functions below a bound.
use Rattle.std.specs.Prelude.{◌<◌, ◌^◌, ℕ, Bool, true, false, nat_lt, if◌then◌else◌, Result, Ok, Err, refl}
use Rattle.wasm_shapes.specs.declared.Space.{Space}
use Rattle.wasm_shapes.specs.declared.Space.TheVariants as space
use Rattle.wasm_shapes.specs.declared.Visit.TheVariants.{Index}
use Rattle.reencode_hooks.specs.Hooks.{IsAnswer}
use Rattle.examples.specs.declared.below.NotBelow.{NotBelow}

-- a function below the bound as it is, and a refusal of the others; every other index as it is
abbrev pub known : ℕ → Space → ℕ → Result ℕ NotBelow
known bound space.Function i = if nat_lt i bound then Ok i else Err (record { index = i })
known bound _ i = Ok i

function_known : (b : Bool) (i : ℕ) → i < 2 ^ 32 → IsAnswer {E = NotBelow} (Index space.Function i) (if b then Ok i else Err (record { index = i }))
function_known true i h = h
function_known false i h = refl

pub known_is_rule : (bound : ℕ) (p : Space) (i : ℕ) → i < 2 ^ 32 → IsAnswer (Index p i) (known bound p i)
known_is_rule bound space.Function i h = function_known (nat_lt i bound) i h
known_is_rule bound _ i h = h
