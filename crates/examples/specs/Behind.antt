-- Functions that move behind others.
use Rattle.std.specs.Prelude.{◌<◌, ◌^◌, ℕ, Result, Ok, refl}
use Rattle.wasm_shapes.specs.declared.Space.{Space}
use Rattle.wasm_shapes.specs.declared.Space.TheVariants as space
use Rattle.wasm_shapes.specs.declared.Visit.TheVariants.{Index}
use Rattle.reencode_hooks.specs.Hooks.{IsAnswer}
use Rattle.reencode_hooks.specs.Rules.{moved_by, moved_is_answer}
use Rattle.examples.specs.declared.behind.TooMany.{TooMany}

-- a function behind so many others, refused where no index is left; every other index as it is
abbrev pub moved : ℕ → Space → ℕ → Result ℕ TooMany
moved count space.Function i = moved_by (record { index = i }) count i
moved count _ i = Ok i

pub moved_is_rule : (count : ℕ) (p : Space) (i : ℕ) → i < 2 ^ 32 → IsAnswer (Index p i) (moved count p i)
moved_is_rule count space.Function i h = moved_is_answer _ count space.Function i refl
moved_is_rule count _ i h = h
