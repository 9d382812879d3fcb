-- What a hook of components answers.
use Rattle.std.specs.Prelude.{◌≡◌, ℕ, Result, Ok, Err}
use Rattle.wasm_shapes.specs.declared.Visit.{Visit}
use Rattle.wasm_shapes.specs.declared.Visit.TheVariants.{Push}
use Rattle.reencode_hooks.specs.declared.error.Error.{Error}
use Rattle.reencode_hooks.specs.declared.error.Error.TheVariants.{NoMemory}
use Rattle.reencode_hooks.specs.Run.{ask, accepted}

-- a hook that is never refused answered `reply` and left `next`
abbrev pub Answers : {S E : Type 0} → (S → Visit → Result ℕ E) → (S → Visit → S) → S → S → Visit → ℕ → Type 0
Answers reply next old new v n = ask reply next old v ≡ accepted n new

-- a scope was opened, or memory ran out
abbrev pub RepliesPush : {S E : Type 0} → (S → Visit → Result ℕ E) → (S → Visit → S) → S → S → Result (Unit {0}) (Error E) → Type 0
RepliesPush reply next old new (Ok _) = Answers reply next old new Push 0
RepliesPush reply next old new (Err e) = e ≡ NoMemory
