-- Rows that are walked one behind another.
use Rattle.std.specs.Prelude.{◌≡◌, ℕ, List}
use Rattle.wasm_shapes.specs.declared.Visit.{Visit}
use Rattle.wasm_shapes.specs.Tree.{Tree}
use Rattle.wasm_shapes.specs.Rows.{rows_then}
use Rattle.reencode_hooks.specs.declared.error.Error.{Error}
use Rattle.reencode_hooks.specs.Run.{Step, accepted, and_then}
use Rattle.reencode_hooks.specs.Walk.{walk}

-- what is asked: a visit, in a state
abbrev pub Asks : (S E : Type 0) → Type 0
Asks S E = S → Visit → Step S (Error E) ℕ

-- rows that were accepted, in front of a step over those behind them
abbrev pub onto_rows : {S E : Type 0} → List Tree → Step S (Error E) Tree → Step S (Error E) Tree
onto_rows made step = and_then step (λ u m. accepted (rows_then made u) m)

-- These rows are accepted, whatever stands behind them, and become those; what stands behind them is walked from here.
abbrev pub AcceptsRows : {S E : Type 0} → Asks S E → ℕ → S → List Tree → List Tree → S → Type 0
AcceptsRows asked c s read made m = (others : Tree) → walk asked c s (rows_then read others) ≡ onto_rows made (walk asked c m others)
