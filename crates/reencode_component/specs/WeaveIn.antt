-- The walk over the sections of a component: what the section hooks add to a nested module stands in its place.
use Rattle.std.specs.Prelude.{◌≡◌, ℕ, List, []}
use Rattle.wasm_shapes.specs.declared.Visit.{Visit}
use Rattle.wasm_shapes.specs.declared.Visit.TheVariants.{Push, Pop}
use Rattle.wasm_shapes.specs.Tree.{Tree}
use Rattle.wasm_shapes.specs.Rows.{rows_then}
use Rattle.reencode_hooks.specs.declared.error.Error.{Error}
use Rattle.reencode_hooks.specs.Hooks.{MayAdd}
use Rattle.reencode_hooks.specs.Run.{Step, accepted, refused, and_then}
use Rattle.reencode_hooks.specs.Walk.{closed, walk}
use Rattle.reencode_core.specs.Rows.{Asks, onto_rows}
use Rattle.reencode_core.specs.Weave.{Puts, weave}

-- The core's walk of the sections of a module, with these put at its section visits, wherever a module stands in the tree.
abbrev pub weave_in : {S E : Type 0} → Asks S E → Puts S Tree → ℕ → S → Tree → Step S (Error E) Tree
weave_in asked put c s (Tree.cons t u) =
    and_then (weave_in asked put c s t) (λ t' m. and_then (weave_in asked put c m u) (λ u' n. accepted (Tree.cons t' u') n))
weave_in asked put c s (Tree.pair t u) =
    and_then (weave_in asked put c s t) (λ t' m. and_then (weave_in asked put c m u) (λ u' n. accepted (Tree.pair t' u') n))
weave_in asked put c s (Tree.row k t) = and_then (weave_in asked put c s t) (λ u m. accepted (Tree.row k u) m)
weave_in asked put c s (Tree.sized t) = and_then (weave_in asked put c s t) (λ u m. closed c u m)
weave_in asked put c s (Tree.scope t) =
    and_then (asked s Push) (λ _ m. and_then (weave_in asked put c m t) (λ u n. and_then (asked n Pop) (λ _ k. accepted (Tree.scope u) k)))
weave_in asked put c s t = weave asked put c s t

-- These sections are accepted, whatever stands behind them, and become those; what stands behind them is walked from here.
abbrev pub AcceptsAll : {S E : Type 0} → Asks S E → Puts S Tree → ℕ → S → List Tree → List Tree → S → Type 0
AcceptsAll asked put c s read made m =
    (others : Tree) → weave_in asked put c s (rows_then read others) ≡ onto_rows made (weave_in asked put c m others)

-- they are refused, whatever stands behind them
abbrev pub RefusesAmong : {S E : Type 0} → Asks S E → Puts S Tree → ℕ → S → List Tree → Error E → S → Type 0
RefusesAmong asked put c s read e m = (others : Tree) → weave_in asked put c s (rows_then read others) ≡ refused e m

-- Where nothing is put, it is the walk.
abbrev pub WeaveInOfNothing : {S E : Type 0} → Asks S E → Type 0
WeaveInOfNothing {S} asked = (put : Puts S Tree) → ((s : S) (v : Visit) → MayAdd v → put s v ≡ []) →
    (c : ℕ) (s : S) (t : Tree) → weave_in asked put c s t ≡ walk asked c s t
