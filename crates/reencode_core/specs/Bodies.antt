-- What the calls that map function bodies give.
use Rattle.std.specs.Prelude.{◌≡◌, ◌≢◌, ◌-◌, ◌⊎◌, ℕ, List, [], length, true, Result, IfOk, IfErr}
use Rattle.wasm_shapes.specs.Shape.{Shape}
use Rattle.wasm_shapes.specs.Tree.{Tree}
use Rattle.wasm_shapes.specs.Spells.{Spells}
use Rattle.wasm_shapes.specs.Place.{Begins, BeginsNone}
use Rattle.wasm_shapes.specs.Module.{body}
use Rattle.wasm_shapes.specs.Types.{vector_tree}
use Rattle.wasm_write.specs.Bodies.{Body, CodeRows}
use Rattle.reencode_hooks.specs.declared.error.Error.{Error}
use Rattle.reencode_hooks.specs.Run.{Gives}
use Rattle.reencode_hooks.specs.Walk.{walk}
use Rattle.reencode_core.specs.Errors.{IfParse, IfRefused}
use Rattle.reencode_core.specs.Rows.{Asks, KeepsFront, GivesRow, RowsBefore, locals, StopsBody}

-- the second has the first's ceiling and rows, and perhaps more rows after them
pub record KeepsCode (old new : CodeRows) : Type 0 where
  pub ceiling : new.ceiling ≡ old.ceiling
  pub rows : KeepsFront old.rows new.rows

-- ---- locals

-- A function with the locals that a body begins with, each type mapped, and no operator.
pub record GivesLocals {S E A : Type 0} (asked : Asks S E) (bytes : List ℕ) (s m : S) (result : Result A (Error E)) (view : A → Body) : Type 0 where
  pub reading : (c : ℕ) (t : Tree) (rest : List ℕ) → Begins locals bytes t rest → Gives (walk asked c s t) (λ f. vector_tree (view f).locals) m result
  pub bare : IfOk result (λ f. (view f).operators ≡ [])
  pub readable : IfOk result (λ _. (t : Tree) × (rest : List ℕ) × Begins locals bytes t rest)
  pub unreadable : IfErr result (λ e. IfParse e (λ at. (at ≡ 0) × BeginsNone locals bytes × (m ≡ s)))
  pub refusal : IfErr result (λ e. IfRefused e ((t : Tree) × (rest : List ℕ) × Begins locals bytes t rest))

-- ---- a whole body

-- no locals begin there, or an operator is due at this place, behind the locals and operators before it, and none begins
abbrev pub NoOperator : List ℕ → ℕ → Type 0
NoOperator bytes at =
    ((at ≡ 0) × BeginsNone locals bytes)
    ⊎ ((t : Tree) × (operators : List Tree) × (start : List ℕ) × (rest : List ℕ) × Begins locals bytes t start × RowsBefore (Shape.op true) start operators rest
    × (at ≡ length bytes - length rest) × BeginsNone (Shape.op true) rest × (rest ≢ []))

-- The body became what the walk over it gives, which was added; or it was refused, or has no reading, and nothing was added.
pub record GivesBody {S E : Type 0} (asked : Asks S E) (bytes : List ℕ) (before after : S × CodeRows) (result : Result (Unit {0}) (Error E)) : Type 0 where
  pub reading : (t : Tree) → Spells body bytes t
      → GivesRow asked before.1.ceiling (before.0, before.1.rows) (Tree.sized t) (after.0, after.1.rows) result
  pub readable : IfOk result (λ _. (t : Tree) × Spells body bytes t)
  pub unchanged : IfErr result (λ _. after.1 ≡ before.1)
  pub unreadable : IfErr result (λ e. IfParse e (λ at. ((t : Tree) → Spells body bytes t → ⊥) × NoOperator bytes at))
  pub refusal : IfErr result (λ e.
      IfRefused e (((t : Tree) × Spells body bytes t) ⊎ StopsBody asked before.1.ceiling bytes before.0 e after.0))
