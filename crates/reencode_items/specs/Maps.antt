-- What a call that maps an item gives.
use Rattle.std.specs.Prelude.{◌≡◌, ℕ, ◌<◌, ◌⊎◌, true, List, Result, Ok, Err, IfErr, IfOk}
use Rattle.wasm_shapes.specs.declared.Visit.{Visit}
use Rattle.wasm_shapes.specs.Tree.{Tree, visits}
use Rattle.wasm_shapes.specs.Shape.{Shape}
use Rattle.wasm_shapes.specs.Place.{Begins, BeginsNone}
use Rattle.wasm_read.specs.Operations.{Reading, rest_of}
use Rattle.reencode_hooks.specs.declared.error.Error.{Error}
use Rattle.reencode_hooks.specs.declared.error.Error.TheVariants.{ParseError, NoMemory}
use Rattle.reencode_hooks.specs.Run.{Gives, Step, Visited, ask}
use Rattle.reencode_hooks.specs.Walk.{walk}

-- The call answered what the walk over the item's tree gives, and left its state: each index of the tree is asked in the
-- order of the visits and replaced by its answer, and the first refusal ends it. Items have no frames, so the ceiling may
-- be any.
abbrev pub Maps : {S E B : Type 0} → (S → Visit → Result ℕ E) → (S → Visit → S) → S → Tree → (B → Tree) → S
    → Result B (Error E) → Type 0
Maps reply next old t view new result = (ceiling : ℕ) → Gives (walk (ask reply next) ceiling old t) view new result

-- ---- operators

-- a reader stands further on in the same bytes
pub record MovesOn (old new : Reading) : Type 0 where
  pub bytes : new.bytes ≡ old.bytes
  pub forward : old.at < new.at

-- An operator begins at a reader's place, and was mapped. Where it was accepted, the reader stands directly behind it.
pub record MapsOperator {S E B : Type 0} (reply : S → Visit → Result ℕ E) (next : S → Visit → S) (old : S) (reader : Reading)
    (view : B → Tree) (new : S) (behind : Reading) (result : Result B (Error E)) : Type 0 where
  pub operator : Tree
  pub rest : List ℕ
  pub begins : Begins (Shape.op true) (rest_of reader) operator rest
  pub maps : Maps reply next old operator view new result
  pub behind_it : IfOk result (λ _. rest_of behind ≡ rest)

-- The call read the operator at a reader's place and mapped it, or none begins there: the error then holds the place, and
-- nothing was asked.
abbrev pub ParsesOperator : {S E B : Type 0} → (S → Visit → Result ℕ E) → (S → Visit → S) → S → Reading → (B → Tree) → S → Reading
    → Result B (Error E) → Type 0
ParsesOperator reply next old reader view new behind (Ok b) = MapsOperator reply next old reader view new behind (Ok b)
ParsesOperator reply next old reader view new behind (Err (ParseError e)) =
    (e.at ≡ reader.at) × BeginsNone (Shape.op true) (rest_of reader) × (new ≡ old)
ParsesOperator reply next old reader view new behind (Err NoMemory) = Unit {0}
ParsesOperator reply next old reader view new behind (Err e) = MapsOperator reply next old reader view new behind (Err e)

-- An operator begins at a reader's place, and a front part of its visits was asked.
pub record VisitedOperator {S E : Type 0} (asked : S → Visit → Step S (Error E) ℕ) (old : S) (reader : Reading) (new : S) : Type 0 where
  pub operator : Tree
  pub rest : List ℕ
  pub begins : Begins (Shape.op true) (rest_of reader) operator rest
  pub visited : Visited asked old (visits operator) new

-- An error left the state as it was, or after a front part of the visits of the operator at a reader's place.
abbrev pub LeavesOperator : {S E B : Type 0} → (S → Visit → Step S (Error E) ℕ) → S → Reading → S → Result B (Error E) → Type 0
LeavesOperator asked old reader new result = IfErr result (λ e. (new ≡ old) ⊎ VisitedOperator asked old reader new)
