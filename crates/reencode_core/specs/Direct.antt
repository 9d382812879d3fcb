-- The front of a body that was mapped, and what is done with the next operator.
use Rattle.std.specs.Prelude.{◌≡◌, ℕ, List, IsTrue, true}
use Rattle.wasm_shapes.specs.Shape.{Shape, Named}
use Rattle.wasm_shapes.specs.Tree.{Tree}
use Rattle.wasm_shapes.specs.Place.{Begins}
use Rattle.wasm_shapes.specs.Types.{vector_tree}
use Rattle.wasm_read.specs.Operations.{Reading, rest_of}
use Rattle.wasm_write.specs.Bodies.{Body}
use Rattle.reencode_hooks.specs.declared.error.Error.{Error}
use Rattle.reencode_hooks.specs.declared.indices.ReencodeIndices.{Ghosts}
use Rattle.reencode_hooks.specs.Run.{accepted, ask}
use Rattle.reencode_hooks.specs.Walk.{walk}
use Rattle.reencode_items.specs.declared.direct.passing.Next.{Next}
use Rattle.reencode_items.specs.Direct.{PassesNext}
use Rattle.reencode_items.specs.Streams.{Stops}
use Rattle.reencode_core.specs.Rows.{Asks, AcceptsRows, RowsBefore, locals as locals_shape}

-- this is done with the operator at the front of some bytes, by some state in front of it
abbrev pub DealsWith : {S E : Type 0} → Asks S E → List ℕ → S → Next → Type 0
DealsWith {S} asked bytes m next = (s : S) × PassesNext asked s bytes m next

-- Operators stand in front of these bytes and were accepted, and became those.
pub record AcceptsFront {S E : Type 0} (asked : Asks S E) (c : ℕ) (start : List ℕ) (s : S) (rest : List ℕ) (m : S) (made : List Tree) : Type 0 where
  pub read : List Tree
  pub before : RowsBefore (Shape.op true) start read rest
  pub accepts : AcceptsRows asked c s read made m

-- The locals of a body and the operators in front of a reader's place were accepted, and the function holds what they became; and this
-- is what is done with the next operator.
pub record MapsFront {S E : Type 0} (asked : Asks S E) (bytes : List ℕ) (first : S) (reader : Reading) (f : Body) (s : S) (next : Next) : Type 0 where
  pub locals : Tree
  pub start : List ℕ
  pub begins : Begins locals_shape bytes locals start
  pub of : reader.bytes ≡ bytes
  pub behind_locals : S
  pub walked : (c : ℕ) → walk asked c first locals ≡ accepted (vector_tree f.locals) behind_locals
  pub mid : S
  pub front : (c : ℕ) → AcceptsFront asked c start behind_locals (rest_of reader) mid f.operators
  pub onward : PassesNext asked mid (rest_of reader) s next

-- Whatever group of types stands at the front of some bytes is walked to this one.
abbrev pub GroupMapped : {S E : Type 0} → Ghosts S E → List ℕ → S → Tree → S → Type 0
GroupMapped i bytes s made m =
    IsTrue i.keeps_defaults → (t : Tree) (left : List ℕ) → Begins (Shape.ref Named.group) bytes t left → (c : ℕ) → walk (ask i.reply i.next) c s t ≡ accepted made m

-- Whatever group of types stands there is refused.
abbrev pub GroupRefused : {S E : Type 0} → Ghosts S E → List ℕ → S → Error E → S → Type 0
GroupRefused i bytes s e m = Stops i (λ t left. Begins (Shape.ref Named.group) bytes t left) s m e
