-- What is mapped from bytes to bytes where scopes are open round it: nothing that stands there opens one too many.
use Rattle.std.specs.Prelude.{◌≡◌, ℕ, List, Option, Result, IsTrue}
use Rattle.std.specs.Borrow.{Bor}
use Rattle.wasm_shapes.specs.Tree.{Tree, count, normal}
use Rattle.wasm_shapes.specs.Types.{led}
use Rattle.wasm_shapes.specs.Shape.{Shape}
use Rattle.wasm_shapes.specs.Spells.{Spells}
use Rattle.wasm_shapes.specs.Depth.{BeginsAt, BeginsRows, Shallow}
use Rattle.wasm_shapes.specs.Component.{component_declaration, instance_declaration}
use Rattle.reencode_hooks.specs.declared.error.Error.{Error}
use Rattle.reencode_hooks.specs.declared.indices.ReencodeIndices.{Ghosts}
use Rattle.reencode_hooks.specs.Run.{accepted}
use Rattle.reencode_hooks.specs.Walk.{walk}
use Rattle.reencode_items.specs.Streams.{Stops, StreamsAs}
use Rattle.reencode_core.specs.Clauses.{asks}
use Rattle.reencode_component.specs.declared.direct.Scope.{Scope}
use Rattle.reencode_component.specs.declared.direct.Scope.TheVariants as scope

-- what a scope declares
abbrev pub declaration_of : Scope → Shape
declaration_of scope.Component = component_declaration
declaration_of scope.Instance = instance_declaration

-- the byte of a component type or an instance type, and its number among the types
abbrev pub byte_of : Scope → ℕ
byte_of scope.Component = 0x41
byte_of scope.Instance = 0x42

abbrev pub number_of : Scope → ℕ
number_of scope.Component = 3
number_of scope.Instance = 4

-- ---- what stands there

-- so many rows stand there, of which none opens a scope too many
pub record RowsBegin (row : Shape) (n depth : ℕ) (bytes : List ℕ) (rows : Tree) (left : List ℕ) : Type 0 where
  pub begins : BeginsRows row n bytes rows left
  pub shallow : Shallow depth rows

-- a scope of such rows, which stand behind their number
pub record ScopeBegins (row : Shape) (n depth : ℕ) (bytes : List ℕ) (t : Tree) (left : List ℕ) : Type 0 where
  pub rows : Tree
  pub is : t ≡ Tree.scope (Tree.vec rows)
  pub inside : RowsBegin row n depth bytes rows left

-- a component type or an instance type of such declarations
pub record TypeBegins (s : Scope) (n depth : ℕ) (bytes : List ℕ) (t : Tree) (left : List ℕ) : Type 0 where
  pub inner : Tree
  pub is : t ≡ Tree.row (number_of s) (led (byte_of s) inner)
  pub begins : ScopeBegins (declaration_of s) n depth bytes inner left

-- ---- what is made of it

-- the normal spelling of a tree is one of a shape
abbrev pub SpelledAs : Shape → Tree → Type 0
SpelledAs shape t = ∥ Spells shape (normal t) t ∥₁

-- a tree of a shape that stands there is mapped, and one of this shape is appended
abbrev pub StreamsAt : {S E : Type 0} → Ghosts S E → Shape → ℕ → List ℕ → S → List ℕ → S → List ℕ → Result (Option (Bor (List ℕ))) (Error E) → Type 0
StreamsAt i shape depth bytes s old m new result = StreamsAs i (λ t left. BeginsAt shape depth bytes t left) (SpelledAs shape) s old m new result

-- the same of so many rows, one behind another
abbrev pub StreamsRowsAt : {S E : Type 0} → Ghosts S E → Shape → ℕ → ℕ → List ℕ → S → List ℕ → S → List ℕ → Result (Option (Bor (List ℕ))) (Error E) → Type 0
StreamsRowsAt i row n depth bytes s old m new result =
    StreamsAs i (λ t left. RowsBegin row n depth bytes t left) (λ t. SpelledAs (Shape.many row) t × (count t ≡ n)) s old m new result

-- the same of a scope of so many rows, which is appended with their number
abbrev pub StreamsScope : {S E : Type 0} → Ghosts S E → Shape → ℕ → ℕ → List ℕ → S → List ℕ → S → List ℕ → Result (Option (Bor (List ℕ))) (Error E) → Type 0
StreamsScope i row n depth bytes s old m new result =
    StreamsAs i (λ t left. ScopeBegins row n depth bytes t left) (SpelledAs (Shape.scope (Shape.vec row))) s old m new result

-- whatever component type or instance type of such declarations stands there is walked to this tree
abbrev pub ScopeMapped : {S E : Type 0} → Ghosts S E → Scope → ℕ → ℕ → List ℕ → S → Tree → S → Type 0
ScopeMapped i s n depth bytes from made m =
    IsTrue i.keeps_defaults → (t : Tree) (left : List ℕ) → TypeBegins s n depth bytes t left → (c : ℕ) → walk (asks i) c from t ≡ accepted made m

-- whatever stands there so is refused
abbrev pub ScopeRefused : {S E : Type 0} → Ghosts S E → Scope → ℕ → ℕ → List ℕ → S → Error E → S → Type 0
ScopeRefused i s n depth bytes from e m = Stops i (λ t left. TypeBegins s n depth bytes t left) from m e
