-- Operators in some bytes.
use Rattle.std.specs.Prelude.{◌≡◌, ℕ, List, [], ◌∷◌, ◌++◌, drop, Bool, true}
use Rattle.wasm_shapes.specs.declared.ImmKind.{ImmKind}
use Rattle.wasm_shapes.specs.declared.ImmKind.TheVariants as kind
use Rattle.wasm_shapes.specs.Operators.{Code, is_code}
use Rattle.wasm_shapes.specs.Spells.{SpelledCode}
use Rattle.wasm_shapes.specs.Shape.{Shape}
use Rattle.wasm_shapes.specs.Tree.{Tree}
use Rattle.wasm_read.specs.declared.types.FunctionBody.{FunctionBody}
use Rattle.wasm_read.specs.Immediates.{is_core}

-- the bytes begin with a spelling of an operator's number, and these are left behind it
pub record BeginsCode (bytes : List ℕ) (code : Code) (left : List ℕ) : Type 0 where
  pub text : List ℕ
  pub valid : is_code code ≡ true
  pub spelled : SpelledCode code text
  pub reads : bytes ≡ text ++ left

-- they begin with no such number
pub record BeginsNoCode (bytes : List ℕ) : Type 0 where
  pub none : (text left : List ℕ) (code : Code) → is_code code ≡ true → SpelledCode code text → bytes ≡ text ++ left → ⊥

-- the kinds of the immediates of core modules
abbrev pub is_core_kind : ImmKind → Bool
is_core_kind (kind.Index s) = is_core s
is_core_kind _ = true

-- each of these kinds is one of core modules
abbrev pub AreCore : List ImmKind → Type 0
AreCore [] = Unit {0}
AreCore (k ∷ ks) = (is_core_kind k ≡ true) × AreCore ks

-- where a reader of operators stands: all its bytes, and a place in them
pub record Reading : Type 0 where
  pub bytes : List ℕ
  pub at : ℕ

-- the bytes from the place on
abbrev pub rest_of : Reading → List ℕ
rest_of reader = drop reader.at reader.bytes

-- ---- bodies

-- the frame of a function's body
abbrev pub frame_row : Shape
frame_row = Shape.sized Shape.rest

-- the frame, of whose contents nothing is said
abbrev pub body_tree : FunctionBody → Tree
body_tree body = Tree.sized (Tree.raw body.bytes.now)
