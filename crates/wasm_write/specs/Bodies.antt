-- Functions, code sections and constant expressions, as contracts see them (WebAssembly Core Specification 3.0, sections 5.4
-- and 5.5.13).
use Rattle.std.specs.Prelude.{◌≡◌, ℕ, List, [], ◌∷◌, ◌++◌, true, false}
use Rattle.std.specs.Coded.{Coded, Coded-set, code_by, coded×, coded_ℕ}
use Rattle.std.proofs.Common.{refl, sym, ap, ap₂, ◌∙◌}
use mathlib.Core.HLevel.{Σ_prop_path}
use mathlib.Core.Logic.{∥∥₁_elim, ∥∥₁_prop}
use Rattle.wasm_shapes.specs.Tree.{Tree, normal}
use Rattle.wasm_shapes.specs.TreeCode.{trees_code}
use Rattle.wasm_shapes.specs.Shape.{Shape}
use Rattle.wasm_shapes.specs.Module.{body as body_shape}
use Rattle.wasm_shapes.specs.Sound.{sound}
use Rattle.wasm_shapes.specs.Types.{rows_tree, vector_tree, listed, listed_rows}
use Rattle.wasm_shapes.specs.Spells.{Is, Spelled}
use Rattle.wasm_shapes.proofs.Laws.{one_tree}
use Rattle.wasm_types.specs.Types as of
use Rattle.wasm_write.specs.Held.{HeldMany, HeldMany-one, HeldMany-prop}
use Rattle.wasm_write.specs.Types.{ValType, indices}

-- ---- a function

-- its locals, and its operators
pub record Body : Type 0 where
  pub locals : List Tree
  pub operators : List Tree

abbrev pub body_code : Coded Body
body_code = code_by (List Tree × List Tree) (coded× trees_code trees_code) (λ f. (f.locals, f.operators)) (λ p. record { locals = p.0; operators = p.1 }) (λ f. refl)

-- so many locals of a type
abbrev pub local_tree : ℕ × ValType → Tree
local_tree l = of.local_tree indices l

-- the function with one operator more
abbrev pub with_operator : Body → Tree → Body
with_operator f t = record f { operators = f.operators ++ t ∷ [] }

-- the function with these operators more
abbrev pub with_operators : Body → List Tree → Body
with_operators f ts = record f { operators = f.operators ++ ts }

-- operators one behind another, whose normal spelling these bytes are
pub record AreOperators (bytes : List ℕ) (rows : List Tree) : Type 0 where
  pub shaped : Is (Shape.many (Shape.op true)) (rows_tree rows)
  pub spelled : Spelled (rows_tree rows) bytes
  pub normally : normal (rows_tree rows) ≡ bytes

-- there are such operators
abbrev pub HasOperators : List ℕ → Type 0
HasOperators bytes = (rows : List Tree) × AreOperators bytes rows

-- the second function has the operators of these bytes more
abbrev pub GainsOperators : Body → List ℕ → Body → Type 0
GainsOperators old bytes new = (rows : List Tree) → AreOperators bytes rows → new ≡ with_operators old rows

-- the locals behind their number, and the operators
abbrev pub function_body : Body → Tree
function_body f = Tree.pair (vector_tree f.locals) (rows_tree f.operators)

-- the same in its frame, as a row of a code section
abbrev pub code_tree : Body → Tree
code_tree f = Tree.sized (function_body f)

pub body_sound : sound body_shape ≡ true
body_sound = refl

-- a function whose normal spelling these bytes are
pub record IsBody (bytes : List ℕ) (f : Body) : Type 0 where
  pub shaped : Is body_shape (function_body f)
  pub spelled : Spelled (function_body f) bytes
  pub normally : normal (function_body f) ≡ bytes

-- there is a function whose normal spelling these bytes are
abbrev pub HeldBody : List ℕ → Type 0
HeldBody bytes = (f : Body) × ∥ IsBody bytes f ∥₁

abbrev rows_of : Tree → List Tree
rows_of (Tree.vec t) = listed t
rows_of t = listed t

abbrev parts_of : Tree → Body
parts_of (Tree.pair t u) = record { locals = rows_of t; operators = rows_of u }
parts_of t = record { locals = []; operators = [] }

rows_back : (rows : List Tree) → rows_of (rows_tree rows) ≡ rows
rows_back [] = refl
rows_back (t ∷ rows) = ap (λ (z : List Tree). t ∷ z) (listed_rows rows)

parts_back : (f : Body) → parts_of (function_body f) ≡ f
parts_back f = ap₂ (λ (y z : List Tree). record { locals = y; operators = z }) (listed_rows f.locals) (rows_back f.operators)

bodies_are_one : {bytes : List ℕ} {f g : Body} → IsBody bytes f → IsBody bytes g → f ≡ g
bodies_are_one {bytes = bytes} {f = f} {g = g} p q =
    sym (parts_back f) ∙ ap parts_of (one_tree body_shape body_sound bytes (function_body f) (function_body g)
    (record { shaped = p.shaped; spelled = p.spelled }) (record { shaped = q.shaped; spelled = q.spelled })) ∙ parts_back g

module _ (bytes : List ℕ) where
  pub HeldBody-one : (p q : HeldBody bytes) → p.0 ≡ q.0
  HeldBody-one p q =
      ∥∥₁_elim p.1 (Coded-set body_code p.0 q.0) (λ r.
      ∥∥₁_elim q.1 (Coded-set body_code p.0 q.0) (λ s. bodies_are_one r s))

  pub HeldBody-prop : IsProp (HeldBody bytes)
  HeldBody-prop p q = Σ_prop_path (λ f. ∥∥₁_prop) (HeldBody-one p q)

unfoldable pub held_body : (bytes : List ℕ) → HeldBody bytes → Body
held_body bytes h = h.0

-- ---- a code section

-- its ceiling, and its rows
pub record CodeRows : Type 0 where
  pub ceiling : ℕ
  pub rows : List Tree

abbrev pub code_rows_code : Coded CodeRows
code_rows_code = code_by (ℕ × List Tree) (coded× coded_ℕ trees_code) (λ s. (s.ceiling, s.rows)) (λ p. record { ceiling = p.0; rows = p.1 }) (λ s. refl)

-- the section with one row more
abbrev pub with_row : CodeRows → Tree → CodeRows
with_row s t = record s { rows = s.rows ++ t ∷ [] }

-- the second section has the row more whose function these bytes spell
abbrev pub GainsBody : CodeRows → List ℕ → CodeRows → Type 0
GainsBody old bytes new = (f : Body) → IsBody bytes f → new ≡ with_row old (code_tree f)

-- ---- a constant expression

pub expression_sound : sound (Shape.many (Shape.op false)) ≡ true
expression_sound = refl

-- the operators of an expression, whose normal spelling these bytes are
abbrev pub HeldOperators : List ℕ → Type 0
HeldOperators bytes = HeldMany (Shape.op false) bytes

pub HeldOperators-one : (bytes : List ℕ) (p q : HeldOperators bytes) → p.0 ≡ q.0
HeldOperators-one bytes = HeldMany-one (Shape.op false) expression_sound bytes

pub HeldOperators-prop : (bytes : List ℕ) → IsProp (HeldOperators bytes)
HeldOperators-prop bytes = HeldMany-prop (Shape.op false) expression_sound bytes

unfoldable pub held_operators : (bytes : List ℕ) → HeldOperators bytes → List Tree
held_operators bytes h = h.0
