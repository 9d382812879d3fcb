-- Constant expressions, as contracts see them (WebAssembly Core Specification 3.0, section 5.4.13).
use Rattle.std.specs.Prelude.{◌≡◌, ℕ, List, []}
use Rattle.std.specs.Coded.{Coded, Coded-set, code_by, coded×, coded_list, coded_ℕ}
use Rattle.std.proofs.Common.{refl, sym, ap, ◌∙◌}
use mathlib.Core.HLevel.{Σ_prop_path}
use mathlib.Core.Logic.{∥∥₁_elim, ∥∥₁_prop}
use Rattle.wasm_shapes.specs.Tree.{Tree}
use Rattle.wasm_shapes.specs.TreeCode.{trees_code}
use Rattle.wasm_shapes.specs.Shape.{Shape, Named}
use Rattle.wasm_shapes.specs.Spells.{Spells}
use Rattle.wasm_shapes.specs.Types.{listed, listed_rows, expression_of}
use Rattle.wasm_shapes.proofs.Laws.{one_tree}

-- its bytes, `end` among them, and the operators that they spell
pub record Expression : Type 0 where
  pub bytes : List ℕ
  pub operators : List Tree

abbrev pub expression_code : Coded Expression
expression_code = code_by (List ℕ × List Tree) (coded× (coded_list coded_ℕ) trees_code) (λ e. (e.bytes, e.operators)) (λ p. record { bytes = p.0; operators = p.1 }) (λ e. refl)

-- the tree that it stands for
abbrev pub expr_tree : Expression → Tree
expr_tree e = expression_of e.operators

-- the bytes are an expression of these operators
abbrev pub SpellsExpression : List ℕ → Tree → Type 0
SpellsExpression bytes t = Spells (Shape.ref Named.expression) bytes t

-- they are none
abbrev pub NoExpression : List ℕ → Type 0
NoExpression bytes = (t : Tree) → SpellsExpression bytes t → ⊥

-- there are such operators
abbrev pub HeldExpression : List ℕ → Type 0
HeldExpression bytes = (operators : List Tree) × ∥ SpellsExpression bytes (expression_of operators) ∥₁

-- they are one list
abbrev operators_in : Tree → List Tree
operators_in (Tree.until b t) = listed t
operators_in _ = []

operators_are_one : {bytes : List ℕ} {xs ys : List Tree} → SpellsExpression bytes (expression_of xs) → SpellsExpression bytes (expression_of ys) → xs ≡ ys
operators_are_one {bytes = bytes} {xs = xs} {ys = ys} p q =
    sym (listed_rows xs) ∙ ap operators_in (one_tree (Shape.ref Named.expression) refl bytes (expression_of xs) (expression_of ys) p q) ∙ listed_rows ys

module _ (bytes : List ℕ) where
  pub HeldExpression-one : (p q : HeldExpression bytes) → p.0 ≡ q.0
  HeldExpression-one p q =
      ∥∥₁_elim p.1 (Coded-set trees_code p.0 q.0) (λ r.
      ∥∥₁_elim q.1 (Coded-set trees_code p.0 q.0) (λ s. operators_are_one r s))

  pub HeldExpression-prop : IsProp (HeldExpression bytes)
  HeldExpression-prop p q = Σ_prop_path (λ operators. ∥∥₁_prop) (HeldExpression-one p q)

unfoldable pub held_expression : (bytes : List ℕ) → HeldExpression bytes → List Tree
held_expression bytes h = h.0
