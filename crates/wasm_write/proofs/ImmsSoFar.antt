-- Immediates that are written one behind another.
use Rattle.std.proofs.Common.{◌≡◌, ◌≤◌, ℕ, List, ◌++◌, length, drop, sym, ◌∙◌, append-nil, subst}
use Rattle.std.proofs.Math.ListN.{drop_of_length-le}
use Rattle.wasm_shapes.specs.Tree.{normal}
use Rattle.wasm_shapes.specs.Fits.{InRange}
use Rattle.wasm_write.specs.Instructions.{Imm, imms_tree}

-- some immediates are left; these and what is written are all, and if these are in range, all are
pub record ImmsSoFar (left all : List Imm) (start out : List ℕ) : Type 0 where
  pub written : out ++ normal (imms_tree left) ≡ start ++ normal (imms_tree all)
  pub in_range : InRange (imms_tree left) → InRange (imms_tree all)

module _ (imms : List Imm) {i : ℕ} {out start : List ℕ} (past : length imms ≤ i) (done : ImmsSoFar (drop i imms) imms start out) where
  pub imms_written : out ≡ start ++ normal (imms_tree imms)
  imms_written =
      let P : List Imm → Type 0 = λ z. out ++ normal (imms_tree z) ≡ start ++ normal (imms_tree imms) in
      sym (append-nil out) ∙ subst P (drop_of_length-le imms past) done.written

  pub imms_in_range : InRange (imms_tree imms)
  imms_in_range =
      let P : List Imm → Type 0 = λ z. InRange (imms_tree z) → InRange (imms_tree imms) in
      subst P (drop_of_length-le imms past) done.in_range tt
