use Rattle.std.proofs.Common.{◌≡◌, suc, [], ◌∷◌, ◌++◌, ◌-◌, arith, refl}
use Rattle.wasm_shapes.specs.Tree.{Tree}
use Rattle.wasm_shapes.specs.Rows.{rows_then}
use Rattle.wasm_read.proofs.Vectors.{items_none, items_more, items_stuck, vec_read, none_vec}
use Rattle.wasm_read.proofs.behind_groups.behind_sub_types.Goals as goal

pub types-init : goal.types-init
types-init c = ([], items_none _ _ _)

pub types-preserved : goal.types-preserved
types-preserved c =
    let more : c.types.left ≡ suc (c.types.left - 1) = omega arith in
    let some = c.in-Some-behind_sub_type.ensures.some in
    (c.types.invariant.0 ++ some.0 ∷ [], items_more c.types.invariant.0 refl refl more some.1 c.types.invariant.1)

pub returns-in-None-clause-none : goal.returns-in-None-clause-none
returns-in-None-clause-none c =
    let more : c.types.left ≡ suc (c.types.left - 1) = omega arith in
    none_vec c.in-Some.ensures.some (items_stuck more c.in-None.ensures.none c.types.invariant.1)

pub returns-clause-some : goal.returns-clause-some
returns-clause-some c =
    let ended : c.types.left ≡ 0 = omega arith in
    (Tree.vec (rows_then c.types.invariant.0 Tree.nil), vec_read c.in-Some.ensures.some ended c.types.invariant.1)
