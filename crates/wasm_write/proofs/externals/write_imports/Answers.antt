use Rattle.std.proofs.Common.{◌≡◌, ℕ, List, [], ◌∷◌, ◌++◌, length, map, sym, ap, ◌∙◌, append_assoc, arith}
use Rattle.wasm_leb.specs.Leb.{leb}
use Rattle.wasm_shapes.specs.Tree.{Tree, normal}
use Rattle.wasm_shapes.specs.Types.{vector_tree}
use Rattle.wasm_write.specs.Counts.{counts}
use Rattle.wasm_write.specs.Rows.{compact_tree, name_tree}
use Rattle.wasm_write.specs.Types.{entity_tree}
use Rattle.wasm_write.proofs.Items.{large_right}
use Rattle.wasm_write.proofs.ShortNumbers.{one_byte}
use Rattle.wasm_write.proofs.externals.write_imports.Goals as goal

-- a name, an empty name and a byte, and what stands behind them
behind_unnamed : (old name : List ℕ) (b : ℕ) (behind mid : List ℕ) {new : List ℕ} → mid ≡ old ++ (name ++ (0 ∷ b ∷ [])) → new ≡ mid ++ behind →
    new ≡ old ++ (name ++ ((leb 0 ++ []) ++ (b ∷ behind)))
behind_unnamed old name b behind mid p q =
    q ∙ ap (λ (z : List ℕ). z ++ behind) p ∙ append_assoc old (name ++ (0 ∷ b ∷ [])) behind ∙ ap (λ (z : List ℕ). old ++ z) (append_assoc name (0 ∷ b ∷ []) behind)
    ∙ ap (λ (z : List ℕ). old ++ (name ++ ((z ++ []) ++ (b ∷ behind)))) (sym (one_byte 0 (omega arith)))

pub returns-in-Ok-write_vec-clause-ok : goal.returns-in-Ok-write_vec-clause-ok
returns-in-Ok-write_vec-clause-ok c =
    let from = c.in-Compact1.module.now in
    rw (c.in-Compact1.is, ← c.as_slice.ensures)
    (behind_unnamed c.args.out.now.items (normal (Tree.name from)) 127 (normal (vector_tree (map compact_tree c.as_slice.result.now))) _
    c.in-Ok.ensures.ok c.in-Ok-write_vec.ensures.ok)

pub returns-in-Err-write_vec-clause-large : goal.returns-in-Err-write_vec-clause-large
returns-in-Err-write_vec-clause-large c =
    let from = c.in-Compact1.module.now in
    rw (c.in-Compact1.is, ← c.as_slice.ensures)
    (large_right c.in-Err-write_vec.fault (length from ∷ 0 ∷ []) (counts (vector_tree (map compact_tree c.as_slice.result.now))) c.in-Err-write_vec.ensures.large)

pub returns-in-Ok-write_vec-2-clause-ok : goal.returns-in-Ok-write_vec-2-clause-ok
returns-in-Ok-write_vec-2-clause-ok c =
    let from = c.in-Compact2.module.now in
    let ty = normal (entity_tree c.in-Compact2.ty) in
    let names = normal (vector_tree (map name_tree c.as_slice-in-Compact2.result.now)) in
    rw (c.in-Compact2.is, ← c.as_slice-in-Compact2.ensures)
    (behind_unnamed c.args.out.now.items (normal (Tree.name from)) 126 (ty ++ names) _
    c.in-Ok-write_unnamed.ensures.ok
    (c.in-Ok-write_vec-2.ensures.ok ∙ ap (λ (z : List ℕ). z ++ names) c.in-Ok-write_entity_type.ensures.ok ∙ append_assoc _ ty names))

pub returns-in-Err-write_vec-2-clause-large : goal.returns-in-Err-write_vec-2-clause-large
returns-in-Err-write_vec-2-clause-large c =
    let from = c.in-Compact2.module.now in
    rw (c.in-Compact2.is, ← c.as_slice-in-Compact2.ensures)
    (large_right c.in-Err-write_vec-2.fault (length from ∷ 0 ∷ counts (entity_tree c.in-Compact2.ty)) (counts (vector_tree (map name_tree c.as_slice-in-Compact2.result.now)))
    c.in-Err-write_vec-2.ensures.large)
