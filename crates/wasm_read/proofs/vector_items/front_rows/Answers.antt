use Rattle.std.proofs.Common.{◌≡◌, suc, ◌-◌, [], ◌∷◌, ◌++◌, map, length, arith, length-append}
use Rattle.std.proofs.lemmas.List.{map-append}
use Rattle.wasm_read.proofs.Vectors.{items_more, items_stuck, vec_read, none_vec}
use Rattle.wasm_read.proofs.RowsBeside.{beside_more}
use Rattle.wasm_read.proofs.vector_items.front_rows.Goals as goal

pub entries-preserved : goal.entries-preserved
entries-preserved g c =
    let some = rw c.in-Ok-Some.field-0-is at c.in-Ok-Some.ensures.some in
    let pushed : c.push.new.self ≡ c.entries.entries ++ c.in-Ok-Some.entry ∷ [] = c.in-Ok-push.ensures.ok in
    let before = c.entries.entries in
    let more : c.entries.left ≡ suc (c.entries.left - 1) = omega arith in
    let so_far =
    items_more (map g.K.ReadRow.tree before) g.K.RowKind.is_sound g.K.RowKind.is_closed more some c.entries.invariant.0 in
    let counted = c.entries.invariant.1 in
    let long = length-append before (c.in-Ok-Some.entry ∷ []) in
    let said = rw c.in-Ok-Some.field-0-is at c.in-Ok-Some.ensures.beside in
    let behind = beside_more g.K.RowKind.shape g.K.ReadRow.tree g.K.ReadRow.beside _ before c.in-Ok-Some.entry c.entries.invariant.2 some said in
    rw (pushed, map-append g.K.ReadRow.tree before (c.in-Ok-Some.entry ∷ [])) (so_far, omega arith, behind)

pub returns-in-Ok-None-clause-none : goal.returns-in-Ok-None-clause-none
returns-in-Ok-None-clause-none g c =
    let none = rw c.in-Ok-None.field-0-is at c.in-Ok-None.ensures.none in
    let more : c.entries.left ≡ suc (c.entries.left - 1) = omega arith in
    none_vec c.in-Some.ensures.some (items_stuck more none c.entries.invariant.0)

pub returns-clause-some : goal.returns-clause-some
returns-clause-some g c =
    let ended : c.entries.left ≡ 0 = omega arith in
    vec_read c.in-Some.ensures.some ended c.entries.invariant.0

pub returns-clause-beside : goal.returns-clause-beside
returns-clause-beside g c =
    let ended : c.entries.left ≡ 0 = omega arith in
    let counted = c.entries.invariant.1 in
    let all : length c.entries.entries ≡ c.in-Some.count = omega arith in
    (_, rw all c.in-Some.ensures.some, c.entries.invariant.2)
