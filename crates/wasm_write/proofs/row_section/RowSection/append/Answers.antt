use Rattle.std.proofs.Common.{◌++◌, ◌∷◌, [], ap, drop, sym, take, ◌∙◌, arith}
use Rattle.wasm_shapes.specs.Tree.{normal}
use Rattle.wasm_write.proofs.Holding.{all_taken, behind_grown, held_length, held_grown, held_grown_is, held_same_is, room_grown}
use Rattle.wasm_write.proofs.row_section.RowSection.append.Goals as goal

pub returns-then-self-clause-ok : goal.returns-then-self-clause-ok
returns-then-self-clause-ok g c =
    let h = c.in-Ok.ensures.ok in
    let n = held_length c.self.inside.held in
    let same = c.truncate.ensures.items ∙ ap (take c.len-len.result) h.1 ∙ all_taken _ (normal h.0) (sym (c.len-len.ensures ∙ c.self.inside.bytes.ok.0)) in
    (h.0, h.3, held_same_is c.self.inside.held g.K.RowKind.rows_sound _ (ap (drop c.self.inside.front) same) ∙ c.self.view_is, rw (← c.self.view_is) (omega (arith, n)))

pub invariant_of-self-inside-in-Ok : goal.invariant_of-self-inside-in-Ok
invariant_of-self-inside-in-Ok g c =
    let h = c.in-Ok.ensures.ok in
    let grown = behind_grown _ _ c.self.inside.room h.1 in
    (room_grown _ _ c.self.inside.room h.1, (held_grown c.self.inside.held h.0 grown h.2, tt))

pub returns-else-self-clause-ok : goal.returns-else-self-clause-ok
returns-else-self-clause-ok g c =
    let h = c.in-Ok.ensures.ok in
    let n = held_length c.self.inside.held in
    let grown = behind_grown _ _ c.self.inside.room h.1 in
    (h.0, h.3, held_grown_is c.self.inside.held h.0 g.K.RowKind.rows_sound _ grown h.2 ∙ ap (λ l. l ++ h.0 ∷ []) c.self.view_is, rw (← c.self.view_is) (omega (arith, n)))

pub returns-in-Err-clause-err : goal.returns-in-Err-clause-err
returns-in-Err-clause-err g c =
    let same = c.truncate-in-Err.ensures.items ∙ rw c.len-len.ensures c.in-Err.ensures.err in
    held_same_is c.self.inside.held g.K.RowKind.rows_sound _ (ap (drop c.self.inside.front) same) ∙ c.self.view_is
