use Rattle.std.proofs.Common.{◌≡◌, ℕ, List, ◌++◌, length, drop, ap, sym, ◌∙◌}
use Rattle.wasm_leb.specs.Leb.{leb}
use Rattle.wasm_shapes.specs.Tree.{normal}
use Rattle.wasm_shapes.specs.Types.{vector_tree}
use Rattle.wasm_write.proofs.Holding.{all_taken, behind_number, held_normal}
use Rattle.wasm_write.proofs.row_section.RowSection.move_to.Goals as goal

pub returns-then-len-front-clause-ok : goal.returns-then-len-front-clause-ok
returns-then-len-front-clause-ok g c =
    let rows = drop c.self.inside.front c.self.inside.bytes.items in
    let made = c.put_in_front.new.bytes in
    let head = c.deref.result.now in
    let body : normal (vector_tree c.args.self) ≡ leb c.self.inside.count ++ rows = rw (← c.self.view_is) (held_normal c.self.inside.held) in
    let here : length head ≡ c.self.inside.front = c.deref.ensures.len ∙ sym c.len.ensures ∙ c.if-len-front.true in
    let whole : made ≡ c.write_u32.new.out.items ++ rows =
    c.put_in_front.ensures ∙ ap (λ (n : ℕ). head ++ drop n c.as_mut_slice.result.now) here ∙ ap (λ (z : List ℕ). head ++ drop c.self.inside.front z) c.as_mut_slice.ensures.value
    ∙ ap (λ (z : List ℕ). z ++ rows) c.deref.ensures.value in
    all_taken made _ (c.put_in_front.auto.bytes ∙ c.as_mut_slice.ensures.len) ∙ behind_number c.args.out.now.items (leb c.self.inside.count) rows c.in-Ok.ensures.ok whole body

pub returns-in-Ok-extend_from_slice-clause-ok : goal.returns-in-Ok-extend_from_slice-clause-ok
returns-in-Ok-extend_from_slice-clause-ok g c =
    let rows = drop c.self.inside.front c.self.inside.bytes.items in
    let body : normal (vector_tree c.args.self) ≡ leb c.self.inside.count ++ rows = rw (← c.self.view_is) (held_normal c.self.inside.held) in
    let added : c.extend_from_slice.new.self.items ≡ c.write_u32.new.out.items ++ rows =
    c.in-Ok-extend_from_slice.ensures.items ∙ ap (λ (z : List ℕ). c.write_u32.new.out.items ++ z) (c.behind.ensures ∙ ap (drop c.self.inside.front) c.deref-2.ensures.value) in
    behind_number c.args.out.now.items (leb c.self.inside.count) rows c.in-Ok.ensures.ok added body
