use Rattle.std.proofs.Common.{◌≡◌, ◌-◌, suc, List, [], ◌∷◌, ◌++◌, ℕ, sym, ap, subst, arith}
use Rattle.wasm_shapes.specs.Module.{row_of}
use Rattle.module_spaces.specs.Texts.{pieces}
use Rattle.module_spaces.proofs.Pieces.{cut_begins, cut_more, not_past, piece_more}
use Rattle.module_spaces.proofs.Texts.{TextsSoFar, texts_begin, texts_more, texts_done}
use Rattle.module_spaces.proofs.arranged.row_bounds.Goals as goal

pub rows-init : goal.rows-init
rows-init c =
    let start = c.in-Some.start.now in
    let P : List (List ℕ) → Type 0 = λ z. TextsSoFar (row_of c.args.kind) c.args.body.now z c.in-Some.count start in
    let none : pieces start c.in-Some-first_bound.begun.items ≡ [] = ap (pieces start) c.in-Some-first_bound.ensures in
    (cut_begins start c.in-Some-first_bound.begun.items c.in-Some-first_bound.ensures, subst P (sym none) (texts_begin c.in-Some.ensures.some))

pub overflow_sub-start : goal.overflow_sub-start
overflow_sub-start c = not_past c.rows.invariant.0 c.in-Some-front_text.field-0-0.now c.in-Some-front_text.behind.now c.in-Some-front_text.ensures.cut

pub rows-preserved : goal.rows-preserved
rows-preserved c =
    let start = c.in-Some.start.now in
    let left = c.in-Some-front_text.behind.now in
    let more : c.rows.left ≡ suc (c.rows.left - 1) = omega arith in
    let P : List (List ℕ) → Type 0 = λ z. TextsSoFar (row_of c.args.kind) c.args.body.now z (c.rows.left - 1) left in
    let cut = c.in-Some-front_text.ensures.cut in
    let text = c.in-Some-front_text.field-0-0.now in
    let bound = c.in-Ok.ensures.1 in
    let one : pieces start (c.rows.bounds.items ++ c.in-Ok.bound ∷ []) ≡ pieces start c.rows.bounds.items ++ text ∷ [] = piece_more c.rows.invariant.0 text left cut c.in-Ok.bound bound in
    rw c.in-Ok-push.ensures.items (cut_more c.rows.invariant.0 text left cut c.in-Ok.bound bound, subst P (sym one) (texts_more more c.in-Some-front_text.ensures.front c.rows.invariant.1))

pub returns : goal.returns
returns c = texts_done (omega arith) c.rows.invariant.1
