-- What is kept by the tree that a module becomes is kept by the answers that make it.
use Rattle.std.proofs.Common.{◌≡◌, ◌+◌, ◌-◌, ◌<◌, ◌≤◌, ◌^◌, ◌⊎◌, inl, inr, ℕ, List, [], ◌∷◌, ◌++◌, length, take, drop, get_or, get_or-drop, All, None, refl, sym, ap, ap₂, ◌∙◌, subst, append_assoc}
use Rattle.std.proofs.Math.Seq.{take-append_seam}
use Rattle.std.proofs.lemmas.List.{append_cancel_left}
use Rattle.std.proofs.lemmas.List.Elements.{All-cons, All-head, All-tail, All-nil}
use Rattle.wasm_leb.proofs.Unique.{unsigned_unique}
use Rattle.wasm_shapes.specs.declared.SectionId.TheVariants as id
use Rattle.wasm_shapes.specs.Tree.{Tree, after, past, before, behind, fill, frames, normal, visits}
use Rattle.wasm_shapes.specs.Shape.{Shape}
use Rattle.wasm_shapes.specs.Spells.{Is, Spelled}
use Rattle.wasm_shapes.specs.Fits.{Fits}
use Rattle.wasm_shapes.specs.Module.{alsos, body, code_row, core_tree, tree_of}
use Rattle.wasm_shapes.specs.Types.{rows_tree, vector_tree}
use Rattle.reencode_core.specs.Pieces.{Range}
use Rattle.reencode_core.specs.Sinks.{InCode, KeepsBody, KeepsFrames, KeepsSections, NotCode}
use Rattle.reencode_core.specs.Kept.{IsKept, KeepsIf, KeptBodies, KeptInCode, KeptSections}
use Rattle.reencode_core.specs.Kept as statements
use Rattle.reencode_core.proofs.kept_pieces.KeptLaws.{spelling_is_kept}

abbrev Small : List ℕ → Type 0
Small answers = (k : ℕ) → get_or answers k 0 < 2 ^ 32

abbrev Short : Tree → Type 0
Short t = Fits t (2 ^ 32 - 1)

-- the front of two lists that are one, of one length
same_front : (w z bytes rest : List ℕ) → length w ≡ length bytes → w ++ z ≡ bytes ++ rest → (w ≡ bytes) × (z ≡ rest)
same_front w z bytes rest n e =
    let front : w ≡ bytes = sym (take-append_seam w z) ∙ ap₂ (λ (k : ℕ) (x : List ℕ). take k x) n e ∙ take-append_seam bytes rest in
    (front, append_cancel_left bytes z rest (ap (λ (x : List ℕ). x ++ z) (sym front) ∙ e))

drop_small : (n : ℕ) (answers : List ℕ) → Small answers → Small (drop n answers)
drop_small n answers small k = rw get_or-drop (small (n + k))

fits_parts : (xs ys : List ℕ) → All (λ n. n ≤ 2 ^ 32 - 1) (xs ++ ys) → All (λ n. n ≤ 2 ^ 32 - 1) xs × All (λ n. n ≤ 2 ^ 32 - 1) ys
fits_parts [] ys h = (All-nil (λ n. n ≤ 2 ^ 32 - 1), h)
fits_parts (x ∷ xs) ys h =
    let rest = fits_parts xs ys (All-tail (λ n. n ≤ 2 ^ 32 - 1) x (xs ++ ys) h) in
    (All-cons (λ n. n ≤ 2 ^ 32 - 1) x xs (All-head (λ n. n ≤ 2 ^ 32 - 1) x (xs ++ ys) h) rest.0, rest.1)

-- ---- bodies

bodies_kept : (rows : Tree) (made : List Tree) (at : ℕ) (text answers : List ℕ) (old new : List Range) → Is (Shape.many code_row) rows → Spelled rows text → Small answers →
    fill rows answers ≡ rows_tree made → Short (rows_tree made) → KeepsFrames at text made old new → KeptBodies at text rows answers old new
bodies_kept all [] at text answers old new Is.nil s small e fits k = k
bodies_kept all (v ∷ made) at text answers old new Is.nil s small e fits k = absurd cc
bodies_kept all [] at text answers old new (Is.cons d d') s small e fits k = absurd cc
bodies_kept all (v ∷ made) at text answers old new (Is.cons {u = ts} (Is.sized {t = b} d) d') s small e fits k =
    let first : Tree.sized (fill b answers) ≡ v = cc in
    let others : fill ts (after (Tree.sized b) answers) ≡ rows_tree made = cc in
    let u_is : Tree.sized (fill b answers) ≡ Tree.sized k.3 = first ∙ k.5 in
    let inside : fill b answers ≡ k.3 = cc in
    let p = s.3 in
    let both : p.0 ++ (p.1 ++ s.1) ≡ k.0 ++ (k.1 ++ k.2) = sym (append_assoc p.0 p.1 s.1) ∙ ap (λ (z : List ℕ). z ++ s.1) (sym p.2) ∙ sym s.2 ∙ k.6 in
    let numbers = unsigned_unique (p.1 ++ s.1) (k.1 ++ k.2) p.3 k.7 both in
    let behind : p.1 ++ s.1 ≡ k.1 ++ k.2 = append_cancel_left k.0 (p.1 ++ s.1) (k.1 ++ k.2) (ap (λ (z : List ℕ). z ++ (p.1 ++ s.1)) (sym numbers.0) ∙ both) in
    let parts = same_front p.1 s.1 k.1 k.2 numbers.1 behind in
    let B : List ℕ → Type 0 = λ z. Spelled b z in
    let spelled : B k.1 = subst B parts.0 p.4 in
    let R : List ℕ → Type 0 = λ z. Spelled ts z in
    let v_is : v ≡ Tree.sized (fill b answers) = sym first in
    let F : Tree → Type 0 = λ z. All (λ n. n ≤ 2 ^ 32 - 1) (frames z ++ frames (rows_tree made)) in
    let all : F (Tree.sized (fill b answers)) = subst F v_is fits in
    let halves = fits_parts (frames (fill b answers) ++ (length (normal (fill b answers)) ∷ [])) (frames (rows_tree made)) all in
    let short : Short (fill b answers) = (fits_parts (frames (fill b answers)) (length (normal (fill b answers)) ∷ []) halves.0).0 in
    let rest_short : Short (rows_tree made) = halves.1 in
    let law = spelling_is_kept body k.1 b answers refl (record { shaped = d; spelled = spelled }) small short in (
      k.0,
      k.1,
      k.2,
      b,
      k.4,
      refl,
      k.6,
      k.7,
      spelled,
      keeps k.3 k.1 b answers _ old k.4 inside law.0 law.1 k.8,
      bodies_kept ts made (at + length k.0 + length k.1) k.2 (after (Tree.sized b) answers) k.4 new d' (subst R parts.1 s.4) (drop_small (length (visits b)) answers small) others rest_short k.9,
    )
  where
    keeps : (u : Tree) (bytes : List ℕ) (b : Tree) (answers : List ℕ) (r : Range) (old mid : List Range) → fill b answers ≡ u → (normal (fill b answers) ≡ bytes → IsKept bytes b answers) →
        (IsKept bytes b answers → normal (fill b answers) ≡ bytes) → KeepsBody (normal u) bytes r old mid → KeepsIf (IsKept bytes b answers) r old mid
    keeps u bytes b answers r old mid e forth back (inl h) = inl (forth (ap normal e ∙ h.0), h.1)
    keeps u bytes b answers r old mid e forth back (inr h) = inr ((λ k. h.0 (ap normal (sym e) ∙ back k)), h.1)

-- ---- a code section

code_kept : (at : ℕ) (x : List ℕ) (t u : Tree) (answers : List ℕ) (old new : List Range) → Small answers → fill t answers ≡ u → Short u → InCode at x t u old new → KeptInCode at x t answers old new
code_kept at x t u answers old new small e fits c = go c.body c.reads.shaped c.reads.spelled c.is
  where
    go : (b : Tree) → Is (Shape.vec code_row) b → Spelled b (c.count ++ c.text) → t ≡ tree_of id.Code b → KeptInCode at x t answers old new
    go b (Is.vec {t = rows} d) s is =
        let both : s.0 ++ s.1 ≡ c.count ++ c.text = sym s.2 in
        let numbers = unsigned_unique s.1 c.text s.3 c.counted.1 both in
        let text : s.1 ≡ c.text = append_cancel_left c.count s.1 c.text (ap (λ (z : List ℕ). z ++ s.1) (sym numbers.0) ∙ both) in
        let R : List ℕ → Type 0 = λ z. Spelled rows z in
        let filled : tree_of id.Code (Tree.vec (fill rows answers)) ≡ tree_of id.Code (vector_tree c.made) = ap (λ (z : Tree). fill z answers) (sym is) ∙ e ∙ c.becomes in
        let rows_is : fill rows answers ≡ rows_tree c.made = cc in
        let F : Tree → Type 0 = λ z. Short z in
        let whole : Short (tree_of id.Code (vector_tree c.made)) = subst F c.becomes fits in
        let rows_short : Short (rows_tree c.made) = (fits_parts (frames (rows_tree c.made)) (length (normal (vector_tree c.made)) ∷ []) (fits_parts [] _ whole).1).0 in
        record {
          head = c.head;
          count = c.count;
          text = c.text;
          rows = rows;
          is = is;
          parts = c.parts;
          framed = c.framed;
          counted = c.counted;
          ranges = c.ranges;
          inside = bodies_kept rows c.made (at + length c.head + length c.count) c.text answers [] c.ranges d (subst R text s.4) small rows_is rows_short c.inside;
          kept = c.kept;
        }

-- ---- sections

sections_kept : (ts us : List Tree) (at : ℕ) (x answers : List ℕ) (old new : List Range) → Small answers → fill (alsos ts Tree.finish) answers ≡ alsos us Tree.finish → Short (alsos us Tree.finish) →
    KeepsSections at x ts us old new → KeptSections at x ts answers old new
sections_kept [] [] at x answers old new small e fits k = k
sections_kept [] (u ∷ us) at x answers old new small e fits k = absurd k
sections_kept (t ∷ ts) [] at x answers old new small e fits k = absurd k
sections_kept (t ∷ ts) (u ∷ us) at x answers old new small e fits k =
    let own : List ℕ = drop (length (before None t)) answers in
    let own_small = drop_small (length (before None t)) answers small in
    let first : fill t own ≡ u = cc in
    let others : fill (alsos ts Tree.finish) (past t own) ≡ alsos us Tree.finish = cc in
    let halves = fits_parts (frames u) (frames (alsos us Tree.finish)) fits in (
      k.0,
      k.1,
      k.2,
      k.3,
      k.4,
      one at k.0 t u own old k.2 own_small first halves.0 k.5,
      sections_kept ts us (at + length k.0) k.1 (past t own) k.2 new (drop_small (length (behind t)) (after t own) (drop_small (length (visits t)) own own_small)) others halves.1 k.6,
    )
  where
    one : (at : ℕ) (x : List ℕ) (t u : Tree) (own : List ℕ) (old mid : List Range) → Small own → fill t own ≡ u → Short u → InCode at x t u old mid ⊎ (NotCode t × (mid ≡ old)) →
        KeptInCode at x t own old mid ⊎ (NotCode t × (mid ≡ old))
    one at x t u own old mid small e fits (inl c) = inl (code_kept at x t u own old mid small e fits c)
    one at x t u own old mid small e fits (inr q) = inr q

pub kept_is_answered : statements.KeptIsAnswered
kept_is_answered bytes t answers ranges small fits k =
    let filled : core_tree (fill (alsos k.read Tree.finish) answers) ≡ core_tree (alsos k.made Tree.finish) = ap (λ (z : Tree). fill z answers) (sym k.is) ∙ k.becomes in
    let inside : fill (alsos k.read Tree.finish) answers ≡ alsos k.made Tree.finish = cc in
    let F : Tree → Type 0 = λ z. Short z in
    let short : Short (core_tree (alsos k.made Tree.finish)) = subst F k.becomes fits in
    record {
      read = k.read;
      rest = k.rest;
      stands = k.stands;
      is = k.is;
      kept = sections_kept k.read k.made 8 k.rest answers [] ranges small inside short k.kept;
    }
