-- The laws of `specs/SectionLaws.antt`.
use Rattle.std.proofs.Common.{◌≡◌, ℕ, ◌≤◌, List, [], ◌∷◌, ◌++◌, refl, sym, ap, ◌∙◌, subst, inl, arith}
use Rattle.std.proofs.lemmas.List.{append_cancel_left}
use Rattle.wasm_shapes.specs.declared.SectionId.{SectionId}
use Rattle.wasm_shapes.specs.Tree.{Tree}
use Rattle.wasm_shapes.specs.Shape.{Shape}
use Rattle.wasm_shapes.specs.Spells.{Is, Spelled, Spells}
use Rattle.wasm_shapes.specs.Place.{Begins, BeginsNone}
use Rattle.wasm_shapes.specs.Module.{in_force, section, sections, custom, body_of, tree_of, custom_tree_of, unknown_tree_of, frame, numbered_frame, InFrame}
use Rattle.wasm_shapes.specs.SectionLaws as statements
use Rattle.wasm_shapes.specs.SectionLaws.{SpellsSized}
use Rattle.wasm_shapes.proofs.Unique.{unique}
use Rattle.wasm_shapes.proofs.Begins.{none_at_end}
use Rattle.wasm_shapes.proofs.SectionTable.{in_frame, of_frame, kind_in_frame, custom_in_frame, unknown_in_frame, none_section, same_kind, row_shaped, custom_is, custom_row}

-- ---- sections and their frames

framed_forth : (bytes left : List ℕ) (f t : Tree) → Begins frame bytes f left → Spells sections bytes t → (u v : Tree) × (t ≡ Tree.also u v) × InFrame u f × Spells sections left v
framed_forth bytes left f t there p = go t p.shaped p.spelled
  where
    go : (t : Tree) → Is sections t → Spelled t bytes → (u v : Tree) × (t ≡ Tree.also u v) × InFrame u f × Spells sections left v
    go t Is.finish empty =
        let none : BeginsNone frame [] = none_at_end refl in
        absurd (none.none there.text left f there.spells (sym empty ∙ there.reads))
    go t (Is.also {t = u} {u = v} d d') p =
        let g = in_frame u p.0 d p.3 in
        let both_ways : there.text ++ left ≡ p.0 ++ p.1 = sym there.reads ∙ p.2 in
        let same : (there.text ≡ p.0) × (f ≡ g.0) = unique there.spells.shaped g.2.shaped there.text p.0 left p.1 refl (inl refl) there.spells.spelled g.2.spelled both_ways in
        let shifted : p.0 ++ left ≡ p.0 ++ p.1 = ap (λ (z : List ℕ). z ++ left) (sym same.0) ∙ both_ways in
        let behind : left ≡ p.1 = append_cancel_left p.0 left p.1 shifted in
        let F : Tree → Type 0 = λ z. InFrame u z in
        let L : List ℕ → Type 0 = λ z. Spelled v z in
        (u, v, refl, subst F (sym same.1) g.1, record { shaped = d'; spelled = subst L (sym behind) p.4 })

framed_back : (bytes left : List ℕ) (f u v : Tree) → Begins frame bytes f left → InFrame u f → Spells sections left v → Spells sections bytes (Tree.also u v)
framed_back bytes left f u v there i others =
    let p = of_frame i there.spells in record {
      shaped = Is.also p.shaped others.shaped;
      spelled = (there.text, left, there.reads, p.spelled, others.spelled);
    }

-- the id of a frame with a number
pub frame_id : {id : ℕ} {bytes body left : List ℕ} → Begins frame bytes (numbered_frame id body) left → (1 ≤ id) × (id ≤ 127)
frame_id {id = id} {body = body} there = go _ there.spells.shaped refl
  where
    go : (f : Tree) → Is frame f → f ≡ numbered_frame id body → (1 ≤ id) × (id ≤ 127)
    go f (Is.first (Is.seq {t = t} {u = u} d d')) e = absurd (let apart : Tree.row 0 (Tree.pair t u) ≡ numbered_frame id body = e in cc)
    go f (Is.later (Is.first (Is.seq (Is.within {b = b} low high) (Is.sized Is.rest)))) e = let same : b ≡ id = cc in (omega (arith, same, low), omega (arith, same, high))
    go f (Is.later (Is.later d)) e = elim d [ ]

pub in_frames : statements.AreInFrames
in_frames = record {
  forth = framed_forth;
  back = framed_back;
  of_kind = kind_in_frame;
  of_custom = custom_in_frame;
  of_unknown = unknown_in_frame;
  framed = λ bytes t p. in_frame t bytes p.shaped p.spelled;
  whole = λ bytes t f i p. of_frame i p;
  none = λ bytes n. none_section n;
  ids = λ id bytes body left there. frame_id there;
  own_ids = same_kind;
}

-- ---- sizes and bodies

-- an id and a sized body
parts_sized : {id : ℕ} {s : Shape} {bytes : List ℕ} {t : Tree} → Is s t → Spelled (Tree.pair (Tree.fixed id) (Tree.sized t)) bytes → SpellsSized id s bytes t
parts_sized {id = id} d p = record {
  size = p.4.0;
  body = p.4.1;
  stands = p.2 ∙ ap (λ (z : List ℕ). z ++ p.1) p.3 ∙ ap (λ (z : List ℕ). id ∷ z) p.4.2;
  counted = p.4.3;
  spells = record { shaped = d; spelled = p.4.4 };
}

sized_parts : {id : ℕ} {s : Shape} {bytes : List ℕ} {t : Tree} → SpellsSized id s bytes t → Spelled (Tree.pair (Tree.fixed id) (Tree.sized t)) bytes
sized_parts {id = id} p = (id ∷ [], p.size ++ p.body, p.stands, refl, (p.size, p.body, refl, p.counted, p.spells.spelled))

-- a section of a kind is in no other row
kind_shaped : (k : SectionId) (t : Tree) (x : List ℕ) → Spells section x (tree_of k t) → Is (body_of k) t
kind_shaped k t x p = let f = in_frame (tree_of k t) x p.shaped p.spelled in go _ f.0 f.1 refl
  where
    same_parts : {j : SectionId} {u : Tree} → tree_of j u ≡ tree_of k t → (j ≡ k) × (u ≡ t)
    same_parts e = (cc, cc)

    go : (v f : Tree) → InFrame v f → v ≡ tree_of k t → Is (body_of k) t
    go v f (InFrame.of_kind j u body low r) e =
        let s = same_parts e in
        let K : SectionId → Type 0 = λ z. Is (body_of z) u in
        let P : Tree → Type 0 = λ z. Is (body_of k) z in
        subst P s.1 (subst K s.0 r.shaped)
    go v f (InFrame.of_custom name contents u r) e = absurd (let apart : custom_tree_of (Tree.pair (Tree.name name) u) ≡ tree_of k t = e in cc)
    go v f (InFrame.of_unknown id contents low high) e = absurd (let apart : unknown_tree_of id contents ≡ tree_of k t = e in cc)

custom_shaped : (t : Tree) (x : List ℕ) → Spells section x (custom_tree_of t) → Is custom t
custom_shaped t x p = let f = in_frame (custom_tree_of t) x p.shaped p.spelled in go _ f.0 f.1 refl
  where
    same_body : {name : List ℕ} {u : Tree} → custom_tree_of (Tree.pair (Tree.name name) u) ≡ custom_tree_of t → Tree.pair (Tree.name name) u ≡ t
    same_body e = cc

    go : (v f : Tree) → InFrame v f → v ≡ custom_tree_of t → Is custom t
    go v f (InFrame.of_kind j u body low r) e = absurd (let apart : tree_of j u ≡ custom_tree_of t = e in cc)
    go v f (InFrame.of_custom name contents u r) e =
        let P : Tree → Type 0 = λ z. Is custom z in subst P (same_body e) (custom_is r)
    go v f (InFrame.of_unknown id contents low high) e = absurd (let apart : unknown_tree_of id contents ≡ custom_tree_of t = e in cc)

pub sized : statements.AreSized
sized = record {
  of_kind = λ k bytes t p. parts_sized (kind_shaped k t bytes p) p.spelled;
  kind_of = λ k bytes t p. record { shaped = row_shaped in_force k p.spells.shaped; spelled = sized_parts p };
  kind_normal = λ k t. refl;
  of_custom = λ bytes t p. parts_sized (custom_shaped t bytes p) p.spelled;
  custom_of = λ bytes t p. record { shaped = custom_row p.spells.shaped; spelled = sized_parts p };
  custom_normal = λ t. refl;
}
