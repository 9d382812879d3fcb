-- The loop over the sections of a module that lists what each asks, by its rows.
use Rattle.std.proofs.Common.{◌≡◌, ℕ, ◌≤◌, List, [], ◌++◌, Result, OnOk, Ok, Err, refl, sym, ap, ◌∙◌, subst, lit≤, append_assoc, append-nil}
use Rattle.wasm_shapes.specs.declared.SectionId.{SectionId}
use Rattle.wasm_shapes.specs.declared.SectionId.TheVariants as id
use Rattle.wasm_shapes.specs.declared.Space.{Space}
use Rattle.wasm_shapes.specs.Tree.{Tree, visits}
use Rattle.wasm_shapes.specs.Shape.{Shape}
use Rattle.wasm_shapes.specs.Spells.{Is, Spells}
use Rattle.wasm_shapes.specs.Place.{Begins}
use Rattle.wasm_shapes.specs.SectionTable.{number}
use Rattle.wasm_shapes.specs.Module.{CoreReading, InFrame, ReadsContents, body_of, core_header, custom_frame, custom_tree_of, frame, numbered_frame, sections, tree_of, unknown_tree_of}
use Rattle.wasm_shapes.proofs.SectionLaws.{frame_id, in_frames}
use Rattle.reencode_c.specs.declared.outcome.ListedVisit.{ListedVisit}
use Rattle.reencode_c.specs.Places.{Gains, body_placed, module_placed, section_placed}
use Rattle.reencode_c.specs.Visits.{Listing, Placing, in_section, nowhere, placed, put_all}
use Rattle.reencode_c.proofs.Lists.{put_all-append}

-- ---- one section

-- a section that is read is of a kind
known_kind : (k : SectionId) (body : List ℕ) (u : Tree) → Spells (body_of k) body u → 1 ≤ number k
known_kind id.Custom body u p = go u p.shaped
  where
    go : (u : Tree) → Is (body_of id.Custom) u → 1 ≤ number id.Custom
    go u d = elim d [ ]
known_kind id.Type_ body u p = lit≤ tt
known_kind id.Import body u p = lit≤ tt
known_kind id.Function body u p = lit≤ tt
known_kind id.Table body u p = lit≤ tt
known_kind id.Memory body u p = lit≤ tt
known_kind id.Global body u p = lit≤ tt
known_kind id.Export body u p = lit≤ tt
known_kind id.Start body u p = lit≤ tt
known_kind id.Element body u p = lit≤ tt
known_kind id.Code body u p = lit≤ tt
known_kind id.Data body u p = lit≤ tt
known_kind id.DataCount body u p = lit≤ tt
known_kind id.Tag body u p = lit≤ tt

module _ {E : Type 0} (text : List ℕ) (begun now : Placing) (r : Result (Unit {0}) E) (known : SectionId) where
  -- what is listed of a body, by its kind
  pub of_kind : (k : SectionId) → k ≡ known → OnOk r ((u : Tree) × Spells (body_of known) text u × Gains begun now (body_placed known u)) →
      OnOk r ((t : Tree) × InFrame t (numbered_frame (number k) text) × Gains begun now (section_placed t))
  of_kind k is given = subst (λ (z : SectionId). OnOk r ((t : Tree) × InFrame t (numbered_frame (number z) text) × Gains begun now (section_placed t))) (sym is) (go r given)
    where
      go : (r : Result (Unit {0}) E) → OnOk r ((u : Tree) × Spells (body_of known) text u × Gains begun now (body_placed known u)) →
          OnOk r ((t : Tree) × InFrame t (numbered_frame (number known) text) × Gains begun now (section_placed t))
      go (Ok x) p = (tree_of known p.0, InFrame.of_kind known p.0 text (known_kind known text p.0 p.1) p.1, p.2)
      go (Err e) p = tt

  -- the one item of a section is no row
  pub of_item : (s : Space) → body_of known ≡ Shape.ix s → (k : SectionId) → k ≡ known → OnOk r ((u : Tree) × Spells (body_of known) text u × Gains begun now (placed (in_section known) (visits u))) →
      OnOk r ((t : Tree) × InFrame t (numbered_frame (number k) text) × Gains begun now (section_placed t))
  of_item s shape k is given = of_kind k is (go r given)
    where
      one : (u : Tree) → Is (Shape.ix s) u → body_placed known u ≡ placed (in_section known) (visits u)
      one u Is.ix = refl

      go : (r : Result (Unit {0}) E) → OnOk r ((u : Tree) × Spells (body_of known) text u × Gains begun now (placed (in_section known) (visits u))) →
          OnOk r ((u : Tree) × Spells (body_of known) text u × Gains begun now (body_placed known u))
      go (Ok x) p = let P : Shape → Type 0 = λ z. Is z p.0 in (p.0, p.1, p.2 ∙ ap (put_all begun.listing) (sym (one p.0 (subst P shape p.1.shaped))))
      go (Err e) p = tt

-- nor is what stands in a custom section
pub of_custom : (name contents : List ℕ) (begun now : Placing) (u : Tree) → ReadsContents name contents u → Gains begun now (placed nowhere (visits (custom_tree_of (Tree.pair (Tree.name name) u)))) →
    (t : Tree) × InFrame t (custom_frame name contents) × Gains begun now (section_placed t)
of_custom name contents begun now u reads listed = (custom_tree_of (Tree.pair (Tree.name name) u), InFrame.of_custom name contents u reads, listed)

-- ---- the loop

-- These were listed of the sections so far; and whatever sections the others are, the bytes have a reading.
pub record SectionsSoFar (bytes rest : List ℕ) (begun now : Placing) : Type 0 where
  pub done : List ListedVisit
  pub gains : Gains begun now done
  pub ahead : (others : Tree) → Spells sections rest others → (t : Tree) × CoreReading bytes t × (module_placed t ≡ done ++ module_placed others)

pub sections_begin : {bytes rest : List ℕ} (begun : Placing) → bytes ≡ core_header ++ rest → SectionsSoFar bytes rest begun begun
sections_begin {rest = rest} begun stands = record {
  done = [];
  gains = refl;
  ahead = λ others p. (others, record { rest = rest; stands = stands; spells = p }, refl);
}

-- one section more
pub sections_more : {bytes rest left : List ℕ} {begun now after : Placing} (f : Tree) → SectionsSoFar bytes rest begun now → Begins frame rest f left →
    (u : Tree) × InFrame u f × Gains now after (section_placed u) → SectionsSoFar bytes left begun after
sections_more {rest = rest} {left = left} {begun = begun} f so_far there one = record {
  done = so_far.done ++ section_placed one.0;
  gains = one.2 ∙ ap (λ (l : Listing). put_all l (section_placed one.0)) so_far.gains ∙ sym (put_all-append so_far.done begun.listing (section_placed one.0));
  ahead = λ others p.
      let a = so_far.ahead (Tree.also one.0 others) (in_frames.back rest left f one.0 others there one.1 p) in
      (a.0, a.1, a.2 ∙ sym (append_assoc so_far.done (section_placed one.0) (module_placed others)));
}

-- one of no known kind asks nothing
pub sections_unknown : {bytes rest left contents : List ℕ} {begun now : Placing} {n : ℕ} → 14 ≤ n → SectionsSoFar bytes rest begun now → Begins frame rest (numbered_frame n contents) left →
    SectionsSoFar bytes left begun now
sections_unknown {contents = contents} {n = n} high so_far there =
    sections_more (numbered_frame n contents) so_far there (unknown_tree_of n contents, InFrame.of_unknown n contents high (frame_id there).1, refl)

pub sections_ended : {bytes rest : List ℕ} {begun now : Placing} → SectionsSoFar bytes rest begun now → rest ≡ [] →
    (t : Tree) × CoreReading bytes t × Gains begun now (module_placed t)
sections_ended {begun = begun} so_far empty =
    let P : List ℕ → Type 0 = λ z. Spells sections z Tree.finish in
    let a = so_far.ahead Tree.finish (subst P (sym empty) (record { shaped = Is.finish; spelled = refl })) in
    (a.0, a.1, so_far.gains ∙ ap (put_all begun.listing) (sym (a.2 ∙ append-nil so_far.done)))
