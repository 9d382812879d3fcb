-- The visits that were made when a section of rows of a component is at fault, or refused.
use Rattle.std.proofs.Common.{◌≡◌, ◌≢◌, ◌≤◌, ◌<◌, ℕ, List, [], ◌++◌, length, refl, sym, ap, ◌∙◌, subst, ◌⊎◌, inl, inr}
use Rattle.std.proofs.lemmas.List.{append_cancel_left}
use Rattle.wasm_leb.specs.Place.{BeginsNoNumber}
use Rattle.wasm_leb.proofs.Unique.{unsigned_unique}
use Rattle.wasm_shapes.specs.Component.{component_body_of, component_section_tree}
use Rattle.wasm_shapes.specs.Drawn.{IsItem}
use Rattle.wasm_shapes.specs.Module.{numbered_frame}
use Rattle.wasm_shapes.specs.Depth.{BeginsNoneAt}
use Rattle.wasm_shapes.specs.Shape.{Shape}
use Rattle.wasm_shapes.specs.Tree.{Tree, visits}
use Rattle.wasm_shapes.proofs.Drawn.{drawn_behind, drawn_none}
use Rattle.wasm_shapes.proofs.Laws.{one_tree}
use Rattle.wasm_shapes.proofs.Rows.{vec_spelled}
use Rattle.wasm_read.specs.Reading.{Standing, CountRead}
use Rattle.reencode_hooks.specs.declared.error.Error.{Error}
use Rattle.reencode_hooks.specs.Run.{accepted}
use Rattle.reencode_hooks.specs.Walk.{walk}
use Rattle.reencode_hooks.proofs.Walks.{walk_is_run}
use Rattle.reencode_core.specs.Leaves.{Leaves, MadeUpTo}
use Rattle.reencode_core.specs.Rows.{Asks, RowsBefore}
use Rattle.reencode_core.proofs.after_error.VisitsMade.{Unasked, ended_all, front_all, front_none, front_same}
use Rattle.reencode_core.proofs.after_error.RowsVisited.{drawn_rows}
use Rattle.reencode_component.specs.Components.{ReadsSection}
use Rattle.reencode_component.specs.ComponentLeaves.{SectionUpTo, section_in}
use Rattle.reencode_component.specs.ScopedRows.{ShallowRows, ShallowUpTo, shallow_rows_in, standing_at}
use Rattle.reencode_component.proofs.sections_walked.RowsMapped.{SectionRows, rows_read, section_read}

-- the count that stands there is one
same_up_to : {body rest : List ℕ} {depth : ℕ} {a b : Standing} {row : Shape} {t : Tree} → CountRead body a → CountRead body b → ShallowUpTo row (standing_at depth b) t rest →
    ShallowUpTo row (standing_at depth a) t rest
same_up_to {rest = rest} {depth = depth} {a = a} {b = b} {row = row} p q r =
    let both_ways : p.counted.0 ++ a.rest ≡ q.counted.0 ++ b.rest = sym p.counted.2 ∙ q.counted.2 in
    let one : (p.counted.0 ≡ q.counted.0) × (a.left ≡ b.left) = unsigned_unique a.rest b.rest p.counted.1 q.counted.1 both_ways in
    let shifted : q.counted.0 ++ a.rest ≡ q.counted.0 ++ b.rest = ap (λ (z : List ℕ). z ++ a.rest) (sym one.0) ∙ both_ways in
    let behind : a.rest ≡ b.rest = append_cancel_left q.counted.0 a.rest b.rest shifted in
    let F : List ℕ → Type 0 = λ z. RowsBefore row z r.rows rest in
    let M : ℕ → Type 0 = λ z. ((length r.rows < z) × BeginsNoneAt row depth rest) ⊎ ((length r.rows ≡ z) × (rest ≢ [])) in
    record { rows = r.rows; are = r.are; front = subst F (sym behind) r.front; shallow = r.shallow; missing = subst M (sym one.1) r.missing }

module _ {S E : Type 0} (asked : Asks S E) (depth : ℕ) (deep : depth ≤ 200) {id : ℕ} {row : Shape} (kind : SectionRows id row) (body : List ℕ) (s m : S) where
  -- what stands in front of its fault
  known_up_to : {t : Tree} {rest : List ℕ} → SectionUpTo depth (numbered_frame id body) t rest →
      ((t ≡ Tree.nil) × (rest ≡ body) × BeginsNoNumber 128 32 32 body) ⊎ ((reader : Standing) × CountRead body reader × ShallowUpTo row (standing_at depth reader) t rest)
  known_up_to {t = t} {rest = rest} u = go (numbered_frame id body) t rest u refl
    where
      go : (f t : Tree) (rest : List ℕ) → SectionUpTo depth f t rest → f ≡ (numbered_frame id body) →
          ((t ≡ Tree.nil) × (rest ≡ body) × BeginsNoNumber 128 32 32 body) ⊎ ((reader : Standing) × CountRead body reader × ShallowUpTo row (standing_at depth reader) t rest)
      go f t rest (SectionUpTo.uncounted id' body' row' e n) q =
          let same : body' ≡ body = cc in
          let P : List ℕ → Type 0 = λ z. BeginsNoNumber 128 32 32 z in
          inl (refl, same, subst P same n)
      go f t rest (SectionUpTo.rows id' body' row' reader u rest' e there r) q =
          let same : body' ≡ body = cc in
          let number : id' ≡ id = cc in
          let vecs : Shape.vec row' ≡ Shape.vec row = sym e ∙ ap component_body_of number ∙ kind.are_rows in
          let rows : row' ≡ row = cc in
          let P : List ℕ → Type 0 = λ z. CountRead z reader in
          let R : Shape → Type 0 = λ z. ShallowUpTo z (standing_at depth reader) t rest in
          inr (reader, subst P same there, subst R rows r)
      go f t rest (SectionUpTo.names name contents u rest' is r) q = absurd cc

  -- its rows were asked in part
  pub section_leaves : {reader : Standing} (e : Error E) → CountRead body reader → Leaves asked (shallow_rows_in row (standing_at depth reader)) s e m → Leaves asked (section_in depth (numbered_frame id body)) s e m
  section_leaves {reader = reader} e there l = record {
    made = l.made;
    ended = l.ended;
    drawn = drawn_behind there.counted.0 reader.rest there.counted.2 l.drawn;
    reading = λ t r. let v = rows_read depth kind body there t r in front_same (sym (ap visits v.1)) (l.reading v.0 v.2);
    fault = λ none t rest u. go none t rest (known_up_to u);
  }
    where
      go : ((t : Tree) → ReadsSection depth (numbered_frame id body) t → ⊥) → (t : Tree) (rest : List ℕ) →
          ((t ≡ Tree.nil) × (rest ≡ body) × BeginsNoNumber 128 32 32 body) ⊎ ((r : Standing) × CountRead body r × ShallowUpTo row (standing_at depth r) t rest) → MadeUpTo e l.made (visits t) rest
      go none t rest (inl h) = absurd (h.2 there.counted.0 reader.rest reader.left there.counted.1 there.counted.2)
      go none t rest (inr h) = l.fault (λ rows all. none (component_section_tree id (Tree.vec rows)) (section_read depth kind body deep there rows all)) t rest (same_up_to there h.1 h.2)

  -- nothing was asked, and no count stands there
  pub section_untouched : (e : Error E) → Unasked e → s ≡ m → BeginsNoNumber 128 32 32 body → Leaves asked (section_in depth (numbered_frame id body)) s e m
  section_untouched e u same none = record {
    made = [];
    ended = ended_all {a = []} e u (ap (λ (z : S). accepted [] z) same);
    drawn = drawn_none;
    reading = λ t r. front_none (visits t);
    fault = λ never t rest f. go t rest (known_up_to f);
  }
    where
      go : (t : Tree) (rest : List ℕ) → ((t ≡ Tree.nil) × (rest ≡ body) × BeginsNoNumber 128 32 32 body) ⊎ ((r : Standing) × CountRead body r × ShallowUpTo row (standing_at depth r) t rest) → MadeUpTo e [] (visits t) rest
      go t rest (inl h) = inr ([], sym (ap (λ (z : Tree). visits z ++ []) h.0), drawn_none)
      go t rest (inr h) = absurd (none h.1.counted.0 h.0.rest h.0.left h.1.counted.1 h.1.counted.2)

  -- its rows were accepted
  pub section_leaves_all : {reader : Standing} (c : ℕ) (made : Tree) (e : Error E) → Unasked e → CountRead body reader → (rows : Tree) → ShallowRows row (standing_at depth reader) rows → walk asked c s rows ≡ accepted made m →
      Leaves asked (section_in depth (numbered_frame id body)) s e m
  section_leaves_all {reader = reader} c made e u there rows r walked = record {
    made = visits rows;
    ended = ended_all e u ((walk_is_run asked).forth c s m rows made walked).ran;
    drawn = drawn_behind there.counted.0 reader.rest there.counted.2 (drawn_rows (IsItem.component_row id row kind.are_rows) rows reader.rest r.left.shaped r.left.spelled);
    reading = λ t q.
        let v = rows_read depth kind body there t q in
        let vecs : Tree.vec rows ≡ Tree.vec v.0 = one_tree (Shape.vec row) kind.is_sound body (Tree.vec rows) (Tree.vec v.0) (vec_spelled there.counted r.left) (vec_spelled there.counted v.2.left) in
        let same : rows ≡ v.0 = cc in
        front_same (ap visits same ∙ sym (ap visits v.1)) (front_all (visits rows));
    fault = λ none t rest f. absurd (none (component_section_tree id (Tree.vec rows)) (section_read depth kind body deep there rows r));
  }
