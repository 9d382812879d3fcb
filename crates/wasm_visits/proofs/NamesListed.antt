-- The loops over the entries and the subsections of names that list what each asks.
use Rattle.std.proofs.Common.{◌≡◌, ℕ, suc, ◌-◌, ◌<◌, ◌≤◌, Bool, true, false, List, [], ◌∷◌, ◌++◌, Result, Ok, Err, OnOk, refl, sym, ap, ◌∙◌, arith, append_assoc, append-nil, length, subst, ◌==◌}
use Rattle.std.proofs.lemmas.Bool.Decides.{Decides-eqb}
use Rattle.wasm_leb.specs.Place.{BeginsNumber}
use Rattle.wasm_shapes.specs.declared.SectionId.TheVariants as ids
use Rattle.wasm_shapes.specs.declared.Space.{Space}
use Rattle.wasm_shapes.specs.declared.Visit.{Visit}
use Rattle.wasm_shapes.specs.declared.Visit.TheVariants.{Index}
use Rattle.wasm_shapes.specs.Module.{name_subsection, names, plain_naming}
use Rattle.wasm_shapes.specs.Namings.{raw_names_tree, subsection_tree}
use Rattle.wasm_shapes.specs.Place.{Begins}
use Rattle.wasm_shapes.specs.Shape.{Shape}
use Rattle.wasm_shapes.specs.Spells.{Is, Spells}
use Rattle.wasm_shapes.specs.Tree.{Tree, visits}
use Rattle.wasm_shapes.proofs.Begins.{begins_ix, begins_seq}
use Rattle.wasm_read.proofs.Subsections.{subsections_framed}
use Rattle.wasm_read.specs.Subsections.{body_of_id, subsection_frame, subsection_frame_tree}
use Rattle.wasm_visits.specs.declared.lister.PlacedVisit.{PlacedVisit}
use Rattle.reencode_hooks.specs.Run.{accepted, ask}
use Rattle.wasm_visits.specs.declared.lister.Lister.{Lister}
use Rattle.wasm_visits.specs.Visits.{all_listed, listed, lister_next, lister_reply}
use Rattle.wasm_visits.specs.Placed.{ListsRows, ListsSubsection, NamesAt, SubsectionAt, entry_row, named_row}
use Rattle.wasm_visits.proofs.RowsListed.{RowsSoFar, rows_begin, rows_ended, rows_more, shorter}

-- ---- an entry

-- names by an index that is not asked for ask nothing
plain_visits : (rows : Tree) → Is (Shape.many plain_naming) rows → visits rows ≡ []
plain_visits rows Is.nil = refl
plain_visits rows (Is.cons {u = u} (Is.seq Is.u32 Is.name) d) = plain_visits u d

names_visits : (t : Tree) → Is (Shape.vec plain_naming) t → visits t ≡ []
names_visits t (Is.vec {t = rows} d) = plain_visits rows d

name_visits : (t : Tree) → Is Shape.name t → visits t ≡ []
name_visits t Is.name = refl

pub behind_names : {bytes left : List ℕ} {rows : Tree} → Begins (Shape.vec plain_naming) bytes (Tree.vec rows) left →
    (t : Tree) × Begins (named_row true) bytes t left × (visits t ≡ [])
behind_names {rows = rows} p = (Tree.vec rows, p, names_visits (Tree.vec rows) p.spells.shaped)

pub behind_name : {bytes name left : List ℕ} → Begins Shape.name bytes (Tree.name name) left → (t : Tree) × Begins (named_row false) bytes t left × (visits t ≡ [])
behind_name {name = name} p = (Tree.name name, p, refl)

pub front_entry : (indirect : Bool) (s : Space) {bytes middle left : List ℕ} {i : ℕ} → BeginsNumber 128 32 32 bytes i middle →
    (t : Tree) × Begins (named_row indirect) middle t left × (visits t ≡ []) →
    (t : Tree) × Begins (entry_row indirect s) bytes t left × (visits t ≡ Index s i ∷ [])
front_entry indirect s {i = i} number names =
    (Tree.pair (Tree.ix s i) names.0, begins_seq (begins_ix number) names.1, ap (λ (z : List Visit). Index s i ∷ z) names.2)

-- what is listed of an index by a lister that moved there
pub listed_one : {E : Type 0} (now : Lister) {there after : Lister} {i n : ℕ} (at : ℕ) (s : Space) → there ≡ record now { place = at; section = ids.Custom } →
    ask {S = Lister} {E = E} lister_reply lister_next there (Index s i) ≡ accepted n after → after.visits ≡ now.visits ++ listed ids.Custom at (Index s i)
listed_one now {there = there} {after = after} {i = i} at s moves e =
    let same : lister_next there (Index s i) ≡ after = cc in
    ap (λ (z : Lister). z.visits) (sym same) ∙ ap (λ (z : Lister). z.visits ++ listed z.section z.place (Index s i)) moves

-- where nothing is left
pub none_left : (xs : List ℕ) → true ≡ ((length xs) == 0) → xs ≡ []
none_left [] e = refl
none_left (x ∷ xs) e = let none : length (x ∷ xs) ≡ 0 = (Decides-eqb (length (x ∷ xs)) 0).0 (sym e) in absurd (omega arith)

-- ---- the entries of a map

-- the entries so far, and what is left stands within the body
pub record EntriesSoFar (indirect : Bool) (s : Space) (end : ℕ) (text : List ℕ) (begun now : List PlacedVisit) (left : ℕ) (rest : List ℕ) : Type 0 where
  pub rows : RowsSoFar ids.Custom (entry_row indirect s) end text begun now left rest
  pub inside : length rest ≤ length text

pub entries_begin : {indirect : Bool} {s : Space} {end : ℕ} {text start : List ℕ} {n : ℕ} (begun : List PlacedVisit) → BeginsNumber 128 32 32 text n start →
    EntriesSoFar indirect s end text begun begun n start
entries_begin begun counted = record { rows = rows_begin begun counted; inside = shorter _ _ counted.2 }

-- one entry more
pub entries_more : {indirect : Bool} {s : Space} {end : ℕ} {text rest left : List ℕ} {begun now after : List PlacedVisit} {m n i : ℕ} → EntriesSoFar indirect s end text begun now m rest →
    m ≡ suc n → (t : Tree) × Begins (entry_row indirect s) rest t left × (visits t ≡ Index s i ∷ []) →
    after ≡ now ++ listed ids.Custom (end - length rest) (Index s i) → EntriesSoFar indirect s end text begun after n left
entries_more {end = end} {rest = rest} {left = left} {now = now} so_far counted entry lists =
    let less : length left ≤ length rest = shorter _ _ entry.1.reads in
    record {
      rows = rows_more so_far.rows counted entry.1 (lists ∙ ap (λ (z : List Visit). now ++ all_listed ids.Custom (end - length rest) z) (sym entry.2));
      inside = omega (arith, so_far.inside, less);
    }

pub entries_ended : {indirect : Bool} {s : Space} {end : ℕ} {text rest : List ℕ} {begun now : List PlacedVisit} {n : ℕ} → EntriesSoFar indirect s end text begun now n rest → n ≡ 0 → rest ≡ [] →
    ListsRows ids.Custom (entry_row indirect s) end text begun now
entries_ended so_far none empty = rows_ended so_far.rows none empty

-- ---- a subsection

module _ {E : Type 0} (end : ℕ) (body : List ℕ) (old new : List PlacedVisit) (r : Result (Unit {0}) E) where
  -- the entries of one of this id
  pub of_entries : (n : ℕ) (indirect : Bool) (s : Space) → n < 12 → body_of_id n ≡ Shape.vec (entry_row indirect s) → (id : ℕ) → id ≡ n →
      OnOk r (ListsRows ids.Custom (entry_row indirect s) end body old new) → OnOk r (ListsSubsection end id body old new)
  of_entries n indirect s low shape id is given = subst (λ (z : ℕ). OnOk r (ListsSubsection end z body old new)) (sym is) (go r given)
    where
      go : (r : Result (Unit {0}) E) → OnOk r (ListsRows ids.Custom (entry_row indirect s) end body old new) → OnOk r (ListsSubsection end n body old new)
      go (Ok x) p = (subsection_tree n p.0, p.1, SubsectionAt.entries indirect s p.0 p.1 low shape p.2, p.3)
      go (Err e) p = tt

pub of_text : (end : ℕ) {body : List ℕ} {id : ℕ} (name : List ℕ) (list : List PlacedVisit) → id ≡ 0 → Spells Shape.name body (Tree.name name) → ListsSubsection end id body list list
of_text end {id = id} name list is spells = (subsection_tree id (Tree.name name), [], SubsectionAt.text name is spells, sym (append-nil list))

pub of_other : (end : ℕ) {body : List ℕ} {id : ℕ} (list : List PlacedVisit) → 12 ≤ id → ListsSubsection end id body list list
of_other end {body} {id} list high = (raw_names_tree id body, [], SubsectionAt.other high, sym (append-nil list))

-- it stands in its frame
subsection_begins : {end id : ℕ} {bytes body left : List ℕ} {t : Tree} {list : List PlacedVisit} → SubsectionAt end id body t list → Begins subsection_frame bytes (subsection_frame_tree id body) left →
    Begins name_subsection bytes t left
subsection_begins {id = id} {bytes = bytes} {body = body} {left = left} (SubsectionAt.text name is spells) frame =
    let S : ℕ → Type 0 = λ z. Spells (body_of_id z) body (Tree.name name) in
    let low : id < 12 = omega (arith, is) in
    subsections_framed.back id bytes body left (Tree.name name) low frame (subst S (sym is) spells)
subsection_begins {id = id} {bytes = bytes} {body = body} {left = left} (SubsectionAt.entries indirect s t list low shape at) frame =
    let S : Shape → Type 0 = λ z. Spells z body t in
    subsections_framed.back id bytes body left t low frame (subst S (sym shape) at.spells)
subsection_begins {id = id} {bytes = bytes} {body = body} {left = left} (SubsectionAt.other high) frame = subsections_framed.others id bytes body left high frame

-- ---- all subsections

pub record SubsectionsSoFar (end : ℕ) (text rest : List ℕ) (begun now : List PlacedVisit) : Type 0 where
  pub done : List PlacedVisit
  pub gains : now ≡ begun ++ done
  pub inside : length rest ≤ length text
  pub ahead : (others : Tree) (list : List PlacedVisit) → Spells names rest others → NamesAt end rest others list →
      (t : Tree) × Spells names text t × NamesAt end text t (done ++ list)

pub subsections_begin : (end : ℕ) (text : List ℕ) (begun : List PlacedVisit) → SubsectionsSoFar end text text begun begun
subsections_begin end text begun = record {
  done = [];
  gains = sym (append-nil begun);
  inside = omega arith;
  ahead = λ others list p a. (others, p, a);
}

pub subsections_more : {end id : ℕ} {text rest body left : List ℕ} {begun now after : List PlacedVisit} → SubsectionsSoFar end text rest begun now →
    Begins subsection_frame rest (subsection_frame_tree id body) left → ListsSubsection (end - length left) id body now after → SubsectionsSoFar end text left begun after
subsections_more {end} {id} {text} {rest} {body} {left} {begun} {now} {after} so_far frame here =
    let less : length left ≤ length rest = shorter _ _ frame.reads in
    let one = subsection_begins here.2 frame in
    record {
      done = so_far.done ++ here.1;
      gains = here.3 ∙ ap (λ (z : List PlacedVisit). z ++ here.1) so_far.gains ∙ append_assoc begun so_far.done here.1;
      inside = omega (arith, so_far.inside, less);
      ahead = λ others list p a.
          let spells : Spells names rest (Tree.cons here.0 others) =
          record { shaped = Is.cons one.spells.shaped p.shaped; spelled = (one.text, left, one.reads, one.spells.spelled, p.spelled) } in
          let v = so_far.ahead (Tree.cons here.0 others) (here.1 ++ list) spells (NamesAt.more id rest body left here.0 others here.1 list frame here.2 a) in
          (v.0, v.1, rw (append_assoc so_far.done here.1 list) v.2);
    }

pub subsections_ended : {end : ℕ} {text rest : List ℕ} {begun now : List PlacedVisit} → SubsectionsSoFar end text rest begun now → rest ≡ [] →
    (t : Tree) × (list : List PlacedVisit) × Spells names text t × NamesAt end text t list × (now ≡ begun ++ list)
subsections_ended {end} {text} so_far empty =
    let P : List ℕ → Type 0 = λ z. Spells names z Tree.nil in
    let Q : List ℕ → Type 0 = λ z. NamesAt end z Tree.nil [] in
    let v = so_far.ahead Tree.nil [] (subst P (sym empty) (record { shaped = Is.nil; spelled = refl })) (subst Q (sym empty) NamesAt.none) in
    (v.0, so_far.done, v.1, rw (append-nil so_far.done) at v.2, so_far.gains)
