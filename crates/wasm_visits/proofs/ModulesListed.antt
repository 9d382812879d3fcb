-- The loop over the sections of a module that lists what each asks.
use Rattle.std.proofs.Common.{◌≡◌, ◌≢◌, ℕ, ◌-◌, ◌≤◌, List, [], ◌++◌, Result, OnOk, Ok, Err, refl, sym, ap, ◌∙◌, subst, lit≤, arith, append_assoc, append-nil, length, inl, inr}
use Rattle.wasm_shapes.specs.declared.SectionId.{SectionId}
use Rattle.wasm_shapes.specs.declared.SectionId.TheVariants as id
use Rattle.wasm_shapes.specs.declared.Space.{Space}
use Rattle.wasm_shapes.specs.Tree.{Tree, visits}
use Rattle.wasm_shapes.specs.Shape.{Shape}
use Rattle.wasm_shapes.specs.Spells.{Is, Spells}
use Rattle.wasm_shapes.specs.Place.{Begins}
use Rattle.wasm_shapes.specs.SectionTable.{number}
use Rattle.wasm_shapes.specs.Module.{CoreReading, InFrame, body_of, core_header, custom_frame, custom_tree_of, frame, names, names_name, numbered_frame, row_of, sections, tree_of, unknown_tree_of}
use Rattle.wasm_shapes.proofs.SectionLaws.{frame_id, in_frames}
use Rattle.wasm_read.specs.Frames.{HeaderRead, Sections, sections_place}
use Rattle.wasm_visits.specs.declared.lister.PlacedVisit.{PlacedVisit}
use Rattle.wasm_visits.specs.Placed.{AreVisits, BodyAt, ListsRows, ListsSection, NamesAt, SectionAt, SectionsAt}
use Rattle.wasm_visits.specs.Visits.{all_listed}
use Rattle.wasm_visits.proofs.Asked.{sections_asked}
use Rattle.wasm_visits.proofs.RowsListed.{shorter}

-- ---- one section

-- a section that is read is of a kind
known_kind : (k : SectionId) (body : List ℕ) (u : Tree) → Spells (body_of k) body u → 1 ≤ number k
known_kind id.Custom body u p = go u p.shaped
  where
    go : (u : Tree) → Is (body_of id.Custom) u → 1 ≤ number id.Custom
    go u d = elim d [ ]
known_kind id.Type_ body u p = lit≤ tt
known_kind id.Import body u p = lit≤ tt
known_kind id.Function body u p = lit≤ tt
known_kind id.Table body u p = lit≤ tt
known_kind id.Memory body u p = lit≤ tt
known_kind id.Global body u p = lit≤ tt
known_kind id.Export body u p = lit≤ tt
known_kind id.Start body u p = lit≤ tt
known_kind id.Element body u p = lit≤ tt
known_kind id.Code body u p = lit≤ tt
known_kind id.Data body u p = lit≤ tt
known_kind id.DataCount body u p = lit≤ tt
known_kind id.Tag body u p = lit≤ tt

-- what is listed of a body is listed of its section
in_section : {end : ℕ} {text : List ℕ} (old : List PlacedVisit) {new : List PlacedVisit} (k : SectionId) (t : Tree) (list : List PlacedVisit) → Spells (body_of k) text t → BodyAt k end text t list → new ≡ old ++ list →
    ListsSection end (numbered_frame (number k) text) old new
in_section {text = text} old k t list spells at gains =
    (tree_of k t, list, InFrame.of_kind k t text (known_kind k text t spells) spells, SectionAt.of_kind k text t list at, gains)

module _ {E : Type 0} (end : ℕ) (text : List ℕ) (old new : List PlacedVisit) (r : Result (Unit {0}) E) (known : SectionId) where
  at_kind : (k : SectionId) → k ≡ known → OnOk r (ListsSection end (numbered_frame (number known) text) old new) → OnOk r (ListsSection end (numbered_frame (number k) text) old new)
  at_kind k is given = subst (λ (z : SectionId). OnOk r (ListsSection end (numbered_frame (number z) text) old new)) (sym is) given

  -- by its rows
  pub of_rows : body_of known ≡ Shape.vec (row_of known) → (k : SectionId) → k ≡ known → OnOk r (ListsRows known (row_of known) end text old new) →
      OnOk r (ListsSection end (numbered_frame (number k) text) old new)
  of_rows shape k is given = at_kind k is (go r given)
    where
      go : (r : Result (Unit {0}) E) → OnOk r (ListsRows known (row_of known) end text old new) → OnOk r (ListsSection end (numbered_frame (number known) text) old new)
      go (Ok x) p =
          let S : Shape → Type 0 = λ z. Spells z text p.0 in
          in_section old known p.0 p.1 (subst S (sym shape) p.2.spells) (BodyAt.rows p.1 p.2) p.3
      go (Err e) p = tt

  -- by its one item
  pub of_item : (s : Space) → body_of known ≡ Shape.ix s → (k : SectionId) → k ≡ known →
      OnOk r ((t : Tree) × Spells (body_of known) text t × (new ≡ old ++ all_listed known (end - length text) (visits t))) →
      OnOk r (ListsSection end (numbered_frame (number k) text) old new)
  of_item s shape k is given = at_kind k is (go r given)
    where
      go : (r : Result (Unit {0}) E) → OnOk r ((t : Tree) × Spells (body_of known) text t × (new ≡ old ++ all_listed known (end - length text) (visits t))) →
          OnOk r (ListsSection end (numbered_frame (number known) text) old new)
      go (Ok x) p = in_section old known p.0 (all_listed known (end - length text) (visits p.0)) p.1 (BodyAt.item s shape) p.2
      go (Err e) p = tt

-- a name section, and another custom one
module _ {E : Type 0} (end : ℕ) (contents : List ℕ) (old new : List PlacedVisit) (r : Result (Unit {0}) E) where
  pub of_names : (name : List ℕ) → name ≡ names_name →
      OnOk r ((t : Tree) × (list : List PlacedVisit) × Spells names contents t × NamesAt end contents t list × (new ≡ old ++ list)) →
      OnOk r (ListsSection end (custom_frame name contents) old new)
  of_names name is given = subst (λ (z : List ℕ). OnOk r (ListsSection end (custom_frame z contents) old new)) (sym is) (go r given)
    where
      go : (r : Result (Unit {0}) E) → OnOk r ((t : Tree) × (list : List PlacedVisit) × Spells names contents t × NamesAt end contents t list × (new ≡ old ++ list)) →
          OnOk r (ListsSection end (custom_frame names_name contents) old new)
      go (Ok x) p =
          (custom_tree_of (Tree.pair (Tree.name names_name) p.0), p.1, InFrame.of_custom names_name contents p.0 (inl (refl, p.2)), SectionAt.of_names contents p.0 p.1 p.3, p.4)
      go (Err e) p = tt

pub of_custom : (end : ℕ) (name contents : List ℕ) (list : List PlacedVisit) → name ≢ names_name → ListsSection end (custom_frame name contents) list list
of_custom end name contents list other =
    (custom_tree_of (Tree.pair (Tree.name name) (Tree.raw contents)), [], InFrame.of_custom name contents (Tree.raw contents) (inr (other, refl)), SectionAt.of_custom name contents other, sym (append-nil list))

-- ---- the loop

-- what the sections are read as, and where their visits stand
pub record Placing (bytes : List ℕ) (list : List PlacedVisit) : Type 0 where
  pub tree : Tree
  pub reading : CoreReading bytes tree
  pub places : SectionsAt (length bytes) reading.rest tree list

-- These were listed of the sections so far; and whatever sections the others are, with their visits the bytes have a reading.
pub record SectionsSoFar (bytes : List ℕ) (begun now : List PlacedVisit) (reader : Sections) : Type 0 where
  pub done : List PlacedVisit
  pub gains : now ≡ begun ++ done
  pub inside : length reader.rest ≤ length bytes
  pub len : reader.len ≡ length bytes
  pub ahead : (others : Tree) (list : List PlacedVisit) → Spells sections reader.rest others → SectionsAt (length bytes) reader.rest others list → Placing bytes (done ++ list)

pub sections_begin : {bytes : List ℕ} (begun : List PlacedVisit) {reader : Sections} → HeaderRead bytes reader → SectionsSoFar bytes begun begun reader
sections_begin begun {reader = reader} read = record {
  done = [];
  gains = sym (append-nil begun);
  inside = shorter core_header reader.rest read.stands;
  len = read.len;
  ahead = λ others list p a. record { tree = others; reading = record { rest = reader.rest; stands = read.stands; spells = p }; places = a };
}

-- one section more
pub sections_more : {bytes : List ℕ} {begun now after : List PlacedVisit} {reader reader' : Sections} (f : Tree) (end : ℕ) → SectionsSoFar bytes begun now reader → reader'.len ≡ reader.len →
    Begins frame reader.rest f reader'.rest → end ≡ sections_place reader' → ListsSection end f now after → SectionsSoFar bytes begun after reader'
sections_more {bytes} {begun} {now} {after} {reader} {reader'} f end so_far same there is here =
    let less : length reader'.rest ≤ length reader.rest = shorter there.text reader'.rest there.reads in
    let len : reader'.len ≡ length bytes = same ∙ so_far.len in
    let place : end ≡ length bytes - length reader'.rest = is ∙ ap (λ (n : ℕ). n - length reader'.rest) len in
    record {
      done = so_far.done ++ here.1;
      gains = here.4 ∙ ap (λ (z : List PlacedVisit). z ++ here.1) so_far.gains ∙ append_assoc begun so_far.done here.1;
      inside = omega (arith, so_far.inside, less);
      len = len;
      ahead = λ others list p a.
          let S : ℕ → Type 0 = λ z. SectionAt z here.0 f here.1 in
          let v = so_far.ahead (Tree.also here.0 others) (here.1 ++ list) (in_frames.back reader.rest reader'.rest f here.0 others there here.2 p)
          (SectionsAt.more reader.rest reader'.rest f here.0 others here.1 list there here.2 (subst S place here.3) a) in
          let Q : List PlacedVisit → Type 0 = λ z. Placing bytes z in
          subst Q (sym (append_assoc so_far.done here.1 list)) v;
    }

-- one of no known kind asks nothing
pub of_unknown : {bytes left contents : List ℕ} {n : ℕ} (end : ℕ) (list : List PlacedVisit) → 14 ≤ n → Begins frame bytes (numbered_frame n contents) left →
    ListsSection end (numbered_frame n contents) list list
of_unknown {contents = contents} {n = n} end list high there =
    (unknown_tree_of n contents, [], InFrame.of_unknown n contents high (frame_id there).1, SectionAt.of_unknown n contents (unknown_tree_of n contents) high refl, sym (append-nil list))

pub sections_ended : {bytes : List ℕ} {begun now : List PlacedVisit} {reader : Sections} → SectionsSoFar bytes begun now reader → reader.rest ≡ [] →
    (list : List PlacedVisit) × AreVisits bytes list × (now ≡ begun ++ list)
sections_ended {bytes} {begun} {now} {reader} so_far empty =
    let P : List ℕ → Type 0 = λ z. Spells sections z Tree.finish in
    let Q : List ℕ → Type 0 = λ z. SectionsAt (length bytes) z Tree.finish [] in
    let v = so_far.ahead Tree.finish [] (subst P (sym empty) (record { shaped = Is.finish; spelled = refl })) (subst Q (sym empty) SectionsAt.none) in
    let R : List PlacedVisit → Type 0 = λ z. Placing bytes z in
    let w : Placing bytes so_far.done = subst R (append-nil so_far.done) v in
    (so_far.done, record { tree = w.tree; reading = w.reading; places = w.places; are = sections_asked w.places }, so_far.gains)
