-- The visits that were made when a section is at fault, or refused.
use Rattle.std.proofs.Common.{◌≡◌, ℕ, List, [], ◌++◌, Option, true, refl, sym, ap, ◌∙◌, subst, ◌⊎◌, inl, inr}
use Rattle.std.proofs.lemmas.List.{append_cancel_left}
use Rattle.wasm_leb.proofs.Unique.{unsigned_unique}
use Rattle.wasm_shapes.specs.declared.SectionId.{SectionId}
use Rattle.wasm_shapes.specs.declared.SectionId.TheVariants as id
use Rattle.wasm_shapes.specs.declared.Space.{Space}
use Rattle.wasm_shapes.specs.declared.Space.TheVariants as space
use Rattle.wasm_shapes.specs.declared.Visit.{Visit}
use Rattle.wasm_shapes.specs.Drawn.{Drawn, IsItem}
use Rattle.wasm_shapes.specs.Tree.{Tree, before, behind, visits}
use Rattle.wasm_shapes.specs.Shape.{Shape}
use Rattle.wasm_shapes.specs.Sound.{sound}
use Rattle.wasm_shapes.specs.Spells.{Is, Spelled, Spells}
use Rattle.wasm_shapes.specs.Module.{body_of, row_of, tree_of, frame, numbered_frame, custom_frame, naming_row, indirect_row, subsection, name_subsection, names, InFrame, ReadsContents}
use Rattle.wasm_shapes.specs.Place.{Begins}
use Rattle.wasm_shapes.proofs.Drawn.{drawn_behind, drawn_closing, drawn_front, drawn_hook, drawn_item, drawn_joined, drawn_none}
use Rattle.wasm_shapes.proofs.Laws.{one_tree}
use Rattle.wasm_read.specs.Reading.{Standing, CountRead}
use Rattle.reencode_hooks.specs.declared.error.Error.{Error}
use Rattle.reencode_hooks.specs.Run.{accepted}
use Rattle.reencode_core.specs.Leaves.{Leaves, MadeUpTo, RowsUpTo, SectionUpTo, rows_in, section_in}
use Rattle.reencode_core.specs.Rows.{Asks}
use Rattle.reencode_core.specs.Sections.{HasItem, HasRows, ReadsAs}
use Rattle.reencode_core.proofs.sections_walked.KnownKind.{section_visits}
use Rattle.reencode_core.proofs.after_error.VisitsMade.{PartMade, Unasked, drawn_made, ended_all, front_none, front_same, tree_made}
use Rattle.reencode_core.proofs.sections_walked.OneSection.{BodyMade, rows_read, section_read}
use Rattle.reencode_core.proofs.after_error.RowsVisited.{drawn_rows}

-- ---- the kinds

body_sound : (k : SectionId) → sound (body_of k) ≡ true
body_sound id.Custom = refl
body_sound id.Type_ = refl
body_sound id.Import = refl
body_sound id.Function = refl
body_sound id.Table = refl
body_sound id.Memory = refl
body_sound id.Global = refl
body_sound id.Export = refl
body_sound id.Start = refl
body_sound id.Element = refl
body_sound id.Code = refl
body_sound id.Data = refl
body_sound id.DataCount = refl
body_sound id.Tag = refl

-- a body is rows, or one item, or no body of the kind is in force
body_is : (k : SectionId) → HasRows k ⊎ ((s : Space) × HasItem k s) ⊎ (body_of k ≡ Shape.none)
body_is id.Custom = inr (inr refl)
body_is id.Type_ = inl refl
body_is id.Import = inl refl
body_is id.Function = inl refl
body_is id.Table = inl refl
body_is id.Memory = inl refl
body_is id.Global = inl refl
body_is id.Export = inl refl
body_is id.Start = inr (inl (space.Function, refl))
body_is id.Element = inl refl
body_is id.Code = inl refl
body_is id.Data = inl refl
body_is id.DataCount = inr (inl (space.DataCount, refl))
body_is id.Tag = inl refl

-- a body is read as one tree
one_reading : (k : SectionId) {bytes : List ℕ} {t u : Tree} → ReadsAs k bytes t → ReadsAs k bytes u → t ≡ u
one_reading k {bytes = bytes} p q = p.1 ∙ ap (tree_of k) (one_tree (body_of k) (body_sound k) bytes p.0 q.0 p.2 q.2) ∙ sym q.1

-- the visits of a section are drawn from its body
pub section_drawn : (k : SectionId) {bytes : List ℕ} {t : Tree} → ReadsAs k bytes t → Drawn bytes (visits t)
section_drawn k {bytes = bytes} {t = t} r =
    let P : Tree → Type 0 = λ z. Drawn bytes (visits z) in
    let Q : List Visit → Type 0 = λ z. Drawn bytes z in
    subst P (sym r.1) (subst Q (sym (section_visits k r.0)) (go (body_is k)))
  where
    rows : (u : Tree) → Is (Shape.vec (row_of k)) u → Spelled u bytes → Drawn bytes (visits u)
    rows u (Is.vec {t = v} d) s = drawn_behind s.0 s.1 s.2 (drawn_rows (IsItem.row k) v s.1 d s.4)

    none : (u : Tree) → Is Shape.none u → Drawn bytes (visits u)
    none u d = elim d [ ]

    go : HasRows k ⊎ ((s : Space) × HasItem k s) ⊎ (body_of k ≡ Shape.none) → Drawn bytes (visits r.0)
    go (inl known) = let S : Shape → Type 0 = λ z. Is z r.0 in rows r.0 (subst S known r.2.shaped) r.2.spelled
    go (inr (inl one)) = let S : Shape → Type 0 = λ z. Spells z bytes r.0 in drawn_item (IsItem.one k one.0 one.1) (subst S one.1 r.2)
    go (inr (inr e)) = let S : Shape → Type 0 = λ z. Is z r.0 in none r.0 (subst S e r.2.shaped)

-- ---- names, and frames

module _ {x : List ℕ} where
  -- rows of a choice, one behind another
  or_drawn : {a b : Shape} → ((t : Tree) → Is a t → Spelled t x → Drawn x (visits t)) → ((t : Tree) → Is b t → Spelled t x → Drawn x (visits t)) → (t : Tree) → Is (Shape.or a b) t → Spelled t x → Drawn x (visits t)
  or_drawn f g t (Is.first {t = u} d) s = f u d s
  or_drawn f g t (Is.later {k = k} {t = u} d) s = g (Tree.row k u) d s

  no_row_drawn : (t : Tree) → Is Shape.none t → Spelled t x → Drawn x (visits t)
  no_row_drawn t d s = elim d [ ]

  map_drawn : {id : ℕ} {row : Shape} → IsItem row → (t : Tree) → Is (subsection id (Shape.vec row)) t → Spelled t x → Drawn x (visits t)
  map_drawn item t (Is.seq Is.fixed (Is.sized (Is.vec {t = v} d))) s =
      let body = s.4 in
      let rows = body.4 in
      drawn_behind s.0 s.1 s.2 (drawn_behind body.0 body.1 body.2 (drawn_behind rows.0 rows.1 rows.2 (drawn_rows item v rows.1 d rows.4)))

  text_drawn : (t : Tree) → Is (subsection 0 Shape.name) t → Spelled t x → Drawn x (visits t)
  text_drawn t (Is.seq Is.fixed (Is.sized Is.name)) s = drawn_none

  raw_drawn : (t : Tree) → Is (Shape.seq (Shape.within 12 255) (Shape.sized Shape.rest)) t → Spelled t x → Drawn x (visits t)
  raw_drawn t (Is.seq (Is.within low high) (Is.sized Is.rest)) s = drawn_none

  subsection_drawn : (t : Tree) → Is name_subsection t → Spelled t x → Drawn x (visits t)
  subsection_drawn =
      or_drawn text_drawn
      (or_drawn (map_drawn (IsItem.entry 1 (naming_row space.Function) refl))
      (or_drawn (map_drawn (IsItem.entry 2 (indirect_row space.Function) refl))
      (or_drawn (map_drawn (IsItem.entry 3 (indirect_row space.Function) refl))
      (or_drawn (map_drawn (IsItem.entry 4 (naming_row space.Type_) refl))
      (or_drawn (map_drawn (IsItem.entry 5 (naming_row space.Table) refl))
      (or_drawn (map_drawn (IsItem.entry 6 (naming_row space.Memory) refl))
      (or_drawn (map_drawn (IsItem.entry 7 (naming_row space.Global) refl))
      (or_drawn (map_drawn (IsItem.entry 8 (naming_row space.Element) refl))
      (or_drawn (map_drawn (IsItem.entry 9 (naming_row space.Data) refl))
      (or_drawn (map_drawn (IsItem.entry 10 (indirect_row space.Type_) refl))
      (or_drawn (map_drawn (IsItem.entry 11 (naming_row space.Tag) refl))
      (or_drawn raw_drawn no_row_drawn))))))))))))

-- the visits of a name subsection are drawn from it, and those of a name section from its contents
pub subsection_visits_drawn : {x : List ℕ} {t : Tree} → Spells name_subsection x t → Drawn x (visits t)
subsection_visits_drawn {t = t} p = subsection_drawn t p.shaped p.spelled

pub names_drawn : (t : Tree) (x : List ℕ) → Is names t → Spelled t x → Drawn x (visits t)
names_drawn t x Is.nil s = drawn_none
names_drawn t x (Is.cons {t = v} {u = u} d d') s =
    drawn_joined x (visits v) (visits u) (drawn_front s.0 s.1 s.2 (subsection_drawn v d s.3)) (drawn_behind s.0 s.1 s.2 (names_drawn u s.1 d' s.4))

pub contents_drawn : {name contents : List ℕ} {u : Tree} → ReadsContents name contents u → Drawn contents (visits u)
contents_drawn {contents = contents} {u = u} (inl r) = names_drawn u contents r.1.shaped r.1.spelled
contents_drawn {contents = contents} (inr r) = let P : Tree → Type 0 = λ z. Drawn contents (visits z) in subst P (sym r.1) drawn_none

-- the section hook's visit before a section, and the closing hook's behind it
pub before_drawn : {x : List ℕ} (last : Option SectionId) (t : Tree) → Drawn x (before last t)
before_drawn last (Tree.row k t) = before_drawn last t
before_drawn last (Tree.told k t) = drawn_hook
before_drawn last _ = drawn_none

pub behind_drawn : {x : List ℕ} (t : Tree) → Drawn x (behind t)
behind_drawn (Tree.row k t) = behind_drawn t
behind_drawn (Tree.told k t) = drawn_closing
behind_drawn _ = drawn_none

-- what is drawn from the body of a frame is drawn from what the frame stands in
pub numbered_drawn : {id : ℕ} {bytes body left : List ℕ} {vs : List Visit} → Begins frame bytes (numbered_frame id body) left → Drawn body vs → Drawn bytes vs
numbered_drawn {body = body} {left = left} {vs = vs} there d =
    let s = there.spells.spelled in
    let t = s.4 in
    let P : List ℕ → Type 0 = λ z. Drawn z vs in
    drawn_front there.text left there.reads (drawn_behind s.0 s.1 s.2 (drawn_behind t.0 t.1 t.2 (subst P (sym t.4) d)))

pub custom_drawn : {name bytes contents left : List ℕ} {vs : List Visit} → Begins frame bytes (custom_frame name contents) left → Drawn contents vs → Drawn bytes vs
custom_drawn {left = left} {vs = vs} there d =
    let s = there.spells.spelled in
    let t = s.4 in
    let u = t.4 in
    let P : List ℕ → Type 0 = λ z. Drawn z vs in
    drawn_front there.text left there.reads (drawn_behind s.0 s.1 s.2 (drawn_behind t.0 t.1 t.2 (drawn_behind u.0 u.1 u.2 (subst P (sym u.4) d))))

-- the visits of the section that stands in a frame
pub in_frame_drawn : {f t : Tree} {bytes left : List ℕ} → InFrame t f → Begins frame bytes f left → Drawn bytes (visits t)
in_frame_drawn (InFrame.of_kind k u body low p) there = numbered_drawn there (section_drawn k (u, refl, p))
in_frame_drawn (InFrame.of_custom name contents u r) there = custom_drawn there (contents_drawn r)
in_frame_drawn (InFrame.of_unknown id contents low high) there = drawn_none

-- the count that stands at the front is one
same_count : {bytes : List ℕ} {a b : Standing} (P : Standing → Type 0) → CountRead bytes a → CountRead bytes b → P b → P a
same_count {bytes = bytes} {a = a} {b = b} P p q x =
    let both_ways : p.counted.0 ++ a.rest ≡ q.counted.0 ++ b.rest = sym p.counted.2 ∙ q.counted.2 in
    let one : (p.counted.0 ≡ q.counted.0) × (a.left ≡ b.left) = unsigned_unique a.rest b.rest p.counted.1 q.counted.1 both_ways in
    let shifted : q.counted.0 ++ a.rest ≡ q.counted.0 ++ b.rest = ap (λ (z : List ℕ). z ++ a.rest) (sym one.0) ∙ both_ways in
    let behind : a.rest ≡ b.rest = append_cancel_left q.counted.0 a.rest b.rest shifted in
    let len : a.len ≡ b.len = p.len ∙ sym q.len in
    let count : a.count ≡ b.count = p.count ∙ one.1 ∙ sym q.count in
    let U : List ℕ → Type 0 = λ z. P (record { rest = z; left = b.left; len = b.len; count = b.count }) in
    let V : ℕ → Type 0 = λ z. P (record { rest = a.rest; left = z; len = b.len; count = b.count }) in
    let W : ℕ → Type 0 = λ z. P (record { rest = a.rest; left = a.left; len = z; count = b.count }) in
    let X : ℕ → Type 0 = λ z. P (record { rest = a.rest; left = a.left; len = a.len; count = z }) in
    subst X (sym count) (subst W (sym len) (subst V (sym one.1) (subst U (sym behind) x)))

module _ {S E : Type 0} (asked : Asks S E) (k : SectionId) {bytes : List ℕ} {s m : S} where
  -- its rows were asked in part
  pub section_leaves : (known : HasRows k) {reader : Standing} (e : Error E) → CountRead bytes reader → Leaves asked (rows_in (row_of k) reader) s e m → Leaves asked (section_in k bytes) s e m
  section_leaves known {reader = reader} e there l = record {
    made = l.made;
    ended = l.ended;
    drawn = drawn_behind there.counted.0 reader.rest there.counted.2 l.drawn;
    reading = λ t r. let v = rows_read asked k known there t r in front_same (sym (ap visits v.1 ∙ section_visits k (Tree.vec v.0))) (l.reading v.0 v.2);
    fault = λ none t rest f. up_to none t rest f;
  }
    where
      up_to : ((t : Tree) → ReadsAs k bytes t → ⊥) → (t : Tree) (rest : List ℕ) → SectionUpTo k bytes t rest → MadeUpTo e l.made (visits t) rest
      up_to none t rest (SectionUpTo.uncounted n) = absurd (n there.counted.0 reader.rest reader.left there.counted.1 there.counted.2)
      up_to none t rest (SectionUpTo.rows reader' u r known' there' f) =
          let P : Standing → Type 0 = λ z. RowsUpTo (row_of k) z t rest in
          l.fault (λ rows all. let q = section_read asked k known there rows all in none q.0 q.1) t rest (same_count P there there' f)
      up_to none t rest (SectionUpTo.behind p at b one) = absurd (let apart : Shape.vec (row_of k) ≡ Shape.ix p = sym known ∙ one in cc)

  -- nothing was asked, and what stands there is no rows
  pub section_untouched : (e : Error E) → Unasked e → s ≡ m → ((reader : Standing) → HasRows k → CountRead bytes reader → ⊥) → Leaves asked (section_in k bytes) s e m
  section_untouched e u same never = record {
    made = [];
    ended = ended_all {a = []} e u (ap (λ (z : S). accepted [] z) same);
    drawn = drawn_none;
    reading = λ t r. front_none (visits t);
    fault = λ none t rest f. up_to t rest f;
  }
    where
      up_to : (t : Tree) (rest : List ℕ) → SectionUpTo k bytes t rest → MadeUpTo e [] (visits t) rest
      up_to t rest (SectionUpTo.uncounted n) = inr ([], refl, drawn_none)
      up_to t rest (SectionUpTo.rows reader u r known there f) = absurd (never reader known there)
      up_to t rest (SectionUpTo.behind p at b one) = inr ([], refl, drawn_none)

  -- it has a reading, which was asked in part
  pub section_leaves_part : {t : Tree} (e : Error E) → ReadsAs k bytes t → PartMade asked s (visits t) e m → Leaves asked (section_in k bytes) s e m
  section_leaves_part {t = t} e r p = record {
    made = p.part;
    ended = p.ended;
    drawn = drawn_made p.front (section_drawn k r);
    reading = λ u q. front_same (ap visits (one_reading k r q)) p.front;
    fault = λ none u rest f. absurd (none t r);
  }

  -- its body was accepted
  pub section_leaves_all : {c : ℕ} {made : Tree} (e : Error E) → Unasked e → BodyMade asked k bytes c s m made → Leaves asked (section_in k bytes) s e m
  section_leaves_all {c = c} e u b =
      let v = b.becomes b.reading.0 b.reading.1 in
      let p : PartMade asked s (visits v.0) e m = tree_made asked c e v.0 u v.2 in
      let P : List Visit → Type 0 = λ z. PartMade asked s z e m in
      section_leaves_part e b.reading.1 (subst P (sym (ap visits v.1 ∙ section_visits k v.0)) p)
