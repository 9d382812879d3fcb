-- The subsections of the names of a component, as they are mapped.
use Rattle.std.proofs.Common.{◌≡◌, ◌⊎◌, inl, inr, ℕ, ◌≤◌, ◌<◌, ◌^◌, ◌-◌, List, [], ◌++◌, length, map, Result, IfErr, OnOk, OnErr, true, refl, sym, ap, ◌∙◌, subst}
use Rattle.wasm_shapes.specs.declared.Space.{Space}
use Rattle.wasm_shapes.specs.declared.Visit.{Visit}
use Rattle.wasm_shapes.specs.Component.{component_name_subsection, component_names}
use Rattle.wasm_shapes.specs.ComponentNames.{IsRawNames, Sort, behind_sort, component_names_tree, has_sort, is_sort, led_by, raw_component_names_tree, sort_bytes, sort_of}
use Rattle.wasm_shapes.specs.Drawn.{Drawn, IsItem}
use Rattle.wasm_shapes.proofs.Drawn.{drawn_behind, drawn_front, drawn_joined, drawn_none}
use Rattle.wasm_shapes.proofs.SortRows.{sort_normal}
use Rattle.wasm_shapes.specs.Module.{naming_row, plain_naming}
use Rattle.wasm_shapes.specs.Namings.{Entry, asked_in, entries_trees, module_name_tree}
use Rattle.wasm_shapes.specs.Shape.{Shape}
use Rattle.wasm_shapes.specs.Spells.{Is, Spelled}
use Rattle.wasm_shapes.specs.Tree.{Tree, normal, visits}
use Rattle.wasm_shapes.specs.Types.{rows_tree, vector_tree}
use Rattle.wasm_read.specs.Names.{EntriesLeft, MapStanding, NamesStanding, whole_map}
use Rattle.wasm_read.specs.Subsections.{Content, ReadsContentAs, SubsectionRead}
use Rattle.wasm_read.proofs.NameMaps.{entries_of, names_one}
use Rattle.wasm_read_component.specs.declared.types.ComponentName.{ComponentName}
use Rattle.wasm_read_component.specs.declared.types.ComponentName.TheVariants as name
use Rattle.wasm_read_component.specs.ComponentNames.{HoldsComponentName, HoldsContent, IsRawName, component_content}
use Rattle.wasm_read_component.proofs.ComponentSubsections.{IsSorted, OfSort, name_sorted, of_sort, raw_above, reads_subsection, subsection_there}
use Rattle.wasm_write.specs.declared.fault.WriteFault.{WriteFault}
use Rattle.wasm_write.specs.Bodies.{CodeRows, with_row}
use Rattle.wasm_write.specs.Counts.{counts}
use Rattle.wasm_write.specs.Faults.{IfTooLarge}
use Rattle.wasm_write.specs.Names.{PassesCeiling}
use Rattle.reencode_hooks.specs.declared.error.Error.{Error}
use Rattle.reencode_hooks.specs.declared.indices.ReencodeIndices.{Ghosts}
use Rattle.reencode_hooks.specs.Run.{accepted, refused}
use Rattle.reencode_hooks.specs.Walk.{walk}
use Rattle.reencode_core.specs.NameFormats.{entries_bytes}
use Rattle.reencode_core.specs.Rows.{Asks}
use Rattle.reencode_core.specs.Clauses.{SubsectionClausesOf, asks}
use Rattle.reencode_core.specs.Names.{of_writer}
use Rattle.reencode_core.proofs.sections_walked.HeadAndFrame.{framed}
use Rattle.reencode_core.proofs.names_mapped.EachSubsection.{IsMap, IsWrap, leaf_written, normal_map, raw_sizes, text_sizes}
use Rattle.reencode_core.proofs.names_mapped.FormatLaws.{FormatLaws}
use Rattle.reencode_core.proofs.after_error.RowsVisited.{drawn_rows}
use Rattle.reencode_component.specs.ComponentNames.{OfSortedMap, SortedMap}
use Rattle.reencode_component.specs.ComponentNames as format

-- ---- what stands round a map

visits_behind_sort : (p : Space) (t : Tree) → has_sort p ≡ true → visits (behind_sort p t) ≡ visits t
visits_behind_sort p t h = go (sort_of p) h
  where
    go : (s : Sort) → is_sort s ≡ true → visits (led_by s t) ≡ visits t
    go (Sort.core k b) e = refl
    go (Sort.own b) e = refl
    go Sort.none e = absurd cc

pub wraps : {S E : Type 0} (asked : Asks S E) (p : Space) → has_sort p ≡ true → IsWrap asked (behind_sort p)
wraps {S} {E} asked p h = record {
  accepts = λ c s m t u w. accepts (sort_of p) h c s m t u w;
  refuses = λ c s m t e w. refuses (sort_of p) h c s m t e w;
  asks_same = λ t. visits_behind_sort p t h;
}
  where
    accepts : (q : Sort) → is_sort q ≡ true → (c : ℕ) (s m : S) (t u : Tree) → walk asked c s t ≡ accepted u m → walk asked c s (led_by q t) ≡ accepted (led_by q u) m
    accepts (Sort.core k b) e c s m t u w = rw w refl
    accepts (Sort.own b) e c s m t u w = rw w refl
    accepts Sort.none e c s m t u w = absurd cc

    refuses : (q : Sort) → is_sort q ≡ true → (c : ℕ) (s m : S) (t : Tree) (x : Error E) → walk asked c s t ≡ refused x m → walk asked c s (led_by q t) ≡ refused x m
    refuses (Sort.core k b) e c s m t x w = rw w refl
    refuses (Sort.own b) e c s m t x w = rw w refl
    refuses Sort.none e c s m t x w = absurd cc

-- how many bytes names behind their sort take
pub sorted_length : (p : Space) (es : List Tree) → has_sort p ≡ true →
    length (normal (behind_sort p (vector_tree (map (asked_in p) es)))) ≡ length (sort_bytes p ++ normal (vector_tree es))
sorted_length p es h = ap length (sort_normal p (vector_tree (map (asked_in p) es)) h ∙ ap (λ (z : List ℕ). sort_bytes p ++ z) (normal_map p es))

-- ---- the laws of the format

content_map : (c : Content) (id : ℕ) (body : List ℕ) (P : Shape → MapStanding → Type 0) → IsSorted c → HoldsContent id body c → OfSortedMap c P →
    (row : Shape) × (bytes : List ℕ) × ((id ≡ 1) × SortedMap body row bytes) × P row (whole_map bytes)
content_map (Content.direct j p m) id body P k h q =
    let b = h.1 in
    let sorted : SortedMap body (naming_row p) b.bytes = record { space = p; sort = k.1; is_row = refl; stands = b.sorted } in
    (naming_row p, b.bytes, (h.0, sorted), subst (P (naming_row p)) b.map q)
content_map (Content.indirect j p m) id body P k h q = absurd q
content_map (Content.text n) id body P k h q = absurd q
content_map (Content.raw j c) id body P k h q = absurd q

content_drawn : (c : Content) (id : ℕ) (body : List ℕ) (vs : List Visit) → HoldsContent id body c → Drawn (entries_bytes c) vs → Drawn body vs
content_drawn (Content.direct j p m) id body vs h d =
    let b = h.1 in
    let D : List ℕ → Type 0 = λ z. Drawn z vs in
    drawn_behind (sort_bytes p) b.bytes b.sorted (subst D (ap MapStanding.rest b.map) d)
content_drawn (Content.indirect j p m) id body vs h d = absurd h
content_drawn (Content.text n) id body vs h d = drawn_front [] body refl d
content_drawn (Content.raw j c) id body vs h d = drawn_front [] body refl d

sorted_drawn : {body : List ℕ} {u : Tree} → OfSort body u → Drawn body (visits u)
sorted_drawn {body = body} {u = u} o =
    let same : visits u ≡ visits o.map = ap visits o.is ∙ visits_behind_sort o.p o.map o.sort in
    let P : List Visit → Type 0 = λ z. Drawn body z in
    subst P (sym same) (drawn_behind (sort_bytes o.p) o.bytes o.stands (names o.map o.spells.shaped o.spells.spelled))
  where
    names : (t : Tree) → Is (Shape.vec (naming_row o.p)) t → Spelled t o.bytes → Drawn o.bytes (visits t)
    names t (Is.vec {t = v} d) s = drawn_behind s.0 s.1 s.2 (drawn_rows (IsItem.sort_entry o.p) v s.1 d s.4)

subsection_drawn : (t : Tree) (x : List ℕ) → Is component_name_subsection t → Spelled t x → Drawn x (visits t)
subsection_drawn t x (Is.first (Is.seq Is.fixed (Is.sized Is.name))) s = drawn_none
subsection_drawn t x (Is.later (Is.first (Is.seq Is.fixed (Is.sized (Is.led d))))) s =
    let q = s.4 in drawn_behind s.0 s.1 s.2 (drawn_behind q.0 q.1 q.2 (sorted_drawn (of_sort d q.4)))
subsection_drawn t x (Is.later (Is.first (Is.seq Is.fixed (Is.sized (Is.not_led none))))) s = drawn_none
subsection_drawn t x (Is.later (Is.later (Is.first (Is.seq (Is.within low high) (Is.sized Is.rest))))) s = drawn_none
subsection_drawn t x (Is.later (Is.later (Is.later d))) s = elim d [ ]

pub component_names_drawn : (t : Tree) (x : List ℕ) → Is component_names t → Spelled t x → Drawn x (visits t)
component_names_drawn t x Is.nil s = drawn_none
component_names_drawn t x (Is.cons {t = v} {u = u} d d') s =
    drawn_joined x (visits v) (visits u) (drawn_front s.0 s.1 s.2 (subsection_drawn v s.0 d s.3)) (drawn_behind s.0 s.1 s.2 (component_names_drawn u s.1 d' s.4))

pub component_laws : FormatLaws format.component_names
component_laws = record {
  passes = refl;
  many_pass = refl;
  ends = refl;
  fills = refl;
  there = λ old new n t r reads. subsection_there {old = old} {new = new} {n = n} r reads;
  here = λ old new n t left r p. reads_subsection {old = old} {new = new} {n = n} r p;
  in_map = λ id body n P h q. content_map (component_content n) id body P (name_sorted n) h q;
  drawn_in = λ id body n vs h d. content_drawn (component_content n) id body vs h d;
  rows_drawn = component_names_drawn;
}

-- what is raw is read by its bytes
raw_of : (n : ComponentName) (id : ℕ) (body : List ℕ) → HoldsComponentName id body n → IsRawName n
raw_of (name.Unknown j c) id body h = h.1
raw_of _ id body h = tt

pub read_raw : {reader reader' : NamesStanding} {n : ComponentName} → SubsectionRead HoldsComponentName reader n reader' → IsRawName n
read_raw {n = n} r = raw_of n r.id r.body r.holds

-- ---- a map

abbrev Reads : Content → Tree → Type 0
Reads c t = ReadsContentAs (λ _ p rows. component_names_tree p rows) raw_component_names_tree c t

pub sorted_map : {n : ComponentName} {m : MapStanding} (p : Space) → component_content n ≡ Content.direct 1 p m → IsMap format.component_names n 1 (behind_sort p) p Shape.name m
sorted_map {n = n} {m = m} p is = record {
  entries = λ t reads. let Q : Content → Type 0 = λ z. Reads z t in let q = subst Q is reads in (entries_trees q.0, q.1, q.2);
  read = λ ts w.
      let es = entries_of ts w.rows_left.shaped in
      let L : List Tree → Type 0 = λ z. EntriesLeft plain_naming m (rows_tree z) in
      let t = component_names_tree p (entries_trees es.0) in
      let Q : Content → Type 0 = λ z. Reads z t in
      (t, subst Q (sym is) (es.0, subst L es.1 w, refl));
  item = IsItem.sort_entry p;
  of_map = λ P h. let Q : Content → Type 0 = λ z. OfSortedMap z P in subst Q (sym is) h;
  in_map = λ P h. let Q : Content → Type 0 = λ z. OfSortedMap z P in subst Q is h;
  bytes = ap entries_bytes is;
  one = λ t u p_t p_u.
      let Q : Tree → Content → Type 0 = λ v z. Reads z v in
      let x = subst (Q t) is p_t in
      let y = subst (Q u) is p_u in
      x.2 ∙ ap (λ (es : List Entry). component_names_tree p (entries_trees es)) (names_one x.0 y.0 x.1 y.1) ∙ sym y.2;
}

-- ---- what asks nothing

module _ {S E : Type 0} (i : Ghosts S E) {n : ComponentName} {s : S} {old new : CodeRows} where
  pub component_written : (name : List ℕ) → component_content n ≡ Content.text name → (w : Result (Unit {0}) WriteFault) → OnOk w (new ≡ with_row old (module_name_tree name)) →
      OnOk w (length (normal (Tree.name name)) ≤ old.ceiling) → OnErr w (new ≡ old) →
      IfErr w (λ f. IfTooLarge f (λ size. ((size ≡ length name) × (2 ^ 32 - 1 < size)) ⊎ PassesCeiling old.ceiling (Tree.name name) size)) → (r : Result (Unit {0}) (Error E)) → r ≡ of_writer w →
      SubsectionClausesOf format.component_names i n s old s new r
  component_written name is w gains fits unchanged large r q =
      let P : Content → Type 0 = λ z. Reads z (module_name_tree name) in
      leaf_written format.component_names i 0 (Tree.fixed 0) (Tree.name name) (λ c s. refl) (λ c s. refl) refl refl (subst P (sym is) refl)
      (λ t reads. let Q : Content → Type 0 = λ z. Reads z t in subst Q is reads) w gains fits unchanged (text_sizes old.ceiling name w large) r q

  -- one that is read by its bytes, by its row and its head
  raw_at : (id : ℕ) (contents : List ℕ) (row : ℕ) (head : Tree) → raw_component_names_tree id contents ≡ framed row head (Tree.raw contents) → ((c : ℕ) (s : S) → walk (asks i) c s head ≡ accepted head s) →
      counts head ≡ [] → visits (framed row head (Tree.raw contents)) ≡ [] → component_content n ≡ Content.raw id contents → (w : Result (Unit {0}) WriteFault) →
      OnOk w (new ≡ with_row old (raw_component_names_tree id contents)) → OnOk w (length contents ≤ old.ceiling) → OnErr w (new ≡ old) →
      IfErr w (λ f. IfTooLarge f (PassesCeiling old.ceiling (Tree.raw contents))) → (r : Result (Unit {0}) (Error E)) → r ≡ of_writer w → SubsectionClausesOf format.component_names i n s old s new r
  raw_at id contents row head tree still none unasked is w gains fits unchanged large r q =
      let P : Content → Type 0 = λ z. Reads z (framed row head (Tree.raw contents)) in
      let G : Tree → Type 0 = λ z. OnOk w (new ≡ with_row old z) in
      leaf_written format.component_names i row head (Tree.raw contents) still (λ c s. refl) none unasked (subst P (sym is) (sym tree))
      (λ t reads. let Q : Content → Type 0 = λ z. Reads z t in subst Q is reads ∙ tree) w (subst G tree gains) fits unchanged (raw_sizes old.ceiling contents w large) r q

  pub raw_written : (id : ℕ) (contents : List ℕ) → IsRawNames id contents → component_content n ≡ Content.raw id contents → (w : Result (Unit {0}) WriteFault) →
      OnOk w (new ≡ with_row old (raw_component_names_tree id contents)) → OnOk w (length contents ≤ old.ceiling) → OnErr w (new ≡ old) →
      IfErr w (λ f. IfTooLarge f (PassesCeiling old.ceiling (Tree.raw contents))) → (r : Result (Unit {0}) (Error E)) → r ≡ of_writer w → SubsectionClausesOf format.component_names i n s old s new r
  raw_written id contents (inl one) is =
      let tree : raw_component_names_tree id contents ≡ framed 1 (Tree.fixed 1) (Tree.raw contents) = ap (λ (z : ℕ). raw_component_names_tree z contents) one.0 in
      raw_at id contents 1 (Tree.fixed 1) tree (λ c s. refl) refl refl is
  raw_written id contents (inr from) is = raw_at id contents 2 (Tree.byte id) (raw_above contents from) (λ c s. refl) refl refl is
