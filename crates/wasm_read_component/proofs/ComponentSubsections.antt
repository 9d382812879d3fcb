-- Subsections of the names of a component, and the frames that they stand in.
use Rattle.std.proofs.Common.{◌≡◌, inl, inr, ℕ, ◌≤◌, ◌<◌, nat_eq, List, [], ◌∷◌, ◌++◌, true, false, Option, Some, None, if◌then◌else◌, refl, sym, ap, ap₂, ◌∙◌, subst, arith}
use Rattle.std.proofs.lemmas.Bool.{ne_eqb}
use Rattle.wasm_shapes.specs.declared.Space.{Space}
use Rattle.wasm_shapes.specs.declared.Space.TheVariants as space
use Rattle.wasm_shapes.specs.Tree.{Tree}
use Rattle.wasm_shapes.specs.Shape.{Shape, begins_with_one}
use Rattle.wasm_shapes.specs.Spells.{Is, Spelled, Spells}
use Rattle.wasm_shapes.specs.Place.{Begins, BeginsNone}
use Rattle.wasm_shapes.specs.Component.{component_name_subsection, sort_names, sort_rows, sorts}
use Rattle.wasm_shapes.specs.ComponentNames.{IsRawNames, Sort, behind_sort, component_names_tree, has_sort, raw_component_names_tree, sort_bytes, sort_of}
use Rattle.wasm_shapes.specs.Namings.{entries_trees, module_name_tree, subsection_tree}
use Rattle.wasm_shapes.specs.Types.{rows_tree}
use Rattle.wasm_shapes.proofs.Begins.{begins_row}
use Rattle.wasm_shapes.proofs.SortRows.{sort_spells}
use Rattle.wasm_shapes.proofs.Unique.{unique}
use Rattle.wasm_read.specs.Names.{EntriesLeft, MapStanding, NamesStanding, whole_map}
use Rattle.wasm_read.specs.Subsections.{Content, NoSubsection, ReadsContentAs, SubsectionRead, subsection_frame, subsection_frame_tree}
use Rattle.wasm_read.proofs.NameMaps.{asked_spelled, entries_of, plain_row, spelled_asked}
use Rattle.wasm_read.proofs.Subsections.{frame_one}
use Rattle.wasm_read_component.specs.declared.types.ComponentName.{ComponentName}
use Rattle.wasm_read_component.specs.declared.types.ComponentName.TheVariants as name
use Rattle.wasm_read_component.specs.ComponentNames.{BehindSort, HoldsComponentName, HoldsContent, ReadsComponentName, component_content}

-- ---- sorts

abbrev core_space : ℕ → Space
core_space b =
    if nat_eq b 0x00 then space.Function else if nat_eq b 0x01 then space.Table else if nat_eq b 0x02 then space.Memory else if nat_eq b 0x03 then space.Global else
    if nat_eq b 0x04 then space.Tag else if nat_eq b 0x10 then space.Type_ else if nat_eq b 0x11 then space.Module else space.Instance

abbrev own_space : ℕ → Space
own_space b =
    if nat_eq b 0x01 then space.ComponentFunc else if nat_eq b 0x02 then space.ComponentValue else if nat_eq b 0x03 then space.ComponentType else
    if nat_eq b 0x04 then space.Component else space.ComponentInstance

-- the space of the sort that some bytes begin with, and the bytes behind it
abbrev core_sorted : List ℕ → Option (Space × List ℕ)
core_sorted [] = None
core_sorted (b ∷ bytes) = Some (core_space b, bytes)

abbrev sorted : List ℕ → Option (Space × List ℕ)
sorted [] = None
sorted (b ∷ bytes) = if nat_eq b 0x00 then core_sorted bytes else Some (own_space b, bytes)

sorted_back : (p : Space) (bytes : List ℕ) → has_sort p ≡ true → sorted (sort_bytes p ++ bytes) ≡ Some (p, bytes)
sorted_back space.Function bytes h = refl
sorted_back space.Table bytes h = refl
sorted_back space.Memory bytes h = refl
sorted_back space.Global bytes h = refl
sorted_back space.Tag bytes h = refl
sorted_back space.Type_ bytes h = refl
sorted_back space.Module bytes h = refl
sorted_back space.Instance bytes h = refl
sorted_back space.ComponentFunc bytes h = refl
sorted_back space.ComponentValue bytes h = refl
sorted_back space.ComponentType bytes h = refl
sorted_back space.Component bytes h = refl
sorted_back space.ComponentInstance bytes h = refl
sorted_back _ bytes h = absurd cc

abbrev space_in : Option (Space × List ℕ) → Space
space_in None = space.DataCount
space_in (Some r) = r.0

abbrev bytes_in : Option (Space × List ℕ) → List ℕ
bytes_in None = []
bytes_in (Some r) = r.1

-- bytes begin with one sort
sort_one : (p q : Space) (x y : List ℕ) → has_sort p ≡ true → has_sort q ≡ true → sort_bytes p ++ x ≡ sort_bytes q ++ y → (p ≡ q) × (x ≡ y)
sort_one p q x y h k e =
    let same = sym (sorted_back p x h) ∙ ap sorted e ∙ sorted_back q y k in
    (ap space_in same, ap bytes_in same)

-- what is led by a sort is names of what its space counts
pub record OfSort (body : List ℕ) (u : Tree) : Type 0 where
  pub p : Space
  pub sort : has_sort p ≡ true
  pub bytes : List ℕ
  pub stands : body ≡ sort_bytes p ++ bytes
  pub map : Tree
  pub is : u ≡ behind_sort p map
  pub spells : Spells (sort_names p) bytes map

of_core : (p : Space) (k b : ℕ) {t : Tree} {body : List ℕ} → has_sort p ≡ true → sort_of p ≡ Sort.core k b → Is (sort_names p) t →
    Spelled (Tree.pair (Tree.fixed 0x00) (Tree.row k (Tree.pair (Tree.fixed b) t))) body → OfSort body (Tree.row 0 (Tree.pair (Tree.fixed 0x00) (Tree.row k (Tree.pair (Tree.fixed b) t))))
of_core p k b {t = t} {body = body} h e d s =
    let r = s.4 in
    let here : body ≡ 0x00 ∷ (b ∷ r.1) = s.2 ∙ ap₂ (λ (y z : List ℕ). y ++ z) s.3 (r.2 ∙ ap (λ (y : List ℕ). y ++ r.1) r.3) in
    record { p = p; sort = h; bytes = r.1; stands = rw e here; map = t; is = rw e refl; spells = record { shaped = d; spelled = r.4 } }

of_own : (p : Space) (b : ℕ) {t : Tree} {body : List ℕ} → has_sort p ≡ true → sort_of p ≡ Sort.own b → Is (sort_names p) t →
    Spelled (Tree.pair (Tree.fixed b) t) body → OfSort body (Tree.row b (Tree.pair (Tree.fixed b) t))
of_own p b {t = t} {body = body} h e d s =
    let here : body ≡ b ∷ s.1 = s.2 ∙ ap (λ (y : List ℕ). y ++ s.1) s.3 in
    record { p = p; sort = h; bytes = s.1; stands = rw e here; map = t; is = rw e refl; spells = record { shaped = d; spelled = s.4 } }

pub of_sort : {body : List ℕ} {u : Tree} → Is sort_rows u → Spelled u body → OfSort body u
of_sort (Is.first (Is.seq Is.fixed (Is.first (Is.seq Is.fixed d)))) s = of_core space.Function 0 0x00 refl refl d s
of_sort (Is.first (Is.seq Is.fixed (Is.later (Is.first (Is.seq Is.fixed d))))) s = of_core space.Table 1 0x01 refl refl d s
of_sort (Is.first (Is.seq Is.fixed (Is.later (Is.later (Is.first (Is.seq Is.fixed d)))))) s = of_core space.Memory 2 0x02 refl refl d s
of_sort (Is.first (Is.seq Is.fixed (Is.later (Is.later (Is.later (Is.first (Is.seq Is.fixed d))))))) s = of_core space.Global 3 0x03 refl refl d s
of_sort (Is.first (Is.seq Is.fixed (Is.later (Is.later (Is.later (Is.later (Is.first (Is.seq Is.fixed d)))))))) s = of_core space.Tag 4 0x04 refl refl d s
of_sort (Is.first (Is.seq Is.fixed (Is.later (Is.later (Is.later (Is.later (Is.later (Is.first (Is.seq Is.fixed d))))))))) s = of_core space.Type_ 5 0x10 refl refl d s
of_sort (Is.first (Is.seq Is.fixed (Is.later (Is.later (Is.later (Is.later (Is.later (Is.later (Is.first (Is.seq Is.fixed d)))))))))) s = of_core space.Module 6 0x11 refl refl d s
of_sort (Is.first (Is.seq Is.fixed (Is.later (Is.later (Is.later (Is.later (Is.later (Is.later (Is.later (Is.first (Is.seq Is.fixed d))))))))))) s = of_core space.Instance 7 0x12 refl refl d s
of_sort (Is.first (Is.seq Is.fixed (Is.later (Is.later (Is.later (Is.later (Is.later (Is.later (Is.later (Is.later d)))))))))) s = elim d [ ]
of_sort (Is.later (Is.first (Is.seq Is.fixed d))) s = of_own space.ComponentFunc 0x01 refl refl d s
of_sort (Is.later (Is.later (Is.first (Is.seq Is.fixed d)))) s = of_own space.ComponentValue 0x02 refl refl d s
of_sort (Is.later (Is.later (Is.later (Is.first (Is.seq Is.fixed d))))) s = of_own space.ComponentType 0x03 refl refl d s
of_sort (Is.later (Is.later (Is.later (Is.later (Is.first (Is.seq Is.fixed d)))))) s = of_own space.Component 0x04 refl refl d s
of_sort (Is.later (Is.later (Is.later (Is.later (Is.later (Is.first (Is.seq Is.fixed d))))))) s = of_own space.ComponentInstance 0x05 refl refl d s
of_sort (Is.later (Is.later (Is.later (Is.later (Is.later (Is.later d)))))) s = elim d [ ]

-- what begins with a sort is not read by its bytes
begins_sorted : (p : Space) (bytes : List ℕ) → has_sort p ≡ true → begins_with_one sorts (sort_bytes p ++ bytes) ≡ true
begins_sorted space.Function bytes h = refl
begins_sorted space.Table bytes h = refl
begins_sorted space.Memory bytes h = refl
begins_sorted space.Global bytes h = refl
begins_sorted space.Tag bytes h = refl
begins_sorted space.Type_ bytes h = refl
begins_sorted space.Module bytes h = refl
begins_sorted space.Instance bytes h = refl
begins_sorted space.ComponentFunc bytes h = refl
begins_sorted space.ComponentValue bytes h = refl
begins_sorted space.ComponentType bytes h = refl
begins_sorted space.Component bytes h = refl
begins_sorted space.ComponentInstance bytes h = refl
begins_sorted _ bytes h = absurd cc

-- ---- what stands in a frame

-- What the body of an id is read as: a name, names of what is of a sort, or its bytes.
pub data InBody : ℕ → List ℕ → Tree → Type 0 where
  called : {body : List ℕ} {u : Tree} → Spells Shape.name body u → InBody 0 body (subsection_tree 0 u)
  map : {body : List ℕ} {u : Tree} → OfSort body u → InBody 1 body (subsection_tree 1 u)
  raw : {id : ℕ} {body : List ℕ} → IsRawNames id body → InBody id body (raw_component_names_tree id body)

-- a subsection, and its frame
pub record Framed (bytes : List ℕ) (t : Tree) (left : List ℕ) : Type 0 where
  pub id : ℕ
  pub body : List ℕ
  pub frame : Begins subsection_frame bytes (subsection_frame_tree id body) left
  pub inside : InBody id body t

-- one of another id
pub raw_above : {id : ℕ} (body : List ℕ) → 2 ≤ id → raw_component_names_tree id body ≡ Tree.row 2 (Tree.pair (Tree.byte id) (Tree.sized (Tree.raw body)))
raw_above {id = id} body from = let other : nat_eq id 1 ≡ false = ne_eqb id 1 (λ e. omega arith) in rw other refl

-- a subsection stands in its frame
pub row_of : {bytes left : List ℕ} {t : Tree} → Begins component_name_subsection bytes t left → Framed bytes t left
row_of {bytes = bytes} {left = left} p = go p.text p.spells.shaped p.spells.spelled p.reads
  where
    go : (text : List ℕ) {t : Tree} → Is component_name_subsection t → Spelled t text → bytes ≡ text ++ left → Framed bytes t left
    go text (Is.first (Is.seq Is.fixed (Is.sized d))) s e =
        let q = s.4 in record {
          id = 0;
          body = q.1;
          frame = record {
            text = text;
            spells = record { shaped = Is.seq Is.byte (Is.sized Is.rest); spelled = (s.0, s.1, s.2, (s.3, omega arith), (q.0, q.1, q.2, q.3, refl)) };
            reads = e;
          };
          inside = InBody.called (record { shaped = d; spelled = q.4 });
        }
    go text (Is.later (Is.first (Is.seq Is.fixed (Is.sized (Is.led d))))) s e =
        let q = s.4 in record {
          id = 1;
          body = q.1;
          frame = record {
            text = text;
            spells = record { shaped = Is.seq Is.byte (Is.sized Is.rest); spelled = (s.0, s.1, s.2, (s.3, omega arith), (q.0, q.1, q.2, q.3, refl)) };
            reads = e;
          };
          inside = InBody.map (of_sort d q.4);
        }
    go text (Is.later (Is.first (Is.seq Is.fixed (Is.sized (Is.not_led {bs = bs} none))))) s e =
        let q = s.4 in record {
          id = 1;
          body = bs;
          frame = record {
            text = text;
            spells = record { shaped = Is.seq Is.byte (Is.sized Is.rest); spelled = (s.0, s.1, s.2, (s.3, omega arith), q) };
            reads = e;
          };
          inside = InBody.raw (inl (refl, none));
        }
    go text (Is.later (Is.later (Is.first (Is.seq (Is.within {b = id} low high) (Is.sized (Is.rest {bs = body})))))) s e =
        let I : Tree → Type 0 = λ z. InBody id body z in record {
          id = id;
          body = body;
          frame = record { text = text; spells = record { shaped = Is.seq Is.byte (Is.sized Is.rest); spelled = s }; reads = e };
          inside = subst I (raw_above body low) (InBody.raw (inr low));
        }
    go text (Is.later (Is.later (Is.later d))) s e = elim d [ ]

-- what a frame's body is read as is a subsection
framed_there : {id : ℕ} {bytes body left : List ℕ} {a : Shape} {u : Tree} → Begins subsection_frame bytes (subsection_frame_tree id body) left → Spells a body u →
    Begins (Shape.seq (Shape.fixed id) (Shape.sized a)) bytes (Tree.pair (Tree.fixed id) (Tree.sized u)) left
framed_there {u = u} p q =
    let s = p.spells.spelled in
    let c = s.4 in
    let P : List ℕ → Type 0 = λ z. Spelled u z in record {
      text = p.text;
      spells = record { shaped = Is.seq Is.fixed (Is.sized q.shaped); spelled = (s.0, s.1, s.2, s.3.0, (c.0, c.1, c.2, c.3, subst P (sym c.4) q.spelled)) };
      reads = p.reads;
    }

-- names behind their sort
begun_spells : {body : List ℕ} {u : Tree} → OfSort body u → Spells (Shape.begun sorts sort_rows) body u
begun_spells {body = body} {u = u} o =
    let s = sort_spells o.p o.sort o.spells in
    let P : List ℕ → Tree → Type 0 = λ y z. Spells (Shape.begun sorts sort_rows) y z in
    let there : P (sort_bytes o.p ++ o.bytes) (behind_sort o.p o.map) = record { shaped = Is.led s.shaped; spelled = s.spelled } in
    subst (λ (y : List ℕ). P y u) (sym o.stands) (subst (P (sort_bytes o.p ++ o.bytes)) (sym o.is) there)

there : {id : ℕ} {bytes body left : List ℕ} {t : Tree} → Begins subsection_frame bytes (subsection_frame_tree id body) left → InBody id body t → Begins component_name_subsection bytes t left
there p (InBody.called s) = begins_row {k = 0} (framed_there p s)
there p (InBody.map o) = begins_row {k = 1} (framed_there p (begun_spells o))
there {bytes = bytes} {left = left} p (InBody.raw {id = id} {body = body} r) = go r
  where
    B : Tree → Type 0
    B t = Begins component_name_subsection bytes t left

    go : IsRawNames id body → B (raw_component_names_tree id body)
    go (inl r) =
        let F : ℕ → Type 0 = λ z. Begins subsection_frame bytes (subsection_frame_tree z body) left in
        let one : B (raw_component_names_tree 1 body) = begins_row {k = 1} (framed_there {a = Shape.begun sorts sort_rows} {u = Tree.raw body} (subst F r.0 p) (record { shaped = Is.not_led r.1; spelled = refl })) in
        let R : ℕ → Type 0 = λ z. B (raw_component_names_tree z body) in
        subst R (sym r.0) one
    go (inr from) =
        let small : id < 256 = p.spells.spelled.3.1 in
        subst B (sym (raw_above body from)) (begins_row {k = 2} (record {
          text = p.text;
          spells = record { shaped = Is.seq (Is.within from (omega arith)) (Is.sized Is.rest); spelled = p.spells.spelled };
          reads = p.reads;
        }))

-- ---- what the contents are, by the name

-- a map's space has a sort, and no map has maps inside
abbrev pub IsSorted : Content → Type 0
IsSorted (Content.direct id p m) = (id ≡ 1) × (has_sort p ≡ true)
IsSorted (Content.indirect id p m) = ⊥
IsSorted _ = Unit {0}

pub name_sorted : (n : ComponentName) → IsSorted (component_content n)
name_sorted (name.Component n) = tt
name_sorted (name.CoreFuncs m) = (refl, refl)
name_sorted (name.CoreTables m) = (refl, refl)
name_sorted (name.CoreMemories m) = (refl, refl)
name_sorted (name.CoreGlobals m) = (refl, refl)
name_sorted (name.CoreTags m) = (refl, refl)
name_sorted (name.CoreTypes m) = (refl, refl)
name_sorted (name.CoreModules m) = (refl, refl)
name_sorted (name.CoreInstances m) = (refl, refl)
name_sorted (name.Funcs m) = (refl, refl)
name_sorted (name.Values m) = (refl, refl)
name_sorted (name.Types m) = (refl, refl)
name_sorted (name.Components m) = (refl, refl)
name_sorted (name.Instances m) = (refl, refl)
name_sorted (name.Unknown id c) = tt

abbrev Reads : Content → Tree → Type 0
Reads c t = ReadsContentAs (λ _ p rows. component_names_tree p rows) raw_component_names_tree c t

-- ---- contents that are read stand there

inside_of : (c : Content) (id : ℕ) (body : List ℕ) (t : Tree) → IsSorted c → HoldsContent id body c → Reads c t → InBody id body t
inside_of (Content.text n) id body t k h r =
    let I : ℕ → Tree → Type 0 = λ y z. InBody y body z in
    subst (λ (y : ℕ). I y t) (sym h.0) (subst (I 0) (sym r) (InBody.called h.1))
inside_of (Content.direct j p m) id body t k h r =
    let b = h.1 in
    let L : MapStanding → Type 0 = λ z. EntriesLeft (plain_row Shape.name) z (rows_tree (entries_trees r.0)) in
    let I : ℕ → Tree → Type 0 = λ y z. InBody y body z in
    let o : OfSort body _ = record { p = p; sort = k.1; bytes = b.bytes; stands = b.sorted; map = _; is = refl; spells = asked_spelled p (entries_trees r.0) (subst L b.map r.1) } in
    subst (λ (y : ℕ). I y t) (sym h.0) (subst (I 1) (sym r.2) (InBody.map o))
inside_of (Content.indirect j p m) id body t k h r = absurd h
inside_of (Content.raw j c) id body t k h r =
    let I : List ℕ → Tree → Type 0 = λ y z. InBody j y z in
    let there : I c t = subst (I c) (sym r) (InBody.raw h.1) in
    let J : ℕ → Type 0 = λ y. InBody y body t in
    subst J (sym h.0) (subst (λ (y : List ℕ). I y t) h.2 there)

pub subsection_there : {old new : NamesStanding} {n : ComponentName} {t : Tree} → SubsectionRead HoldsComponentName old n new → ReadsComponentName n t →
    Begins component_name_subsection old.rest t new.rest
subsection_there {n = n} {t = t} r reads = there r.begins (inside_of (component_content n) r.id r.body t (name_sorted n) r.holds reads)

-- ---- what stands there is what is read

text_read : (n : List ℕ) {body : List ℕ} {u : Tree} → Spells Shape.name body u → Spells Shape.name body (Tree.name n) → subsection_tree 0 u ≡ module_name_tree n
text_read n {body = body} {u = u} p q =
    let same : u ≡ Tree.name n = (unique p.shaped q.shaped body body [] [] refl (inl refl) p.spelled q.spelled refl).1 in
    ap (subsection_tree 0) same

never_raw : {id : ℕ} (body : List ℕ) → id ≡ 0 → IsRawNames id body → ⊥
never_raw body e (inl r) = let one = r.0 in omega arith
never_raw body e (inr r) = omega arith

sorted_raw : {id : ℕ} (body : List ℕ) (p : Space) (bytes : List ℕ) → has_sort p ≡ true → body ≡ sort_bytes p ++ bytes → id ≡ 1 → IsRawNames id body → ⊥
sorted_raw body p bytes h e one (inl r) =
    let begins : begins_with_one sorts (sort_bytes p ++ bytes) ≡ false = ap (begins_with_one sorts) (sym e) ∙ r.1 in
    let other = begins_sorted p bytes h in
    let never : true ≡ false = sym other ∙ begins in
    cc
sorted_raw body p bytes h e one (inr r) = omega arith

map_read : (p : Space) (m : MapStanding) {body : List ℕ} {u : Tree} → has_sort p ≡ true → BehindSort p m body → OfSort body u → Reads (Content.direct 1 p m) (subsection_tree 1 u)
map_read p m {body = body} {u = u} h b o =
    let same = sort_one p o.p b.bytes o.bytes h o.sort (sym b.sorted ∙ o.stands) in
    let S : Space → List ℕ → Type 0 = λ y z. Spells (sort_names y) z o.map in
    let here : S p b.bytes = subst (λ (y : Space). S y b.bytes) (sym same.0) (subst (S o.p) (sym same.1) o.spells) in
    let r = spelled_asked here in
    let es = entries_of r.0 r.2.rows_left.shaped in
    let L : MapStanding → List Tree → Type 0 = λ y z. EntriesLeft (plain_row Shape.name) y (rows_tree z) in
    let left : L (whole_map b.bytes) (entries_trees es.0) = subst (L (whole_map b.bytes)) es.1 r.2 in
    let tree : u ≡ behind_sort p o.map = o.is ∙ ap (λ (y : Space). behind_sort y o.map) (sym same.0) in (
      es.0,
      subst (λ (y : MapStanding). L y (entries_trees es.0)) (sym b.map) left,
      ap (subsection_tree 1) tree ∙ ap (λ (z : Tree). subsection_tree 1 (behind_sort p z)) r.1 ∙ ap (component_names_tree p) es.1,
    )

inside_read : (c : Content) (id : ℕ) (body : List ℕ) (t : Tree) → IsSorted c → HoldsContent id body c → InBody id body t → Reads c t
inside_read (Content.text n) id body t k h (InBody.called s) = text_read n s h.1
inside_read (Content.text n) id body t k h (InBody.map o) = let e = h.0 in cc
inside_read (Content.text n) id body t k h (InBody.raw r) = absurd (never_raw body h.0 r)
inside_read (Content.direct j p m) id body t k h (InBody.called s) = let e = h.0 in cc
inside_read (Content.direct j p m) id body t k h (InBody.map o) = map_read p m k.1 h.1 o
inside_read (Content.direct j p m) id body t k h (InBody.raw r) = absurd (sorted_raw body p h.1.bytes k.1 h.1.sorted h.0 r)
inside_read (Content.indirect j p m) id body t k h i = absurd h
inside_read (Content.raw j c) id body t k h (InBody.called s) = absurd (never_raw c (sym h.0) h.1)
inside_read (Content.raw j c) id body t k h (InBody.map o) = absurd (sorted_raw c o.p o.bytes o.sort (h.2 ∙ o.stands) (sym h.0) h.1)
inside_read (Content.raw j c) id body t k h (InBody.raw r) = ap₂ raw_component_names_tree h.0 (sym h.2)

-- at the frame that was read
inside_at : {id other : ℕ} {body contents bytes left behind : List ℕ} {t : Tree} → Begins subsection_frame bytes (subsection_frame_tree id body) left →
    Begins subsection_frame bytes (subsection_frame_tree other contents) behind → InBody other contents t → InBody id body t
inside_at {id = id} {body = body} {contents = contents} {t = t} p q i =
    let same = frame_one q p in
    let I : ℕ → List ℕ → Type 0 = λ y z. InBody y z t in
    subst (I id) same.1 (subst (λ (y : ℕ). I y contents) same.0 i)

pub reads_subsection : {old new : NamesStanding} {n : ComponentName} {t : Tree} {left : List ℕ} → SubsectionRead HoldsComponentName old n new →
    Begins component_name_subsection old.rest t left → ReadsComponentName n t × (left ≡ new.rest)
reads_subsection {n = n} {t = t} r p =
    let row = row_of p in
    (inside_read (component_content n) r.id r.body t (name_sorted n) r.holds (inside_at r.begins row.frame row.inside), (frame_one row.frame r.begins).2)

-- ---- where none begins

no_name : {body : List ℕ} (id : ℕ) {t : Tree} → id ≡ 0 → ((u : Tree) → Spells Shape.name body u → ⊥) → InBody id body t → ⊥
no_name id e none (InBody.called {u = u} s) = none u s
no_name id e none (InBody.map o) = cc
no_name id e none (InBody.raw {body = body} r) = never_raw body e r

pub none_begins : {bytes : List ℕ} → NoSubsection bytes → BeginsNone component_name_subsection bytes
none_begins {bytes = bytes} none = record { none = λ text left t p e. go none left t (row_of (record { text = text; spells = p; reads = e })) }
  where
    go : NoSubsection bytes → (left : List ℕ) (t : Tree) → Framed bytes t left → ⊥
    go (inl n) left t q = n.none q.frame.text left (subsection_frame_tree q.id q.body) q.frame.spells q.frame.reads
    go (inr n) left t q = no_name 0 refl n.3 (inside_at n.2 q.frame q.inside)
