-- A subsection of a name section, as it is mapped and added.
use Rattle.std.proofs.Common.{◌≡◌, ◌≢◌, ◌⊎◌, ℕ, ◌≤◌, ◌<◌, ◌^◌, ◌-◌, List, [], ◌∷◌, ◌++◌, length, map, Result, Ok, Err, IfErr, OnOk, OnErr, IsErrAnd, IsTrue, refl, sym, ap, ◌∙◌, subst, inl, inr, true, arith}
use Rattle.std.proofs.Math.Seq.{take-append_seam}
use Rattle.wasm_shapes.specs.declared.Space.{Space}
use Rattle.wasm_shapes.specs.declared.Space.TheVariants as space
use Rattle.wasm_shapes.specs.declared.Visit.{Visit}
use Rattle.wasm_shapes.specs.declared.Visit.TheVariants.{Index}
use Rattle.wasm_shapes.specs.Drawn.{Drawn, IsItem}
use Rattle.wasm_shapes.proofs.Drawn.{drawn_none}
use Rattle.wasm_shapes.specs.Tree.{Tree, count, normal, visits}
use Rattle.wasm_shapes.specs.Shape.{Shape}
use Rattle.wasm_shapes.specs.Types.{is_core, rows_tree, vector_tree}
use Rattle.wasm_shapes.specs.Module.{plain_naming, subsection}
use Rattle.wasm_shapes.specs.Namings.{Entry, Outer, asked_in, entries_trees, module_name_tree, names_tree, outers_trees, raw_names_tree}
use Rattle.wasm_read.specs.declared.types.Name.{Name}
use Rattle.wasm_read.specs.Names.{EntriesLeft, MapStanding}
use Rattle.wasm_read.specs.Subsections.{Content, ReadsContent, content_of}
use Rattle.wasm_read.proofs.NameMaps.{asked_left, asked_row, entries_of, names_one, outers_left_one, outers_of, plain_row}
use Rattle.wasm_write.specs.declared.fault.WriteFault.{WriteFault}
use Rattle.wasm_write.specs.declared.fault.WriteFault.TheVariants as write
use Rattle.wasm_write.specs.Bodies.{CodeRows, with_row}
use Rattle.wasm_write.specs.Counts.{IsTooLarge, counts}
use Rattle.wasm_write.specs.Faults.{IfTooLarge}
use Rattle.wasm_write.specs.Names.{PassesCeiling}
use Rattle.reencode_hooks.specs.declared.error.Error.{Error}
use Rattle.reencode_hooks.specs.declared.error.Error.TheVariants.{NoMemory, TooLarge}
use Rattle.reencode_hooks.specs.declared.indices.ReencodeIndices.{Ghosts}
use Rattle.reencode_hooks.specs.Errors.{error_of_write}
use Rattle.reencode_hooks.specs.Hooks.{Replies}
use Rattle.reencode_hooks.specs.Run.{Gives, NeverWants, accepted, refused}
use Rattle.reencode_hooks.specs.Walk.{walk}
use Rattle.reencode_core.specs.Bodies.{KeepsCode}
use Rattle.reencode_core.specs.NameFormats.{MapRow, NameFormat, OfMap, core_names, entries_bytes}
use Rattle.reencode_core.specs.Names.{GivesSubsectionOf, IsIndirect, TooLargeNames, names_id, of_writer}
use Rattle.reencode_core.specs.NameMaps.{MapsEntries}
use Rattle.reencode_core.specs.Rows.{Asks}
use Rattle.reencode_core.proofs.bodies.BodyLoop.{keeps_code}
use Rattle.reencode_core.proofs.sections_walked.HeadAndFrame.{framed, framed_fits, framed_large, framed_refused}
use Rattle.reencode_core.proofs.names_mapped.MapCalls.{GivesMap, MapLeaves, Quiet, due_drawn, gives_map_at, map_leaves_at, maps_kept}
use Rattle.reencode_core.specs.Leaves.{EntriesUpTo, Leaves, LeavesMade, subsection_of}
use Rattle.reencode_core.specs.Clauses.{SubsectionClauses, SubsectionClausesOf, asks}
use Rattle.reencode_core.proofs.after_error.VisitsMade.{PartMade, drawn_made, front_same, one_ended, tree_made, write_unasked}
use Rattle.reencode_core.proofs.after_error.RowsVisited.{drawn_rows}
use Rattle.reencode_core.proofs.rows_walked.OneRow.{answers}
use Rattle.reencode_core.proofs.faults.WalkRefusals.{IfParse-map, IfRefused-map, unless_wanting, usual_ask, write_usual}

-- with an error of a writer nothing was added
none_written : (E : Type 0) (old new : CodeRows) (w : Result (Unit {0}) WriteFault) → OnErr w (new ≡ old) → IfErr (of_writer {E = E} w) (λ _. new ≡ old)
none_written E old new (Ok u) unchanged = tt
none_written E old new (Err f) unchanged = unchanged

pub not_written : {E : Type 0} (old new : CodeRows) (w : Result (Unit {0}) WriteFault) → OnErr w (new ≡ old) → (r : Result (Unit {0}) (Error E)) → r ≡ of_writer w → IfErr r (λ _. new ≡ old)
not_written {E = E} old new w unchanged r is = let P : Result (Unit {0}) (Error E) → Type 0 = λ z. IfErr z (λ _. new ≡ old) in subst P (sym is) (none_written E old new w unchanged)

-- ---- a subsection that is accepted

-- The subsection has a reading, and the body of each is accepted and becomes this.
pub record NamingMade {V : Type 0} (form : NameFormat V) {S E : Type 0} (asked : Asks S E) (n : V) (s k : S) (row : ℕ) (head made : Tree) : Type 0 where
  pub reading : (t : Tree) × form.reads n t
  pub becomes : (t : Tree) → form.reads n t → (v : Tree) × (t ≡ framed row head v) × ((c : ℕ) → walk asked c s v ≡ accepted made k)

-- The subsection is read as one tree, whose visits are drawn from the entries of its map.
pub record NamingKnown {V : Type 0} (form : NameFormat V) (n : V) : Type 0 where
  pub drawn : (t : Tree) → form.reads n t → Drawn (form.entries n) (visits t)
  pub one : (t u : Tree) → form.reads n t → form.reads n u → t ≡ u

-- the same of one that is read as this tree, of which nothing is asked
pub known_tree : {V : Type 0} (form : NameFormat V) {n : V} (v : Tree) → visits v ≡ [] → ((t : Tree) → form.reads n t → t ≡ v) → NamingKnown form n
known_tree form {n = n} v none is = record {
  drawn = λ t reads.
      let P : List Visit → Type 0 = λ z. Drawn (form.entries n) z in
      subst P (sym (ap visits (is t reads) ∙ none)) drawn_none;
  one = λ t u p q. is t p ∙ sym (is u q);
}

-- the size that a writer tells of
abbrev pub TooLargeBody : ℕ → Tree → ℕ → Type 0
TooLargeBody c made size = IsTooLarge (counts made) size ⊎ ((size ≡ length (normal made)) × (c < size))

module _ {V : Type 0} (form : NameFormat V) {S E : Type 0} (i : Ghosts S E) (n : V) (s k : S) (old new : CodeRows) (row : ℕ) (head : Tree) (made : Tree) (still : (c : ℕ) (s : S) → walk (asks i) c s head ≡ accepted head s)
    (none : counts head ≡ []) where
  all_accepted : NamingMade form (asks i) n s k row head made → (t : Tree) → form.reads n t → walk (asks i) (length (normal made)) s t ≡ accepted (framed row head made) k
  all_accepted b t reads =
      let v = b.becomes t reads in
      let size : ℕ = length (normal made) in
      rw v.1 (framed_fits (asks i) row head size s k v.0 (still size s) made (v.2 size) (omega arith))

  naming_given : NamingMade form (asks i) n s k row head made → (w : Result (Unit {0}) WriteFault) → OnOk w (new ≡ with_row old (framed row head made)) → OnOk w (length (normal made) ≤ old.ceiling) →
      OnErr w (new ≡ old) → IfErr w (λ f. IfTooLarge f (TooLargeBody old.ceiling made)) → GivesSubsectionOf form (asks i) n (s, old) (k, new) (of_writer {E = E} w)
  naming_given b (Ok u) gains fits unchanged large = record {
    reading = λ t reads. let v = b.becomes t reads in (framed row head made, rw v.1 (framed_fits (asks i) row head old.ceiling s k v.0 (still old.ceiling s) made (v.2 old.ceiling) fits), gains);
    readable = b.reading;
    unreadable = tt;
    refusal = tt;
  }
  naming_given b (Err f) gains fits unchanged large = record {
    reading = λ t reads. (unchanged, λ other. stops f large other t reads);
    readable = tt;
    unreadable = write_usual E _ f;
    refusal = unless_wanting (error_of_write f) (λ other. inl b.reading);
  }
    where
      stops : (f : WriteFault) → IfTooLarge f (TooLargeBody old.ceiling made) → error_of_write {E = E} f ≢ NoMemory → (t : Tree) → form.reads n t →
          (walk (asks i) old.ceiling s t ≡ refused (error_of_write f) k) ⊎ TooLargeNames (asks i) s t (error_of_write {E = E} f) k
      stops write.NoMemory q other t reads = absurd (other refl)
      stops (write.TooLarge size) (inl q) other t reads =
          let C : List ℕ → Type 0 = λ z. IsTooLarge (z ++ counts made) size in
          inr (record { accepts = record { ceiling = length (normal made); made = framed row head made; walked = all_accepted b t reads }; large = subst C (sym none) q })
      stops (write.TooLarge size) (inr q) other t reads =
          let v = b.becomes t reads in
          let same : size ≡ length (normal made) = q.0 in
          let above : old.ceiling < size = q.1 in
          inl (rw v.1 (framed_large (asks i) row head old.ceiling s k v.0 (still old.ceiling s) made (v.2 old.ceiling) (omega arith)) ∙ ap (λ (z : ℕ). refused (TooLarge z) k) (sym same))

  pub naming_written : NamingKnown form n → (IsTrue i.keeps_defaults → NamingMade form (asks i) n s k row head made) → (w : Result (Unit {0}) WriteFault) → OnOk w (new ≡ with_row old (framed row head made)) →
      OnOk w (length (normal made) ≤ old.ceiling) → OnErr w (new ≡ old) → IfErr w (λ f. IfTooLarge f (TooLargeBody old.ceiling made)) → (r : Result (Unit {0}) (Error E)) → r ≡ of_writer w →
      SubsectionClausesOf form i n s old k new r
  naming_written known b w gains fits unchanged large r is =
      let P : Result (Unit {0}) (Error E) → Type 0 = λ z. SubsectionClausesOf form i n s old k new z in
      subst P (sym is) (record {
        kept = kept w gains unchanged;
        default = λ keeps. naming_given (b keeps) w gains fits unchanged large;
        after_error = λ keeps. left w (b keeps);
        unchanged = λ keeps. none_written E old new w unchanged;
      })
    where
      left : (w : Result (Unit {0}) WriteFault) → NamingMade form (asks i) n s k row head made → LeavesMade i.sure (asks i) (subsection_of form n) s k (of_writer {E = E} w)
      left (Ok u) b = tt
      left (Err f) b = λ told.
          let t = b.reading.0 in
          let p : PartMade (asks i) s (visits t) (error_of_write f) k = tree_made (asks i) (length (normal made)) (error_of_write f) t (write_unasked E f) (all_accepted b t b.reading.1) in record {
            made = p.part;
            ended = p.ended;
            drawn = drawn_made p.front (known.drawn t b.reading.1);
            reading = λ u reads. front_same (ap visits (known.one t u b.reading.1 reads)) p.front;
            fault = λ none u rest x. absurd (none t b.reading.1);
          }

      kept : (w : Result (Unit {0}) WriteFault) → OnOk w (new ≡ with_row old (framed row head made)) → OnErr w (new ≡ old) → KeepsCode old new
      kept (Ok u) gains unchanged = let P : CodeRows → Type 0 = λ z. KeepsCode old z in subst P (sym gains) (record { ceiling = refl; rows = take-append_seam old.rows (framed row head made ∷ []) })
      kept (Err f) gains unchanged = let P : CodeRows → Type 0 = λ z. KeepsCode old z in subst P (sym unchanged) (keeps_code old)

-- ---- what asks nothing

-- a subsection that is read as this one alone, of whose body nothing is asked
module _ {V : Type 0} (form : NameFormat V) {S E : Type 0} (i : Ghosts S E) {n : V} {s : S} {old new : CodeRows} (row : ℕ) (head body : Tree) (still : (c : ℕ) (s : S) → walk (asks i) c s head ≡ accepted head s)
    (kept : (c : ℕ) (s : S) → walk (asks i) c s body ≡ accepted body s) (none : counts head ≡ []) (unasked : visits (framed row head body) ≡ [])
    (reads : form.reads n (framed row head body)) (only : (t : Tree) → form.reads n t → t ≡ framed row head body) where
  pub leaf_written : (w : Result (Unit {0}) WriteFault) → OnOk w (new ≡ with_row old (framed row head body)) → OnOk w (length (normal body) ≤ old.ceiling) → OnErr w (new ≡ old) →
      IfErr w (λ f. IfTooLarge f (TooLargeBody old.ceiling body)) → (r : Result (Unit {0}) (Error E)) → r ≡ of_writer w → SubsectionClausesOf form i n s old s new r
  leaf_written w gains fits unchanged large r q =
      naming_written form i n s s old new row head body still none (known_tree form (framed row head body) unasked only) (λ keeps. made) w gains fits unchanged large r q
    where
      made : NamingMade form (asks i) n s s row head body
      made = record { reading = (framed row head body, reads); becomes = λ t p. (body, only t p, λ c. kept c s) }

-- the length of a name, or of its body
pub text_sizes : (ceiling : ℕ) (name : List ℕ) (w : Result (Unit {0}) WriteFault) →
    IfErr w (λ f. IfTooLarge f (λ size. ((size ≡ length name) × (2 ^ 32 - 1 < size)) ⊎ PassesCeiling ceiling (Tree.name name) size)) → IfErr w (λ f. IfTooLarge f (TooLargeBody ceiling (Tree.name name)))
text_sizes ceiling name (Ok u) h = tt
text_sizes ceiling name (Err write.NoMemory) h = tt
text_sizes ceiling name (Err (write.TooLarge size)) (inl h) = inl (record { counted = (0, omega arith, sym h.0); large = h.1 })
text_sizes ceiling name (Err (write.TooLarge size)) (inr h) = inr h

pub raw_sizes : (ceiling : ℕ) (contents : List ℕ) (w : Result (Unit {0}) WriteFault) → IfErr w (λ f. IfTooLarge f (PassesCeiling ceiling (Tree.raw contents))) →
    IfErr w (λ f. IfTooLarge f (TooLargeBody ceiling (Tree.raw contents)))
raw_sizes ceiling contents (Ok u) h = tt
raw_sizes ceiling contents (Err write.NoMemory) h = tt
raw_sizes ceiling contents (Err (write.TooLarge size)) h = inr h

module _ {S E : Type 0} (i : Ghosts S E) {n : Name} {s : S} {old new : CodeRows} where
  pub module_written : (name : List ℕ) → content_of n ≡ Content.text name → (w : Result (Unit {0}) WriteFault) → OnOk w (new ≡ with_row old (module_name_tree name)) →
      OnOk w (length (normal (Tree.name name)) ≤ old.ceiling) → OnErr w (new ≡ old) →
      IfErr w (λ f. IfTooLarge f (λ size. ((size ≡ length name) × (2 ^ 32 - 1 < size)) ⊎ PassesCeiling old.ceiling (Tree.name name) size)) → (r : Result (Unit {0}) (Error E)) → r ≡ of_writer w →
      SubsectionClauses i n s old s new r
  module_written name is w gains fits unchanged large r q =
      let P : Content → Type 0 = λ z. ReadsContent z (module_name_tree name) in
      leaf_written core_names i 0 (Tree.fixed 0) (Tree.name name) (λ c s. refl) (λ c s. refl) refl refl (subst P (sym is) refl)
      (λ t reads. let Q : Content → Type 0 = λ z. ReadsContent z t in subst Q is reads) w gains fits unchanged (text_sizes old.ceiling name w large) r q

  pub raw_written : (id : ℕ) (contents : List ℕ) → content_of n ≡ Content.raw id contents → (w : Result (Unit {0}) WriteFault) → OnOk w (new ≡ with_row old (raw_names_tree id contents)) →
      OnOk w (length contents ≤ old.ceiling) → OnErr w (new ≡ old) → IfErr w (λ f. IfTooLarge f (PassesCeiling old.ceiling (Tree.raw contents))) → (r : Result (Unit {0}) (Error E)) → r ≡ of_writer w →
      SubsectionClauses i n s old s new r
  raw_written id contents is w gains fits unchanged large r q =
      let P : Content → Type 0 = λ z. ReadsContent z (raw_names_tree id contents) in
      leaf_written core_names i 12 (Tree.byte id) (Tree.raw contents) (λ c s. refl) (λ c s. refl) refl refl (subst P (sym is) refl)
      (λ t reads. let Q : Content → Type 0 = λ z. ReadsContent z t in subst Q is reads) w gains fits unchanged (raw_sizes old.ceiling contents w large) r q

-- ---- a map

normal_asked : (p : Space) (t : Tree) → normal (asked_in p t) ≡ normal t
normal_asked p (Tree.pair (Tree.u32 i) t) = refl
normal_asked p _ = refl

normal_rows : (p : Space) (ts : List Tree) → normal (rows_tree (map (asked_in p) ts)) ≡ normal (rows_tree ts)
normal_rows p [] = refl
normal_rows p (t ∷ ts) = ap (λ (z : List ℕ). z ++ normal (rows_tree (map (asked_in p) ts))) (normal_asked p t) ∙ ap (λ (z : List ℕ). normal t ++ z) (normal_rows p ts)

count_rows : (p : Space) (ts : List Tree) → count (rows_tree (map (asked_in p) ts)) ≡ count (rows_tree ts)
count_rows p [] = refl
count_rows p (t ∷ ts) = let again : count (rows_tree (map (asked_in p) ts)) ≡ count (rows_tree ts) = count_rows p ts in omega arith

-- entries are written alike, whether their indices are asked for or not
pub normal_map : (p : Space) (ts : List Tree) → normal (vector_tree (map (asked_in p) ts)) ≡ normal (vector_tree ts)
normal_map p ts = rw (count_rows p ts, normal_rows p ts) refl

-- A subsection is a map whose indices are of a space, each before such a body: in its frame the vector stands inside `wrap`.
pub record IsMap {V : Type 0} (form : NameFormat V) (n : V) (id : ℕ) (wrap : Tree → Tree) (p : Space) (body : Shape) (m : MapStanding) : Type 1 where
  pub entries : (t : Tree) → form.reads n t → (ts : List Tree) × EntriesLeft (plain_row body) m (rows_tree ts) × (t ≡ framed id (Tree.fixed id) (wrap (vector_tree (map (asked_in p) ts))))
  pub read : (ts : List Tree) → EntriesLeft (plain_row body) m (rows_tree ts) → (t : Tree) × form.reads n t
  pub item : IsItem (asked_row p body)
  pub of_map : (P : Shape → MapStanding → Type 0) → P (asked_row p body) m → form.of_map n P
  pub in_map : (P : Shape → MapStanding → Type 0) → form.of_map n P → P (asked_row p body) m
  pub bytes : form.entries n ≡ m.rest
  pub one : (t u : Tree) → form.reads n t → form.reads n u → t ≡ u

-- what stands round a map asks nothing and counts nothing
pub record IsWrap {S E : Type 0} (asked : Asks S E) (wrap : Tree → Tree) : Type 0 where
  pub accepts : (c : ℕ) (s m : S) (t u : Tree) → walk asked c s t ≡ accepted u m → walk asked c s (wrap t) ≡ accepted (wrap u) m
  pub refuses : (c : ℕ) (s m : S) (t : Tree) (e : Error E) → walk asked c s t ≡ refused e m → walk asked c s (wrap t) ≡ refused e m
  pub asks_same : (t : Tree) → visits (wrap t) ≡ visits t

pub no_wrap : {S E : Type 0} (asked : Asks S E) → IsWrap asked (λ t. t)
no_wrap asked = record { accepts = λ c s m t u h. h; refuses = λ c s m t e h. h; asks_same = λ t. refl }

-- a subsection of an id has rows of one shape
one_row : (id : ℕ) (r r' : Shape) → MapRow id r → MapRow id r' → r ≡ r'
one_row id r r' p q = let same : subsection id (Shape.vec r) ≡ subsection id (Shape.vec r') = sym p ∙ q in cc

pub direct_map : {n : Name} {m : MapStanding} (id : ℕ) (p : Space) → MapRow id (asked_row p Shape.name) → content_of n ≡ Content.direct id p m → IsMap core_names n id (λ t. t) p Shape.name m
direct_map {n = n} {m = m} id p row is = record {
  entries = λ t reads. let Q : Content → Type 0 = λ z. ReadsContent z t in let q = subst Q is reads in (entries_trees q.0, q.1, q.2);
  read = λ ts w.
      let es = entries_of ts w.rows_left.shaped in
      let L : List Tree → Type 0 = λ z. EntriesLeft plain_naming m (rows_tree z) in
      let t = names_tree id p (entries_trees es.0) in
      let Q : Content → Type 0 = λ z. ReadsContent z t in
      (t, subst Q (sym is) (es.0, subst L es.1 w, refl));
  item = IsItem.entry id _ row;
  of_map = λ P h. let Q : Content → Type 0 = λ z. OfMap z P in subst Q (sym is) (_, row, h);
  in_map = λ P h.
      let Q : Content → Type 0 = λ z. OfMap z P in
      let q = subst Q is h in
      let R : Shape → Type 0 = λ z. P z m in
      subst R (one_row id q.0 (asked_row p Shape.name) q.1 row) q.2;
  bytes = ap entries_bytes is;
  one = λ t u p_t p_u.
      let Q : Tree → Content → Type 0 = λ v z. ReadsContent z v in
      let x = subst (Q t) is p_t in
      let y = subst (Q u) is p_u in
      x.2 ∙ ap (λ (es : List Entry). names_tree id p (entries_trees es)) (names_one x.0 y.0 x.1 y.1) ∙ sym y.2;
}

pub indirect_map : {n : Name} {m : MapStanding} (id : ℕ) (p : Space) → MapRow id (asked_row p (Shape.vec plain_naming)) → content_of n ≡ Content.indirect id p m → IsMap core_names n id (λ t. t) p (Shape.vec plain_naming) m
indirect_map {n = n} {m = m} id p row is = record {
  entries = λ t reads. let Q : Content → Type 0 = λ z. ReadsContent z t in let q = subst Q is reads in (outers_trees q.0, q.1, q.2);
  read = λ ts w.
      let os = outers_of ts w.rows_left.shaped in
      let L : List Tree → Type 0 = λ z. EntriesLeft (plain_row (Shape.vec plain_naming)) m (rows_tree z) in
      let t = names_tree id p (outers_trees os.0) in
      let Q : Content → Type 0 = λ z. ReadsContent z t in
      (t, subst Q (sym is) (os.0, subst L os.1 w, refl));
  item = IsItem.entry id _ row;
  of_map = λ P h. let Q : Content → Type 0 = λ z. OfMap z P in subst Q (sym is) (_, row, h);
  in_map = λ P h.
      let Q : Content → Type 0 = λ z. OfMap z P in
      let q = subst Q is h in
      let R : Shape → Type 0 = λ z. P z m in
      subst R (one_row id q.0 (asked_row p (Shape.vec plain_naming)) q.1 row) q.2;
  bytes = ap entries_bytes is;
  one = λ t u p_t p_u.
      let Q : Tree → Content → Type 0 = λ v z. ReadsContent z v in
      let x = subst (Q t) is p_t in
      let y = subst (Q u) is p_u in
      x.2 ∙ ap (λ (os : List Outer). names_tree id p (outers_trees os)) (outers_left_one x.0 y.0 x.1 y.1) ∙ sym y.2;
}

-- the rows of a map by their id and space
pub direct_row : (p : Space) → is_core p ≡ true → MapRow (names_id p) (asked_row p Shape.name)
direct_row space.Data e = refl
direct_row space.Element e = refl
direct_row space.Function e = refl
direct_row space.Global e = refl
direct_row space.Memory e = refl
direct_row space.Table e = refl
direct_row space.Tag e = refl
direct_row space.Type_ e = refl
direct_row _ e = absurd cc

pub indirect_row : (id : ℕ) (p : Space) → IsIndirect id p → MapRow id (asked_row p (Shape.vec plain_naming))
indirect_row id p (inl h) = rw (h.0, h.1) refl
indirect_row id p (inr (inl h)) = rw (h.0, h.1) refl
indirect_row id p (inr (inr h)) = rw (h.0, h.1) refl

pub indirect_core : (id : ℕ) (p : Space) → IsIndirect id p → is_core p ≡ true
indirect_core id p (inl h) = rw h.1 refl
indirect_core id p (inr (inl h)) = rw h.1 refl
indirect_core id p (inr (inr h)) = rw h.1 refl

-- what the calls that map a map gave
pub record MapCalls {S E : Type 0} (i : Ghosts S E) (p : Space) (body : Shape) (m : MapStanding) (s k : S) (mapped : Result (List Tree) (Error E)) : Type 0 where
  pub gives : (c : ℕ) → GivesMap (asks i) c p body m s k mapped
  pub leaves : IsItem (asked_row p body) → IfErr mapped (λ e. (e ≡ NoMemory → IsTrue i.sure) → MapLeaves (asks i) p body m s e k)

-- entries behind their number, their indices asked for
abbrev pub inner : Space → List Tree → Tree
inner p ts = vector_tree (map (asked_in p) ts)

module _ {S E : Type 0} (i : Ghosts S E) {V : Type 0} {form : NameFormat V} {n : V} {id : ℕ} {wrap : Tree → Tree} {p : Space} {body : Shape} {m : MapStanding}
    (is : IsMap form n id wrap p body m) (wraps : IsWrap (asks i) wrap) {s k : S} {old : CodeRows} where
  -- an entry is refused, or there is none
  pub map_stopped : (e : Error E) → MapCalls i p body m s k (Err e) → (r : Result (Unit {0}) (Error E)) → IsErrAnd r (λ y. y ≡ e) → SubsectionClausesOf form i n s old k old r
  map_stopped e calls r q =
      let P : Result (Unit {0}) (Error E) → Type 0 = λ z. SubsectionClausesOf form i n s old k old z in
      subst P (answers r q) (record { kept = keeps_code old; default = λ keeps. stopped; after_error = λ keeps. left; unchanged = λ keeps. refl })
    where
      stopped : GivesSubsectionOf form (asks i) n (s, old) (k, old) (Err e)
      stopped =
          let g = calls.gives old.ceiling in record {
            reading = λ t reads.
                let b = is.entries t reads in
                let inside = wraps.refuses old.ceiling s k (inner p b.0) e in
                (refl, λ other. inl (rw b.2 (framed_refused (asks i) id (Tree.fixed id) old.ceiling s k (wrap (inner p b.0)) refl e (inside (g.reading b.0 b.1 other)))));
            readable = tt;
            unreadable = IfParse-map e (λ at u. (λ t reads. let b = is.entries t reads in u.0 (rows_tree b.0) b.1, refl, is.of_map _ u.1)) g.unreadable;
            refusal = IfRefused-map e (λ d. inr (refl, is.of_map _ d)) g.refusal;
          }

      left : (e ≡ NoMemory → IsTrue i.sure) → Leaves (asks i) (subsection_of form n) s e k
      left told =
          let l = calls.leaves is.item told in
          let P : List ℕ → Type 0 = λ z. Drawn z l.made in record {
            made = l.made;
            ended = l.ended;
            drawn = subst P (sym is.bytes) l.drawn;
            reading = λ t reads. let b = is.entries t reads in front_same (sym (ap visits b.2 ∙ wraps.asks_same (inner p b.0))) (l.reading b.0 b.1);
            fault = λ none t rest f. l.fault t rest (is.in_map (λ row map. EntriesUpTo row map t rest) f);
          }

  -- all entries were accepted, and the map, which takes so many bytes, was added or not
  pub map_written : {new : CodeRows} (es : List Tree) (size : ℕ) → length (normal (wrap (inner p es))) ≡ size → MapCalls i p body m s k (Ok es) → (w : Result (Unit {0}) WriteFault) →
      OnOk w (new ≡ with_row old (framed id (Tree.fixed id) (wrap (inner p es)))) → OnOk w (size ≤ old.ceiling) → OnErr w (new ≡ old) →
      IfErr w (λ f. IfTooLarge f (λ z. (z ≡ size) × (old.ceiling < z))) → (r : Result (Unit {0}) (Error E)) → r ≡ of_writer w → SubsectionClausesOf form i n s old k new r
  map_written {new = new} es size alike calls w gains fits unchanged large r q =
      naming_written form i n s k old new id (Tree.fixed id) (wrap (inner p es)) (λ c s. refl) refl known (λ keeps. made) w gains (fit w fits) unchanged (sizes w large) r q
    where
      known : NamingKnown form n
      known = record {
        drawn = λ t reads.
            let b = is.entries t reads in
            let rows = asked_left p b.0 b.1.rows_left in
            let entries : List Visit = visits (rows_tree (map (asked_in p) b.0)) in
            let here : Drawn m.rest entries = due_drawn m b.1.count b.1.bytes entries b.1.due (drawn_rows is.item (rows_tree (map (asked_in p) b.0)) b.1.bytes rows.shaped rows.spelled) in
            let P : List ℕ → Type 0 = λ z. Drawn z entries in
            let W : List Visit → Type 0 = λ z. Drawn (form.entries n) z in
            subst W (sym (ap visits b.2 ∙ wraps.asks_same (inner p b.0))) (subst P (sym is.bytes) here);
        one = is.one;
      }

      made : NamingMade form (asks i) n s k id (Tree.fixed id) (wrap (inner p es))
      made = record {
        reading = let b = (calls.gives 0).readable in is.read b.0 b.1;
        becomes = λ t reads. let b = is.entries t reads in (wrap (inner p b.0), b.2, λ c. wraps.accepts c s k (inner p b.0) (inner p es) ((calls.gives c).reading b.0 b.1));
      }

      fit : (w : Result (Unit {0}) WriteFault) → OnOk w (size ≤ old.ceiling) → OnOk w (length (normal (wrap (inner p es))) ≤ old.ceiling)
      fit (Ok u) h = let below : size ≤ old.ceiling = h in omega (arith, alike)
      fit (Err f) h = tt

      sizes : (w : Result (Unit {0}) WriteFault) → IfErr w (λ f. IfTooLarge f (λ z. (z ≡ size) × (old.ceiling < z))) → IfErr w (λ f. IfTooLarge f (TooLargeBody old.ceiling (wrap (inner p es))))
      sizes (Ok u) h = tt
      sizes (Err write.NoMemory) h = tt
      sizes (Err (write.TooLarge z)) h = inr (h.0 ∙ sym alike, h.1)

-- ---- the calls of a closure over a reencoder

-- `asked f` is the space that the closure f asks for.
module _ {F S E : Type 0} (i : Ghosts S E) (p : Space) {body : Shape} (quiet : Quiet (asks i) body)
    (step : F → ℕ → Result ℕ (Error E) → F → Type 0) (see : F → S) (name : F → ℕ) (asked : F → Space)
    (one : (f : F) (j : ℕ) (r : Result ℕ (Error E)) (g : F) → step f j r g →
    Replies i.reply i.next (see f) (see g) (Index (asked f) j) r × NeverWants i.sure r × (name g ≡ name f) × (asked g ≡ asked f)) where
  -- a call for this space
  abbrev Call : F → ℕ → Result ℕ (Error E) → F → Type 0
  Call f j r g = Replies i.reply i.next (see f) (see g) (Index p j) r × NeverWants i.sure r × (name g ≡ name f)

  for_space : (f : F) (j : ℕ) (r : Result ℕ (Error E)) (g : F) → asked f ≡ p → step f j r g → Call f j r g × (asked g ≡ p)
  for_space f j r g same call =
      let h = one f j r g call in
      let P : Space → Type 0 = λ z. Replies i.reply i.next (see f) (see g) (Index z j) r in
      ((subst P same h.0, h.1, h.2), h.3 ∙ same)

  answers_of : (f : F) (j : ℕ) (r : Result ℕ (Error E)) (g : F) → Call f j r g → Gives (asks i (see f) (Index p j)) (λ k. k) (see g) r × (name g ≡ name f)
  answers_of f j r g call = (call.0, call.2)

  calls_leave : (m : MapStanding) (f g : F) (mapped : Result (List Tree) (Error E)) (last : S) → MapsEntries (plain_row body) Call m f g mapped → (name f ≡ name g → last ≡ see g) → IsItem (asked_row p body) →
      IfErr mapped (λ e. (e ≡ NoMemory → IsTrue i.sure) → MapLeaves (asks i) p body m (see f) e last)
  calls_leave m f g (Ok es) last calls kept item = tt
  calls_leave m f g (Err e) last calls kept item = λ told.
      map_leaves_at Call see name (asks i) p quiet (λ s j. usual_ask i.reply i.next s (Index p j)) answers_of item (λ s k v e. one_ended i.reply i.next e v) m f g e last calls kept
      (λ same f j g call. call.1 (told same) refl)

  -- the walk over a map with the closure
  pub map_calls : {m : MapStanding} (f g : F) (mapped : Result (List Tree) (Error E)) (last : S) → asked f ≡ p → MapsEntries (plain_row body) step m f g mapped →
      (name f ≡ name g → last ≡ see g) → MapCalls i p body m (see f) last mapped
  map_calls {m = m} f g mapped last same h kept =
      let calls = maps_kept step Call (λ f. asked f ≡ p) for_space (plain_row body) m f g mapped same h in record {
        gives = λ c. gives_map_at Call see name (asks i) p quiet (λ s j. usual_ask i.reply i.next s (Index p j)) answers_of c m f g mapped last calls kept;
        leaves = calls_leave m f g mapped last calls kept;
      }
