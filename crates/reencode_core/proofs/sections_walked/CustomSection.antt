-- Custom sections, and sections of other ids.
use Rattle.std.proofs.Common.{◌≡◌, ◌≢◌, ◌⊎◌, ℕ, ◌≤◌, ◌<◌, List, [], ◌∷◌, ◌++◌, length, Result, Ok, Err, IsErrAnd, IsTrue, IfErr, refl, sym, ap, ◌∙◌, subst, inl, inr, arith}
use Rattle.wasm_leb.specs.Leb.{leb}
use Rattle.wasm_shapes.specs.Tree.{Tree, normal, visits}
use Rattle.wasm_shapes.specs.Types.{rows_tree}
use Rattle.wasm_shapes.specs.Drawn.{Drawn}
use Rattle.wasm_shapes.proofs.Drawn.{drawn_none}
use Rattle.wasm_shapes.specs.Shape.{Shape}
use Rattle.wasm_read.specs.Names.{NamesStanding}
use Rattle.wasm_write.specs.declared.fault.WriteFault.{WriteFault}
use Rattle.wasm_write.specs.declared.fault.WriteFault.TheVariants as write
use Rattle.wasm_write.specs.Bodies.{CodeRows}
use Rattle.wasm_write.specs.Faults.{IfTooLarge}
use Rattle.wasm_write.specs.Sections.{Sections, SectionRow, section_bytes, section_row}
use Rattle.reencode_hooks.specs.declared.error.Error.{Error}
use Rattle.reencode_hooks.specs.declared.error.Error.TheVariants.{NoMemory, TooLarge}
use Rattle.reencode_hooks.specs.declared.indices.ReencodeIndices.{Ghosts}
use Rattle.reencode_hooks.specs.Errors.{error_of_write}
use Rattle.reencode_hooks.specs.Run.{NeverWants, accepted, refused}
use Rattle.reencode_hooks.specs.Walk.{walk}
use Rattle.reencode_items.proofs.Leaving.{none_visited, visited_left}
use Rattle.reencode_core.specs.Errors.{IfParse}
use Rattle.reencode_core.specs.Leaves.{Leaves, LeavesMade, custom_of, many_in}
use Rattle.reencode_core.specs.NameFormats.{CustomFormat}
use Rattle.reencode_core.proofs.after_error.VisitsMade.{PartMade, Unasked, drawn_made, front_same, not_wanting, tree_made, write_unasked}
use Rattle.reencode_core.proofs.names_mapped.FormatLaws.{FormatLaws}
use Rattle.wasm_shapes.proofs.Laws.{one_tree}
use Rattle.reencode_core.specs.Names.{AreLeft, GivesCustomOf, GivesNamesOf, ReadsContentsOf, ReadsCustomOf, contents_standing}
use Rattle.reencode_core.specs.Rows.{Asks}
use Rattle.reencode_core.specs.Sections.{AddsMapped, GivesAdded, KeepsModule}
use Rattle.reencode_core.specs.Clauses.{CustomClausesOf, NamesClausesOf, UnknownClauses, asks}
use Rattle.reencode_core.proofs.sections_walked.HeadAndFrame.{framed, framed_fits, framed_large, framed_refused}
use Rattle.reencode_core.proofs.sections_walked.KnownKind.{keeps_same}
use Rattle.reencode_core.proofs.after_error.StateLeft.{never_refused}
use Rattle.reencode_core.proofs.sections_walked.MappedSection.{keeps_none}
use Rattle.reencode_core.proofs.rows_walked.OneRow.{MapsIf, answers}
use Rattle.reencode_core.proofs.faults.WalkRefusals.{IfParse-map, IfRefused-map, stops_usual, unless_wanting, write_usual}

-- ---- a section in its frame

pub keeps_added : {E : Type 0} (row : SectionRow) (old new : Sections) (r : Result (Unit {0}) (Error E)) → AddsMapped {E = E} row old (Ok tt) new r → KeepsModule old new
keeps_added row old new (Ok v) adds = (row ∷ [], adds.0)
keeps_added row old new (Err e) adds = keeps_none adds.0

module _ {S E : Type 0} (asked : Asks S E) (k id : ℕ) (head : Tree) (first : normal head ≡ id ∷ []) (c : ℕ) (s m : S) (t u : Tree) (still : walk asked c s head ≡ accepted head s)
    (walked : walk asked c s t ≡ accepted u m) where
  -- its body was accepted: it is added, or it is too large
  pub framed_added : (old new : Sections) (r : Result (Unit {0}) (Error E)) → old.ceiling ≡ c → AddsMapped {E = E} (section_row id (normal u)) old (Ok tt) new r →
      GivesAdded asked id (s, old) (framed k head t) (m, new) r
  framed_added old new (Ok v) ceiling adds =
      let fits : length (normal u) ≤ old.ceiling = adds.1 in
      let W : ℕ → Type 0 = λ z. walk asked z s (framed k head t) ≡ accepted (framed k head u) m in
      let spelled : section_bytes (section_row id (normal u)) ≡ normal (framed k head u) = ap (λ (z : List ℕ). z ++ (leb (length (normal u)) ++ normal u)) (sym first) in
      (framed k head u, normal u, subst W (sym ceiling) (framed_fits asked k head c s m t still u walked (omega arith)), adds.0, spelled)
  framed_added old new (Err e) ceiling adds = (adds.0, λ other. rw adds.2 (stops adds.1 adds.3 (λ q. other (adds.2 ∙ q))))
    where
      stops : (w : WriteFault) → IfTooLarge w (λ size. (size ≡ length (normal u)) × (old.ceiling < size)) → error_of_write {E = E} w ≢ NoMemory →
          walk asked old.ceiling s (framed k head t) ≡ refused (error_of_write w) m
      stops (write.TooLarge size) q other =
          let same : size ≡ length (normal u) = q.0 in
          let large : old.ceiling < size = q.1 in
          let W : ℕ → Type 0 = λ z. walk asked z s (framed k head t) ≡ refused (TooLarge size) m in
          subst W (sym ceiling) (framed_large asked k head c s m t still u walked (omega arith) ∙ ap (λ (n : ℕ). refused (TooLarge n) m) (sym same))
      stops write.NoMemory q other = absurd (other refl)

-- where a section is added or not, its error says nothing of the bytes
pub added_usual : {E : Type 0} (P : ℕ → Type 0) (row : SectionRow) (old new : Sections) (r : Result (Unit {0}) (Error E)) → AddsMapped {E = E} row old (Ok tt) new r → IfErr r (λ e. IfParse e P)
added_usual P row old new (Ok v) adds = tt
added_usual {E = E} P row old new (Err e) adds = let Q : Error E → Type 0 = λ z. IfParse z P in subst Q (sym adds.2) (write_usual E P adds.1)

-- ---- a section of another id

pub unknown_added : {S E : Type 0} (i : Ghosts S E) (id : ℕ) (contents : List ℕ) (s : S) (old new : Sections) (r : Result (Unit {0}) (Error E)) →
    AddsMapped {E = E} (section_row id contents) old (Ok tt) new r → UnknownClauses i id contents s old s new r
unknown_added i id contents s old new r adds = record {
  kept = keeps_added (section_row id contents) old new r adds;
  default = λ k. framed_added (asks i) 14 id (Tree.byte id) refl old.ceiling s s (Tree.raw contents) (Tree.raw contents) refl refl old new r refl adds;
  after_error = λ k sure. visited_left r (none_visited s []);
  usual = λ k. added_usual (λ at. ⊥) (section_row id contents) old new r adds;
}

-- ---- a custom section

-- the body of a custom section of a name
abbrev named : List ℕ → Tree → Tree
named name u = Tree.pair (Tree.name name) u

module _ {V : Type 0} (form : CustomFormat V) (laws : FormatLaws form.names) where
  -- the whole section
  abbrev section_of : Tree → Tree
  section_of body = Tree.row form.number (Tree.pair (Tree.fixed 0) (Tree.sized body))

  pub drawn_contents : {name contents : List ℕ} {u : Tree} → ReadsContentsOf form name contents u → Drawn contents (visits u)
  drawn_contents {contents = contents} {u = u} (inl r) = laws.rows_drawn u contents r.1.shaped r.1.spelled
  drawn_contents {contents = contents} (inr r) = let P : Tree → Type 0 = λ z. Drawn contents (visits z) in subst P (sym r.1) drawn_none

  -- The contents have a reading, and of each the body is accepted and becomes this.
  record ContentsMade {S E : Type 0} (asked : Asks S E) (name contents : List ℕ) (c : ℕ) (s m : S) (body : Tree) : Type 0 where
    reading : (u : Tree) × ReadsContentsOf form name contents u
    becomes : (u : Tree) → ReadsContentsOf form name contents u → walk asked c s (named name u) ≡ accepted body m

  -- a section that is read
  read_custom : {name contents : List ℕ} (u : Tree) → ReadsContentsOf form name contents u → (t : Tree) × ReadsCustomOf form name contents t
  read_custom {name = name} u q = (section_of (named name u), (u, refl, q))

  -- the names of one that is named `name`, and the bytes of any other
  names_of : {name contents : List ℕ} → name ≡ form.called → (u : Tree) → ReadsContentsOf form name contents u → AreLeft form.names.row (contents_standing contents) u
  names_of is u (inl q) = q.1
  names_of is u (inr q) = absurd (q.0 is)

  raw_of : {name contents : List ℕ} → name ≢ form.called → (u : Tree) → ReadsContentsOf form name contents u → u ≡ Tree.raw contents
  raw_of other u (inl q) = absurd (other q.0)
  raw_of other u (inr q) = q.1

  -- the contents are read as one tree
  pub one_contents : {name contents : List ℕ} {u v : Tree} → ReadsContentsOf form name contents u → ReadsContentsOf form name contents v → u ≡ v
  one_contents {contents = contents} {u = u} {v = v} (inl p) (inl q) = one_tree (Shape.many form.names.row) laws.many_pass contents u v p.1 q.1
  one_contents (inl p) (inr q) = absurd (q.0 p.0)
  one_contents (inr p) (inl q) = absurd (p.0 q.0)
  one_contents (inr p) (inr q) = p.1 ∙ sym q.1

  module _ {S E : Type 0} (i : Ghosts S E) {name contents : List ℕ} (s : S) (old : Sections) where
    -- its contents were accepted: it is added, or it is too large
    custom_added : {m : S} {new : Sections} {body : Tree} (r : Result (Unit {0}) (Error E)) → (IsTrue i.keeps_defaults → ContentsMade (asks i) name contents old.ceiling s m body) →
        AddsMapped {E = E} (section_row 0 (normal body)) old (Ok tt) new r → CustomClausesOf form i name contents s old m new r
    custom_added {m = m} {new = new} {body = body} r made adds = record {
      kept = keeps_added (section_row 0 (normal body)) old new r adds;
      default = λ k. given r adds (made k);
      after_error = λ k. left r adds (made k);
    }
      where
        left : (r : Result (Unit {0}) (Error E)) → AddsMapped {E = E} (section_row 0 (normal body)) old (Ok tt) new r → ContentsMade (asks i) name contents old.ceiling s m body →
            LeavesMade i.sure (asks i) (custom_of form name contents) s m r
        left (Ok v) adds w = tt
        left (Err e) adds w = λ told.
            let u = w.reading.0 in
            let Q : Error E → Type 0 = λ z. Unasked z in
            let p : PartMade (asks i) s (visits u) e m = tree_made (asks i) old.ceiling e (named name u) (subst Q (sym adds.2) (write_unasked E adds.1)) (w.becomes u w.reading.1) in record {
              made = p.part;
              ended = p.ended;
              drawn = drawn_made p.front (drawn_contents w.reading.1);
              reading = λ t reads. front_same (ap visits (one_contents w.reading.1 reads.2) ∙ sym (ap visits reads.1)) p.front;
              fault = λ none t rest f. let q = read_custom u w.reading.1 in absurd (none q.0 q.1);
            }

        gives : (r : Result (Unit {0}) (Error E)) → AddsMapped {E = E} (section_row 0 (normal body)) old (Ok tt) new r → ContentsMade (asks i) name contents old.ceiling s m body →
            (t : Tree) → ReadsCustomOf form name contents t → GivesAdded (asks i) 0 (s, old) t (m, new) r
        gives r adds w t q =
            let P : Tree → Type 0 = λ z. GivesAdded (asks i) 0 (s, old) z (m, new) r in
            subst P (sym q.1) (framed_added (asks i) form.number 0 (Tree.fixed 0) refl old.ceiling s m (named name q.0) body refl (w.becomes q.0 q.2) old new r refl adds)

        given : (r : Result (Unit {0}) (Error E)) → AddsMapped {E = E} (section_row 0 (normal body)) old (Ok tt) new r → ContentsMade (asks i) name contents old.ceiling s m body →
            GivesCustomOf form (asks i) name contents (s, old) (m, new) r
        given (Ok v) adds w = record { reading = gives (Ok v) adds w; readable = read_custom w.reading.0 w.reading.1; unreadable = tt; refusal = tt; unchanged = tt }
        given (Err e) adds w = record {
          reading = gives (Err e) adds w;
          readable = tt;
          unreadable = added_usual _ (section_row 0 (normal body)) old new (Err e) adds;
          refusal = unless_wanting e (λ other. inl (read_custom w.reading.0 w.reading.1));
          unchanged = adds.0;
        }

    -- ---- one that is named `name`

    module _ (is : name ≡ form.called) {reader : NamesStanding} (fresh : reader ≡ contents_standing contents) where
      at_start : {c : ℕ} {m : S} {r : Result CodeRows (Error E)} → c ≡ old.ceiling → GivesNamesOf form.names (asks i) c reader s m r (λ z. z) → GivesNamesOf form.names (asks i) old.ceiling (contents_standing contents) s m r (λ z. z)
      at_start {c = c} {m = m} {r = r} ceiling g =
          let P : ℕ → NamesStanding → Type 0 = λ y z. GivesNamesOf form.names (asks i) y z s m r (λ w. w) in
          subst (λ (y : ℕ). P y (contents_standing contents)) ceiling (subst (P c) fresh g)

      pub names_added : {c : ℕ} {m : S} {new : Sections} (names : CodeRows) (r : Result (Unit {0}) (Error E)) → c ≡ old.ceiling → NamesClausesOf form.names i c reader s m (Ok names) →
          AddsMapped {E = E} (section_row 0 (normal (named form.called (rows_tree names.rows)))) old (Ok tt) new r → CustomClausesOf form i name contents s old m new r
      names_added {c = c} {m = m} names r ceiling given adds = custom_added {body = named form.called (rows_tree names.rows)} r (λ k. made (at_start ceiling (given.default k))) adds
        where
          becomes : (u : Tree) → walk (asks i) old.ceiling s u ≡ accepted (rows_tree names.rows) m → walk (asks i) old.ceiling s (named name u) ≡ accepted ((named form.called (rows_tree names.rows))) m
          becomes u h =
              let walked : walk (asks i) old.ceiling s (named name u) ≡ accepted (named name (rows_tree names.rows)) m = rw h refl in
              walked ∙ ap (λ (z : List ℕ). accepted (named z (rows_tree names.rows)) m) is

          made : GivesNamesOf form.names (asks i) old.ceiling (contents_standing contents) s m (Ok names) (λ z. z) → ContentsMade (asks i) name contents old.ceiling s m ((named form.called (rows_tree names.rows)))
          made g = record {
            reading = (g.readable.0, inl (is, g.readable.1));
            becomes = λ u q. let w = g.reading u (names_of is u q) in becomes u (w.1 ∙ ap (λ (z : CodeRows). accepted (rows_tree z.rows) m) (sym w.2));
          }

      -- its names were refused, or they are none
      pub names_not_added : {c : ℕ} {m : S} (e : Error E) → c ≡ old.ceiling → NamesClausesOf form.names i c reader s m (Err e) → (r : Result (Unit {0}) (Error E)) → IsErrAnd r (λ y. y ≡ e) →
          CustomClausesOf form i name contents s old m old r
      names_not_added {c = c} {m = m} e ceiling given r q =
          let P : Result (Unit {0}) (Error E) → Type 0 = λ z. CustomClausesOf form i name contents s old m old z in
          subst P (answers r q) (record { kept = keeps_same old; default = λ k. custom (at_start ceiling (given.default k)); after_error = λ k told. left (left_at (given.after_error k told)) })
        where
          left_at : Leaves (asks i) (many_in form.names.row reader) s e m → Leaves (asks i) (many_in form.names.row (contents_standing contents)) s e m
          left_at leaves = let P : NamesStanding → Type 0 = λ z. Leaves (asks i) (many_in form.names.row z) s e m in subst P fresh leaves

          left : Leaves (asks i) (many_in form.names.row (contents_standing contents)) s e m → Leaves (asks i) (custom_of form name contents) s e m
          left l = record {
            made = l.made;
            ended = l.ended;
            drawn = l.drawn;
            reading = λ t reads. front_same (sym (ap visits reads.1)) (l.reading reads.0 (names_of is reads.0 reads.2));
            fault = λ none t rest f. l.fault (λ rows all. let q = read_custom rows (inl (is, all)) in none q.0 q.1) t rest f.1;
          }

          refuses : (u : Tree) → walk (asks i) old.ceiling s u ≡ refused e m → walk (asks i) old.ceiling s (section_of (named name u)) ≡ refused e m
          refuses u h = let body : walk (asks i) old.ceiling s (named name u) ≡ refused e m = rw h refl in framed_refused (asks i) form.number (Tree.fixed 0) old.ceiling s m (named name u) refl e body

          either : {P : Type 0} → ((rows : Tree) × AreLeft form.names.row (contents_standing contents) rows) ⊎ P → ((t : Tree) × ReadsCustomOf form name contents t) ⊎ ((name ≡ form.called) × P)
          either (inl p) = inl (read_custom p.0 (inl (is, p.1)))
          either (inr p) = inr (is, p)

          custom : GivesNamesOf form.names {A = CodeRows} (asks i) old.ceiling (contents_standing contents) s m (Err e) (λ z. z) → GivesCustomOf form (asks i) name contents (s, old) (m, old) (Err e)
          custom g = record {
            reading = λ t reads.
                let P : Tree → Type 0 = λ z. GivesAdded (asks i) 0 (s, old) z (m, old) (Err e) in
                subst P (sym reads.1) (refl, λ other. refuses reads.0 (g.reading reads.0 (names_of is reads.0 reads.2) other));
            readable = tt;
            unreadable = IfParse-map e (λ at f. (λ t reads. f.none reads.0 (names_of is reads.0 reads.2), is, f)) g.unreadable;
            refusal = IfRefused-map e either g.refusal;
            unchanged = refl;
          }

    -- ---- any other one

    module _ (other : name ≢ form.called) where
      pub other_added : {A : Type 0} (view : A → Tree) {m : S} {new : Sections} (a : A) (r : Result (Unit {0}) (Error E)) → MapsIf i s (named name (Tree.raw contents)) view m (Ok a) →
          AddsMapped {E = E} (section_row 0 (normal (view a))) old (Ok tt) new r → CustomClausesOf form i name contents s old m new r
      other_added view {m = m} a r maps adds = custom_added {body = view a} r (λ k. made (maps k old.ceiling)) adds
        where
          made : walk (asks i) old.ceiling s (named name (Tree.raw contents)) ≡ accepted (view a) m → ContentsMade (asks i) name contents old.ceiling s m (view a)
          made h = record {
            reading = (Tree.raw contents, inr (other, refl));
            becomes = λ u q. let P : Tree → Type 0 = λ z. walk (asks i) old.ceiling s (named name z) ≡ accepted (view a) m in subst P (sym (raw_of other u q)) h;
          }

      -- memory runs out
      pub other_not_mapped : {A : Type 0} (view : A → Tree) {m : S} (e : Error E) → MapsIf i s (named name (Tree.raw contents)) view m (Err e) → (IsTrue i.keeps_defaults → NeverWants {A = A} i.sure (Err e)) →
          (r : Result (Unit {0}) (Error E)) → IsErrAnd r (λ y. y ≡ e) → CustomClausesOf form i name contents s old m old r
      other_not_mapped {A = A} view {m = m} e maps sure r q =
          let P : Result (Unit {0}) (Error E) → Type 0 = λ z. CustomClausesOf form i name contents s old m old z in
          subst P (answers r q) (record { kept = keeps_same old; default = λ k. custom (maps k old.ceiling); after_error = λ k told. absurd (never_refused (maps k old.ceiling (not_wanting e (sure k) told))) })
        where
          custom : (e ≢ NoMemory → walk (asks i) old.ceiling s (named name (Tree.raw contents)) ≡ refused e m) → GivesCustomOf form (asks i) name contents (s, old) (m, old) (Err e)
          custom stops = record {
            reading = λ t reads. (refl, λ some. absurd (never_refused (stops some)));
            readable = tt;
            unreadable = stops_usual _ (walk (asks i) old.ceiling s (named name (Tree.raw contents))) e m tt stops;
            refusal = unless_wanting e (λ some. absurd (never_refused (stops some)));
            unchanged = refl;
          }
