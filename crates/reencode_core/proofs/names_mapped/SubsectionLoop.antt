-- The loop over the subsections of a format of names.
use Rattle.std.proofs.Common.{◌≡◌, ◌≢◌, ◌⊎◌, ℕ, ◌-◌, ◌<◌, ◌+◌, ◌^◌, List, [], ◌∷◌, ◌++◌, length, length-append, Result, Ok, Err, IsErrAnd, IsTrue, refl, sym, ap, ◌∙◌, subst, inl, inr, arith}
use Rattle.std.proofs.lemmas.List.Elements.{Contains-append_left}
use Rattle.wasm_leb.specs.declared.fault.Fault.{Fault}
use Rattle.wasm_leb.specs.declared.fault.Fault.TheVariants as fault
use Rattle.wasm_shapes.specs.declared.Visit.{Visit}
use Rattle.wasm_shapes.specs.Drawn.{Drawn}
use Rattle.wasm_shapes.proofs.Drawn.{drawn_behind, drawn_front, drawn_joined, drawn_none}
use Rattle.wasm_shapes.specs.Shape.{Shape}
use Rattle.wasm_shapes.specs.Tree.{Tree, visits}
use Rattle.wasm_shapes.specs.Spells.{Is, Spelled, Spells}
use Rattle.wasm_shapes.specs.Place.{Begins, BeginsNone}
use Rattle.wasm_shapes.specs.Types.{rows_tree}
use Rattle.wasm_shapes.proofs.Begins.{none_at_end}
use Rattle.wasm_read.specs.declared.types.Name.{Name}
use Rattle.wasm_read.specs.declared.types.Name.TheVariants as name
use Rattle.wasm_read.specs.Names.{NamesStanding, names_place}
use Rattle.wasm_read.specs.Reading.{ReadsNone}
use Rattle.wasm_read.specs.Subsections.{Holds, IsRaw, NameRead, SubsectionMissing, SubsectionRead, content_of, subsection_frame, subsection_frame_tree}
use Rattle.wasm_write.specs.Bodies.{CodeRows}
use Rattle.wasm_write.specs.Counts.{counts, IsTooLarge}
use Rattle.reencode_hooks.specs.declared.error.Error.{Error}
use Rattle.reencode_hooks.specs.declared.error.Error.TheVariants.{ParseError, UserError, TooLarge, NoMemory}
use Rattle.reencode_hooks.specs.declared.indices.ReencodeIndices.{Ghosts}
use Rattle.reencode_hooks.specs.Errors.{error_of_fault}
use Rattle.reencode_hooks.specs.Run.{accepted, refused}
use Rattle.reencode_hooks.specs.Walk.{walk}
use Rattle.reencode_hooks.proofs.Walks.{walk_is_run}
use Rattle.reencode_core.specs.Errors.{IfParse, IfRefused, placed_at}
use Rattle.reencode_core.specs.Leaves.{EndsBy, IsFront, Leaves, MadeUpTo, ManyUpTo, TellsFault, many_in, subsection_of}
use Rattle.reencode_core.specs.NameFormats.{NameFormat}
use Rattle.reencode_core.specs.Names.{AreLeft, GivesNamesOf, GivesSubsectionOf, RefusesEntryOf, StopsMap, StopsNamesOf, SubsectionsFaultOf, TooLargeNames}
use Rattle.reencode_core.specs.Rows.{Asks, RefusesRow}
use Rattle.reencode_core.specs.Clauses.{NamesClausesOf, SubsectionClausesOf, asks}
use Rattle.reencode_core.proofs.rows_walked.SmallCounts.{only_rows}
use Rattle.reencode_core.proofs.after_error.VisitsMade.{ended_all, ended_behind, ended_placed, fault_unasked, front_first, front_none, front_same, front_then, tells_if, tells_placed, wants_placed}
use Rattle.reencode_core.proofs.after_error.RowsVisited.{RowsAhead, rows_ahead, visits_behind, visits_more}
use Rattle.reencode_core.proofs.rows_walked.RowsToEnd.{ManyDone, many_begun, many_more, many_read, many_refused, many_stuck, many_walked}
use Rattle.reencode_core.proofs.names_mapped.FormatLaws.{FormatLaws}
use Rattle.reencode_core.proofs.rows_walked.OneRow.{answers}
use Rattle.reencode_core.proofs.faults.WalkRefusals.{IfParse-map, fault_unrefused}

-- ---- a subsection that was read

-- the reader stands further on
pub further_on : {V : Type 0} {holding : ℕ → List ℕ → V → Type 0} {reader reader' : NamesStanding} {n : V} → SubsectionRead holding reader n reader' → length reader'.rest < length reader.rest
further_on {reader = reader} {reader' = reader'} r =
    let s = r.begins.spells.spelled in
    let whole : length reader.rest ≡ length r.begins.text + length reader'.rest = ap length r.begins.reads ∙ length-append r.begins.text reader'.rest in
    let text : length r.begins.text ≡ length s.0 + length s.1 = ap length s.2 ∙ length-append s.0 s.1 in
    let id : length s.0 ≡ 1 = ap length s.3.0 in
    omega arith

raw_of : (n : Name) (id : ℕ) (body : List ℕ) → Holds id body (content_of n) → IsRaw n
raw_of (name.Unknown j c) id body h = h.1
raw_of _ id body h = tt

-- what is raw has an id of its own
pub read_raw : {reader reader' : NamesStanding} {n : Name} → NameRead reader n reader' → IsRaw n
read_raw {n = n} r = raw_of n r.id r.body r.holds

some_begun : {V : Type 0} {holding : ℕ → List ℕ → V → Type 0} {reader reader' : NamesStanding} {n : V} → SubsectionRead holding reader n reader' → reader.rest ≢ []
some_begun {reader' = reader'} r empty =
    let none : BeginsNone subsection_frame [] = none_at_end refl in
    none.none r.begins.text reader'.rest (subsection_frame_tree r.id r.body) r.begins.spells (sym empty ∙ r.begins.reads)

-- the subsections so far are walked and added
pub record NamesKept {V : Type 0} (form : NameFormat V) {S E : Type 0} (i : Ghosts S E) (c : ℕ) (start : NamesStanding) (s0 : S) (reader : NamesStanding) (s : S) (new : CodeRows) : Type 0 where
  pub ceiling : new.ceiling ≡ c
  pub len : reader.len ≡ start.len
  pub default : IsTrue i.keeps_defaults → ManyDone (asks i) c form.row start.rest s0 reader.rest s new.rows

module _ {V : Type 0} {form : NameFormat V} (laws : FormatLaws form) where
  -- ---- a subsection of a format

  none_read : {reader reader' : NamesStanding} {n : V} → SubsectionRead form.holds reader n reader' → ((t : Tree) → form.reads n t → ⊥) → BeginsNone form.row reader.rest
  none_read r none = record { none = λ text left t p e. none t (laws.here _ _ _ _ _ r (record { text = text; spells = p; reads = e })).0 }

  module _ {S E : Type 0} (asked : Asks S E) where
    -- no number in what was read is too large
    none_large : (s m : S) (t : Tree) (x : List ℕ) (e : Error E) → Spelled t x → TooLargeNames asked s t e m → ⊥
    none_large s m t x (TooLarge size) p q =
        let u = q.accepts.made in
        let among : IsTooLarge (counts u ++ 0 ∷ []) size = record { counted = Contains-append_left (counts u) (0 ∷ []) size q.large.counted; large = q.large.large } in
        let none = only_rows asked q.accepts.ceiling s m t u x 0 size p q.accepts.walked among in
        let zero : size ≡ 0 = none.0 in
        let large : 2 ^ 32 - 1 < size = none.1 in
        omega arith
    none_large s m t x _ p q = q.large

    walk_refuses : (c : ℕ) (s m : S) (t : Tree) (x : List ℕ) (e : Error E) → Spelled t x → (walk asked c s t ≡ refused e m) ⊎ TooLargeNames asked s t e m → walk asked c s t ≡ refused e m
    walk_refuses c s m t x e p (inl h) = h
    walk_refuses c s m t x e p (inr q) = absurd (none_large s m t x e p q)

    -- an entry of its map is refused
    entry_refused : (n : V) (c id : ℕ) (bytes body left : List ℕ) (s m : S) (e : Error E) → Begins subsection_frame bytes (subsection_frame_tree id body) left → form.holds id body n →
        form.of_map n (λ row w. StopsMap asked c row w s e m) → RefusesEntryOf form asked bytes c s e m
    entry_refused n c id bytes body left s m e there h q =
        let r = laws.in_map id body n (λ row w. StopsMap asked c row w s e m) h q in
        let w = r.3 in
        record { id = id; body = body; left = left; begins = there; row = r.0; map = r.1; is_map = r.2; count = w.count; start = w.start; counted = w.due; stops = w.stops; more = w.more }

    module _ {c : ℕ} {start reader : NamesStanding} {s0 s : S} {made : List Tree} (len : reader.len ≡ start.len) (d : ManyDone asked c form.row start.rest s0 reader.rest s made) where
      -- no subsection is there
      names_fault : (at : ℕ) → BeginsNone form.row reader.rest → reader.rest ≢ [] → at ≡ names_place reader → SubsectionsFaultOf form.row asked c start s0 at
      names_fault at missing some place = record {
        none = many_stuck asked c laws.passes laws.ends laws.fills d missing some;
        read = d.read;
        rest = reader.rest;
        made = made;
        state = s;
        front = d.before;
        some = some;
        missing = missing;
        place = place ∙ ap (λ (n : ℕ). n - length reader.rest) len;
        accepts = d.accepts;
      }

      pub names_unread : (f : Fault) → ReadsNone f (names_place reader) (SubsectionMissing form.row reader) → GivesNamesOf form {A = CodeRows} asked c start s0 s (Err (error_of_fault f)) (λ z. z)
      names_unread f missing = record {
        reading = λ rows r. absurd (never f missing rows r);
        readable = tt;
        unreadable = parse f missing;
        refusal = fault_unrefused E _ f;
      }
        where
          never : (f : Fault) → ReadsNone f (names_place reader) (SubsectionMissing form.row reader) → (rows : Tree) → AreLeft form.row start rows → ⊥
          never (fault.Read x) h rows r = many_stuck asked c laws.passes laws.ends laws.fills d h.1.none h.1.some rows r
          never fault.NoMemory h rows r = h
          never fault.CodeSize h rows r = h
          never (fault.Header k) h rows r = h

          parse : (f : Fault) → ReadsNone f (names_place reader) (SubsectionMissing form.row reader) → IfParse (error_of_fault {E = E} f) (SubsectionsFaultOf form.row asked c start s0)
          parse (fault.Read x) h = names_fault x.at h.1.none h.1.some h.0
          parse fault.NoMemory h = absurd h
          parse fault.CodeSize h = absurd h
          parse (fault.Header k) h = absurd h

      pub names_all : (new : CodeRows) → new.ceiling ≡ c → new.rows ≡ made → reader.rest ≡ [] → GivesNamesOf form asked c start s0 s (Ok new) (λ z. z)
      names_all new ceiling rows ended = record {
        reading = λ t r. (made, many_walked asked c laws.passes laws.ends laws.fills d ended t r, same);
        readable = many_read asked c laws.passes laws.ends laws.fills d ended;
        unreadable = tt;
        refusal = tt;
      }
        where
          same : new ≡ record { ceiling = c; rows = made }
          same = ap (λ (z : ℕ). record new { ceiling = z }) ceiling ∙ ap (λ (z : List Tree). record { ceiling = c; rows = z }) rows

      module _ {reader' : NamesStanding} {n : V} (r : SubsectionRead form.holds reader n reader') {old : CodeRows} (ceiling : old.ceiling ≡ c) where
        pub names_more : {m : S} {new : CodeRows} → old.rows ≡ made → GivesSubsectionOf form asked n (s, old) (m, new) (Ok tt) → ManyDone asked c form.row start.rest s0 reader'.rest m new.rows
        names_more {m = m} {new = new} rows g =
            let t = g.readable.0 in
            let q = g.reading t g.readable.1 in
            let W : ℕ → Type 0 = λ z. walk asked z s t ≡ accepted q.0 m in
            let added : new.rows ≡ made ++ q.0 ∷ [] = ap CodeRows.rows q.2 ∙ ap (λ (z : List Tree). z ++ q.0 ∷ []) rows in
            let P : List Tree → Type 0 = λ z. ManyDone asked c form.row start.rest s0 reader'.rest m z in
            subst P (sym added) (many_more asked c laws.passes laws.ends laws.fills d (laws.there _ _ _ _ r g.readable.1) (subst W ceiling q.1))

        -- a subsection is refused, or it is none
        pub names_err : {m : S} {new : CodeRows} (e : Error E) (at : ℕ) → GivesSubsectionOf form asked n (s, old) (m, new) (Err e) → at ≡ names_place reader → GivesNamesOf form {A = CodeRows} asked c start s0 m (Err (placed_at e at)) (λ z. z)
        names_err {m = m} {new = new} e at g place = go e g
          where
            -- where the subsection has a reading, its walk is refused
            refuses : (e : Error E) → GivesSubsectionOf form asked n (s, old) (m, new) (Err e) → e ≢ NoMemory → (t : Tree) → form.reads n t → walk asked c s t ≡ refused e m
            refuses e g other t reads =
                let there = laws.there _ _ _ _ r reads in
                let N : ℕ → Type 0 = λ z. (walk asked z s t ≡ refused e m) ⊎ TooLargeNames asked s t e m in
                walk_refuses c s m t there.text e there.spells.spelled (subst N ceiling ((g.reading t reads).1 other))

            stops : (e : Error E) → RefusesRow asked c form.row reader.rest s e m ⊎ RefusesEntryOf form asked reader.rest c s e m → StopsNamesOf form asked c start s0 e m
            stops e q = record { read = d.read; rest = reader.rest; made = made; state = s; front = d.before; accepts = d.accepts; refuses = q }

            inside : (e : Error E) → GivesSubsectionOf form asked n (s, old) (m, new) (Err e) → e ≢ NoMemory →
                ((t : Tree) × form.reads n t) ⊎ ((new ≡ old) × form.of_map n (λ row w. StopsMap asked old.ceiling row w s e m)) → StopsNamesOf form asked c start s0 e m
            inside e g other (inl q) =
                let there = laws.there _ _ _ _ r q.1 in
                stops e (inl (record { tree = q.0; left = reader'.rest; begins = there; refusal = refuses e g other q.0 q.1 }))
            inside e g other (inr q) =
                let M : ℕ → Type 0 = λ z. form.of_map n (λ row w. StopsMap asked z row w s e m) in
                stops e (inr (entry_refused n c r.id reader.rest r.body reader'.rest s m e r.begins r.holds (subst M ceiling q.1)))

            refusal : (e : Error E) → GivesSubsectionOf form asked n (s, old) (m, new) (Err e) → IfRefused e (((rows : Tree) × AreLeft form.row start rows) ⊎ StopsNamesOf form asked c start s0 e m)
            refusal (UserError x) g = inr (inside (UserError x) g (λ q. cc) g.refusal)
            refusal (TooLarge x) g = inr (inside (TooLarge x) g (λ q. cc) g.refusal)
            refusal _ g = tt

            given : (e : Error E) → GivesSubsectionOf form asked n (s, old) (m, new) (Err e) → IfParse e (λ at. ⊥) → GivesNamesOf form {A = CodeRows} asked c start s0 m (Err e) (λ z. z)
            given e g usual = record {
              reading = λ rows all other. walked e g other rows all;
              readable = tt;
              unreadable = IfParse-map e (λ at never. absurd never) usual;
              refusal = refusal e g;
            }
              where
                walked : (e : Error E) → GivesSubsectionOf form asked n (s, old) (m, new) (Err e) → e ≢ NoMemory → (rows : Tree) → AreLeft form.row start rows → walk asked c s0 rows ≡ refused e m
                walked e g other rows all =
                    let b = d.back rows all in
                    let f = first_row b.0 b.2 in
                    let q = laws.here _ _ _ _ _ r f.2 in
                    many_refused asked c laws.passes laws.ends laws.fills d e f.2 (refuses e g other f.0 q.0) rows all
                  where
                    first_row : (rows : Tree) → Spells (Shape.many form.row) reader.rest rows → (t : Tree) × (left : List ℕ) × Begins form.row reader.rest t left
                    first_row rows p = go rows p.shaped p.spelled
                      where
                        go : (rows : Tree) → Is (Shape.many form.row) rows → Spelled rows reader.rest → (t : Tree) × (left : List ℕ) × Begins form.row reader.rest t left
                        go rows Is.nil p = absurd (some_begun r p)
                        go rows (Is.cons {t = t} i j) p = (t, p.1, record { text = p.0; spells = record { shaped = i; spelled = p.3 }; reads = p.2 })

            go : (e : Error E) → GivesSubsectionOf form asked n (s, old) (m, new) (Err e) → GivesNamesOf form {A = CodeRows} asked c start s0 m (Err (placed_at e at)) (λ z. z)
            go (ParseError x) g =
                let missing = none_read r g.unreadable.0 in record {
                  reading = λ rows all. absurd (many_stuck asked c laws.passes laws.ends laws.fills d missing (some_begun r) rows all);
                  readable = tt;
                  unreadable = names_fault at missing (some_begun r) place;
                  refusal = tt;
                }
            go (UserError x) g = given (UserError x) g tt
            go (TooLarge x) g = given (TooLarge x) g tt
            go NoMemory g = given NoMemory g tt
            go _ g = absurd g.unreadable

    -- ---- the visits that were made

    module _ {c : ℕ} (start reader : NamesStanding) {s0 s : S} {made : List Tree} (d : ManyDone asked c form.row start.rest s0 reader.rest s made) where
      -- these were made behind the subsections so far
      names_leave : {m : S} (e : Error E) (mid : List Visit) → EndsBy asked s mid e m → Drawn reader.rest mid → ((others : Tree) → Spells (Shape.many form.row) reader.rest others → IsFront mid (visits others)) →
          ((t : Tree) (left : List ℕ) → Begins form.row reader.rest t left → (¬ TellsFault e) × IsFront mid (visits t)) → Leaves asked (many_in form.row start) s0 e m
      names_leave {m = m} e mid ended drawn whole next = record {
        made = visits (rows_tree d.read) ++ mid;
        ended = ended_behind asked e (visits (rows_tree d.read)) mid ((walk_is_run asked).forth c s0 s (rows_tree d.read) (rows_tree made) (d.accepts Tree.nil)).ran ended;
        drawn =
            let front : Drawn start.rest (visits (rows_tree d.read)) = drawn_front d.before.text reader.rest d.before.stands (laws.rows_drawn (rows_tree d.read) d.before.text d.before.shaped d.before.spelled) in
            drawn_joined start.rest (visits (rows_tree d.read)) mid front (drawn_behind d.before.text reader.rest d.before.stands drawn);
        reading = λ rows all.
            let b = d.back rows all in
            front_same (sym (ap visits b.1 ∙ visits_behind d.read b.0)) (front_then (visits (rows_tree d.read)) (whole b.0 b.2));
        fault = λ none t rest f. up_to t rest f (rows_ahead laws.passes laws.ends d.before f.front (λ h. f.missing));
      }
        where
          up_to : (t : Tree) (rest : List ℕ) (f : ManyUpTo form.row start.rest t rest) → RowsAhead form.row d.read reader.rest f.rows rest → MadeUpTo e (visits (rows_tree d.read) ++ mid) (visits t) rest
          up_to t rest f (RowsAhead.same p q) =
              let P : List ℕ → Type 0 = λ z. Drawn z mid in
              let are : visits t ≡ visits (rows_tree d.read) = ap visits f.are ∙ ap (λ (z : List Tree). visits (rows_tree z)) p in
              inr (mid, ap (λ (z : List Visit). z ++ mid) (sym are), subst P (sym q) drawn)
          up_to t rest f (RowsAhead.more u others left p b) =
              let n = next u left b in
              let are : visits t ≡ visits (rows_tree d.read) ++ (visits u ++ visits (rows_tree others)) = ap visits f.are ∙ ap (λ (z : List Tree). visits (rows_tree z)) p ∙ visits_more d.read u others in
              inl (n.0, front_same (sym are) (front_then (visits (rows_tree d.read)) (front_first (visits (rows_tree others)) n.1)))

      pub names_leave_none : (f : Fault) → ReadsNone f (names_place reader) (SubsectionMissing form.row reader) → Leaves asked (many_in form.row start) s0 (error_of_fault f) s
      names_leave_none f missing =
          names_leave (error_of_fault f) [] (ended_all {a = []} (error_of_fault f) (fault_unasked E f) refl) drawn_none (λ others all. front_none (visits others))
          (λ t left there. absurd (none f missing t left there))
        where
          none : (f : Fault) → ReadsNone f (names_place reader) (SubsectionMissing form.row reader) → (t : Tree) (left : List ℕ) → Begins form.row reader.rest t left → ⊥
          none (fault.Read x) h t left there = h.1.none.none there.text left t there.spells there.reads
          none fault.NoMemory h t left there = h
          none fault.CodeSize h t left there = h
          none (fault.Header k) h t left there = h

      -- the next subsection was asked in part
      pub names_leave_next : {m : S} {reader' : NamesStanding} {n : V} → SubsectionRead form.holds reader n reader' → (e : Error E) (at : ℕ) → ((t : Tree) → form.reads n t → ¬ TellsFault e) →
          Leaves asked (subsection_of form n) s e m → Leaves asked (many_in form.row start) s0 (placed_at e at) m
      names_leave_next {m = m} {reader' = reader'} {n = n} r e at tells l =
          names_leave (placed_at e at) l.made (ended_placed e at l.ended) drawn (λ others all. whole others all.shaped all.spelled)
          (λ t left there. let reads = (laws.here _ _ _ _ _ r there).0 in ((λ h. tells t reads (tells_placed e at h)), l.reading t reads))
        where
          drawn : Drawn reader.rest l.made
          drawn =
              let p = r.begins.spells.spelled in
              let q = p.4 in
              let P : List ℕ → Type 0 = λ z. Drawn z l.made in
              drawn_front r.begins.text reader'.rest r.begins.reads (drawn_behind p.0 p.1 p.2 (drawn_behind q.0 q.1 q.2 (subst P (sym q.4) (laws.drawn_in r.id r.body n l.made r.holds l.drawn))))

          whole : (others : Tree) → Is (Shape.many form.row) others → Spelled others reader.rest → IsFront l.made (visits others)
          whole others Is.nil p = absurd (some_begun r p)
          whole others (Is.cons {t = t} {u = u} i j) p =
              let there : Begins form.row reader.rest t p.1 = record { text = p.0; spells = record { shaped = i; spelled = p.3 }; reads = p.2 } in
              front_first (visits u) (l.reading t (laws.here _ _ _ _ _ r there).0)

  -- ---- the loop

  module _ {S E : Type 0} (i : Ghosts S E) {c : ℕ} {start : NamesStanding} {s0 : S} where
    pub names_begun : {new : CodeRows} → new ≡ record { ceiling = c; rows = [] } → NamesKept form i c start s0 start s0 new
    names_begun fresh =
        let P : List Tree → Type 0 = λ z. ManyDone (asks i) c form.row start.rest s0 start.rest s0 z in
        record { ceiling = ap CodeRows.ceiling fresh; len = refl; default = λ k. subst P (sym (ap CodeRows.rows fresh)) (many_begun (asks i) c form.row start.rest s0) }

    module _ {reader : NamesStanding} {s : S} {new : CodeRows} (inv : NamesKept form i c start s0 reader s new) where
      pub names_ended : reader.rest ≡ [] → NamesClausesOf form i c start s0 s (Ok new)
      names_ended ended = record { default = λ k. names_all (asks i) inv.len (inv.default k) new inv.ceiling refl ended; after_error = λ k. tt }

      -- no subsection is there
      pub names_stuck : (f : Fault) → ReadsNone f (names_place reader) (SubsectionMissing form.row reader) → (r : Result CodeRows (Error E)) → IsErrAnd r (λ y. y ≡ error_of_fault f) → NamesClausesOf form i c start s0 s r
      names_stuck f missing r q =
          let P : Result CodeRows (Error E) → Type 0 = λ z. NamesClausesOf form i c start s0 s z in
          subst P (answers r q) (record { default = λ k. names_unread (asks i) inv.len (inv.default k) f missing; after_error = λ k told. names_leave_none (asks i) start reader (inv.default k) f missing })

      module _ {reader' : NamesStanding} {n : V} (read : SubsectionRead form.holds reader n reader') where
        pub names_on : {m : S} {new' : CodeRows} → SubsectionClausesOf form i n s new m new' (Ok tt) → NamesKept form i c start s0 reader' m new'
        names_on given = record {
          ceiling = given.kept.ceiling ∙ inv.ceiling;
          len = read.len ∙ inv.len;
          default = λ k. names_more (asks i) inv.len (inv.default k) read inv.ceiling refl (given.default k);
        }

        -- a subsection is refused, or it is none
        pub names_refused : {m : S} {new' : CodeRows} (e : Error E) (at : ℕ) → SubsectionClausesOf form i n s new m new' (Err e) → at ≡ names_place reader → (r : Error E) → r ≡ placed_at e at →
            NamesClausesOf form i c start s0 m (Err r)
        names_refused {m = m} e at given place r q =
            let P : Error E → Type 0 = λ z. NamesClausesOf form i c start s0 m (Err z) in
            subst P (sym q) (record {
              default = λ k. names_err (asks i) inv.len (inv.default k) read inv.ceiling e at (given.default k) place;
              after_error = λ k told. names_leave_next (asks i) start reader (inv.default k) read e at (λ t reads. tells_if e (λ at h. h.0 t reads) (given.default k).unreadable) (given.after_error k (λ h. told (wants_placed e at h)));
            })
