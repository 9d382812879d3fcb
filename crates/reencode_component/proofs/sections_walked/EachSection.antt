-- A section of a component whose rows were mapped, as it is added.
use Rattle.std.proofs.Common.{◌≡◌, ◌+◌, ◌≢◌, ◌<◌, ◌≤◌, lit≤, zero, suc, ℕ, List, [], ◌∷◌, true, Result, Ok, Err, IfErr, IsTrue, refl, sym, ap, ◌∙◌, subst, arith, ◌⊎◌, inl, inr}
use Rattle.wasm_leb.specs.declared.fault.Fault.{Fault}
use Rattle.wasm_leb.specs.declared.fault.Fault.TheVariants as fault
use Rattle.wasm_leb.specs.Place.{BeginsNoNumber}
use Rattle.wasm_shapes.specs.Component as table
use Rattle.wasm_shapes.specs.ComponentReadings.{InComponentFrame}
use Rattle.wasm_shapes.specs.Depth.{opens}
use Rattle.wasm_shapes.specs.Drawn.{Drawn, IsItem}
use Rattle.wasm_shapes.specs.Module.{numbered_frame}
use Rattle.wasm_shapes.specs.Shape.{Shape}
use Rattle.wasm_shapes.specs.declared.Visit.{Visit}
use Rattle.wasm_shapes.specs.Tree.{Tree, normal, visits}
use Rattle.wasm_shapes.specs.Types.{rows_tree, vector_tree}
use Rattle.wasm_shapes.specs.Spells.{Spells}
use Rattle.wasm_shapes.proofs.Drawn.{drawn_item, drawn_none}
use Rattle.wasm_shapes.proofs.Laws.{one_tree}
use Rattle.wasm_shapes.proofs.Unscoped.{unscoped_is}
use Rattle.wasm_read_component.specs.declared.types.ComponentStartFunction.{ComponentStartFunction}
use Rattle.wasm_read_component.specs.ComponentRows.{start_tree}
use Rattle.wasm_read_component.specs.Scoped.{ScopedStanding}
use Rattle.wasm_read.specs.Reading.{Standing, CountRead, ReadsNone}
use Rattle.wasm_write.specs.Sections.{Sections, section_row}
use Rattle.reencode_hooks.specs.declared.error.Error.{Error}
use Rattle.reencode_hooks.specs.declared.error.Error.TheVariants.{CanonicalizedHeapTypeReference, InvalidConstExpr, InvalidCodeSectionSize, UnexpectedNonCoreModuleSection, UnexpectedNonComponentSection, UnsupportedCoreTypeInComponent, ParseError, UserError, TooLarge, NoMemory}
use Rattle.reencode_hooks.specs.declared.indices.ReencodeIndices.{Ghosts}
use Rattle.reencode_hooks.specs.Errors.{error_of_write}
use Rattle.reencode_core.specs.Clauses.{asks}
use Rattle.reencode_core.specs.Errors.{IfParse, placed_at}
use Rattle.reencode_core.specs.Leaves.{Leaves, MadeUpTo, TellsFault}
use Rattle.reencode_core.specs.Rows.{Asks}
use Rattle.reencode_core.specs.Sections.{AddsMapped, GivesAdded, KeepsModule}
use Rattle.reencode_core.specs.Weave.{Puts, added}
use Rattle.reencode_hooks.specs.Run.{LeavesVisited, refused}
use Rattle.reencode_hooks.specs.Walk.{walk}
use Rattle.reencode_core.proofs.sections_walked.KnownKind.{keeps_same}
use Rattle.reencode_core.proofs.faults.WalkRefusals.{unless_wanting}
use Rattle.reencode_core.proofs.after_error.VisitsMade.{drawn_made, either_made, ended_all, ended_placed, front_none, front_same, tells_placed, wants_placed, write_unasked}
use Rattle.reencode_component.specs.Causes.{IfFault, IsNestedFrame, fits_inside, inside, own_inside, room}
use Rattle.reencode_component.specs.Components.{NestedFault, ReadsSection}
use Rattle.reencode_component.specs.Gives.{GivesAddedIn, GivesSection}
use Rattle.reencode_component.specs.WeaveIn.{weave_in}
use Rattle.reencode_component.specs.Clauses.{AddedClauses}
use Rattle.reencode_component.specs.ComponentClauses.{FrameClauses, placed_in}
use Rattle.reencode_component.specs.ComponentLeaves.{IfLeaves, LeavesSection, SectionUpTo, StaysOpen, bytes_in, section_in}
use Rattle.reencode_component.specs.ScopedRows.{ShallowRowsClauses, standing_at}
use Rattle.reencode_component.proofs.sections_walked.RowsMapped.{SectionRows, above_custom, at_row, in_numbered, rows_not, rows_plain, section_added, section_not_added, section_stops, section_uncounted, unnested}
use Rattle.reencode_component.proofs.sections_walked.NoHooks.{not_nested, plain_fits, plain_inside}
use Rattle.reencode_component.proofs.after_error.RowsVisited.{section_leaves, section_leaves_all, section_untouched}

-- ---- the scopes that an error leaves open

-- nothing was asked
pub none_made : (told : Type 0) (depth scopes : ℕ) (f : Tree) → StaysOpen told depth scopes f []
none_made told depth zero f = λ id body is nested. refl
none_made told depth (suc scopes) f = λ id body is nested. inl refl

-- what stands in the frame is not nested
pub no_scope : (told : Type 0) (depth scopes : ℕ) (f : Tree) (made : List Visit) → ((id : ℕ) (body : List ℕ) → f ≡ numbered_frame id body → (id ≡ 1) ⊎ (id ≡ 4) → ⊥) → StaysOpen told depth scopes f made
no_scope told depth zero f made never = λ id body is nested. absurd (never id body is nested)
no_scope told depth (suc scopes) f made never = λ id body is nested. absurd (never id body is nested)

-- a section of rows
rows_leave : {S E : Type 0} {asked : Asks S E} (depth : ℕ) {id : ℕ} {row : Shape} → SectionRows id row → (body : List ℕ) {s m : S} {e : Error E} →
    Leaves asked (section_in depth (numbered_frame id body)) s e m → LeavesSection asked depth (numbered_frame id body) s e m
rows_leave depth {id = id} kind body {e = e} l = record { leaves = l; unread = λ none. no_scope (TellsFault e) depth (room depth) (numbered_frame id body) l.made never }
  where
    never : (id' : ℕ) (body' : List ℕ) → numbered_frame id body ≡ numbered_frame id' body' → (id' ≡ 1) ⊎ (id' ≡ 4) → ⊥
    never id' body' is (inl one) = let same : id ≡ id' = cc in rows_not depth kind body {n = 1} (λ q. cc) (same ∙ one)
    never id' body' is (inr four) = let same : id ≡ id' = cc in rows_not depth kind body {n = 4} (λ q. cc) (same ∙ four)

-- ---- the same error at another place

told_placed : {E : Type 0} (P : Type 0 → Type 0) (e : Error E) (at : ℕ) → P (TellsFault e) → P (TellsFault (placed_at e at))
told_placed P (ParseError x) at h = h
told_placed P _ at h = h

pub section_placed : {S E : Type 0} {asked : Asks S E} (depth : ℕ) (f : Tree) {s m : S} (e : Error E) (at : ℕ) → LeavesSection asked depth f s e m → LeavesSection asked depth f s (placed_at e at) m
section_placed {E = E} depth f e at l = record {
  leaves = record {
    made = l.leaves.made;
    ended = ended_placed e at l.leaves.ended;
    drawn = l.leaves.drawn;
    reading = l.leaves.reading;
    fault = λ none t rest x. go (visits t) rest (l.leaves.fault none t rest x);
  };
  unread = λ none. told_placed (λ z. StaysOpen z depth (room depth) f l.leaves.made) e at (l.unread none);
}
  where
    go : (all : List Visit) (rest : List ℕ) → MadeUpTo e l.leaves.made all rest → MadeUpTo (placed_at e at) l.leaves.made all rest
    go all rest (inl h) = inl ((λ q. h.0 (tells_placed e at q)), h.1)
    go all rest (inr h) = inr h

-- nothing is added in a section of rows
rows_fit : {S E : Type 0} (i : Ghosts S E) (c depth : ℕ) {id : ℕ} {row : Shape} (kind : SectionRows id row) (body : List ℕ) (s n : S) (e : Error E) →
    fits_inside (asks i) i.adds c depth (numbered_frame id body) s n e
rows_fit i c depth kind body s n e = plain_inside (asks i) i.adds c depth (rows_plain depth kind body) s (room depth) n e

module _ {S E : Type 0} (i : Ghosts S E) (depth : ℕ) (deep : depth ≤ 200) {id : ℕ} {row : Shape} (kind : SectionRows id row) (body : List ℕ) (at : ℕ) {s : S} {old : Sections} where
  -- the count of the rows is missing
  pub section_unread : (f : Fault) → ReadsNone f 0 (BeginsNoNumber 128 32 32 body) → FrameClauses i depth (numbered_frame id body) at s old s old (Err (ParseError (record { at = at })))
  section_unread f none = record {
    kept = keeps_same old;
    default = λ k.
        section_uncounted (asks i) i.adds depth deep kind body at (own_inside (asks i) i.adds old.ceiling depth) (inside (asks i) i.adds old.ceiling depth) (fits_inside (asks i) i.adds old.ceiling depth) s s old
        (λ e h. inl (id, body, refl, h)) (rows_fit i old.ceiling depth kind body s) (uncounted f none);
    after_error = λ k told size. rows_leave depth kind body (section_untouched (asks i) depth deep kind body s s (ParseError (record { at = at })) tt refl (uncounted f none));
  }
    where
      uncounted : (f : Fault) → ReadsNone f 0 (BeginsNoNumber 128 32 32 body) → BeginsNoNumber 128 32 32 body
      uncounted (fault.Read x) h = h.1
      uncounted fault.CodeSize h = absurd h
      uncounted (fault.Header k) h = absurd h
      uncounted fault.NoMemory h = absurd h

  -- its rows were mapped, or refused
  pub section_mapped : {reader : Standing} {start made : List Tree} {m : S} {new : Sections} (mapped r : Result (Unit {0}) (Error E)) → start ≡ [] → CountRead body reader → ShallowRowsClauses i row (standing_at depth reader) s start m made mapped →
      AddsMapped (section_row id (normal (vector_tree made))) old (placed_in mapped at) new r → FrameClauses i depth (numbered_frame id body) at s old m new r
  section_mapped {reader = reader} {m = m} {new = new} (Err e) r empty there rows adds =
      let P : Result (Unit {0}) (Error E) → Type 0 = λ z. FrameClauses i depth (numbered_frame id body) at s old m new z in
      let Q : Sections → Type 0 = λ z. FrameClauses i depth (numbered_frame id body) at s old m z (Err (placed_at e at)) in
      subst P (sym adds.0) (subst Q (sym adds.1) (record {
        kept = keeps_same old;
        default = λ k.
            section_stops (asks i) i.adds depth deep kind body at (own_inside (asks i) i.adds old.ceiling depth) (inside (asks i) i.adds old.ceiling depth) (fits_inside (asks i) i.adds old.ceiling depth) s m old
            (λ x h. inl (id, body, refl, h)) (rows_fit i old.ceiling depth kind body s) e empty there (rows.default k old.ceiling);
        after_error = λ k told size.
            section_placed depth (numbered_frame id body) e at (rows_leave depth kind body (section_leaves (asks i) depth deep kind body s m e there (rows.after_error k (λ h. told (wants_placed e at h)))));
      }))
  section_mapped {reader = reader} {made = made} {m = m} {new = new} (Ok u) (Ok v) empty there rows adds = record {
    kept = (section_row id (normal (vector_tree made)) ∷ [], adds.0);
    default = λ k.
        section_added (asks i) i.adds depth deep kind body at (own_inside (asks i) i.adds old.ceiling depth) (inside (asks i) i.adds old.ceiling depth) (fits_inside (asks i) i.adds old.ceiling depth) s m old
        (λ x h. inl (id, body, refl, h)) (rows_fit i old.ceiling depth kind body s) empty there (rows.default k old.ceiling) adds.0 adds.1;
    after_error = λ k. tt;
  }
  section_mapped {reader = reader} {made = made} {m = m} {new = new} (Ok u) (Err e) empty there rows adds =
      let P : Error E → Type 0 = λ z. FrameClauses i depth (numbered_frame id body) at s old m new (Err z) in
      let Q : Sections → Type 0 = λ z. FrameClauses i depth (numbered_frame id body) at s old m z (Err (error_of_write adds.1)) in
      subst P (sym adds.2) (subst Q (sym adds.0) (record {
        kept = keeps_same old;
        default = λ k.
            section_not_added (asks i) i.adds depth deep kind body at (own_inside (asks i) i.adds old.ceiling depth) (inside (asks i) i.adds old.ceiling depth) (fits_inside (asks i) i.adds old.ceiling depth) s m old
            (λ x h. inl (id, body, refl, h)) (rows_fit i old.ceiling depth kind body s) empty there (rows.default k old.ceiling) adds.1 adds.3;
        after_error = λ k told size.
            let g = rows.default k old.ceiling in
            let q = g.reading g.readable.0 g.readable.1 in
            rows_leave depth kind body (section_leaves_all (asks i) depth deep kind body s m old.ceiling (rows_tree q.0) (error_of_write adds.1) (write_unasked E adds.1) there g.readable.0 g.readable.1 q.1);
      }))

  -- the same by a reader that knows the depth
  pub scoped_mapped : {reader : ScopedStanding} {start made : List Tree} {m : S} {new : Sections} (mapped r : Result (Unit {0}) (Error E)) → start ≡ [] → CountRead body reader.rows → reader.depth ≡ depth →
      ShallowRowsClauses i row reader s start m made mapped → AddsMapped (section_row id (normal (vector_tree made))) old (placed_in mapped at) new r → FrameClauses i depth (numbered_frame id body) at s old m new r
  scoped_mapped {reader = reader} {start = start} {made = made} {m = m} mapped r empty there same rows adds =
      let P : ℕ → Type 0 = λ n. ShallowRowsClauses i row (standing_at n reader.rows) s start m made mapped in
      section_mapped mapped r empty there (subst P same rows) adds

-- ---- a section of which there is one reading

-- an error that tells nothing of the bytes tells no fault of them
tells_no_fault : {E : Type 0} (P : Fault → Type 0) (e : Error E) → IfParse e (λ at. ⊥) → IfFault e P
tells_no_fault P (ParseError x) h = absurd h
tells_no_fault P (UserError x) h = tt
tells_no_fault P (TooLarge x) h = tt
tells_no_fault P NoMemory h = tt
tells_no_fault P InvalidCodeSectionSize h = absurd h
tells_no_fault P UnexpectedNonCoreModuleSection h = absurd h
tells_no_fault P UnexpectedNonComponentSection h = absurd h
tells_no_fault P CanonicalizedHeapTypeReference h = absurd h
tells_no_fault P InvalidConstExpr h = absurd h
tells_no_fault P UnsupportedCoreTypeInComponent h = absurd h

module _ {S E : Type 0} (i : Ghosts S E) (depth : ℕ) {f t : Tree} (reads : ReadsSection depth f t) (one : (u : Tree) → ReadsSection depth f u → u ≡ t)
    (same : (put : Puts S Tree) (c : ℕ) (s : S) → weave_in (asks i) put c s t ≡ walk (asks i) c s t) (drawn : Drawn (bytes_in f) (visits t)) (plain : IsNestedFrame f → ⊥) (at id : ℕ) {s m : S} {old new : Sections} where
  -- it was mapped and added, or refused
  one_gives : (r : Result (Unit {0}) (Error E)) → GivesAdded (asks i) id (s, old) t (m, new) r → IfErr r (λ e. IfParse e (λ _. ⊥)) → GivesSection (asks i) i.adds depth f at (s, old) (m, new) r
  one_gives (Ok v) g usual = record {
    reading = λ u q.
        let P : Tree → Type 0 = λ z. GivesAddedIn (asks i) i.adds (own_inside (asks i) i.adds old.ceiling depth f s m) (s, old) z (m, new) (Ok v) in
        subst P (sym (one u q)) (g.0, section_row id g.1, same (added i.adds) old.ceiling s ∙ g.2, g.3, g.4);
    readable = (t, reads);
    fits = λ u q. plain_fits (asks i) i.adds old.ceiling depth plain s q;
    fits_before = tt;
    unreadable = tt;
    refusal = tt;
    unchanged = tt;
  }
  one_gives (Err e) g usual = record {
    reading = λ u q other.
        let P : Tree → Type 0 = λ z. weave_in (asks i) (added i.adds) old.ceiling s z ≡ refused e m in
        inr (subst P (sym (one u q)) (same (added i.adds) old.ceiling s ∙ g.1 other));
    readable = tt;
    fits = tt;
    fits_before = λ other. plain_inside (asks i) i.adds old.ceiling depth plain s (room depth) m e;
    unreadable = tells_no_fault _ e usual;
    refusal = unless_wanting e (λ other. inl (t, reads));
    unchanged = g.0;
  }

  pub one_added : (r : Result (Unit {0}) (Error E)) → KeepsModule old new → (IsTrue i.keeps_defaults → GivesAdded (asks i) id (s, old) t (m, new) r) →
      (IsTrue i.keeps_defaults → IsTrue i.sure → LeavesVisited (asks i) s (visits t) m r) → (IsTrue i.keeps_defaults → IfErr r (λ e. IfParse e (λ _. ⊥))) →
      FrameClauses i depth f at s old m new r
  one_added r kept gives leaves usual = record { kept = kept; default = λ k. one_gives r (gives k) (usual k); after_error = λ k. left r (gives k) (leaves k) }
    where
      left : (r : Result (Unit {0}) (Error E)) → GivesAdded (asks i) id (s, old) t (m, new) r → (IsTrue i.sure → LeavesVisited (asks i) s (visits t) m r) →
          IfLeaves i.sure i.adds_nothing (λ e. LeavesSection (asks i) depth f s e m) r
      left (Ok v) g l = tt
      left (Err e) g l = λ told size.
          let p = either_made i.reply i.next old.ceiling t e g.1 (λ h. l (told h)) in
          record {
            leaves = record {
              made = p.part;
              ended = p.ended;
              drawn = drawn_made p.front drawn;
              reading = λ u q. front_same (sym (ap visits (one u q))) p.front;
              fault = λ none u rest x. absurd (none t reads);
            };
            unread = λ none. absurd (none t reads);
          }

-- ---- a section of an id that no table knows

module _ {S E : Type 0} (i : Ghosts S E) (depth : ℕ) (deep : depth ≤ 200) (id : ℕ) (contents : List ℕ) (low : 12 ≤ id) (high : id ≤ 127) (at : ℕ) {s m : S} {old new : Sections} where
  pub raw_added : (r : Result (Unit {0}) (Error E)) → KeepsModule old new → (IsTrue i.keeps_defaults → GivesAdded (asks i) id (s, old) (table.unknown_component_tree id contents) (m, new) r) →
      (IsTrue i.keeps_defaults → IsTrue i.sure → LeavesVisited (asks i) s [] m r) → (IsTrue i.keeps_defaults → IfErr r (λ e. IfParse e (λ _. ⊥))) →
      FrameClauses i depth (numbered_frame id contents) at s old m new r
  raw_added r kept gives leaves usual =
      one_added i depth reads one (λ put c s. refl) drawn_none (not_nested (λ e. omega (arith, e, low)) (λ e. omega (arith, e, low))) at id r kept gives leaves usual
    where
      reads : ReadsSection depth (numbered_frame id contents) (table.unknown_component_tree id contents)
      reads = record {
        framed = InComponentFrame.of_unknown id contents low high;
        shallow = let most : opens (table.unknown_component_tree id contents) + depth ≤ 200 = omega (arith, deep) in record { most = most };
      }

      is : (u f : Tree) → InComponentFrame u f → f ≡ numbered_frame id contents → u ≡ table.unknown_component_tree id contents
      is u f (InComponentFrame.of_id id' v body' low' high' q) e = let number : id' ≡ id = cc in absurd (omega (arith, number, high', low))
      is u f (InComponentFrame.of_custom name contents' v q) e = absurd cc
      is u f (InComponentFrame.of_unknown id' contents' low' high') e = cc

      one : (u : Tree) → ReadsSection depth (numbered_frame id contents) u → u ≡ table.unknown_component_tree id contents
      one u q = is u (numbered_frame id contents) q.framed refl

-- ---- a section that is not read

-- the section has no rows
pub no_up_to : (depth id : ℕ) (body : List ℕ) → ((row : Shape) → table.component_body_of id ≡ Shape.vec row → ⊥) → (t : Tree) (rest : List ℕ) → SectionUpTo depth (numbered_frame id body) t rest → ⊥
no_up_to depth id body none t rest x = go (numbered_frame id body) t rest x refl
  where
    go : (f t : Tree) (rest : List ℕ) → SectionUpTo depth f t rest → f ≡ numbered_frame id body → ⊥
    go f t rest (SectionUpTo.uncounted id' body' row e n) q = let number : id' ≡ id = cc in none row (sym (ap table.component_body_of number) ∙ e)
    go f t rest (SectionUpTo.rows id' body' row reader u rest' e there r) q = let number : id' ≡ id = cc in none row (sym (ap table.component_body_of number) ∙ e)
    go f t rest (SectionUpTo.names name contents u rest' is r) q = cc

module _ {S E : Type 0} (i : Ghosts S E) (depth : ℕ) (f : Tree) (none : (t : Tree) → ReadsSection depth f t → ⊥) (unnested : (x : Fault) → NestedFault depth (room depth) f x → ⊥)
    (unknown : (t : Tree) (rest : List ℕ) → SectionUpTo depth f t rest → ⊥) (at : ℕ) (s : S) (old : Sections)
    (fits : fits_inside (asks i) i.adds old.ceiling depth f s s (ParseError (record { at = at }))) where
  pub not_read : FrameClauses i depth f at s old s old (Err (ParseError (record { at = at })))
  not_read = record {
    kept = keeps_same old;
    default = λ k. record {
      reading = λ t r. absurd (none t r);
      readable = tt;
      fits = tt;
      fits_before = λ other. fits;
      unreadable = (none, (refl, λ y handed q. unnested y q));
      refusal = tt;
      unchanged = refl;
    };
    after_error = λ k told size. record {
      leaves = record {
        made = [];
        ended = ended_all {a = []} (ParseError (record { at = at })) tt refl;
        drawn = drawn_none;
        reading = λ t r. front_none (visits t);
        fault = λ never t rest x. absurd (unknown t rest x);
      };
      unread = λ never. none_made (Unit {0}) depth (room depth) f;
    };
  }

-- memory ran out before anything was asked
pub frame_wanted : {S E : Type 0} (i : Ghosts S E) (depth : ℕ) (f : Tree) (at : ℕ) (s : S) (old : Sections) → FrameClauses i depth f at s old s old (Err NoMemory)
frame_wanted i depth f at s old = record {
  kept = keeps_same old;
  default = λ k. record { reading = λ t r other. absurd (other refl); readable = tt; fits = tt; fits_before = λ other. absurd (other refl); unreadable = tt; refusal = tt; unchanged = refl };
  after_error = λ k told size. record {
    leaves = record {
      made = [];
      ended = ended_all {a = []} NoMemory tt refl;
      drawn = drawn_none;
      reading = λ t r. front_none (visits t);
      fault = λ never t rest x. inl ((λ h. h), front_none (visits t));
    };
    unread = λ never. none_made ⊥ depth (room depth) f;
  };
}

-- one of an id that has no rows, and is of no nested section
pub number_not_read : {S E : Type 0} (i : Ghosts S E) (depth at : ℕ) (s : S) (old : Sections) (id : ℕ) (body : List ℕ) → id ≢ 1 → id ≢ 4 → ((row : Shape) → table.component_body_of id ≡ Shape.vec row → ⊥) →
    ((t : Tree) → ReadsSection depth (numbered_frame id body) t → ⊥) → FrameClauses i depth (numbered_frame id body) at s old s old (Err (ParseError (record { at = at })))
number_not_read i depth at s old id body no_module no_component no_rows none =
    not_read i depth (numbered_frame id body) none (unnested depth body no_module no_component (room depth)) (no_up_to depth id body no_rows) at s old
    (plain_inside (asks i) i.adds old.ceiling depth (not_nested no_module no_component) s (room depth) s _)

-- one of the id 0 where no name stands, or of an id above 127
pub unknown_not_read : {S E : Type 0} (i : Ghosts S E) (depth at : ℕ) (s : S) (old : Sections) (id : ℕ) (body : List ℕ) → (1 ≤ id → id ≤ 127 → ⊥) →
    FrameClauses i depth (numbered_frame id body) at s old s old (Err (ParseError (record { at = at })))
unknown_not_read i depth at s old id body off =
    number_not_read i depth at s old id body (λ e. off (omega (arith, e)) (omega (arith, e))) (λ e. off (omega (arith, e)) (omega (arith, e))) rows (λ t r. none t (numbered_frame id body) r.framed refl)
  where
    rows : (row : Shape) → table.component_body_of id ≡ Shape.vec row → ⊥
    rows row e = let low : 1 ≤ id = above_custom id e in let high : id < 12 = at_row table.component_bodies id e in off low (omega (arith, high))

    none : (t f : Tree) → InComponentFrame t f → f ≡ numbered_frame id body → ⊥
    none t f (InComponentFrame.of_id id' v body' low high q) e = let number : id' ≡ id = cc in off (omega (arith, number, low)) (omega (arith, number, high))
    none t f (InComponentFrame.of_custom name contents v q) e = cc
    none t f (InComponentFrame.of_unknown id' contents low high) e = let number : id' ≡ id = cc in off (omega (arith, number, low)) (omega (arith, number, high))

-- ---- the start

start_is : (depth : ℕ) (body : List ℕ) (t : Tree) → ReadsSection depth (numbered_frame 9 body) t → (u : Tree) × (t ≡ table.component_section_tree 9 u) × Spells table.component_start body u
start_is depth body t r = in_numbered 9 body t (lit≤ tt) r.framed

module _ {S E : Type 0} (i : Ghosts S E) (depth : ℕ) (deep : depth ≤ 200) (body : List ℕ) (at : ℕ) {s : S} {old : Sections} where
  -- none is there
  pub start_unread : ((t : Tree) → Spells table.component_start body t → ⊥) → FrameClauses i depth (numbered_frame 9 body) at s old s old (Err (ParseError (record { at = at })))
  start_unread none =
      number_not_read i depth at s old 9 body (λ e. omega (arith, e)) (λ e. omega (arith, e)) (λ row e. cc) (λ t r. let u = start_is depth body t r in none u.0 u.2)

  -- it was mapped
  pub start_added : (f : ComponentStartFunction) → Spells table.component_start body (start_tree f) → {m : S} {new : Sections} (r : Result (Unit {0}) (Error E)) →
      AddedClauses i 9 (table.component_section_tree 9 (start_tree f)) s old m new r → FrameClauses i depth (numbered_frame 9 body) at s old m new r
  start_added f p r c = one_added i depth reads one (λ put c s. refl) (drawn_item IsItem.component_start p) (not_nested (λ e. omega (arith, e)) (λ e. omega (arith, e))) at 9 r c.kept c.default c.after_error c.usual
    where
      reads : ReadsSection depth (numbered_frame 9 body) (table.component_section_tree 9 (start_tree f))
      reads = record {
        framed = InComponentFrame.of_id 9 (start_tree f) body (lit≤ tt) (lit≤ tt) p;
        shallow = let none : opens (start_tree f) ≡ 0 = (unscoped_is p.shaped refl).opens in record { most = omega (arith, none, deep) };
      }

      one : (u : Tree) → ReadsSection depth (numbered_frame 9 body) u → u ≡ table.component_section_tree 9 (start_tree f)
      one u q =
          let v = start_is depth body u q in v.1 ∙ ap (table.component_section_tree 9) (one_tree table.component_start refl body v.0 (start_tree f) v.2 p)
