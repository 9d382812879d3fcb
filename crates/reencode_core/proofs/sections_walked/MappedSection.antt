-- A section whose rows were mapped, as it is added to a module.
use Rattle.std.proofs.Common.{◌≡◌, ◌≢◌, ℕ, List, [], ◌∷◌, None, Result, Ok, Err, IsErrAnd, IsTrue, refl, sym, ap, ◌∙◌, subst, inl, inr}
use Rattle.wasm_leb.specs.declared.fault.Fault.{Fault}
use Rattle.wasm_leb.specs.declared.fault.Fault.TheVariants as fault
use Rattle.wasm_leb.specs.declared.fault.ReadError.{ReadError}
use Rattle.wasm_leb.specs.Leb.{IsUnsigned}
use Rattle.wasm_leb.specs.Place.{BeginsNoNumber}
use Rattle.wasm_shapes.specs.declared.SectionId.{SectionId}
use Rattle.wasm_shapes.specs.declared.SectionId.TheVariants as id
use Rattle.wasm_shapes.specs.declared.Space.{Space}
use Rattle.wasm_shapes.specs.declared.Visit.TheVariants.{Index}
use Rattle.wasm_shapes.specs.Tree.{Tree, normal}
use Rattle.wasm_shapes.specs.Shape.{Shape}
use Rattle.wasm_shapes.specs.Module.{body_of, row_of}
use Rattle.wasm_shapes.specs.SectionTable.{number}
use Rattle.wasm_read.specs.Reading.{Standing, CountRead, ReadsNone}
use Rattle.wasm_write.specs.Bodies.{CodeRows}
use Rattle.wasm_shapes.specs.Types.{vector_tree}
use Rattle.wasm_write.specs.Sections.{Sections, section_row}
use Rattle.reencode_hooks.specs.declared.error.Error.{Error}
use Rattle.reencode_hooks.specs.declared.error.Error.TheVariants.{NoMemory, ParseError}
use Rattle.reencode_hooks.specs.declared.indices.ReencodeIndices.{Ghosts}
use Rattle.reencode_hooks.specs.Errors.{error_of_fault, error_of_write}
use Rattle.reencode_hooks.specs.Hooks.{Replies}
use Rattle.reencode_hooks.specs.Run.{NeverWants, refused}
use Rattle.reencode_hooks.specs.Walk.{walk}
use Rattle.reencode_core.specs.declared.sections.Body.{Body}
use Rattle.reencode_core.specs.Errors.{IfParse}
use Rattle.reencode_core.specs.Rows.{GivesRows}
use Rattle.reencode_core.specs.Sections.{AddsMapped, GivesSection, HasBody, HasItem, HasRows, KeepsModule, NoBody, NoItem}
use Rattle.reencode_core.specs.Leaves.{LeavesMade, rows_in, section_in}
use Rattle.reencode_core.specs.Clauses.{RowsClauses, SectionClauses, asks}
use Rattle.reencode_core.proofs.bodies.EachBody.{CodeClauses}
use Rattle.reencode_core.proofs.sections_walked.KnownKind.{keeps_same}
use Rattle.reencode_core.proofs.after_error.VisitsMade.{fault_unasked, not_wanting, refused_made, write_unasked}
use Rattle.reencode_core.proofs.after_error.SectionVisited.{section_leaves, section_leaves_all, section_leaves_part, section_untouched}
use Rattle.reencode_core.proofs.rows_walked.OneRow.{MapsIf, answers, index_maps}
use Rattle.reencode_core.proofs.sections_walked.OneSection.{BodyMade, gives_none, item_made, item_missing, item_read, item_stops, rows_made, rows_stop, section_given, section_not_given, section_uncounted}
use Rattle.reencode_core.proofs.rows_walked.RowLoop.{at_ceiling}
use Rattle.reencode_core.proofs.faults.WalkRefusals.{stops_usual, usual_walk}

-- the clauses of the call that maps a section's one item
abbrev pub ItemClauses : {S E : Type 0} → Ghosts S E → Space → S → ℕ → S → Result ℕ (Error E) → Type 0
ItemClauses i space s n m result =
    record {
      default : MapsIf i s (Tree.ix space n) (Tree.ix space) m result;
      sure : IsTrue i.keeps_defaults → NeverWants i.sure result;
    }

-- the clauses of a hook are such
pub hook_item : {S E : Type 0} (i : Ghosts S E) (space : Space) (s m : S) (n : ℕ) (r : Result ℕ (Error E)) →
    record { answer : Replies i.reply i.next s m (Index space n) r; sure : NeverWants i.sure r } → ItemClauses i space s n m r
hook_item i space s m n r hook = record { default = index_maps i s m space n r hook.answer; sure = λ keeps. hook.sure }

-- a body that is known
pub held : (kind : SectionId) (bytes : List ℕ) {b k : Body} → HasBody kind bytes b → b ≡ k → HasBody kind bytes k
held kind bytes h is = let P : Body → Type 0 = λ z. HasBody kind bytes z in subst P is h

pub keeps_none : {old new : Sections} → new ≡ old → KeepsModule old new
keeps_none {old = old} e = let P : Sections → Type 0 = λ z. KeepsModule old z in subst P (sym e) (keeps_same old)

-- a count begins there
uncounted_never : (f : Fault) {body : List ℕ} {reader : Standing} → ReadsNone f 0 (BeginsNoNumber 128 32 32 body) → CountRead body reader → ⊥
uncounted_never (fault.Read x) {reader = reader} h there = h.1 there.counted.0 reader.rest reader.left there.counted.1 there.counted.2
uncounted_never fault.NoMemory h there = h
uncounted_never fault.CodeSize h there = h
uncounted_never (fault.Header k) h there = h

module _ {S E : Type 0} (i : Ghosts S E) {kind : SectionId} {body : List ℕ} {s : S} {old : Sections} where
  -- a kind that is not in force
  pub section_unknown : body_of kind ≡ Shape.none → SectionClauses i kind body s old s old (Err (ParseError (record { at = 0 })))
  section_unknown none = record { kept = keeps_same old; default = λ k. gives_none (asks i) kind s body old none; after_error = λ k told. section_untouched (asks i) kind (ParseError (record { at = 0 })) tt refl (λ reader known there. let apart : Shape.none ≡ Shape.vec (row_of kind) = sym none ∙ known in cc) }

  module _ {k : SectionId} (same : kind ≡ k) where
    -- of a kind that is known
    of_kind : {m : S} {new : Sections} {r : Result (Unit {0}) (Error E)} → SectionClauses i k body s old m new r → SectionClauses i kind body s old m new r
    of_kind {m = m} {new = new} {r = r} clauses = let P : SectionId → Type 0 = λ z. SectionClauses i z body s old m new r in subst P (sym same) clauses

    -- an error, with which nothing was added
    stopped : {m : S} {new : Sections} (e : Error E) → new ≡ old → (IsTrue i.keeps_defaults → GivesSection (asks i) k body (s, old) (m, old) (Err e)) →
        (IsTrue i.keeps_defaults → LeavesMade {A = Unit {0}} i.sure (asks i) (section_in k body) s m (Err e)) → (r : Result (Unit {0}) (Error E)) → Err e ≡ r → SectionClauses i kind body s old m new r
    stopped {m = m} {new = new} e unchanged gives leaves r answer =
        let P : Result (Unit {0}) (Error E) → Type 0 = λ z. SectionClauses i kind body s old m new z in
        let Q : Sections → Type 0 = λ z. GivesSection (asks i) k body (s, old) (m, z) (Err e) in
        subst P answer (of_kind (record { kept = keeps_none unchanged; default = λ keeps. subst Q (sym unchanged) (gives keeps); after_error = leaves }))

    -- the body was accepted: the section is added, or it is too large
    section_added : {made : Tree} {m : S} {new : Sections} (r : Result (Unit {0}) (Error E)) → (IsTrue i.keeps_defaults → BodyMade (asks i) k body old.ceiling s m made) →
        AddsMapped {E = E} (section_row (number k) (normal made)) old (Ok tt) new r → SectionClauses i kind body s old m new r
    section_added {made = made} {m = m} {new = new} (Ok v) accepted adds = of_kind (record {
      kept = (section_row (number k) (normal made) ∷ [], adds.0);
      default = λ keeps. section_given (asks i) k s m body made old (accepted keeps) new adds.0 adds.1;
      after_error = λ keeps. tt;
    })
    section_added {made = made} {m = m} (Err e) accepted adds =
        stopped (error_of_write adds.1) adds.0 (λ keeps. section_not_given (asks i) k s m body made old (accepted keeps) adds.1 adds.3)
        (λ keeps told. section_leaves_all (asks i) k (error_of_write adds.1) (write_unasked E adds.1) (accepted keeps)) (Err e) (ap (λ (x : Error E). Err x) (sym adds.2))

    -- ---- rows

    module _ (known : HasRows k) where
      -- the count of the rows is missing
      pub section_unread : (f : Fault) → ReadsNone f 0 (BeginsNoNumber 128 32 32 body) → (r : Result (Unit {0}) (Error E)) → IsErrAnd r (λ y. y ≡ error_of_fault f) →
          SectionClauses i kind body s old s old r
      section_unread f none r q =
          stopped (error_of_fault f) refl (λ keeps. section_uncounted (asks i) k known s body old f none) (λ keeps told. section_untouched (asks i) k (error_of_fault f) (fault_unasked E f) refl (λ reader known' there. uncounted_never f none there)) r (answers r q)

      section_mapped : {reader : Standing} {start made : List Tree} {m : S} {new : Sections} (mapped r : Result (Unit {0}) (Error E)) → start ≡ [] → CountRead body reader →
          (IsTrue i.keeps_defaults → GivesRows (asks i) old.ceiling (row_of k) reader (s, start) (m, made) mapped) →
          (IsTrue i.keeps_defaults → LeavesMade i.sure (asks i) (rows_in (row_of k) reader) s m mapped) →
          AddsMapped (section_row (number k) (normal (vector_tree made))) old mapped new r → SectionClauses i kind body s old m new r
      section_mapped {reader = reader} {start = start} {made = made} {m = m} (Err e) r empty there gives leaves adds =
          stopped e adds.1 (λ keeps. rows_stop (asks i) k known s m body reader start made old e empty there (gives keeps))
          (λ keeps told. section_leaves (asks i) k known e there (leaves keeps told)) r (sym adds.0)
      section_mapped (Ok u) r empty there gives leaves adds = section_added r (λ keeps. rows_made (asks i) k known empty there (gives keeps)) adds

      -- its rows were mapped, or refused
      pub section_done : {reader : Standing} {start made : List Tree} {m : S} {new : Sections} (mapped r : Result (Unit {0}) (Error E)) → start ≡ [] → CountRead body reader →
          RowsClauses i (row_of k) reader s start m made mapped → AddsMapped (section_row (number k) (normal (vector_tree made))) old mapped new r → SectionClauses i kind body s old m new r
      section_done mapped r empty there rows adds = section_mapped mapped r empty there (λ keeps. rows.default keeps old.ceiling) rows.after_error adds

    -- ---- one item

    module _ {space : Space} (one : HasItem k space) where
      -- it is missing, or bytes are left behind it
      pub item_unread : (e : ReadError) → NoItem body e.at → (r : Result (Unit {0}) (Error E)) → IsErrAnd r (λ y. y ≡ ParseError e) → SectionClauses i kind body s old s old r
      item_unread e none r q = stopped (ParseError e) refl (λ keeps. item_missing (asks i) k one s body old e none)
          (λ keeps told. section_untouched (asks i) k (ParseError e) tt refl (λ reader known there. let apart : Shape.ix space ≡ Shape.vec (row_of k) = sym one ∙ known in cc)) r (answers r q)

      module _ {n : ℕ} {m : S} (filled : IsUnsigned 32 body n) where
        -- it is refused
        pub item_refused : (e : Error E) → ItemClauses i space s n m (Err e) → (r : Result (Unit {0}) (Error E)) → IsErrAnd r (λ y. y ≡ e) → SectionClauses i kind body s old m old r
        item_refused e asked r q =
            let maps = λ (keeps : IsTrue i.keeps_defaults). asked.default keeps old.ceiling in
            stopped e refl (λ keeps. item_stops (asks i) k one s m body n old e filled (maps keeps) (usual (maps keeps)))
            (λ keeps told. section_leaves_part (asks i) k e (item_read (asks i) k one filled) (refused_made i.reply i.next 0 (Tree.ix space n) e (asked.default keeps 0 (not_wanting e (asked.sure keeps) told)))) r (answers r q)
          where
            usual : (e ≢ NoMemory → walk (asks i) old.ceiling s (Tree.ix space n) ≡ refused e m) → IfParse e (λ at. ⊥)
            usual stops = stops_usual (λ at. ⊥) _ e m (usual_walk i.reply i.next old.ceiling None s (Tree.ix space n) body filled) stops

        -- it was answered, and the section is added
        pub item_done : {j : ℕ} {new : Sections} (r : Result (Unit {0}) (Error E)) → ItemClauses i space s n m (Ok j) →
            AddsMapped {E = E} (section_row (number k) (normal (Tree.ix space j))) old (Ok tt) new r → SectionClauses i kind body s old m new r
        item_done r asked adds = section_added r (λ keeps. item_made (asks i) k one filled (asked.default keeps old.ceiling)) adds

  -- no body of the kind was read
  pub body_missing : (e : Error E) → NoBody kind body e → (r : Result (Unit {0}) (Error E)) → IsErrAnd r (λ y. y ≡ e) → SectionClauses i kind body s old s old r
  body_missing e none r q = by none
    where
      is : {x : Error E} → e ≡ x → IsErrAnd r (λ y. y ≡ x)
      is same = let P : Error E → Type 0 = λ z. IsErrAnd r (λ y. y ≡ z) in subst P same q

      by : NoBody kind body e → SectionClauses i kind body s old s old r
      by (inl h) =
          let P : Result (Unit {0}) (Error E) → Type 0 = λ z. SectionClauses i kind body s old s old z in
          subst P (answers r (is h.1)) (section_unknown h.0)
      by (inr (inl h)) = section_unread refl h.0 h.1 h.2 r (is h.3)
      by (inr (inr h)) = item_unread refl h.1 h.2 h.3 r (is h.4)

  -- the same of its bodies
  pub code_done : {c : ℕ} {reader : Standing} {start made : CodeRows} {m : S} {new : Sections} (mapped r : Result (Unit {0}) (Error E)) → kind ≡ id.Code →
      start ≡ record { ceiling = c; rows = [] } → c ≡ old.ceiling → CountRead body reader → CodeClauses i reader s start m made mapped →
      AddsMapped (section_row 10 (normal (vector_tree made.rows))) old mapped new r → SectionClauses i kind body s old m new r
  code_done mapped r same fresh ceiling there rows adds =
      section_mapped same refl mapped r (ap CodeRows.rows fresh) there
      (λ keeps. at_ceiling _ _ (ap CodeRows.ceiling fresh ∙ ceiling) (rows.default keeps)) rows.after_error adds
