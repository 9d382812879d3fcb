-- Function bodies: the loops over the rows of a code section and over the operators of a body, and what the calls give at their ends.
use Rattle.std.proofs.Common.{arith, ◌≡◌, ◌≢◌, ◌<◌, ◌≤◌, ◌^◌, ◌+◌, ◌-◌, ◌⊎◌, ℕ, List, [], ◌∷◌, length, Result, Ok, Err, IsErrAnd, IsTrue, refl, sym, ap, ◌∙◌, subst, inr}
use Rattle.std.proofs.Math.Seq.{take-append_seam}
use Rattle.wasm_leb.specs.declared.fault.Fault.{Fault}
use Rattle.wasm_shapes.specs.declared.SectionId.TheVariants as id
use Rattle.wasm_shapes.specs.Drawn.{IsItem}
use Rattle.wasm_shapes.specs.Tree.{Tree, normal}
use Rattle.wasm_shapes.specs.Place.{Begins, BeginsNone}
use Rattle.wasm_shapes.specs.Module.{code_row}
use Rattle.wasm_read.specs.Operations.{Reading, rest_of, frame_row}
use Rattle.wasm_read.specs.Reading.{Standing, place_of, ReadsNone, RowRead, RowMissing, RowsEnded}
use Rattle.wasm_write.specs.declared.fault.WriteFault.{WriteFault}
use Rattle.wasm_write.specs.declared.fault.WriteFault.TheVariants as faults
use Rattle.wasm_write.specs.Bodies.{Body, CodeRows, code_tree, function_body, with_row}
use Rattle.wasm_write.specs.Faults.{IfTooLarge}
use Rattle.wasm_shapes.specs.Types.{vector_tree}
use Rattle.reencode_hooks.specs.declared.error.Error.{Error}
use Rattle.reencode_hooks.specs.declared.error.Error.TheVariants.{NoMemory}
use Rattle.reencode_hooks.specs.declared.indices.ReencodeIndices.{Ghosts}
use Rattle.reencode_hooks.specs.Errors.{error_of_fault, error_of_write}
use Rattle.reencode_hooks.specs.Run.{accepted}
use Rattle.reencode_hooks.specs.Walk.{walk}
use Rattle.reencode_items.specs.Maps.{LeavesOperator, ParsesOperator}
use Rattle.reencode_core.specs.Errors.{placed_at}
use Rattle.reencode_core.specs.Rows.{GivesRows, locals}
use Rattle.reencode_core.specs.Bodies.{KeepsCode}
use Rattle.reencode_core.specs.Holds.{AskedRow, HoldsRows}
use Rattle.reencode_core.specs.Leaves.{Leaves, LeavesMade, body_in, rows_in}
use Rattle.reencode_core.specs.Clauses.{CodeSectionClauses, asks}
pub use Rattle.reencode_core.specs.Clauses.{BodyClauses, LocalsClauses}
use Rattle.reencode_core.proofs.bodies.BodyLoop.{OperatorsDone, body_err, body_more, frames_missing, frames_unread, keeps_code}
use Rattle.reencode_core.proofs.after_error.BodyVisited.{body_leaves_locals, body_leaves_next, body_leaves_none, body_leaves_operator, code_leaves_next}
use Rattle.reencode_core.proofs.after_error.VisitsMade.{ended_all, fault_known, placed_wants, tells_if, tree_made, wants_placed, wants_tells_none, write_tells_none, write_unasked}
use Rattle.reencode_core.proofs.after_error.RowsVisited.{rows_held, rows_leave_none}
use Rattle.reencode_core.proofs.rows_walked.OneRow.{answers}
use Rattle.reencode_core.proofs.rows_walked.RowLoop.{RowsDone, kept_on, rows_all, rows_begin}
use Rattle.reencode_core.proofs.bodies.WholeBody.{body_given, body_locals_refused, body_not_added, body_wants, operator_err, operators_never}

-- ---- a code section

-- the bodies so far are walked and added
pub record CodeKept {S E : Type 0} (i : Ghosts S E) (start : Standing) (s0 : S) (old : CodeRows) (reader : Standing) (s : S) (new : CodeRows) : Type 0 where
  pub kept : KeepsCode old new
  pub default : IsTrue i.keeps_defaults → RowsDone (asks i) old.ceiling code_row start s0 old.rows reader s new.rows

-- the clauses of the call that maps a code section
abbrev pub CodeClauses : {S E : Type 0} → Ghosts S E → Standing → S → CodeRows → S → CodeRows → Result (Unit {0}) (Error E) → Type 0
CodeClauses i start s old m new result =
    record {
      kept : KeepsCode old new;
      default : IsTrue i.keeps_defaults → GivesRows (asks i) old.ceiling code_row start (s, old.rows) (m, new.rows) result;
      after_error : IsTrue i.keeps_defaults → LeavesMade i.sure (asks i) (rows_in code_row start) s m result;
    }

pub code_clauses : {S E : Type 0} (i : Ghosts S E) {start : Standing} {s m : S} {old new : CodeRows} {result : Result (Unit {0}) (Error E)} →
    CodeSectionClauses i start s old m new result → CodeClauses i start s old m new result
code_clauses i given = record { kept = given.kept; default = given.default; after_error = given.after_error }

module _ {S E : Type 0} (i : Ghosts S E) {start : Standing} {s0 : S} {old : CodeRows} where
  pub code_begun : CodeKept i start s0 old start s0 old
  code_begun = record { kept = keeps_code old; default = λ k. rows_begin (asks i) old.ceiling code_row start s0 old.rows }

  module _ {reader : Standing} {s : S} {new : CodeRows} (inv : CodeKept i start s0 old reader s new) where
    pub code_ended : {reader' : Standing} → RowsEnded reader reader' → CodeClauses i start s0 old s new (Ok tt)
    code_ended ended = record { kept = inv.kept; default = λ k. rows_all (asks i) (inv.default k) ended; after_error = λ k. tt }

    -- no frame is there
    pub code_stuck : (f : Fault) → ReadsNone f (place_of reader) (RowMissing frame_row reader) → (r : Result (Unit {0}) (Error E)) → IsErrAnd r (λ y. y ≡ error_of_fault f) →
        CodeClauses i start s0 old s new r
    code_stuck f missing r q =
        let P : Result (Unit {0}) (Error E) → Type 0 = λ z. CodeClauses i start s0 old s new z in
        subst P (answers r q) (record {
          kept = inv.kept;
          default = λ k. frames_unread (asks i) f (inv.default k) missing;
          after_error = λ k told. rows_leave_none (inv.default k) (IsItem.row id.Code) refl refl f (frames_missing f reader missing);
        })

    module _ {reader' : Standing} {bytes : List ℕ} (read : RowRead frame_row reader (Tree.sized (Tree.raw bytes)) reader') where
      grown : {new' : CodeRows} → KeepsCode new new' → KeepsCode old new'
      grown {new' = new'} kept = record { ceiling = kept.ceiling ∙ inv.kept.ceiling; rows = kept_on old.rows new.rows new'.rows inv.kept.rows kept.rows }

      pub code_more : {m : S} {new' : CodeRows} → BodyClauses i bytes s new m new' (Ok tt) → CodeKept i start s0 old reader' m new'
      code_more given = record { kept = grown given.kept; default = λ k. body_more i.reply i.next inv.kept.ceiling (inv.default k) read (given.default k) }

      -- a body is refused, or it is none
      pub code_refused : {m : S} {new' : CodeRows} (e : Error E) (at : ℕ) → BodyClauses i bytes s new m new' (Err e) → at ≡ place_of reader → (r : Error E) → r ≡ placed_at e at → CodeClauses i start s0 old m new' (Err r)
      code_refused {m = m} {new' = new'} e at given place r q =
          let P : Error E → Type 0 = λ z. CodeClauses i start s0 old m new' (Err z) in
          subst P (sym q) (record {
            kept = grown given.kept;
            default = λ k. body_err i.reply i.next inv.kept.ceiling (inv.default k) read e at (given.default k) place;
            after_error = λ k told. code_leaves_next (inv.default k) read e at (λ t p. tells_if e (λ at h. h.0 t p) (given.default k).unreadable) (given.after_error k (λ h. told (wants_placed e at h)));
          })

-- the same with what the section holds

module _ {S E : Type 0} (i : Ghosts S E) {start : Standing} {s0 : S} {old : CodeRows} where
  both : {m : S} {new : CodeRows} {r : Result (Unit {0}) (Error E)} → CodeClauses i start s0 old m new r →
      (IsTrue i.keeps_defaults → IsTrue i.sure → HoldsRows (asks i) old.ceiling code_row start (s0, old.rows) (m, new.rows) r) → CodeSectionClauses i start s0 old m new r
  both given wants = record { kept = given.kept; default = given.default; after_error = given.after_error; wants = wants }

  module _ {reader : Standing} {s : S} {new : CodeRows} (inv : CodeKept i start s0 old reader s new) where
    pub code_section_ended : {reader' : Standing} → RowsEnded reader reader' → CodeSectionClauses i start s0 old s new (Ok tt)
    code_section_ended ended = both (code_ended i inv ended) (λ k sure. tt)

    pub code_section_stuck : (f : Fault) → ReadsNone f (place_of reader) (RowMissing frame_row reader) → (r : Result (Unit {0}) (Error E)) → IsErrAnd r (λ y. y ≡ error_of_fault f) →
        CodeSectionClauses i start s0 old s new r
    code_section_stuck f missing r q =
        let P : Result (Unit {0}) (Error E) → Type 0 = λ z. HoldsRows (asks i) old.ceiling code_row start (s0, old.rows) (s, new.rows) z in
        both (code_stuck i inv f missing r q) (λ k sure. subst P (answers r q) (λ h. rows_held (inv.default k) refl (AskedRow.nothing refl)))

    pub code_section_refused : {reader' : Standing} {bytes : List ℕ} → RowRead frame_row reader (Tree.sized (Tree.raw bytes)) reader' → {m : S} {new' : CodeRows} (e : Error E) (at : ℕ) →
        BodyClauses i bytes s new m new' (Err e) → at ≡ place_of reader → (r : Error E) → r ≡ placed_at e at → CodeSectionClauses i start s0 old m new' (Err r)
    code_section_refused {reader' = reader'} {bytes = bytes} read {m = m} {new' = new'} e at given place r q =
        both (code_refused i inv read e at given place r q)
        (λ k sure h.
        let P : Error E → Type 0 = λ z. Leaves (asks i) (body_in bytes) s z m in
        let less = read.counted in
        let wants : e ≡ NoMemory = placed_wants e at (sym q ∙ h) in
        rows_held (inv.default k) (ap CodeRows.rows (given.default k).unchanged)
        (AskedRow.framed bytes reader'.rest (omega arith) refl read.begins (subst P wants (given.after_error k (λ h. sure)))))

-- ---- a body

-- the operators so far are mapped
pub record OperatorsKept {S E : Type 0} (i : Ghosts S E) (start : Reading) (s0 : S) (f0 : Body) (reader : Reading) (s : S) (f : Body) : Type 0 where
  pub bytes : reader.bytes ≡ start.bytes
  pub same_locals : f.locals ≡ f0.locals
  pub default : IsTrue i.keeps_defaults → (c : ℕ) → OperatorsDone (asks i) c (rest_of start) s0 (rest_of reader) s f.operators

module _ {S E : Type 0} (i : Ghosts S E) {bytes : List ℕ} {s0 : S} (old : CodeRows) where
  -- the locals are refused
  pub body_unbegun : {m : S} (e : Error E) → LocalsClauses i bytes s0 m (Err e) → (r : Result (Unit {0}) (Error E)) → IsErrAnd r (λ y. y ≡ e) → BodyClauses i bytes s0 old m old r
  body_unbegun {m = m} e given r q =
      let P : Result (Unit {0}) (Error E) → Type 0 = λ z. BodyClauses i bytes s0 old m old z in
      subst P (answers r q) (record {
        kept = keeps_code old;
        default = λ k. body_locals_refused (asks i) bytes s0 m old e (given.default k);
        after_error = λ k told. body_leaves_locals e (λ h. (fault_known e (given.default k).unreadable h).1.1) (given.after_error k told);
      })

  module _ {m : S} {f0 : Body} (made : LocalsClauses i bytes s0 m (Ok f0)) where
    -- where locals were read, the operators are found
    pub body_found : (f : Fault) → ReadsNone f 0 (BeginsNone locals bytes) → (r : Result (Unit {0}) (Error E)) → BodyClauses i bytes s0 old m old r
    body_found f none r = record {
      kept = keeps_code old;
      default = λ k. absurd (operators_never (asks i) bytes s0 m f0 f (made.default k) none);
      after_error = λ k. absurd (operators_never (asks i) bytes s0 m f0 f (made.default k) none);
    }

    module _ {start : Reading} {l : Tree} (begins : Begins locals bytes l (rest_of start)) (is_bytes : start.bytes ≡ bytes) {reader : Reading} {s : S} {f : Body}
        (inv : OperatorsKept i start m f0 reader s f) where
      -- the walk of the locals
      walked : IsTrue i.keeps_defaults → walk (asks i) 0 s0 l ≡ accepted (vector_tree f0.locals) m
      walked k = (made.default k).reading 0 l (rest_of start) begins

      -- the next operator is refused, or none is there
      pub operator_refused : {B : Type 0} (view : B → Tree) (behind : Reading) {n : S} (e : Error E) → rest_of reader ≢ [] →
          (IsTrue i.keeps_defaults → ParsesOperator i.reply i.next s reader view n behind (Err e)) →
          (IsTrue i.keeps_defaults → IsTrue i.sure → LeavesOperator {B = B} (asks i) s reader n (Err e)) →
          (r : Result (Unit {0}) (Error E)) → IsErrAnd r (λ y. y ≡ e) → BodyClauses i bytes s0 old n old r
      operator_refused {B = B} view behind {n = n} e some parses leaves r q =
          let P : Result (Unit {0}) (Error E) → Type 0 = λ z. BodyClauses i bytes s0 old n old z in
          subst P (answers r q) (record {
            kept = keeps_code old;
            default = λ k. operator_err i.reply i.next s0 m s f0 f.operators old begins (made.default k) (inv.default k) B view reader behind n e refl (inv.bytes ∙ is_bytes) some (parses k);
            after_error = λ k told. body_leaves_operator i.reply i.next begins (walked k) (inv.default k 0) view reader behind e refl (parses k) (λ h. leaves k (told h));
          })

      module _ {B : Type 0} (view : B → Tree) (b : B) {behind : Reading} {n : S} (parses : IsTrue i.keeps_defaults → ParsesOperator i.reply i.next s reader view n behind (Ok b)) where
        -- there is no memory for it
        pub operator_not_added : (w : WriteFault) → w ≡ faults.NoMemory → (r : Result (Unit {0}) (Error E)) → IsErrAnd r (λ y. y ≡ error_of_write w) → BodyClauses i bytes s0 old n old r
        operator_not_added w wants r q =
            let P : Result (Unit {0}) (Error E) → Type 0 = λ z. BodyClauses i bytes s0 old n old z in
            let Q : WriteFault → Type 0 = λ z. BodyClauses i bytes s0 old n old (Err (error_of_write z)) in
            subst P (answers r q) (subst Q (sym wants) (record {
              kept = keeps_code old;
              default = λ k. body_wants (asks i) bytes s0 n old;
              after_error = λ k told. let p = parses k in body_leaves_next begins (walked k) (inv.default k 0) NoMemory p.begins (tree_made (asks i) 0 NoMemory p.operator tt (p.maps 0)) (wants_tells_none E);
            }))

      module _ (ended : rest_of reader ≡ []) where
        -- the body was added
        pub body_added : {new : CodeRows} → new ≡ with_row old (code_tree f) → length (normal (function_body f)) ≤ old.ceiling → BodyClauses i bytes s0 old s new (Ok tt)
        body_added {new = new} added fits = record {
          kept = let P : CodeRows → Type 0 = λ z. KeepsCode old z in subst P (sym added) (record { ceiling = refl; rows = take-append_seam old.rows (code_tree f ∷ []) });
          default = λ k. body_given i.reply i.next s0 m s f0 f.operators old begins (made.default k) (inv.default k) new f ended inv.same_locals refl added fits;
          after_error = λ k. tt;
        }

        -- it was not added
        pub body_refused : {new : CodeRows} (w : WriteFault) → new ≡ old →
            IfTooLarge w (λ size. ((size ≡ length (normal (function_body f))) × (old.ceiling < size)) ⊎ ((size ≡ length old.rows + 1) × (2 ^ 32 - 1 < size) × (length (normal (function_body f)) ≤ old.ceiling))) →
            (r : Result (Unit {0}) (Error E)) → IsErrAnd r (λ y. y ≡ error_of_write w) → BodyClauses i bytes s0 old s new r
        body_refused {new = new} w unchanged large r q =
            let P : Result (Unit {0}) (Error E) → Type 0 = λ z. BodyClauses i bytes s0 old s new z in
            let Q : CodeRows → Type 0 = λ z. BodyClauses i bytes s0 old s z (Err (error_of_write w)) in
            subst P (answers r q) (subst Q (sym unchanged) (record {
              kept = keeps_code old;
              default = λ k. body_not_added i.reply i.next s0 m s f0 f.operators old begins (made.default k) (inv.default k) f w ended inv.same_locals refl large;
              after_error = λ k told. body_leaves_none begins (walked k) (inv.default k 0) (error_of_write w) (ended_all {a = []} (error_of_write w) (write_unasked E w) refl) (inr (write_tells_none E w));
            }))
