-- A body whose locals and first operators stay as they stand.
use Rattle.std.proofs.Common.{◌≡◌, ◌≤◌, ◌<◌, ◌^◌, ◌+◌, ◌-◌, ◌⊎◌, ℕ, Bool, List, [], length, length-append, Result, Ok, Err, IsErrAnd, IsTrue, refl, sym, ap, ◌∙◌, drop, subst, arith, rules}
use Rattle.std.proofs.Math.ListN.{drop_of_length-le}
use Rattle.std.proofs.Math.Seq.{take-length}
use Rattle.wasm_leb.specs.declared.fault.Fault.{Fault}
use Rattle.wasm_leb.specs.declared.fault.Fault.TheVariants as fault
use Rattle.wasm_shapes.specs.Place.{Begins, BeginsNone}
use Rattle.wasm_shapes.specs.Tree.{Tree, normal}
use Rattle.wasm_shapes.specs.Types.{vector_tree}
use Rattle.wasm_read.specs.Operations.{Reading, rest_of}
use Rattle.wasm_read.specs.Reading.{ReadsNone}
use Rattle.wasm_write.specs.Bodies.{Body, CodeRows, GainsBody, HeldBody, IsBody, function_body}
use Rattle.wasm_write.specs.Faults.{IfTooLarge}
use Rattle.wasm_write.specs.declared.fault.WriteFault.{WriteFault}
use Rattle.wasm_write.specs.declared.fault.WriteFault.TheVariants as faults
use Rattle.reencode_hooks.specs.declared.error.Error.{Error}
use Rattle.reencode_hooks.specs.declared.indices.ReencodeIndices.{Ghosts}
use Rattle.reencode_hooks.specs.Errors.{error_of_fault, error_of_write}
use Rattle.reencode_hooks.specs.Run.{NeverWants}
use Rattle.reencode_core.specs.Rows.{locals}
use Rattle.reencode_items.specs.declared.direct.passing.Next.{Next}
use Rattle.reencode_items.specs.declared.direct.passing.Next.TheVariants as next
use Rattle.reencode_items.specs.Direct.{IsWithin, PassesRun, Run, SkipsLocals, StopsRun}
use Rattle.reencode_core.specs.Clauses.{BodyMapped, BodyStays, LocalsClauses, RefusesBody}
use Rattle.reencode_core.specs.Direct.{MapsFront}
use Rattle.reencode_core.proofs.bodies.BodyLoop.{keeps_code, same_locals}
use Rattle.reencode_core.proofs.bodies.EachBody.{BodyClauses, body_added, body_refused}
use Rattle.reencode_core.proofs.bodies.BodyFromPlace.{begins_of, behind_skipped, front_at, front_passed, front_skipped, here_of, made_of, passed_body, passed_held, skipped_begins, skipped_rest, with_skipped}
use Rattle.reencode_core.proofs.rows_walked.OneRow.{answers, asks}
use Rattle.reencode_core.proofs.bodies.OperatorRuns.{run_not_added, run_refused}
use Rattle.reencode_core.proofs.bodies.WholeBody.{operators_never}
use Rattle.reencode_core.proofs.after_error.BodyVisited.{locals_leave_none}
use Rattle.reencode_core.proofs.after_error.VisitsMade.{ended_all, fault_unasked}

module _ {S E : Type 0} (i : Ghosts S E) {bytes operators : List ℕ} {s0 : S} (old : CodeRows) (q : SkipsLocals bytes operators) where
  abbrev first : MapsFront (asks i) bytes s0 (behind_skipped bytes q) (with_skipped q) s0 next.Other
  first = front_skipped (asks i) s0 q

  -- an operator is refused behind the run
  pub skip_refused : {n : S} (e : Error E) → StopsRun (asks i) s0 operators e n → NeverWants {A = ℕ} i.sure (Err e) → (r : Result (Unit {0}) (Error E)) → IsErrAnd r (λ y. y ≡ e) → BodyClauses i bytes s0 old n old r
  skip_refused {n = n} e stop sure r is =
      let P : List ℕ → Type 0 = λ z. StopsRun (asks i) s0 z e n in
      run_refused i old (made_of i first) (begins_of i first) (here_of i first) e (subst P (sym (skipped_rest q)) stop) sure r is

  -- there is no memory for a function
  pub skip_wants : {n : S} (run : Run) → PassesRun (asks i) s0 operators n run → (w : WriteFault) → w ≡ faults.NoMemory → (r : Result (Unit {0}) (Error E)) → IsErrAnd r (λ y. y ≡ error_of_write w) →
      BodyClauses i bytes s0 old n old r
  skip_wants {n = n} run p w wants r is =
      let P : List ℕ → Type 0 = λ z. PassesRun (asks i) s0 z n run in
      run_not_added i old (made_of i first) (begins_of i first) (here_of i first) run (subst P (sym (skipped_rest q)) p) w wants r is

  -- locals are there
  pub skip_found : {n : S} (f : Fault) → ReadsNone f 0 (BeginsNone locals bytes) → (r : Result (Unit {0}) (Error E)) → BodyClauses i bytes s0 old n old r
  skip_found f none r =
      let never = λ (k : IsTrue i.keeps_defaults). operators_never (asks i) bytes s0 first.behind_locals _ f ((made_of i first).default k) none in
      record { kept = keeps_code old; default = λ k. absurd (never k); after_error = λ k. absurd (never k) }

-- where the operators stand
pub operators_at : {bytes operators rest : List ℕ} {l : Tree} (q : SkipsLocals bytes operators) → Begins locals bytes l rest → rest ≡ operators
operators_at q there = (same_locals there (skipped_begins q)).1

-- how many bytes were passed by
pub passed_counted : {bytes operators : List ℕ} (q : SkipsLocals bytes operators) (count : ℕ) → length bytes - length operators + count + length operators ≡ length bytes + count
passed_counted {operators = operators} q count = omega (arith, ap length q.begins.reads, length-append (normal (vector_tree q.rows)) operators)

-- a run has no more bytes than there are
pub within_most : (count len : ℕ) (y : Next) → IsWithin count y len → count ≤ len
within_most count len next.Other w = w
within_most count len (next.Made op i k) w = omega (arith, w.0)

-- nothing is behind a run of all bytes
other_next : (count len : ℕ) (y : Next) → IsWithin count y len → count ≡ len → y ≡ next.Other
other_next count len next.Other w e = refl
other_next count len (next.Made op i k) w e = absurd (omega (arith, w.0, w.1))

-- an error of a body that is mapped
pub mapped_err : {S E : Type 0} (i : Ghosts S E) {bytes : List ℕ} {s m : S} {old new : CodeRows} {e : Error E} → BodyClauses i bytes s old m new (Err e) → (r : Result Bool (Error E)) → IsErrAnd r (λ y. y ≡ e) →
    BodyMapped i bytes s old m new r
mapped_err {E = E} i {bytes = bytes} {s = s} {m = m} {old = old} {new = new} given r is =
    let P : Result Bool (Error E) → Type 0 = λ z. BodyMapped i bytes s old m new z in
    subst P (answers r is) given

module _ {S E : Type 0} (i : Ghosts S E) {bytes operators : List ℕ} {s0 n : S} (old : CodeRows) {count : ℕ} {y : Next} (q : SkipsLocals bytes operators)
    (p : PassesRun (asks i) s0 operators n (record { kept = count; next = y })) (all : count ≡ length operators) where
  abbrev body_whole : Body
  body_whole = passed_body i q p

  pub whole_is : IsBody bytes body_whole
  whole_is = let P : List ℕ → Type 0 = λ z. IsBody z body_whole in subst P (take-length bytes) (passed_held i q p (length bytes) (omega arith))

  pub whole_held : HeldBody bytes
  whole_held = (body_whole, ∣ whole_is ∣₁)

  abbrev at_end : Reading
  at_end = record { bytes = bytes; at = length bytes }

  ended : rest_of at_end ≡ []
  ended = drop_of_length-le bytes (omega arith)

  whole_front : IsWithin count y (length operators) → MapsFront (asks i) bytes s0 at_end body_whole n next.Other
  whole_front within =
      let none : drop count operators ≡ [] = drop_of_length-le operators (omega arith) in
      front_at y next.Other (other_next count (length operators) y within all) (front_passed i q p at_end refl (ended ∙ sym none))

  long : length (normal (function_body body_whole)) ≡ length bytes
  long = ap length whole_is.normally

  -- the body was added
  pub whole_added : {new : CodeRows} → IsWithin count y (length operators) → GainsBody old bytes new → length bytes ≤ old.ceiling → BodyClauses i bytes s0 old n new (Ok tt)
  whole_added within gains fits =
      let a = whole_front within in
      body_added i old (made_of i a) (begins_of i a) refl (here_of i a) ended (gains body_whole whole_is) (rw long fits)

  -- it was not added
  pub whole_refused : {new : CodeRows} (w : WriteFault) → IsWithin count y (length operators) → new ≡ old →
      IfTooLarge w (λ size. ((size ≡ length bytes) × (old.ceiling < size)) ⊎ ((size ≡ length old.rows + 1) × (2 ^ 32 - 1 < size) × (length bytes ≤ old.ceiling))) →
      (r : Result (Unit {0}) (Error E)) → IsErrAnd r (λ z. z ≡ error_of_write w) → BodyClauses i bytes s0 old n new r
  whole_refused w within unchanged large r is =
      let a = whole_front within in
      let P : ℕ → Type 0 = λ z. IfTooLarge w (λ size. ((size ≡ z) × (old.ceiling < size)) ⊎ ((size ≡ length old.rows + 1) × (2 ^ 32 - 1 < size) × (z ≤ old.ceiling))) in
      body_refused i old (made_of i a) (begins_of i a) refl (here_of i a) ended w unchanged (subst P (sym long) large) r is

-- the body stays
pub whole_stays : {S E : Type 0} (i : Ghosts S E) {bytes operators : List ℕ} {s0 n : S} {count : ℕ} {y : Next} (q : SkipsLocals bytes operators) → (p : PassesRun (asks i) s0 operators n (record { kept = count; next = y })) →
    count ≡ length operators → IsWithin count y (length operators) → BodyStays i bytes s0 n
whole_stays i q p all within = record {
  function = passed_body i q p;
  normally = whole_is i (record { ceiling = 0; rows = [] }) q p all;
  added = λ old new gains fits. whole_added i old q p all within gains fits;
  refused = λ old fault large. whole_refused i old q p all fault within refl large (Err _) refl;
}

module _ {S E : Type 0} (i : Ghosts S E) {bytes : List ℕ} {s m : S} {old mid new : CodeRows} (stays : BodyStays i bytes s m) (same : mid ≡ old) where
  -- a body that stays was added
  pub stays_added : GainsBody mid bytes new → length bytes ≤ mid.ceiling → BodyClauses i bytes s old m new (Ok tt)
  stays_added gains fits =
      let P : CodeRows → Type 0 = λ z. BodyClauses i bytes s z m new (Ok tt) in
      subst P same (stays.added mid new gains fits)

  -- it was not added
  pub stays_refused : (fault : WriteFault) → new ≡ mid → RefusesBody bytes mid fault → (r : Result (Unit {0}) (Error E)) → IsErrAnd r (λ z. z ≡ error_of_write fault) → BodyClauses i bytes s old m new r
  stays_refused fault unchanged large r is =
      let P : CodeRows → CodeRows → Result (Unit {0}) (Error E) → Type 0 = λ x y z. BodyClauses i bytes s x m y z in
      let given = subst (λ (z : Result (Unit {0}) (Error E)). P mid mid z) (answers r is) (stays.refused mid fault large) in
      subst (λ (y : CodeRows). P old y r) (sym unchanged) (subst (λ (x : CodeRows). P x mid r) same given)

-- no locals begin there, and nothing was asked
pub locals_unread : {S E : Type 0} (i : Ghosts S E) {bytes : List ℕ} {s : S} (f : Fault) → ReadsNone f 0 (BeginsNone locals bytes) → LocalsClauses i bytes s s (Err (error_of_fault f))
locals_unread {E = E} i (fault.Read x) h = record {
  default = search rules;
  after_error = λ k told. locals_leave_none (asks i) (error_of_fault (fault.Read x)) (ended_all {a = []} _ (fault_unasked E (fault.Read x)) refl);
}
locals_unread i fault.NoMemory h = absurd h
locals_unread i fault.CodeSize h = absurd h
locals_unread i (fault.Header k) h = absurd h
