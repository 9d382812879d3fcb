-- The rest of a body, mapped from a place on: the loop over its operators, and what it gives at its ends.
use Rattle.std.proofs.Common.{◌≡◌, ◌≢◌, ◌≤◌, ◌<◌, ◌^◌, ◌+◌, ◌-◌, ◌⊎◌, ℕ, List, [], ◌∷◌, length, drop, take, Result, Ok, Err, IsErrAnd, IsTrue, refl, sym, subst, arith}
use Rattle.std.proofs.Math.Seq.{take-append_seam}
use Rattle.std.proofs.lemmas.List.{length-drop}
use Rattle.wasm_shapes.specs.declared.Opcode.{Opcode}
use Rattle.wasm_shapes.specs.Tree.{Tree, normal}
use Rattle.wasm_read.specs.Operations.{Reading, rest_of}
use Rattle.wasm_write.specs.Bodies.{Body, CodeRows, GainsOperators, code_tree, function_body, with_operator, with_row}
use Rattle.wasm_write.specs.Faults.{IfTooLarge}
use Rattle.wasm_write.specs.Instructions.{operator_tree}
use Rattle.wasm_write.specs.declared.fault.WriteFault.{WriteFault}
use Rattle.wasm_write.specs.declared.fault.WriteFault.TheVariants as faults
use Rattle.reencode_hooks.specs.declared.error.Error.{Error}
use Rattle.reencode_hooks.specs.declared.indices.ReencodeIndices.{Ghosts}
use Rattle.reencode_hooks.specs.Errors.{error_of_write}
use Rattle.reencode_hooks.specs.Run.{NeverWants}
use Rattle.reencode_items.specs.Maps.{LeavesOperator, MovesOn, ParsesOperator}
use Rattle.reencode_core.specs.Bodies.{KeepsCode}
use Rattle.reencode_items.specs.declared.direct.passing.Fresh.{Fresh}
use Rattle.reencode_items.specs.declared.direct.passing.Next.{Next}
use Rattle.reencode_items.specs.declared.direct.passing.Next.TheVariants as next
use Rattle.reencode_items.specs.Direct.{PassesRun, Run, StopsRun, imms_of}
use Rattle.reencode_items.proofs.Runs.{run_added}
use Rattle.reencode_core.proofs.bodies.BodyLoop.{keeps_code}
use Rattle.reencode_core.proofs.bodies.EachBody.{body_added, body_refused, operator_not_added, operator_refused}
use Rattle.reencode_core.proofs.bodies.BodyFromPlace.{RestClauses, RestKept, begins_of, front_at, front_made, front_other, front_run, here_of, made_of, next_not_added, rest_given}
use Rattle.reencode_core.proofs.rows_walked.OneRow.{asks}
use Rattle.reencode_core.proofs.bodies.OperatorRuns.{run_not_added, run_refused}
use Rattle.reencode_core.proofs.bodies.WholeBody.{some_length}

pub rest_at : {S E : Type 0} (i : Ghosts S E) {reader0 reader : Reading} {f0 f : Body} {s0 s : S} {y0 : Next} (y z : Next) → y ≡ z → RestKept i reader0 f0 s0 y0 reader f s y → RestKept i reader0 f0 s0 y0 reader f s z
rest_at i y z e inv = λ k bytes first a. front_at y z e (inv k bytes first a)

pub rest_is : {S E : Type 0} (i : Ghosts S E) {reader0 reader reader' : Reading} {f0 f f' : Body} {s0 s s' : S} {y0 y : Next} → RestKept i reader0 f0 s0 y0 reader f s y → reader' ≡ reader → f' ≡ f → s' ≡ s →
    RestKept i reader0 f0 s0 y0 reader' f' s' y
rest_is {S = S} i {reader0 = reader0} {reader = reader} {f0 = f0} {f = f} {f' = f'} {s0 = s0} {s' = s'} {y0 = y0} {y = y} inv e d h =
    let P : Reading → Type 0 = λ z. RestKept i reader0 f0 s0 y0 z f' s' y in
    let Q : Body → Type 0 = λ z. RestKept i reader0 f0 s0 y0 reader z s' y in
    let R : S → Type 0 = λ z. RestKept i reader0 f0 s0 y0 reader f z y in
    subst P (sym e) (subst Q (sym d) (subst R (sym h) inv))

pub rest_made : {S E : Type 0} (i : Ghosts S E) {reader0 reader behind : Reading} {f0 f f' : Body} {s0 s : S} {y0 : Next} (op : Opcode) (fresh : Fresh) (count : ℕ) →
    RestKept i reader0 f0 s0 y0 reader f s (next.Made op fresh count) → f' ≡ with_operator f (operator_tree op (imms_of fresh)) → behind.bytes ≡ reader.bytes →
    rest_of behind ≡ drop count (rest_of reader) → RestKept i reader0 f0 s0 y0 behind f' s next.Other
rest_made i op fresh count inv adds same e = λ k bytes first a. front_made (inv k bytes first a) adds same e

module _ {S E : Type 0} (i : Ghosts S E) {reader0 reader behind : Reading} {f0 f f' : Body} {s0 s n : S} {y0 : Next} where
  pub rest_other : {B : Type 0} (view : B → Tree) (b : B) → RestKept i reader0 f0 s0 y0 reader f s next.Other → (IsTrue i.keeps_defaults → ParsesOperator i.reply i.next s reader view n behind (Ok b)) →
      MovesOn reader behind → f' ≡ with_operator f (view b) → RestKept i reader0 f0 s0 y0 behind f' n next.Other
  rest_other view b inv p taken adds = λ k bytes first a. front_other i view b (inv k bytes first a) (p k) taken adds

  pub rest_run : {rest : List ℕ} {count : ℕ} {y : Next} → RestKept i reader0 f0 s0 y0 reader f s next.Other → rest_of reader ≡ rest → (p : PassesRun (asks i) s rest n (record { kept = count; next = y })) →
      GainsOperators f (take count rest) f' → behind.bytes ≡ reader.bytes → rest_of behind ≡ drop count rest → RestKept i reader0 f0 s0 y0 behind f' n y
  rest_run inv there p gains same e = λ k bytes first a. front_run (inv k bytes first a) there p (gains p.kept.operators (run_added p)) same e

module _ {S E : Type 0} (i : Ghosts S E) {reader0 reader : Reading} {f0 f : Body} {s0 s : S} {y0 y : Next} (old : CodeRows) (inv : RestKept i reader0 f0 s0 y0 reader f s y) where
  -- there is no memory for what is next
  pub rest_wants : (w : WriteFault) → w ≡ faults.NoMemory → (r : Result (Unit {0}) (Error E)) → IsErrAnd r (λ z. z ≡ error_of_write w) → RestClauses i reader0 f0 s0 y0 old s old r
  rest_wants w wants r q = rest_given i inv (keeps_code old) (λ k bytes first a. next_not_added i a old w wants r q)

module _ {S E : Type 0} (i : Ghosts S E) {reader0 reader : Reading} {f0 f : Body} {s0 s : S} {y0 : Next} (old : CodeRows) (inv : RestKept i reader0 f0 s0 y0 reader f s next.Other) where
  -- the body was added
  pub rest_added : {new : CodeRows} → rest_of reader ≡ [] → new ≡ with_row old (code_tree f) → length (normal (function_body f)) ≤ old.ceiling → RestClauses i reader0 f0 s0 y0 old s new (Ok tt)
  rest_added {new = new} ended added fits =
      let P : CodeRows → Type 0 = λ z. KeepsCode old z in
      rest_given i inv (subst P (sym added) (record { ceiling = refl; rows = take-append_seam old.rows (code_tree f ∷ []) }))
      (λ k bytes first a. body_added i old (made_of i a) (begins_of i a) refl (here_of i a) ended added fits)

  -- it was not added
  pub rest_refused : {new : CodeRows} (w : WriteFault) → rest_of reader ≡ [] → new ≡ old →
      IfTooLarge w (λ size. ((size ≡ length (normal (function_body f))) × (old.ceiling < size)) ⊎ ((size ≡ length old.rows + 1) × (2 ^ 32 - 1 < size) × (length (normal (function_body f)) ≤ old.ceiling))) →
      (r : Result (Unit {0}) (Error E)) → IsErrAnd r (λ z. z ≡ error_of_write w) → RestClauses i reader0 f0 s0 y0 old s new r
  rest_refused {new = new} w ended unchanged large r q =
      let P : CodeRows → Type 0 = λ z. KeepsCode old z in
      rest_given i inv (subst P (sym unchanged) (keeps_code old)) (λ k bytes first a. body_refused i old (made_of i a) (begins_of i a) refl (here_of i a) ended w unchanged large r q)

  -- the next operator is refused, or none is there
  pub rest_stuck : {B : Type 0} (view : B → Tree) (behind : Reading) {n : S} (e : Error E) → rest_of reader ≢ [] →
      (IsTrue i.keeps_defaults → ParsesOperator i.reply i.next s reader view n behind (Err e)) → (IsTrue i.keeps_defaults → IsTrue i.sure → LeavesOperator {B = B} (asks i) s reader n (Err e)) →
      (r : Result (Unit {0}) (Error E)) → IsErrAnd r (λ z. z ≡ e) → RestClauses i reader0 f0 s0 y0 old n old r
  rest_stuck view behind e some parses leaves r q =
      rest_given i inv (keeps_code old) (λ k bytes first a. operator_refused i old (made_of i a) (begins_of i a) refl (here_of i a) view behind e some parses leaves r q)

  -- there is no memory for an operator that was mapped
  pub rest_not_added : {B : Type 0} (view : B → Tree) (b : B) {behind : Reading} {n : S} → (IsTrue i.keeps_defaults → ParsesOperator i.reply i.next s reader view n behind (Ok b)) →
      (w : WriteFault) → w ≡ faults.NoMemory → (r : Result (Unit {0}) (Error E)) → IsErrAnd r (λ z. z ≡ error_of_write w) → RestClauses i reader0 f0 s0 y0 old n old r
  rest_not_added view b parses w wants r q =
      rest_given i inv (keeps_code old) (λ k bytes first a. operator_not_added i old (made_of i a) (begins_of i a) refl (here_of i a) view b parses w wants r q)

  -- an operator is refused behind a run
  pub rest_run_refused : {n : S} (e : Error E) → StopsRun (asks i) s (rest_of reader) e n → NeverWants {A = ℕ} i.sure (Err e) →
      (r : Result (Unit {0}) (Error E)) → IsErrAnd r (λ z. z ≡ e) → RestClauses i reader0 f0 s0 y0 old n old r
  rest_run_refused e stop sure r q = rest_given i inv (keeps_code old) (λ k bytes first a. run_refused i old (made_of i a) (begins_of i a) (here_of i a) e stop sure r q)

  -- there is no memory for a run
  pub rest_run_wants : {n : S} (run : Run) → PassesRun (asks i) s (rest_of reader) n run → (w : WriteFault) → w ≡ faults.NoMemory →
      (r : Result (Unit {0}) (Error E)) → IsErrAnd r (λ z. z ≡ error_of_write w) → RestClauses i reader0 f0 s0 y0 old n old r
  rest_run_wants run p w wants r q = rest_given i inv (keeps_code old) (λ k bytes first a. run_not_added i old (made_of i a) (begins_of i a) (here_of i a) run p w wants r q)

-- the section is as it was
pub rest_code : {S E : Type 0} (i : Ghosts S E) {reader : Reading} {f : Body} {s m : S} {y : Next} {old here new : CodeRows} {r : Result (Unit {0}) (Error E)} → here ≡ old →
    RestClauses i reader f s y here m new r → RestClauses i reader f s y old m new r
rest_code i {reader = reader} {f = f} {s = s} {m = m} {y = y} {new = new} {r = r} e given = let P : CodeRows → Type 0 = λ z. RestClauses i reader f s y z m new r in subst P e given

-- where bytes are left, the place is not behind them
pub some_behind : (reader : Reading) → rest_of reader ≢ [] → reader.at < length reader.bytes
some_behind reader some = let more : 0 < length (rest_of reader) = some_length (rest_of reader) some in omega (arith, length-drop reader.at reader.bytes)
