-- A body that is mapped from a place on.
use Rattle.std.proofs.Common.{◌≡◌, ◌≤◌, ◌<◌, ◌+◌, ℕ, List, [], ◌++◌, length, length-append, Result, Ok, IsErrAnd, IsTrue, refl, sym, ap, ◌∙◌, drop, take, append_assoc, subst, arith}
use Rattle.std.proofs.Math.Seq.{drop-append_seam, take-append_seam}
use Rattle.wasm_shapes.specs.declared.Opcode.{Opcode}
use Rattle.wasm_shapes.specs.Place.{Begins}
use Rattle.wasm_shapes.specs.Spells.{Is}
use Rattle.wasm_shapes.specs.Tree.{Tree, normal}
use Rattle.wasm_shapes.specs.Types.{vector_tree}
use Rattle.wasm_read.specs.Operations.{Reading, rest_of}
use Rattle.wasm_write.specs.Bodies.{Body, CodeRows, IsBody, with_operator, with_operators}
use Rattle.wasm_write.specs.declared.fault.WriteFault.{WriteFault}
use Rattle.wasm_write.specs.declared.fault.WriteFault.TheVariants as faults
use Rattle.wasm_read.proofs.Codes.{fewer_left}
use Rattle.wasm_write.specs.Instructions.{Imm, operator_tree}
use Rattle.reencode_hooks.specs.declared.error.Error.{Error}
use Rattle.reencode_hooks.specs.declared.indices.ReencodeIndices.{Ghosts}
use Rattle.reencode_hooks.specs.Errors.{error_of_write}
use Rattle.reencode_hooks.specs.Run.{accepted}
use Rattle.reencode_items.specs.Maps.{MovesOn, ParsesOperator}
use Rattle.reencode_core.specs.Bodies.{GivesBody, KeepsCode}
use Rattle.reencode_core.specs.Leaves.{LeavesMade, body_in}
use Rattle.reencode_core.specs.Rows.{Asks, locals}
use Rattle.reencode_items.specs.declared.direct.passing.Fresh.{Fresh}
use Rattle.reencode_items.specs.declared.direct.passing.Next.{Next}
use Rattle.reencode_items.specs.declared.direct.passing.Next.TheVariants as next
use Rattle.reencode_items.specs.Direct.{MakesOperator, PassesNext, PassesRun, SkipsLocals, imms_of}
use Rattle.reencode_core.specs.Direct.{AcceptsFront, DealsWith, MapsFront}
use Rattle.reencode_core.proofs.bodies.BodyLoop.{OperatorsDone, operators_begin, operators_more, same_locals}
use Rattle.reencode_core.proofs.bodies.EachBody.{BodyClauses, LocalsClauses, OperatorsKept}
use Rattle.reencode_core.proofs.rows_walked.OneRow.{asks}
use Rattle.reencode_items.proofs.Passing.{unasked_walk}
use Rattle.reencode_items.proofs.Runs.{no_run, no_run_counted, run_left}
use Rattle.reencode_core.proofs.bodies.OperatorRuns.{many_front, operators_many, run_not_added}
use Rattle.reencode_core.proofs.bodies.WholeBody.{operators_none, operators_on}

module _ {S E : Type 0} {asked : Asks S E} {c : ℕ} {start rest : List ℕ} {s m : S} {made : List Tree} where
  done_of : AcceptsFront asked c start s rest m made → OperatorsDone asked c start s rest m made
  done_of a = record {
    read = a.read;
    before = a.before;
    back = λ t r. many_front a.read a.before.text rest start a.before.shaped a.before.spelled a.before.stands t r;
    accepts = a.accepts;
  }

  front_of : OperatorsDone asked c start s rest m made → AcceptsFront asked c start s rest m made
  front_of d = record { read = d.read; before = d.before; accepts = d.accepts }

-- ---- the front of a body

-- locals were mapped
pub front_begun : {S E : Type 0} (i : Ghosts S E) {bytes : List ℕ} {s0 m : S} {f : Body} {reader : Reading} {l : Tree} → LocalsClauses i bytes s0 m (Ok f) → IsTrue i.keeps_defaults →
    Begins locals bytes l (rest_of reader) → reader.bytes ≡ bytes → MapsFront (asks i) bytes s0 reader f m next.Other
front_begun i {m = m} {f = f} {reader = reader} {l = l} made k begins of = record {
  locals = l;
  start = rest_of reader;
  begins = begins;
  of = of;
  behind_locals = m;
  walked = λ c. (made.default k).reading c l (rest_of reader) begins;
  mid = m;
  front = λ c. front_of (operators_none (asks i) c (rest_of reader) m f.operators (made.default k).bare);
  onward = refl;
}

-- the function of locals that were passed by
abbrev pub with_skipped : {bytes left : List ℕ} → SkipsLocals bytes left → Body
with_skipped q = record { locals = q.rows; operators = [] }

-- where the operators stand
abbrev pub behind_skipped : (bytes : List ℕ) {left : List ℕ} → SkipsLocals bytes left → Reading
behind_skipped bytes q = record { bytes = bytes; at = length (normal (vector_tree q.rows)) }

pub skipped_rest : {bytes left : List ℕ} (q : SkipsLocals bytes left) → rest_of (behind_skipped bytes q) ≡ left
skipped_rest {left = left} q = ap (drop (length (normal (vector_tree q.rows)))) q.begins.reads ∙ drop-append_seam (normal (vector_tree q.rows)) left

pub skipped_begins : {bytes left : List ℕ} (q : SkipsLocals bytes left) → Begins locals bytes (vector_tree q.rows) left
skipped_begins q = record { text = normal (vector_tree q.rows); spells = record { shaped = q.begins.shaped; spelled = q.begins.spelled }; reads = q.begins.reads }

-- locals were passed by
pub front_skipped : {S E : Type 0} (asked : Asks S E) {bytes left : List ℕ} (s : S) (q : SkipsLocals bytes left) → MapsFront asked bytes s (behind_skipped bytes q) (with_skipped q) s next.Other
front_skipped asked {bytes = bytes} {left = left} s q = record {
  locals = vector_tree q.rows;
  start = left;
  begins = skipped_begins q;
  of = refl;
  behind_locals = s;
  walked = λ c. unasked_walk asked s (vector_tree q.rows) q.unasked c;
  mid = s;
  front = λ c. let P : List ℕ → Type 0 = λ z. AcceptsFront asked c left s z s [] in subst P (sym (skipped_rest q)) (front_of (operators_begin asked c left s));
  onward = refl;
}

module _ {S E : Type 0} {asked : Asks S E} {bytes : List ℕ} {s0 s : S} {reader behind : Reading} {f f' : Body} where
  -- a run was added
  pub front_run : {n : S} {rest : List ℕ} {count : ℕ} {y : Next} → MapsFront asked bytes s0 reader f s next.Other → rest_of reader ≡ rest →
      (p : PassesRun asked s rest n (record { kept = count; next = y })) → f' ≡ with_operators f p.kept.operators → behind.bytes ≡ reader.bytes → rest_of behind ≡ drop count rest →
      MapsFront asked bytes s0 behind f' n y
  front_run {n = n} {rest = rest} {count = count} {y = y} a there p adds same e =
      let here : rest_of behind ≡ p.left = e ∙ run_left count p.kept p.counted in
      record {
        locals = a.locals;
        start = a.start;
        begins = a.begins;
        of = same ∙ a.of;
        behind_locals = a.behind_locals;
        walked = λ c. a.walked c ∙ ap (λ (z : Body). accepted (vector_tree z.locals) a.behind_locals) (sym adds);
        mid = p.mid;
        front = λ c.
            let P : List ℕ → Type 0 = λ z. AcceptsFront asked c a.start a.behind_locals z p.mid f'.operators in
            let Q : Body → Type 0 = λ z. AcceptsFront asked c a.start a.behind_locals p.left p.mid z.operators in
            let R : S → Type 0 = λ z. AcceptsFront asked c a.start a.behind_locals (rest_of reader) z f.operators in
            let T : List ℕ → Type 0 = λ z. AcceptsFront asked c a.start a.behind_locals z s f.operators in
            subst P (sym here) (subst Q (sym adds) (front_of (operators_many asked c (done_of (subst T there (subst R (sym a.onward) (a.front c)))) p.kept)));
        onward = let P : List ℕ → Type 0 = λ z. PassesNext asked p.mid z n y in subst P (sym here) p.onward;
      }

  -- an operator was made
  pub front_made : {op : Opcode} {i : Fresh} {k : ℕ} → MapsFront asked bytes s0 reader f s (next.Made op i k) → f' ≡ with_operator f (operator_tree op (imms_of i)) →
      behind.bytes ≡ reader.bytes → rest_of behind ≡ drop k (rest_of reader) → MapsFront asked bytes s0 behind f' s next.Other
  front_made {k = k} a adds same e =
      let q = a.onward in
      let b = q.there.begins in
      let left : drop k (rest_of reader) ≡ q.there.left = rw (b.reads, sym q.there.counted) (drop-append_seam b.text q.there.left) in
      let here : rest_of behind ≡ q.there.left = e ∙ left in
      record {
        locals = a.locals;
        start = a.start;
        begins = a.begins;
        of = same ∙ a.of;
        behind_locals = a.behind_locals;
        walked = λ c. a.walked c ∙ ap (λ (z : Body). accepted (vector_tree z.locals) a.behind_locals) (sym adds);
        mid = s;
        front = λ c.
            let P : List ℕ → Type 0 = λ z. AcceptsFront asked c a.start a.behind_locals z s f'.operators in
            let Q : Body → Type 0 = λ z. AcceptsFront asked c a.start a.behind_locals q.there.left s z.operators in
            subst P (sym here) (subst Q (sym adds) (front_of (operators_more asked c (done_of (a.front c)) b (q.walks c))));
        onward = refl;
      }

-- an operator was read and mapped
pub front_other : {S E B : Type 0} (i : Ghosts S E) {bytes : List ℕ} {s0 s n : S} {reader behind : Reading} {f f' : Body} (view : B → Tree) (b : B) → MapsFront (asks i) bytes s0 reader f s next.Other →
    ParsesOperator i.reply i.next s reader view n behind (Ok b) → MovesOn reader behind → f' ≡ with_operator f (view b) → MapsFront (asks i) bytes s0 behind f' n next.Other
front_other {S = S} i {s = s} {n = n} {reader = reader} {f = f} {f' = f'} view b a p taken adds = record {
  locals = a.locals;
  start = a.start;
  begins = a.begins;
  of = taken.bytes ∙ a.of;
  behind_locals = a.behind_locals;
  walked = λ c. a.walked c ∙ ap (λ (z : Body). accepted (vector_tree z.locals) a.behind_locals) (sym adds);
  mid = n;
  front = λ c.
      let R : S → Type 0 = λ z. AcceptsFront (asks i) c a.start a.behind_locals (rest_of reader) z f.operators in
      front_of (operators_on (asks i) c f f' (done_of (subst R (sym a.onward) (a.front c))) p.begins p.behind_it (p.maps c) adds);
  onward = refl;
}

-- ---- what the lemmas of whole bodies take

module _ {S E : Type 0} (i : Ghosts S E) {bytes : List ℕ} {s0 s : S} {reader : Reading} {f : Body} {y : Next} (a : MapsFront (asks i) bytes s0 reader f s y) where
  abbrev pub bare_of : Body
  bare_of = record { locals = f.locals; operators = [] }

  abbrev pub standing_of : Reading
  standing_of = record { bytes = bytes; at = length a.begins.text }

  stands : rest_of standing_of ≡ a.start
  stands = ap (drop (length a.begins.text)) a.begins.reads ∙ drop-append_seam a.begins.text a.start

  pub begins_of : Begins locals bytes a.locals (rest_of standing_of)
  begins_of = let P : List ℕ → Type 0 = λ z. Begins locals bytes a.locals z in subst P (sym stands) a.begins

  pub made_of : LocalsClauses i bytes s0 a.behind_locals (Ok bare_of)
  made_of = record {
    default = λ _. record {
      reading = λ c t rest there. let one = same_locals there a.begins in rw one.0 (a.walked c);
      bare = refl;
      readable = (a.locals, a.start, a.begins);
      unreadable = tt;
      refusal = tt;
    };
    after_error = λ _. tt;
  }

  pub kept_of : OperatorsKept i standing_of a.behind_locals bare_of reader a.mid f
  kept_of = record {
    bytes = a.of;
    same_locals = refl;
    default = λ _ c. let P : List ℕ → Type 0 = λ z. OperatorsDone (asks i) c z a.behind_locals (rest_of reader) a.mid f.operators in subst P (sym stands) (done_of (a.front c));
  }

  -- there is no memory for what is next
  pub next_not_added : (old : CodeRows) (w : WriteFault) → w ≡ faults.NoMemory → (r : Result (Unit {0}) (Error E)) → IsErrAnd r (λ z. z ≡ error_of_write w) → BodyClauses i bytes s0 old s old r
  next_not_added old w wants r q =
      run_not_added i old made_of begins_of kept_of (record { kept = 0; next = y })
      (record { mid = a.mid; left = rest_of reader; kept = no_run (asks i) a.mid (rest_of reader); counted = no_run_counted (asks i) a.mid (rest_of reader); onward = a.onward }) w wants r q

pub here_of : {S E : Type 0} (i : Ghosts S E) {bytes : List ℕ} {s0 s : S} {reader : Reading} {f : Body} (a : MapsFront (asks i) bytes s0 reader f s next.Other) →
    OperatorsKept i (standing_of i a) a.behind_locals (bare_of i a) reader s f
here_of {S = S} i {reader = reader} {f = f} a = let P : S → Type 0 = λ z. OperatorsKept i (standing_of i a) a.behind_locals (bare_of i a) reader z f in subst P (sym a.onward) (kept_of i a)

-- ---- the clauses of the call that maps the rest

abbrev pub RestClauses : {S E : Type 0} → Ghosts S E → Reading → Body → S → Next → CodeRows → S → CodeRows → Result (Unit {0}) (Error E) → Type 0
RestClauses {S} i reader f s y old m new result =
    record {
      kept : KeepsCode old new;
      default : IsTrue i.keeps_defaults → (bytes : List ℕ) (first : S) → MapsFront (asks i) bytes first reader f s y → GivesBody (asks i) bytes (first, old) (m, new) result;
      after_error : IsTrue i.keeps_defaults → (bytes : List ℕ) (first : S) → MapsFront (asks i) bytes first reader f s y → LeavesMade i.sure (asks i) (body_in bytes) first m result;
    }

-- what was mapped of it
abbrev pub RestKept : {S E : Type 0} → Ghosts S E → Reading → Body → S → Next → Reading → Body → S → Next → Type 0
RestKept {S} i reader0 f0 s0 y0 reader f s y =
    IsTrue i.keeps_defaults → (bytes : List ℕ) (first : S) → MapsFront (asks i) bytes first reader0 f0 s0 y0 → MapsFront (asks i) bytes first reader f s y

pub rest_given : {S E : Type 0} (i : Ghosts S E) {reader0 : Reading} {f0 : Body} {s0 : S} {y0 : Next} {reader : Reading} {f : Body} {s : S} {y : Next} {old new : CodeRows} {m : S} {r : Result (Unit {0}) (Error E)} →
    RestKept i reader0 f0 s0 y0 reader f s y → KeepsCode old new → (IsTrue i.keeps_defaults → (bytes : List ℕ) (first : S) → MapsFront (asks i) bytes first reader f s y → BodyClauses i bytes first old m new r) →
    RestClauses i reader0 f0 s0 y0 old m new r
rest_given i inv kept given = record {
  kept = kept;
  default = λ k bytes first a. (given k bytes first (inv k bytes first a)).default k;
  after_error = λ k bytes first a. (given k bytes first (inv k bytes first a)).after_error k;
}

-- ---- the next operator

pub made_within : {S E : Type 0} {asked : Asks S E} {s m : S} {bytes : List ℕ} {n : ℕ} {op : Opcode} {i : List Imm} → MakesOperator asked s bytes n op i m → (n ≤ length bytes) × (0 < n)
made_within {bytes = bytes} {n = n} q =
    let b = q.there.begins in
    let long : length bytes ≡ length b.text + length q.there.left = ap length b.reads ∙ length-append b.text q.there.left in
    let counted : length b.text ≡ n = q.there.counted in
    let fewer : length q.there.left < length bytes = fewer_left refl b in
    (omega arith, omega arith)

-- what a run leaves
pub run_deals : {S E : Type 0} {asked : Asks S E} {s m : S} {bytes rest : List ℕ} {count : ℕ} {y : Next} → PassesRun asked s bytes m (record { kept = count; next = y }) → rest ≡ drop count bytes →
    DealsWith asked rest m y
run_deals {asked = asked} {m = m} {count = count} {y = y} p e =
    let P : List ℕ → Type 0 = λ z. PassesNext asked p.mid z m y in
    (p.mid, subst P (sym (e ∙ run_left count p.kept p.counted)) p.onward)

-- by what is next
pub deals_made : {S E : Type 0} (asked : Asks S E) (m : S) (bytes : List ℕ) (y : Next) (op : Opcode) (i : Fresh) (n : ℕ) → y ≡ next.Made op i n → DealsWith asked bytes m y → (s : S) × MakesOperator asked s bytes n op (imms_of i) m
deals_made asked m bytes y op i n e d = let P : Next → Type 0 = λ x. DealsWith asked bytes m x in subst P e d

pub front_at : {S E : Type 0} {asked : Asks S E} {bytes : List ℕ} {s0 s : S} {reader : Reading} {f : Body} (y z : Next) → y ≡ z → MapsFront asked bytes s0 reader f s y → MapsFront asked bytes s0 reader f s z
front_at {asked = asked} {bytes = bytes} {s0 = s0} {s = s} {reader = reader} {f = f} y z e a = let P : Next → Type 0 = λ x. MapsFront asked bytes s0 reader f s x in subst P e a

-- ---- locals and a run that stay as they stand

module _ {S E : Type 0} (i : Ghosts S E) {bytes operators : List ℕ} {s0 n : S} {count : ℕ} {y : Next} (q : SkipsLocals bytes operators)
    (p : PassesRun (asks i) s0 operators n (record { kept = count; next = y })) where
  abbrev pub first_of : MapsFront (asks i) bytes s0 (behind_skipped bytes q) (with_skipped q) s0 next.Other
  first_of = front_skipped (asks i) s0 q

  abbrev pub passed_body : Body
  passed_body = with_operators (with_skipped q) p.kept.operators

  abbrev pub passed_text : List ℕ
  passed_text = normal (vector_tree q.rows) ++ p.kept.text

  pub text_stands : bytes ≡ passed_text ++ p.left
  text_stands = q.begins.reads ∙ ap (λ (z : List ℕ). normal (vector_tree q.rows) ++ z) p.kept.reads ∙ sym (append_assoc (normal (vector_tree q.rows)) p.kept.text p.left)

  pub text_counted : length passed_text + length operators ≡ length bytes + count
  text_counted =
      omega (arith, length-append (normal (vector_tree q.rows)) p.kept.text, ap length q.begins.reads, length-append (normal (vector_tree q.rows)) operators, p.counted)

  pub is_passed : IsBody passed_text passed_body
  is_passed = record {
    shaped = Is.seq q.begins.shaped p.kept.are.shaped;
    spelled = (normal (vector_tree q.rows), p.kept.text, refl, q.begins.spelled, p.kept.are.spelled);
    normally = ap (λ (z : List ℕ). normal (vector_tree q.rows) ++ z) p.kept.are.normally;
  }

  -- so many bytes are taken
  pub passed_taken : (m : ℕ) → m + length operators ≡ length bytes + count → take m bytes ≡ passed_text
  passed_taken m e =
      let same : m ≡ length passed_text = omega (arith, text_counted) in
      rw (same, text_stands) (take-append_seam passed_text p.left)

  pub passed_held : (m : ℕ) → m + length operators ≡ length bytes + count → IsBody (take m bytes) passed_body
  passed_held m e = let P : List ℕ → Type 0 = λ z. IsBody z passed_body in subst P (sym (passed_taken m e)) is_passed

  -- where a reader of the operators stands behind the run, they are mapped up to there
  pub front_passed : (reader : Reading) → reader.bytes ≡ bytes → rest_of reader ≡ drop count operators → MapsFront (asks i) bytes s0 reader passed_body n y
  front_passed reader of e = front_run first_of (skipped_rest q) p refl of e
