-- A body, from its locals and its operators.
use Rattle.std.proofs.Common.{◌≡◌, ◌≢◌, ℕ, ◌+◌, ◌-◌, ◌<◌, ◌≤◌, ◌^◌, List, [], ◌∷◌, ◌++◌, length, None, Contains, Result, Ok, Err, refl, sym, ap, ◌∙◌, append-nil, arith, subst, ◌⊎◌, inl, inr, Bool, true, false, IsTrue}
use Rattle.std.proofs.lemmas.List.{length-drop}
use Rattle.std.proofs.lemmas.List.Elements.{Contains-append_right}
use Rattle.wasm_leb.specs.declared.fault.Fault.{Fault}
use Rattle.wasm_leb.specs.declared.fault.Fault.TheVariants as fault
use Rattle.wasm_shapes.specs.declared.Visit.{Visit}
use Rattle.wasm_shapes.specs.Tree.{Tree, normal}
use Rattle.wasm_shapes.specs.Shape.{Shape}
use Rattle.wasm_shapes.specs.Spells.{Is, Spelled, Spells}
use Rattle.wasm_shapes.specs.Place.{Begins, BeginsNone}
use Rattle.wasm_shapes.specs.Rows.{rows_then}
use Rattle.wasm_shapes.specs.Module.{body}
use Rattle.wasm_read.specs.Operations.{Reading, rest_of}
use Rattle.wasm_read.specs.Reading.{ReadsNone}
use Rattle.wasm_write.specs.declared.fault.WriteFault.{WriteFault}
use Rattle.wasm_write.specs.declared.fault.WriteFault.TheVariants as write
use Rattle.wasm_write.specs.Faults.{IfTooLarge}
use Rattle.wasm_write.specs.Counts.{counts}
use Rattle.wasm_shapes.specs.Types.{rows_tree, vector_tree}
use Rattle.wasm_write.specs.Bodies.{Body, CodeRows, function_body, code_tree, with_row, with_operator}
use Rattle.reencode_hooks.specs.declared.error.Error.{Error}
use Rattle.reencode_hooks.specs.declared.error.Error.TheVariants.{CanonicalizedHeapTypeReference, InvalidConstExpr, InvalidCodeSectionSize, UnexpectedNonCoreModuleSection, UnexpectedNonComponentSection, UnsupportedCoreTypeInComponent, ParseError, UserError, TooLarge, NoMemory}
use Rattle.reencode_hooks.specs.Errors.{error_of_write}
use Rattle.reencode_hooks.specs.Run.{Step, accepted, refused, ask}
use Rattle.reencode_hooks.specs.Walk.{walk}
use Rattle.reencode_items.specs.Maps.{MapsOperator, ParsesOperator}
use Rattle.reencode_core.specs.Errors.{IfRefused}
use Rattle.reencode_core.specs.Rows.{Asks, onto_rows, TooLargeMade, locals, StopsBody}
use Rattle.reencode_core.specs.Bodies.{GivesLocals, GivesBody}
use Rattle.reencode_core.proofs.faults.WalkRefusals.{IfParse-map, unless_wanting, usual_walk, stops_usual, write_usual}
use Rattle.reencode_core.proofs.bodies.BodyLoop.{ManyLeft, OperatorsDone, operators_begin, operators_more, body_is, body_spelled, no_locals, many_first, many_none, no_many, pair_accepted, sized_refused, pair_refused, first_refused, sized_fits, sized_large}

-- nothing is said of out of memory
pub body_wants : {S E : Type 0} (asked : Asks S E) (bytes : List ℕ) (s m : S) (old : CodeRows) → GivesBody asked bytes (s, old) (m, old) (Err NoMemory)
body_wants asked bytes s m old = record { reading = λ t p. (refl, λ other. absurd (other refl)); readable = tt; unchanged = refl; unreadable = tt; refusal = tt }

-- the locals are refused
pub body_locals_refused : {S E : Type 0} (asked : Asks S E) (bytes : List ℕ) (s m : S) (old : CodeRows) (e : Error E) → GivesLocals {A = Body} asked bytes s m (Err e) (λ f. f) →
    GivesBody asked bytes (s, old) (m, old) (Err e)
body_locals_refused {S = S} {E = E} asked bytes s m old e g = record {
  reading = λ t p. (refl, λ other. inl (stops t p other));
  readable = tt;
  unchanged = refl;
  unreadable = IfParse-map e (λ at h. (no_locals h.1, inl (h.0, h.1))) g.unreadable;
  refusal = refuses e g;
}
  where
    refuses : (e : Error E) → GivesLocals {A = Body} asked bytes s m (Err e) (λ f. f) → IfRefused e (((t : Tree) × Spells body bytes t) ⊎ StopsBody asked old.ceiling bytes s e m)
    refuses (UserError x) g = let l = g.refusal in inr (inl (l.0, l.1, l.2, g.reading old.ceiling l.0 l.1 l.2 (λ q. cc)))
    refuses (TooLarge x) g = let l = g.refusal in inr (inl (l.0, l.1, l.2, g.reading old.ceiling l.0 l.1 l.2 (λ q. cc)))
    refuses _ g = tt

    stops : (t : Tree) → Spells body bytes t → e ≢ NoMemory → walk asked old.ceiling s (Tree.sized t) ≡ refused e m
    stops t p other = go t p.shaped p.spelled
      where
        go : (t : Tree) → Is body t → Spelled t bytes → walk asked old.ceiling s (Tree.sized t) ≡ refused e m
        go t (Is.seq {t = l} {u = u} d d') q =
            sized_refused asked old.ceiling s m (Tree.pair l u) e
            (first_refused asked old.ceiling s m l u e (g.reading old.ceiling l q.1 (record { text = q.0; spells = record { shaped = d; spelled = q.3 }; reads = q.2 }) other))

-- where locals were read, the operators are found
pub operators_never : {S E : Type 0} (asked : Asks S E) (bytes : List ℕ) (s m : S) (f : Body) (x : Fault) → GivesLocals {E = E} {A = Body} asked bytes s m (Ok f) (λ f. f) → ReadsNone x 0 (BeginsNone locals bytes) → ⊥
operators_never asked bytes s m f (fault.Read y) g h = let b = g.readable.2 in h.1.none b.text g.readable.1 g.readable.0 b.spells b.reads
operators_never asked bytes s m f fault.NoMemory g h = h
operators_never asked bytes s m f fault.CodeSize g h = h
operators_never asked bytes s m f (fault.Header k) g h = h

pub some_length : (xs : List ℕ) → xs ≢ [] → 0 < length xs
some_length [] h = absurd (h refl)
some_length (x ∷ xs) h = omega arith

module _ {S E : Type 0} (reply : S → Visit → Result ℕ E) (next : S → Visit → S) {bytes start rest : List ℕ} {l : Tree} (s0 m s : S) (f0 : Body) (ops : List Tree) (old : CodeRows)
    (begins : Begins locals bytes l start) (g : GivesLocals {E = E} {A = Body} (ask reply next) bytes s0 m (Ok f0) (λ f. f))
    (done : (c : ℕ) → OperatorsDone (ask reply next) c start m rest s ops) where
  -- the locals' walk
  walked : (c : ℕ) → walk (ask reply next) c s0 l ≡ accepted (vector_tree f0.locals) m
  walked c = g.reading c l start begins

  -- what stands behind the operators that were read
  pub others_of : (c : ℕ) (t : Tree) → Spells body bytes t → (read : List Tree) × (others : Tree) × (t ≡ Tree.pair l (rows_then read others)) × ManyLeft rest others
      × (walk (ask reply next) c m (rows_then read others) ≡ onto_rows ops (walk (ask reply next) c s others))
  others_of c t p =
      let b = body_is begins t p in
      let d = done c in
      let k = d.back b.0 b.2 in
      (d.read, k.0, b.1 ∙ ap (λ (u : Tree). Tree.pair l u) k.1, k.2, d.accepts k.0)

  -- ---- the end

  body_walk : (c : ℕ) (t : Tree) → Spells body bytes t → rest ≡ [] → walk (ask reply next) c s0 t ≡ accepted (Tree.pair (vector_tree f0.locals) (rows_tree ops)) s
  body_walk c t p empty =
      let o = others_of c t p in
      let P : List ℕ → Type 0 = λ z. ManyLeft z o.1 in
      let last : o.1 ≡ Tree.nil = many_none o.1 (subst P empty o.3) in
      let operators : walk (ask reply next) c m (rows_then o.0 o.1) ≡ accepted (rows_tree ops) s = o.4 ∙ rw last refl in
      rw o.2 (pair_accepted (ask reply next) c s0 m s l (vector_tree f0.locals) (rows_then o.0 o.1) (rows_tree ops) (walked c) operators)

  -- the body that was read
  body_read : rest ≡ [] → (t : Tree) × Spells body bytes t
  body_read empty =
      let d = done 0 in
      let all : start ≡ d.before.text = d.before.stands ∙ ap (λ (z : List ℕ). d.before.text ++ z) empty ∙ append-nil d.before.text in
      let P : List ℕ → Type 0 = λ z. Spelled (rows_then d.read Tree.nil) z in
      (Tree.pair l (rows_then d.read Tree.nil), body_spelled begins (record { shaped = d.before.shaped; spelled = subst P (sym all) d.before.spelled }))

  pub body_given : (new : CodeRows) (f : Body) → rest ≡ [] → f.locals ≡ f0.locals → f.operators ≡ ops → new ≡ with_row old (code_tree f) → length (normal (function_body f)) ≤ old.ceiling →
      GivesBody (ask reply next) bytes (s0, old) (s, new) (Ok tt)
  body_given new f empty same_locals same_operators gains fits = record {
    reading = λ t p.
        let w = body_walk old.ceiling t p empty in
        let whole : walk (ask reply next) old.ceiling s0 t ≡ accepted (function_body f) s = w ∙ rw (same_locals, same_operators) refl in
        (code_tree f, sized_fits (ask reply next) old.ceiling s0 s t (function_body f) whole fits, ap CodeRows.rows gains);
    readable = body_read empty;
    unchanged = tt;
    unreadable = tt;
    refusal = tt;
  }

  pub body_not_added : (f : Body) (w : WriteFault) → rest ≡ [] → f.locals ≡ f0.locals → f.operators ≡ ops →
      IfTooLarge w (λ size. ((size ≡ length (normal (function_body f))) × (old.ceiling < size)) ⊎ ((size ≡ length old.rows + 1) × (2 ^ 32 - 1 < size) × (length (normal (function_body f)) ≤ old.ceiling))) →
      GivesBody (ask reply next) bytes (s0, old) (s, old) (Err (error_of_write w))
  body_not_added f w empty same_locals same_operators large = record {
    reading = λ t p. (refl, go t p w large);
    readable = tt;
    unchanged = refl;
    unreadable = write_usual E _ w;
    refusal = unless_wanting (error_of_write w) (λ other. inl (body_read empty));
  }
    where
      whole : (c : ℕ) (t : Tree) → Spells body bytes t → walk (ask reply next) c s0 t ≡ accepted (function_body f) s
      whole c t p = body_walk c t p empty ∙ rw (same_locals, same_operators) refl

      size : ℕ
      size = length (normal (function_body f))

      among : (n : ℕ) → n ≡ length old.rows + 1 → Contains (counts (code_tree f) ++ (length old.rows + 1) ∷ []) n
      among n e = Contains-append_right (counts (code_tree f)) ((length old.rows + 1) ∷ []) n (0, omega arith, sym e)

      go : (t : Tree) → Spells body bytes t → (w : WriteFault) →
          IfTooLarge w (λ size. ((size ≡ length (normal (function_body f))) × (old.ceiling < size)) ⊎ ((size ≡ length old.rows + 1) × (2 ^ 32 - 1 < size) × (length (normal (function_body f)) ≤ old.ceiling))) →
          error_of_write {E = E} w ≢ NoMemory → (walk (ask reply next) old.ceiling s0 (Tree.sized t) ≡ refused (error_of_write w) s) ⊎ TooLargeMade (ask reply next) s0 (Tree.sized t) (length old.rows) (error_of_write {E = E} w) s
      go t p (write.TooLarge n) (inl q) other =
          let same : n ≡ size = q.0 in
          let h : old.ceiling < n = q.1 in
          let above : old.ceiling < size = omega arith in
          inl (sized_large (ask reply next) old.ceiling s0 s t (function_body f) (whole old.ceiling t p) above ∙ ap (λ (k : ℕ). refused (TooLarge k) s) (sym same))
      go t p (write.TooLarge n) (inr q) other = inr (record {
        accepts = record { ceiling = size; made = code_tree f; walked = sized_fits (ask reply next) size s0 s t (function_body f) (whole size t p) (omega arith) };
        large = record { counted = among n q.0; large = q.1 };
      })
      go t p write.NoMemory q other = absurd (other refl)

  -- ---- an operator is refused, or none is there

  pub operator_refused : (n : S) (e : Error E) (operator : Tree) (left : List ℕ) → Begins (Shape.op true) rest operator left → ((c : ℕ) → e ≢ NoMemory → walk (ask reply next) c s operator ≡ refused e n) →
      GivesBody (ask reply next) bytes (s0, old) (n, old) (Err e)
  operator_refused n e operator left there stops = record {
    reading = λ t p. (refl, λ other. inl (go t p other));
    readable = tt;
    unchanged = refl;
    unreadable = stops_usual _ (walk (ask reply next) 0 s operator) e n (usual_walk reply next 0 None s operator there.text there.spells.spelled) (stops 0);
    refusal = unless_wanting e (λ other.
        let d = done old.ceiling in
        inr (inr (
          l,
          start,
          vector_tree f0.locals,
          m,
          begins,
          walked old.ceiling,
          record {
            read = d.read;
            rest = rest;
            made = ops;
            state = s;
            before = d.before;
            accepts = d.accepts;
            next = operator;
            left = left;
            begins = there;
            refuses = stops old.ceiling other;
          },
        )));
  }
    where
      go : (t : Tree) → Spells body bytes t → e ≢ NoMemory → walk (ask reply next) old.ceiling s0 (Tree.sized t) ≡ refused e n
      go t p other =
          let o = others_of old.ceiling t p in
          let k = many_first there o.1 o.3 in
          let first : walk (ask reply next) old.ceiling s (Tree.cons operator k.0) ≡ refused e n = rw (stops old.ceiling other) refl in
          let here : walk (ask reply next) old.ceiling s o.1 ≡ refused e n = rw k.1 first in
          let operators : walk (ask reply next) old.ceiling m (rows_then o.0 o.1) ≡ refused e n = o.4 ∙ ap (λ (r : Step S (Error E) Tree). onto_rows ops r) here in
          sized_refused (ask reply next) old.ceiling s0 n t e (rw o.2 (pair_refused (ask reply next) old.ceiling s0 m n l (vector_tree f0.locals) (rows_then o.0 o.1) e (walked old.ceiling) operators))

  no_operator : (at : ℕ) → BeginsNone (Shape.op true) rest → rest ≢ [] → at ≡ length bytes - length rest → GivesBody (ask reply next) bytes (s0, old) (s, old) (Err (ParseError (record { at = at })))
  no_operator at none some place =
      let never = λ (t : Tree) (p : Spells body bytes t). let o = others_of 0 t p in no_many none some o.1 o.3 in
      let d = done 0 in record {
        reading = λ t p. absurd (never t p);
        readable = tt;
        unchanged = refl;
        unreadable = (never, inr (l, d.read, start, rest, begins, d.before, place, none, some));
        refusal = tt;
      }

  -- the error of the call that reads and maps an operator
  pub operator_err : (B : Type 0) (view : B → Tree) (reader behind : Reading) (n : S) (e : Error E) → rest ≡ rest_of reader → reader.bytes ≡ bytes → rest ≢ [] →
      ParsesOperator reply next s reader view n behind (Err e) → GivesBody (ask reply next) bytes (s0, old) (n, old) (Err e)
  operator_err B view reader behind n e is_rest is_bytes some parses = go e parses
    where
      mapped : (e : Error E) → MapsOperator {B = B} reply next s reader view n behind (Err e) → GivesBody (ask reply next) bytes (s0, old) (n, old) (Err e)
      mapped e q =
          let P : List ℕ → Type 0 = λ z. Begins (Shape.op true) z q.operator q.rest in
          operator_refused n e q.operator q.rest (subst P (sym is_rest) q.begins) q.maps

      place : (at : ℕ) → at ≡ reader.at → at ≡ length bytes - length rest
      place at e =
          let left : length rest ≡ length reader.bytes - reader.at = ap length is_rest ∙ length-drop reader.at reader.bytes in
          let long : length reader.bytes ≡ length bytes = ap length is_bytes in
          let more : 0 < length rest = some_length rest some in
          omega arith

      go : (e : Error E) → ParsesOperator {B = B} reply next s reader view n behind (Err e) → GivesBody (ask reply next) bytes (s0, old) (n, old) (Err e)
      go (ParseError x) q =
          let P : List ℕ → Type 0 = λ z. BeginsNone (Shape.op true) z in
          let Q : S → Type 0 = λ z. GivesBody (ask reply next) bytes (s0, old) (z, old) (Err (ParseError x)) in
          subst Q (sym q.2) (no_operator x.at (subst P (sym is_rest) q.1) some (place x.at q.0))
      go NoMemory q = body_wants (ask reply next) bytes s0 n old
      go (UserError x) q = mapped (UserError x) q
      go (TooLarge x) q = mapped (TooLarge x) q
      go CanonicalizedHeapTypeReference q = mapped CanonicalizedHeapTypeReference q
      go InvalidConstExpr q = mapped InvalidConstExpr q
      go InvalidCodeSectionSize q = mapped InvalidCodeSectionSize q
      go UnexpectedNonCoreModuleSection q = mapped UnexpectedNonCoreModuleSection q
      go UnexpectedNonComponentSection q = mapped UnexpectedNonComponentSection q
      go UnsupportedCoreTypeInComponent q = mapped UnsupportedCoreTypeInComponent q

-- ---- the loop over the operators

pub some_left : (b : Bool) (xs : List ℕ) → (IsTrue b → xs ≡ []) × (xs ≡ [] → IsTrue b) → b ≡ false → xs ≢ []
some_left b xs p e x = let yes : b ≡ true = p.1 x in absurd cc

pub none_left : (b : Bool) (xs : List ℕ) → (IsTrue b → xs ≡ []) × (xs ≡ [] → IsTrue b) → b ≡ true → xs ≡ []
none_left b xs p e = p.0 e

pub operators_none : {S E : Type 0} (asked : Asks S E) (c : ℕ) (start : List ℕ) (s : S) (ops : List Tree) → ops ≡ [] → OperatorsDone asked c start s start s ops
operators_none asked c start s ops e = let P : List Tree → Type 0 = λ z. OperatorsDone asked c start s start s z in subst P (sym e) (operators_begin asked c start s)

pub operators_on : {S E : Type 0} (asked : Asks S E) (c : ℕ) {start rest left behind : List ℕ} {s0 s m : S} {t v : Tree} (f f' : Body) → OperatorsDone asked c start s0 rest s f.operators →
    Begins (Shape.op true) rest t left → behind ≡ left → walk asked c s t ≡ accepted v m → f' ≡ with_operator f v → OperatorsDone asked c start s0 behind m f'.operators
operators_on asked c {start = start} {left = left} {s0 = s0} {m = m} {v = v} f f' d there e h added =
    let P : List ℕ → Type 0 = λ z. OperatorsDone asked c start s0 z m f'.operators in
    let Q : List Tree → Type 0 = λ z. OperatorsDone asked c start s0 left m z in
    subst P (sym e) (subst Q (sym (ap Body.operators added)) (operators_more asked c d there h))
