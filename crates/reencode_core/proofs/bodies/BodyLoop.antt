-- Function bodies: their locals, their operators and their frames.
use Rattle.std.proofs.Common.{◌≡◌, ◌≢◌, ℕ, ◌-◌, ◌<◌, ◌≤◌, List, [], ◌∷◌, ◌++◌, length, true, Result, Ok, Err, refl, sym, ap, ◌∙◌, arith, subst, ◌⊎◌, inl, inr}
use Rattle.std.proofs.lemmas.List.{append_cancel_left}
use Rattle.wasm_shapes.specs.declared.Visit.{Visit}
use Rattle.wasm_shapes.specs.Tree.{Tree, normal}
use Rattle.wasm_shapes.specs.Shape.{Shape}
use Rattle.wasm_shapes.specs.Spells.{Is, Spelled, Spells}
use Rattle.wasm_shapes.specs.Place.{Begins, BeginsNone}
use Rattle.wasm_shapes.specs.Rows.{NoRows}
use Rattle.wasm_shapes.specs.Module.{body, code_row}
use Rattle.wasm_shapes.proofs.Unique.{unique}
use Rattle.wasm_shapes.proofs.Rows.{no_row, no_rows_behind}
use Rattle.wasm_read.specs.Operations.{frame_row}
use Rattle.wasm_read.proofs.FramedBodies.{code_begins, frame_of}
use Rattle.wasm_read.specs.Reading.{Standing, place_of, ReadsNone, ReadsNoneOrWants, RowRead, RowMissing}
use Rattle.wasm_leb.specs.declared.fault.Fault.{Fault}
use Rattle.wasm_leb.specs.declared.fault.Fault.TheVariants as fault
use Rattle.reencode_hooks.specs.Errors.{error_of_fault}
use Rattle.std.proofs.Math.Seq.{take-length}
use Rattle.wasm_write.specs.Bodies.{CodeRows}
use Rattle.reencode_hooks.specs.declared.error.Error.{Error}
use Rattle.reencode_hooks.specs.declared.error.Error.TheVariants.{ParseError, UserError, TooLarge, NoMemory}
use Rattle.reencode_hooks.specs.Run.{accepted, refused, ask}
use Rattle.reencode_hooks.specs.Walk.{walk}
use Rattle.reencode_core.specs.Errors.{IfParse, IfRefused, placed_at}
use Rattle.reencode_core.specs.Rows.{Asks, GivesRow, locals, StopsBody, RefusesWhole, RefusesInside, GivesRows}
use Rattle.reencode_core.proofs.rows_walked.RowsToEnd.{ManyDone, end_of_many, first_of_many, many_begun, many_more, none_of_many}
use Rattle.reencode_core.proofs.rows_walked.RowLoop.{RowsDone, rows_more, rows_unread, rows_faulty, rows_refused_if, large_is_many}
use Rattle.reencode_core.proofs.sections_walked.KnownKind.{closed_fits, closed_large}
use Rattle.reencode_core.specs.Bodies.{KeepsCode, GivesBody}

-- ---- frames and bodies

pub code_none : {bytes body' left : List ℕ} → Begins frame_row bytes (Tree.sized (Tree.raw body')) left → ((t : Tree) → Spells body body' t → ⊥) → BeginsNone code_row bytes
code_none {bytes = bytes} {body' = body'} {left = left} there none = record {
  none = λ text left' t p e.
      let f = frame_of (record { text = text; spells = p; reads = e }) in
      let same = unique there.spells.shaped f.3.spells.shaped there.text f.3.text left left' refl (inl refl) there.spells.spelled f.3.spells.spelled (sym there.reads ∙ f.3.reads) in
      let trees : Tree.sized (Tree.raw body') ≡ Tree.sized (Tree.raw f.0) = same.1 in
      let bodies : body' ≡ f.0 = cc in
      let P : List ℕ → Type 0 = λ z. Spells body z f.1 in
      none f.1 (subst P (sym bodies) f.4);
}

no_frame_no_code : {bytes : List ℕ} → BeginsNone frame_row bytes → BeginsNone code_row bytes
no_frame_no_code none = record {
  none = λ text left t p e. let f = frame_of (record { text = text; spells = p; reads = e }) in none.none f.3.text left (Tree.sized (Tree.raw f.0)) f.3.spells f.3.reads;
}

-- no rows where none begins
pub rows_missing : {row : Shape} {reader : Standing} → ((0 < reader.left) × BeginsNone row reader.rest) ⊎ ((reader.left ≡ 0) × (reader.rest ≢ [])) → RowMissing row reader
rows_missing {row = row} {reader = reader} here = record { here = here; rows = go here }
  where
    go : ((0 < reader.left) × BeginsNone row reader.rest) ⊎ ((reader.left ≡ 0) × (reader.rest ≢ [])) → NoRows row reader.left reader.rest
    go (inl h) = let some : 0 < reader.left = h.0 in no_row {n = reader.left - 1} (omega arith) h.1
    go (inr h) = no_rows_behind h.0 h.1

pub code_missing : {reader : Standing} → RowMissing frame_row reader → RowMissing code_row reader
code_missing {reader = reader} m = rows_missing (go m.here)
  where
    go : ((0 < reader.left) × BeginsNone frame_row reader.rest) ⊎ ((reader.left ≡ 0) × (reader.rest ≢ [])) → ((0 < reader.left) × BeginsNone code_row reader.rest) ⊎ ((reader.left ≡ 0) × (reader.rest ≢ []))
    go (inl h) = inl (h.0, no_frame_no_code h.1)
    go (inr h) = inr h

pub code_read : {reader reader' : Standing} {body' : List ℕ} {t : Tree} → RowRead frame_row reader (Tree.sized (Tree.raw body')) reader' → Spells body body' t → RowRead code_row reader (Tree.sized t) reader'
code_read r p = record { begins = code_begins r.begins p; counted = r.counted; len = r.len; count = r.count }

pub code_unread : {reader reader' : Standing} {body' : List ℕ} → RowRead frame_row reader (Tree.sized (Tree.raw body')) reader' → ((t : Tree) → Spells body body' t → ⊥) → RowMissing code_row reader
code_unread {reader = reader} r none = let less = r.counted in rows_missing (inl (omega arith, code_none r.begins none))

-- ---- locals and operators

-- operators that fill these bytes
abbrev pub ManyLeft : List ℕ → Tree → Type 0
ManyLeft bytes = Spells (Shape.many (Shape.op true)) bytes

-- a body is its locals and its operators
pub body_is : {bytes rest : List ℕ} {l : Tree} → Begins locals bytes l rest → (t : Tree) → Spells body bytes t → (ops : Tree) × (t ≡ Tree.pair l ops) × ManyLeft rest ops
body_is {bytes = bytes} {rest = rest} {l = l} there t p = go t p.shaped p.spelled
  where
    go : (t : Tree) → Is body t → Spelled t bytes → (ops : Tree) × (t ≡ Tree.pair l ops) × ManyLeft rest ops
    go t (Is.seq {t = v} {u = w} d d') p =
        let both_ways : there.text ++ rest ≡ p.0 ++ p.1 = sym there.reads ∙ p.2 in
        let same : (there.text ≡ p.0) × (l ≡ v) = unique there.spells.shaped d there.text p.0 rest p.1 refl (inl refl) there.spells.spelled p.3 both_ways in
        let shifted : p.0 ++ rest ≡ p.0 ++ p.1 = ap (λ (z : List ℕ). z ++ rest) (sym same.0) ∙ both_ways in
        let behind : rest ≡ p.1 = append_cancel_left p.0 rest p.1 shifted in
        let P : List ℕ → Type 0 = λ z. Spelled w z in
        (w, ap (λ (v : Tree). Tree.pair v w) (sym same.1), record { shaped = d'; spelled = subst P (sym behind) p.4 })

pub body_spelled : {bytes rest : List ℕ} {l ops : Tree} → Begins locals bytes l rest → ManyLeft rest ops → Spells body bytes (Tree.pair l ops)
body_spelled {rest = rest} there m = record { shaped = Is.seq there.spells.shaped m.shaped; spelled = (there.text, rest, there.reads, there.spells.spelled, m.spelled) }

pub no_locals : {bytes : List ℕ} → BeginsNone locals bytes → (t : Tree) → Spells body bytes t → ⊥
no_locals {bytes = bytes} none t p = go t p.shaped p.spelled
  where
    go : (t : Tree) → Is body t → Spelled t bytes → ⊥
    go t (Is.seq {t = v} d d') p = none.none p.0 p.1 v (record { shaped = d; spelled = p.3 }) p.2

-- the locals that stand there are these
pub same_locals : {bytes rest rest' : List ℕ} {l l' : Tree} → Begins locals bytes l rest → Begins locals bytes l' rest' → (l ≡ l') × (rest ≡ rest')
same_locals {rest = rest} {rest' = rest'} {l = l} {l' = l'} a b =
    let both_ways : a.text ++ rest ≡ b.text ++ rest' = sym a.reads ∙ b.reads in
    let same : (a.text ≡ b.text) × (l ≡ l') = unique a.spells.shaped b.spells.shaped a.text b.text rest rest' refl (inl refl) a.spells.spelled b.spells.spelled both_ways in
    let shifted : b.text ++ rest ≡ b.text ++ rest' = ap (λ (z : List ℕ). z ++ rest) (sym same.0) ∙ both_ways in
    (same.1, append_cancel_left b.text rest rest' shifted)

-- ---- operators one behind another

-- Operators were read and walked, and the others are read and walked from here.
abbrev pub OperatorsDone : {S E : Type 0} → Asks S E → ℕ → List ℕ → S → List ℕ → S → List Tree → Type 0
OperatorsDone asked c = ManyDone asked c (Shape.op true)

-- where an operator begins, the others stand behind it
pub many_first : {bytes left : List ℕ} {t : Tree} → Begins (Shape.op true) bytes t left → (rows : Tree) → ManyLeft bytes rows → (others : Tree) × (rows ≡ Tree.cons t others) × ManyLeft left others
many_first there = first_of_many refl refl refl there

pub no_many : {bytes : List ℕ} → BeginsNone (Shape.op true) bytes → bytes ≢ [] → (t : Tree) → ManyLeft bytes t → ⊥
no_many none some = none_of_many none some

pub many_none : (t : Tree) → ManyLeft [] t → t ≡ Tree.nil
many_none t r = end_of_many {row = Shape.op true} refl refl t r

module _ {S E : Type 0} (asked : Asks S E) (c : ℕ) where
  pub operators_begin : (start : List ℕ) (s : S) → OperatorsDone asked c start s start s []
  operators_begin start s = many_begun asked c (Shape.op true) start s

  pub operators_more : {start rest left : List ℕ} {s0 s m : S} {made : List Tree} {t v : Tree} → OperatorsDone asked c start s0 rest s made → Begins (Shape.op true) rest t left →
      walk asked c s t ≡ accepted v m → OperatorsDone asked c start s0 left m (made ++ v ∷ [])
  operators_more d there e = many_more asked c refl refl refl d there e

  -- ---- the body

  pub pair_accepted : (s m n : S) (l l' u u' : Tree) → walk asked c s l ≡ accepted l' m → walk asked c m u ≡ accepted u' n → walk asked c s (Tree.pair l u) ≡ accepted (Tree.pair l' u') n
  pair_accepted s m n l l' u u' h k = rw (h, k) refl

  pub sized_refused : (s n : S) (t : Tree) (e : Error E) → walk asked c s t ≡ refused e n → walk asked c s (Tree.sized t) ≡ refused e n
  sized_refused s n t e h = rw h refl

  pub pair_refused : (s m n : S) (l l' u : Tree) (e : Error E) → walk asked c s l ≡ accepted l' m → walk asked c m u ≡ refused e n → walk asked c s (Tree.pair l u) ≡ refused e n
  pair_refused s m n l l' u e h k = rw (h, k) refl

  pub first_refused : (s n : S) (l u : Tree) (e : Error E) → walk asked c s l ≡ refused e n → walk asked c s (Tree.pair l u) ≡ refused e n
  first_refused s n l u e h = rw h refl

  pub sized_fits : (s n : S) (t u : Tree) → walk asked c s t ≡ accepted u n → length (normal u) ≤ c → walk asked c s (Tree.sized t) ≡ accepted (Tree.sized u) n
  sized_fits s n t u h l = rw (h, closed_fits {E = E} c u n l) refl

  pub sized_large : (s n : S) (t u : Tree) → walk asked c s t ≡ accepted u n → c < length (normal u) → walk asked c s (Tree.sized t) ≡ refused (TooLarge (length (normal u))) n
  sized_large s n t u h l = rw (h, closed_large {E = E} c u n l) refl

-- ---- a body's row in a code section

-- what stands in the frame
pub in_frame : {reader reader' : Standing} {bytes : List ℕ} → RowRead frame_row reader (Tree.sized (Tree.raw bytes)) reader' → (t : Tree) (left : List ℕ) → Begins code_row reader.rest t left →
    (u : Tree) × (t ≡ Tree.sized u) × Spells body bytes u
in_frame {reader = reader} {reader' = reader'} {bytes = bytes} r t left there =
    let f = frame_of there in
    let one = unique r.begins.spells.shaped f.3.spells.shaped r.begins.text f.3.text reader'.rest left refl (inl refl) r.begins.spells.spelled f.3.spells.spelled (sym r.begins.reads ∙ f.3.reads) in
    let trees : Tree.sized (Tree.raw bytes) ≡ Tree.sized (Tree.raw f.0) = one.1 in
    let bodies : bytes ≡ f.0 = cc in
    let P : List ℕ → Type 0 = λ z. Spells body z f.1 in
    (f.1, f.2, subst P (sym bodies) f.4)

module _ {S E : Type 0} (reply : S → Visit → Result ℕ E) (next : S → Visit → S) {c : ℕ} {start reader reader' : Standing} {s0 s s' : S} {old : List Tree} {mid new : CodeRows} {bytes : List ℕ}
    (same : mid.ceiling ≡ c) (d : RowsDone (ask reply next) c code_row start s0 old reader s mid.rows) (r : RowRead frame_row reader (Tree.sized (Tree.raw bytes)) reader') where
  pub body_more : GivesBody (ask reply next) bytes (s, mid) (s', new) (Ok tt) → RowsDone (ask reply next) c code_row start s0 old reader' s' new.rows
  body_more g =
      let t = g.readable.0 in
      let q = g.reading t g.readable.1 in
      let W : ℕ → Type 0 = λ n. walk (ask reply next) n s (Tree.sized t) ≡ accepted q.0 s' in
      rows_more (ask reply next) refl refl d (code_read r g.readable.1) (subst W same q.1) q.2

  pub body_err : (e : Error E) (at : ℕ) → GivesBody (ask reply next) bytes (s, mid) (s', new) (Err e) → at ≡ place_of reader → GivesRows (ask reply next) c code_row start (s0, old) (s', new.rows) (Err (placed_at e at))
  body_err e at g place = go e g
    where
      -- where the body has a reading, its row stands whole
      inside : (e : Error E) → GivesBody (ask reply next) bytes (s, mid) (s', new) (Err e) → e ≢ NoMemory → ((t : Tree) × Spells body bytes t) ⊎ StopsBody (ask reply next) mid.ceiling bytes s e s' →
          RefusesWhole (ask reply next) c code_row reader.rest s (length mid.rows) e s' ⊎ RefusesInside (ask reply next) c code_row reader.rest s e s'
      inside e g other (inl q) =
          let here = code_begins r.begins q.1 in
          let N : ℕ → Type 0 = λ n. GivesRow (ask reply next) n (s, mid.rows) (Tree.sized q.0) (s', new.rows) (Err e) in
          let given = subst N same (g.reading q.0 q.1) in
          inl (record { tree = Tree.sized q.0; left = reader'.rest; begins = here; refusal = large_is_many (ask reply next) c s s' (Tree.sized q.0) here.text (length mid.rows) e here.spells.spelled (given.1 other) })
      inside e g other (inr q) =
          let N : ℕ → Type 0 = λ n. StopsBody (ask reply next) n bytes s e s' in
          inr (record { framed = refl; body = bytes; left = reader'.rest; begins = r.begins; stops = subst N same q })

      refuses : (e : Error E) → GivesBody (ask reply next) bytes (s, mid) (s', new) (Err e) →
          IfRefused e (RefusesWhole (ask reply next) c code_row reader.rest s (length mid.rows) e s' ⊎ RefusesInside (ask reply next) c code_row reader.rest s e s')
      refuses (UserError x) g = inside (UserError x) g (λ q. cc) g.refusal
      refuses (TooLarge x) g = inside (TooLarge x) g (λ q. cc) g.refusal
      refuses _ g = tt

      refusal : (e : Error E) → GivesBody (ask reply next) bytes (s, mid) (s', new) (Err e) → IfParse e (λ at. ⊥) → GivesRows (ask reply next) c code_row start (s0, old) (s', new.rows) (Err e)
      refusal e g usual =
          let less = r.counted in
          rows_refused_if reply next d e reader'.left (omega arith) (λ t left there.
          let f = in_frame r t left there in
          let q = g.reading f.0 f.2 in
          let P : Tree → Type 0 = λ z. GivesRow (ask reply next) c (s, mid.rows) z (s', new.rows) (Err e) in
          let N : ℕ → Type 0 = λ n. GivesRow (ask reply next) n (s, mid.rows) (Tree.sized f.0) (s', new.rows) (Err e) in
          subst P (sym f.1) (subst N same q)) (ap CodeRows.rows g.unchanged) usual (refuses e g)

      go : (e : Error E) → GivesBody (ask reply next) bytes (s, mid) (s', new) (Err e) → GivesRows (ask reply next) c code_row start (s0, old) (s', new.rows) (Err (placed_at e at))
      go (ParseError x) g = rows_faulty reply next d at (code_unread r g.unreadable.0) place (ap CodeRows.rows g.unchanged)
      go (UserError x) g = refusal (UserError x) g tt
      go (TooLarge x) g = refusal (TooLarge x) g tt
      go NoMemory g = refusal NoMemory g tt
      go _ g = absurd g.unreadable

pub keeps_code : (code : CodeRows) → KeepsCode code code
keeps_code code = record { ceiling = refl; rows = take-length code.rows }

-- no frame is there
pub frames_missing : (f : Fault) (reader : Standing) → ReadsNone f (place_of reader) (RowMissing frame_row reader) → ReadsNoneOrWants f (place_of reader) (RowMissing code_row reader)
frames_missing (fault.Read x) reader h = (h.0, code_missing h.1)
frames_missing fault.NoMemory reader h = tt
frames_missing fault.CodeSize reader h = h
frames_missing (fault.Header k) reader h = h

pub frames_unread : {S E : Type 0} (asked : Asks S E) {c : ℕ} {start reader : Standing} {s0 s : S} {old new : List Tree} (f : Fault) → RowsDone asked c code_row start s0 old reader s new →
    ReadsNone f (place_of reader) (RowMissing frame_row reader) → GivesRows asked c code_row start (s0, old) (s, new) (Err (error_of_fault f))
frames_unread asked {reader = reader} f d none = rows_unread asked f d (frames_missing f reader none)
