-- The visits that were made when a function body is at fault, or a part of it is refused.
use Rattle.std.proofs.Common.{◌≡◌, ◌≢◌, ◌<◌, ℕ, List, [], ◌∷◌, ◌++◌, map, true, None, Result, Err, refl, sym, ap, ◌∙◌, append_assoc, arith, subst, ◌⊎◌, inl, inr}
use Rattle.std.proofs.lemmas.List.{map-append}
use Rattle.wasm_shapes.specs.declared.SectionId.TheVariants as id
use Rattle.wasm_shapes.specs.declared.Visit.{Visit}
use Rattle.wasm_shapes.specs.Drawn.{Drawn, IsItem}
use Rattle.wasm_shapes.specs.Tree.{Tree, visits}
use Rattle.wasm_shapes.specs.Shape.{Shape}
use Rattle.wasm_shapes.specs.Spells.{Is, Spelled, Spells}
use Rattle.wasm_shapes.specs.Place.{Begins, BeginsNone}
use Rattle.wasm_shapes.specs.Rows.{RowsLeft}
use Rattle.wasm_shapes.specs.Types.{rows_tree}
use Rattle.wasm_shapes.specs.Module.{body, code_row}
use Rattle.wasm_shapes.proofs.Unique.{unique}
use Rattle.wasm_shapes.proofs.Drawn.{drawn_behind, drawn_begun, drawn_front, drawn_joined, drawn_none}
use Rattle.wasm_read.specs.Operations.{Reading, rest_of, frame_row}
use Rattle.wasm_read.specs.Reading.{Standing, RowRead}
use Rattle.reencode_hooks.specs.declared.error.Error.{Error}
use Rattle.reencode_hooks.specs.declared.error.Error.TheVariants.{NoMemory, TooLarge, UserError, ParseError, CanonicalizedHeapTypeReference, InvalidConstExpr, InvalidCodeSectionSize, UnexpectedNonCoreModuleSection, UnexpectedNonComponentSection, UnsupportedCoreTypeInComponent}
use Rattle.reencode_hooks.specs.Run.{accepted, refused, ask}
use Rattle.reencode_hooks.specs.Walk.{walk}
use Rattle.reencode_hooks.proofs.Walks.{walk_is_run}
use Rattle.reencode_items.specs.Maps.{LeavesOperator, MapsOperator, ParsesOperator}
use Rattle.reencode_core.specs.Errors.{placed_at}
use Rattle.reencode_core.specs.Leaves.{BodyUpTo, EndsBy, IsFront, Leaves, MadeUpTo, TellsFault, body_in, locals_in, rows_in}
use Rattle.reencode_core.specs.Rows.{Asks, RowsBefore, locals}
use Rattle.reencode_core.proofs.bodies.BodyLoop.{ManyLeft, OperatorsDone, body_is, in_frame, many_first, same_locals}
use Rattle.reencode_core.proofs.rows_walked.TypeGroup.{ItemsDone}
use Rattle.reencode_core.proofs.after_error.VisitsMade.{PartMade, Unasked, drawn_made, ended_behind, ended_placed, front_first, front_none, front_same, front_then, part_first, part_same, part_then, refused_made, tells_none, tells_placed, tree_made, wants_made, wants_tells_none}
use Rattle.reencode_core.proofs.faults.WalkRefusals.{stops_usual, usual_walk}
use Rattle.reencode_core.proofs.rows_walked.RowLoop.{RowsDone, first_of}
use Rattle.reencode_core.proofs.after_error.RowsVisited.{RowsAhead, drawn_rows, drawn_then, rows_ahead, rows_leave, visits_behind, visits_more}

-- ---- items one behind another

module _ {S E : Type 0} {asked : Asks S E} where
  -- the next item was asked in part
  pub items_made : {A B : Type 0} {read : A → Tree} {write : B → Tree} {s0 s m : S} {e : Error E} {made : List B} (done rest items : List A) (x : A) → ItemsDone asked read write s0 done s made →
      done ++ x ∷ rest ≡ items → PartMade asked s (visits (read x)) e m → PartMade asked s0 (visits (rows_tree (map read items))) e m
  items_made {A = A} {read = read} {s0 = s0} {m = m} {e = e} done rest items x d parts p =
      let behind : List Tree = map read rest in
      let here : visits (rows_tree (map read (done ++ x ∷ rest))) ≡ visits (rows_tree (map read done)) ++ (visits (read x) ++ visits (rows_tree behind)) =
      ap (λ (ts : List Tree). visits (rows_tree ts)) (map-append read done (x ∷ rest)) ∙ visits_more (map read done) (read x) behind in
      let P : List A → Type 0 = λ z. PartMade asked s0 (visits (rows_tree (map read z))) e m in
      subst P parts (part_same asked (sym here) (part_then asked 0 (rows_tree (map read done)) (d.walks 0 Tree.nil) (part_first asked (visits (rows_tree behind)) p)))

  -- all items were accepted
  pub items_made_all : {A B : Type 0} {read : A → Tree} {write : B → Tree} {s0 s : S} {made : List B} (e : Error E) (done items : List A) → ItemsDone asked read write s0 done s made → done ≡ items →
      Unasked e → PartMade asked s0 (visits (rows_tree (map read items))) e s
  items_made_all {A = A} {read = read} {s0 = s0} {s = s} e done items d same u =
      let P : List A → Type 0 = λ z. PartMade asked s0 (visits (rows_tree (map read z))) e s in
      subst P same (tree_made asked 0 e (rows_tree (map read done)) u (d.walks 0 Tree.nil))

-- ---- locals

pub drawn_locals : {bytes rest : List ℕ} {l : Tree} → Begins locals bytes l rest → Drawn bytes (visits l)
drawn_locals {bytes = bytes} {rest = rest} {l = l} there = drawn_front there.text rest there.reads (go l there.text there.spells.shaped there.spells.spelled)
  where
    go : (l : Tree) (x : List ℕ) → Is locals l → Spelled l x → Drawn x (visits l)
    go l x (Is.vec {t = t} d) s = drawn_behind s.0 s.1 s.2 (drawn_rows IsItem.local t s.1 d s.4)

module _ {S E : Type 0} (asked : Asks S E) {s : S} {bytes : List ℕ} where
  -- nothing was asked
  pub locals_leave_none : (e : Error E) → EndsBy asked s [] e s → Leaves asked (locals_in bytes) s e s
  locals_leave_none e ended = record {
    made = [];
    ended = ended;
    drawn = drawn_none;
    reading = λ t r. front_none (visits t);
    fault = λ none t rest f. let P : Tree → Type 0 = λ z. MadeUpTo e [] (visits z) rest in subst P (sym f.1) (inr ([], refl, drawn_none));
  }

  -- they stand there and were asked in part
  pub locals_leave : {m : S} {rest : List ℕ} {l : Tree} (e : Error E) → Begins locals bytes l rest → PartMade asked s (visits l) e m → Leaves asked (locals_in bytes) s e m
  locals_leave {rest = rest} {l = l} e there p = record {
    made = p.part;
    ended = p.ended;
    drawn = drawn_made p.front (drawn_locals there);
    reading = λ t r. front_same (ap visits (same_locals there r.1).0) p.front;
    fault = λ none t rest' f. absurd (none l (rest, there));
  }

-- ---- a body

module _ {S E : Type 0} {asked : Asks S E} {bytes start rest : List ℕ} {l l' : Tree} {s0 m s : S} {ops : List Tree} (begins : Begins locals bytes l start)
    (walked : walk asked 0 s0 l ≡ accepted l' m) (d : OperatorsDone asked 0 start m rest s ops) where
  -- these visits were made behind the operators so far
  body_leaves : {n : S} (e : Error E) (mid : List Visit) → EndsBy asked s mid e n → Drawn rest mid → ((others : Tree) → ManyLeft rest others → IsFront mid (visits others)) →
      ((t : Tree) (left : List ℕ) → Begins (Shape.op true) rest t left → (¬ TellsFault e) × IsFront mid (visits t)) → Leaves asked (body_in bytes) s0 e n
  body_leaves {n = n} e mid ended drawn whole next = record {
    made = visits l ++ (read ++ mid);
    ended = ended_behind asked e (visits l) (read ++ mid) ((walk_is_run asked).forth 0 s0 m l l' walked).ran
        (ended_behind asked e read mid ((walk_is_run asked).forth 0 m s (rows_tree d.read) (rows_tree ops) (d.accepts Tree.nil)).ran ended);
    drawn = drawn_joined bytes (visits l) (read ++ mid) (drawn_locals begins) (drawn_behind begins.text start begins.reads (drawn_then IsItem.operator d.before drawn));
    reading = λ t p.
        let b = body_is begins t p in
        let k = d.back b.0 b.2 in
        let are : visits t ≡ visits l ++ (read ++ visits k.0) = ap visits b.1 ∙ ap (λ (z : Tree). visits l ++ visits z) k.1 ∙ ap (λ (z : List Visit). visits l ++ z) (visits_behind d.read k.0) in
        front_same (sym are) (front_then (visits l) (front_then read (whole k.0 k.2)));
    fault = λ none t rest' f. up_to t rest' f;
  }
    where
      read : List Visit
      read = visits (rows_tree d.read)

      up_to : (t : Tree) (rest' : List ℕ) → BodyUpTo bytes t rest' → MadeUpTo e (visits l ++ (read ++ mid)) (visits t) rest'
      up_to t rest' (BodyUpTo.no_locals none) = absurd (none.none begins.text start l begins.spells begins.reads)
      up_to t rest' (BodyUpTo.behind v start' operators r there front none some) =
          let one = same_locals there begins in
          let P : List ℕ → Type 0 = λ z. RowsBefore (Shape.op true) z operators rest' in
          let Q : Tree → Type 0 = λ z. MadeUpTo e (visits l ++ (read ++ mid)) (visits (Tree.pair z (rows_tree operators))) rest' in
          subst Q (sym one.0) (go operators (rows_ahead refl refl d.before (subst P one.1 front) (λ h. none)))
        where
          go : (operators : List Tree) → RowsAhead (Shape.op true) d.read rest operators rest' → MadeUpTo e (visits l ++ (read ++ mid)) (visits l ++ visits (rows_tree operators)) rest'
          go operators (RowsAhead.same p q) =
              let P : List ℕ → Type 0 = λ z. Drawn z mid in
              let are : visits l ++ visits (rows_tree operators) ≡ visits l ++ read = ap (λ (z : List Tree). visits l ++ visits (rows_tree z)) p in
              inr (mid, sym (append_assoc (visits l) read mid) ∙ ap (λ (z : List Visit). z ++ mid) (sym are), subst P (sym q) drawn)
          go operators (RowsAhead.more u others left p b) =
              let n = next u left b in
              let are : visits l ++ visits (rows_tree operators) ≡ visits l ++ (read ++ (visits u ++ visits (rows_tree others))) =
              ap (λ (z : List Tree). visits l ++ visits (rows_tree z)) p ∙ ap (λ (z : List Visit). visits l ++ z) (visits_more d.read u others) in
              inl (n.0, front_same (sym are) (front_then (visits l) (front_then read (front_first (visits (rows_tree others)) n.1))))

  -- no further operator was asked
  pub body_leaves_none : (e : Error E) → EndsBy asked s [] e s → (BeginsNone (Shape.op true) rest ⊎ ¬ TellsFault e) → Leaves asked (body_in bytes) s0 e s
  body_leaves_none e ended why = body_leaves e [] ended drawn_none (λ others all. front_none (visits others)) (λ t left there. (known why t left there, front_none (visits t)))
    where
      known : BeginsNone (Shape.op true) rest ⊎ ¬ TellsFault e → (t : Tree) (left : List ℕ) → Begins (Shape.op true) rest t left → ¬ TellsFault e
      known (inl none) t left there = absurd (none.none there.text left t there.spells there.reads)
      known (inr h) t left there = h

  -- the next operator was asked in part
  pub body_leaves_next : {n : S} {operator : Tree} {left : List ℕ} (e : Error E) → Begins (Shape.op true) rest operator left → PartMade asked s (visits operator) e n → ¬ TellsFault e →
      Leaves asked (body_in bytes) s0 e n
  body_leaves_next {operator = operator} {left = left} e there p tells =
      body_leaves e p.part p.ended (drawn_made p.front (drawn_begun IsItem.operator there)) whole next
    where
      whole : (others : Tree) → ManyLeft rest others → IsFront p.part (visits others)
      whole others all = let f = many_first there others all in front_same (sym (ap visits f.1)) (front_first (visits f.0) p.front)

      next : (u : Tree) (left' : List ℕ) → Begins (Shape.op true) rest u left' → (¬ TellsFault e) × IsFront p.part (visits u)
      next u left' b =
          let one = unique there.spells.shaped b.spells.shaped there.text b.text left left' refl (inl refl) there.spells.spelled b.spells.spelled (sym there.reads ∙ b.reads) in
          (tells, front_same (ap visits one.1) p.front)

-- the locals of a body were asked in part, or none begin there
pub body_leaves_locals : {S E : Type 0} {asked : Asks S E} {s m : S} {bytes : List ℕ} (e : Error E) → (TellsFault e → BeginsNone locals bytes) → Leaves asked (locals_in bytes) s e m →
    Leaves asked (body_in bytes) s e m
body_leaves_locals {bytes = bytes} e tells l = record {
  made = l.made;
  ended = l.ended;
  drawn = l.drawn;
  reading = λ t p. go t p.shaped p.spelled;
  fault = λ none t rest f. up_to t rest f;
}
  where
    go : (t : Tree) → Is body t → Spelled t bytes → IsFront l.made (visits t)
    go t (Is.seq {t = v} {u = u} d d') q = front_first (visits u) (l.reading v (q.1, record { text = q.0; spells = record { shaped = d; spelled = q.3 }; reads = q.2 }))

    up_to : (t : Tree) (rest : List ℕ) → BodyUpTo bytes t rest → MadeUpTo e l.made (visits t) rest
    up_to t rest (BodyUpTo.no_locals none) =
        l.fault (λ u r. none.none r.1.text r.0 u r.1.spells r.1.reads) Tree.nil bytes (none, refl, refl)
    up_to t rest (BodyUpTo.behind v start operators r there front none some) =
        inl ((λ h. (tells h).none there.text start v there.spells there.reads), front_first (visits (rows_tree operators)) (l.reading v (start, there)))

-- what the call that reads and maps the next operator left
module _ {S E : Type 0} (reply : S → Visit → Result ℕ E) (next : S → Visit → S) {bytes start rest : List ℕ} {l l' : Tree} {s0 m s : S} {ops : List Tree} (begins : Begins locals bytes l start)
    (walked : walk (ask reply next) 0 s0 l ≡ accepted l' m) (d : OperatorsDone (ask reply next) 0 start m rest s ops) where
  -- an operator that stands there was refused
  pub body_leaves_refused : {n : S} {operator : Tree} {left : List ℕ} (e : Error E) → Begins (Shape.op true) rest operator left → walk (ask reply next) 0 s operator ≡ refused e n →
      Leaves (ask reply next) (body_in bytes) s0 e n
  body_leaves_refused {n = n} {operator = operator} e there h =
      let usual = stops_usual (λ at. ⊥) (walk (ask reply next) 0 s operator) e n (usual_walk reply next 0 None s operator there.text there.spells.spelled) (λ other. h) in
      body_leaves_next begins walked d e there (refused_made reply next 0 operator e h) (tells_none e usual)

  pub body_leaves_operator : {B : Type 0} (view : B → Tree) (reader behind : Reading) {n : S} (e : Error E) → rest ≡ rest_of reader → ParsesOperator {B = B} reply next s reader view n behind (Err e) →
      (e ≡ NoMemory → LeavesOperator {B = B} (ask reply next) s reader n (Err e)) → Leaves (ask reply next) (body_in bytes) s0 e n
  body_leaves_operator {B = B} view reader behind {n = n} e is_rest parses leaves = go e parses leaves
    where
      at_rest : {t : Tree} {left : List ℕ} → Begins (Shape.op true) (rest_of reader) t left → Begins (Shape.op true) rest t left
      at_rest {t = t} {left = left} b = let P : List ℕ → Type 0 = λ z. Begins (Shape.op true) z t left in subst P (sym is_rest) b

      mapped : (e : Error E) → e ≢ NoMemory → MapsOperator {B = B} reply next s reader view n behind (Err e) → Leaves (ask reply next) (body_in bytes) s0 e n
      mapped e other q = body_leaves_refused e (at_rest q.begins) (q.maps 0 other)

      go : (e : Error E) → ParsesOperator {B = B} reply next s reader view n behind (Err e) → (e ≡ NoMemory → LeavesOperator {B = B} (ask reply next) s reader n (Err e)) → Leaves (ask reply next) (body_in bytes) s0 e n
      go (ParseError x) q w =
          let P : List ℕ → Type 0 = λ z. BeginsNone (Shape.op true) z in
          let Q : S → Type 0 = λ z. Leaves (ask reply next) (body_in bytes) s0 (ParseError x) z in
          subst Q (sym q.2) (body_leaves_none begins walked d (ParseError x) (record { by = ([], refl) }) (inl (subst P (sym is_rest) q.1)))
      go NoMemory q w = by (w refl)
        where
          by : LeavesOperator {B = B} (ask reply next) s reader n (Err NoMemory) → Leaves (ask reply next) (body_in bytes) s0 NoMemory n
          by (inl e) = let Q : S → Type 0 = λ z. Leaves (ask reply next) (body_in bytes) s0 NoMemory z in subst Q (sym e) (body_leaves_none begins walked d NoMemory (record { by = refl }) (inr (wants_tells_none E)))
          by (inr v) = body_leaves_next begins walked d NoMemory (at_rest v.begins) (wants_made (ask reply next) v.visited) (wants_tells_none E)
      go (UserError x) q w = mapped (UserError x) (λ c. cc) q
      go (TooLarge x) q w = mapped (TooLarge x) (λ c. cc) q
      go CanonicalizedHeapTypeReference q w = mapped CanonicalizedHeapTypeReference (λ c. cc) q
      go InvalidConstExpr q w = mapped InvalidConstExpr (λ c. cc) q
      go InvalidCodeSectionSize q w = mapped InvalidCodeSectionSize (λ c. cc) q
      go UnexpectedNonCoreModuleSection q w = mapped UnexpectedNonCoreModuleSection (λ c. cc) q
      go UnexpectedNonComponentSection q w = mapped UnexpectedNonComponentSection (λ c. cc) q
      go UnsupportedCoreTypeInComponent q w = mapped UnsupportedCoreTypeInComponent (λ c. cc) q

-- ---- a code section

-- the body in the next frame was asked in part
pub code_leaves_next : {S E : Type 0} {asked : Asks S E} {c : ℕ} {start reader reader' : Standing} {s0 s m : S} {old new : List Tree} {bytes : List ℕ} →
    RowsDone asked c code_row start s0 old reader s new → RowRead frame_row reader (Tree.sized (Tree.raw bytes)) reader' → (e : Error E) (at : ℕ) → ((t : Tree) → Spells body bytes t → ¬ TellsFault e) →
    Leaves asked (body_in bytes) s e m → Leaves asked (rows_in code_row start) s0 (placed_at e at) m
code_leaves_next {reader = reader} {reader' = reader'} {bytes = bytes} d r e at tells l =
    rows_leave d (IsItem.row id.Code) refl refl (placed_at e at) l.made (ended_placed e at l.ended) drawn whole next
  where
    drawn : Drawn reader.rest l.made
    drawn =
        let p = r.begins.spells.spelled in
        let P : List ℕ → Type 0 = λ z. Drawn z l.made in
        drawn_front r.begins.text reader'.rest r.begins.reads (drawn_behind p.0 p.1 p.2 (subst P (sym p.4) l.drawn))

    whole : (others : Tree) → RowsLeft code_row reader.left reader.rest others → IsFront l.made (visits others)
    whole others all =
        let less = r.counted in
        let f = first_of {n = reader'.left} others (omega arith) all in
        let g = in_frame r f.0 f.2 f.4 in
        front_same (sym (ap visits f.3 ∙ ap (λ (z : Tree). visits z ++ visits f.1) g.1)) (front_first (visits f.1) (l.reading g.0 g.2))

    next : (t : Tree) (left : List ℕ) → 0 < reader.left → Begins code_row reader.rest t left → (¬ TellsFault (placed_at e at)) × IsFront l.made (visits t)
    next t left due there =
        let g = in_frame r t left there in
        ((λ h. tells g.0 g.2 (tells_placed e at h)), front_same (sym (ap visits g.1)) (l.reading g.0 g.2))
