-- A constant expression that is mapped run by run.
use Rattle.std.proofs.Common.{◌≡◌, ◌≢◌, ◌<◌, ◌≤◌, ◌+◌, ◌-◌, ℕ, Bool, List, [], ◌∷◌, ◌++◌, length, drop, take, refl, sym, subst, ap, ◌∙◌, length-append, append_assoc, arith, true, false, Result, Ok, Err}
use Rattle.std.specs.Prelude.{IsTrue}
use Rattle.std.specs.Coded.{Coded-set, coded_ℕ, coded_list}
use Rattle.std.proofs.Math.Seq.{drop-append_seam, take-append_seam}
use Rattle.std.proofs.lemmas.List.{drop-drop, map-id}
use mathlib.Core.Logic.{∥∥₁_elim, ∥∥₁_map, ∥∥₁_prop}
use Rattle.wasm_leb.specs.declared.fault.Fault.{Fault}
use Rattle.wasm_leb.specs.declared.fault.Fault.TheVariants as fault
use Rattle.wasm_shapes.specs.declared.Opcode.{Opcode}
use Rattle.wasm_shapes.specs.declared.Visit.{Visit}
use Rattle.wasm_shapes.specs.Tree.{Tree, visits}
use Rattle.wasm_shapes.specs.Shape.{Shape}
use Rattle.wasm_shapes.specs.Spells.{Is, Spelled}
use Rattle.wasm_shapes.specs.Place.{Begins, BeginsNone}
use Rattle.wasm_shapes.specs.Types.{expression_of, rows_tree}
use Rattle.wasm_read.specs.Operations.{Reading, rest_of}
use Rattle.wasm_read.specs.Reading.{ReadsNoneOrWants}
use Rattle.wasm_read.proofs.Codes.{fewer_left}
use Rattle.wasm_write.specs.Bodies.{AreOperators, HeldOperators}
use Rattle.wasm_write.specs.Instructions.{operator_tree}
use Rattle.reencode_hooks.specs.declared.error.Error.{Error}
use Rattle.reencode_hooks.specs.Errors.{error_of_fault}
use Rattle.reencode_hooks.specs.Run.{NeverWants, Step, Visited, accepted, ask}
use Rattle.reencode_hooks.specs.Walk.{walk}
use Rattle.reencode_hooks.proofs.Leaving.{accepted_visited, never_wants, none_visited, refused_visited, second_visited}
use Rattle.reencode_items.specs.Maps.{Maps, ParsesOperator}
use Rattle.reencode_items.specs.Rows.{Asks, onto_rows}
use Rattle.reencode_items.specs.declared.direct.passing.Fresh.{Fresh}
use Rattle.reencode_items.specs.declared.direct.passing.Next.{Next}
use Rattle.reencode_items.specs.declared.direct.passing.Next.TheVariants as next
use Rattle.reencode_items.specs.Direct.{KeepsOperators, MakesOperator, PassesNext, PassesRun, StopsRun, imms_of}
use Rattle.reencode_items.proofs.Rows.{onto_onto, rows_then-both}
use Rattle.reencode_items.proofs.Runs.{run_added, run_counted}
use Rattle.reencode_items.proofs.Expressions.{Ahead, ExpressionDone, begins_there, expression_mapped, expression_step, left_there, one_ahead, refused_here}

-- ---- a run of the operators ahead

-- these operators stand in front of the others
record RunAhead (operators ahead : List Tree) (left : List ℕ) : Type 0 where
  others : List Tree
  parts : ahead ≡ operators ++ others
  onward : Ahead left others
  inside : ∥ Is (Shape.many (Shape.op false)) (rows_tree operators) ∥₁

run_ahead : (operators : List Tree) (text left rest : List ℕ) (ahead : List Tree) → Is (Shape.many (Shape.op true)) (rows_tree operators) → Spelled (rows_tree operators) text → rest ≡ text ++ left →
    0 < length left → Ahead rest ahead → RunAhead operators ahead left
run_ahead [] text left rest ahead d p e some a =
    let A : List ℕ → Type 0 = λ z. Ahead z ahead in
    record { others = ahead; parts = refl; onward = subst A (e ∙ ap (λ (z : List ℕ). z ++ left) p) a; inside = ∣ Is.nil ∣₁ }
run_ahead (t ∷ operators) text left rest ahead (Is.cons d d') p e some a =
    let there : Begins (Shape.op true) rest t (p.1 ++ left) =
    record { text = p.0; spells = record { shaped = d; spelled = p.3 }; reads = e ∙ ap (λ (z : List ℕ). z ++ left) p.2 ∙ append_assoc p.0 p.1 left } in
    let fewer : length (p.1 ++ left) < length rest = fewer_left refl there in
    let long : length (p.1 ++ left) ≡ length p.1 + length left = length-append p.1 left in
    let more : rest ≢ 0x0b ∷ [] = λ (one : rest ≡ 0x0b ∷ []). let l : length rest ≡ 1 = ap length one in absurd (omega arith) in
    let f = one_ahead ahead a more there in
    let g = run_ahead operators p.1 left (p.1 ++ left) f.0 d' p.4 refl some f.2 in
    record {
      others = g.others;
      parts = f.1 ∙ ap (λ (z : List Tree). t ∷ z) g.parts;
      onward = g.onward;
      inside = ∥∥₁_elim f.3 ∥∥₁_prop (λ i. ∥∥₁_map g.inside (λ j. Is.cons i j));
    }

visits_rows : (ts us : List Tree) → visits (rows_tree (ts ++ us)) ≡ visits (rows_tree ts) ++ visits (rows_tree us)
visits_rows [] us = refl
visits_rows (t ∷ ts) us = ap (λ z. visits t ++ z) (visits_rows ts us) ∙ sym (append_assoc (visits t) (visits (rows_tree ts)) (visits (rows_tree us)))

-- ---- the bytes in front of `end`

ends_in : (x rest : List ℕ) → rest ≡ x ++ 0x0b ∷ [] → rest ≡ take (length rest - 1) rest ++ 0x0b ∷ []
ends_in x rest e =
    let n : length rest - 1 ≡ length x = omega (arith, ap length e, length-append x (0x0b ∷ [])) in
    let front : take (length rest - 1) rest ≡ x = ap (λ (k : ℕ). take k rest) n ∙ ap (take (length x)) e ∙ take-append_seam x (0x0b ∷ []) in
    e ∙ ap (λ (z : List ℕ). z ++ 0x0b ∷ []) (sym front)

ends : {rest : List ℕ} (ahead : List Tree) → Ahead rest ahead → rest ≡ take (length rest - 1) rest ++ 0x0b ∷ []
ends {rest = rest} ahead a = ∥∥₁_elim a (Coded-set (coded_list coded_ℕ) rest (take (length rest - 1) rest ++ 0x0b ∷ [])) (λ q. ends_in q.spelled.0 rest q.spelled.1)

-- ---- a run

module _ {S E : Type 0} {asked : Asks S E} {keeps : Bool} {s0 s mid : S} {operators made : List Tree} {reader : Reading} {bytes left : List ℕ} (d : ExpressionDone asked keeps s0 operators reader s made)
    (whole : rest_of reader ≡ bytes ++ 0x0b ∷ []) (run : KeepsOperators asked s bytes left mid) where
  stands : rest_of reader ≡ run.text ++ (left ++ 0x0b ∷ [])
  stands = whole ∙ ap (λ (z : List ℕ). z ++ 0x0b ∷ []) run.reads ∙ append_assoc run.text left (0x0b ∷ [])

  more_left : 0 < length (left ++ 0x0b ∷ [])
  more_left = let long : length (left ++ 0x0b ∷ []) ≡ length left + 1 = length-append left (0x0b ∷ []) in omega arith

  ahead_of : RunAhead run.operators (drop (length made) operators) (left ++ 0x0b ∷ [])
  ahead_of = run_ahead run.operators run.text (left ++ 0x0b ∷ []) (rest_of reader) (drop (length made) operators) run.are.shaped run.are.spelled stands more_left d.ahead

  -- its bytes are operators of an expression
  abbrev held_in : {text : List ℕ} → AreOperators text run.operators → HeldOperators text
  held_in p = (run.operators, ∥∥₁_map ahead_of.inside (λ i. record { shaped = i; counted = refl; spelled = p.spelled; normally = p.normally }))

  others_at : drop (length (made ++ run.operators)) operators ≡ ahead_of.others
  others_at =
      ap (λ (n : ℕ). drop n operators) (length-append made run.operators) ∙ sym (drop-drop (length run.operators) (length made) operators) ∙ ap (drop (length run.operators)) ahead_of.parts
      ∙ drop-append_seam run.operators ahead_of.others

  run_walks : IsTrue keeps → (c : ℕ) → walk asked c s0 (rows_tree operators) ≡ onto_rows (made ++ run.operators) (walk asked c mid (rows_tree (drop (length (made ++ run.operators)) operators)))
  run_walks k c =
      let before : walk asked c s0 (rows_tree operators) ≡ onto_rows made (walk asked c s (rows_tree (drop (length made) operators))) = simp map-id at (d.done.walks k c) in
      let others = ahead_of.others in
      let here : walk asked c s (rows_tree (drop (length made) operators)) ≡ onto_rows run.operators (walk asked c mid (rows_tree others)) =
      ap (λ (z : List Tree). walk asked c s (rows_tree z)) ahead_of.parts ∙ ap (λ (z : Tree). walk asked c s z) (rows_then-both run.operators others Tree.nil) ∙ run.walks c (rows_tree others) in
      before ∙ ap (λ (r : Step S (Error E) Tree). onto_rows made r) here ∙ onto_onto made run.operators (walk asked c mid (rows_tree others))
      ∙ ap (λ (z : List Tree). onto_rows (made ++ run.operators) (walk asked c mid (rows_tree z))) (sym others_at)

  run_onward : IsTrue keeps → (m : S) → Visited asked mid (visits (rows_tree (drop (length (made ++ run.operators)) operators))) m → Visited asked s0 (visits (rows_tree operators)) m
  run_onward k m v =
      let others = ahead_of.others in
      let V : List Tree → Type 0 = λ z. Visited asked mid (visits (rows_tree z)) m in
      let both : Visited asked s (visits (rows_tree run.operators) ++ visits (rows_tree others)) m = second_visited 0 (rows_tree run.operators) (run.walks 0 Tree.nil) (subst V others_at v) in
      let W : List Tree → Type 0 = λ z. Visited asked s (visits (rows_tree z)) m in
      let here : Visited asked s (visits (rows_tree (drop (length made) operators))) m =
      subst W (sym ahead_of.parts) (rw (visits_rows run.operators others) both) in
      simp map-id at (d.done.onward k m (rw (map-id (drop (length made) operators)) here))

  -- its operators are made of themselves
  run_done : (behind : Reading) → rest_of behind ≡ left ++ 0x0b ∷ [] → ExpressionDone asked keeps s0 operators behind mid (made ++ run.operators)
  run_done behind e =
      let A : List ℕ → Type 0 = λ z. Ahead z (drop (length (made ++ run.operators)) operators) in
      let B : List Tree → Type 0 = λ z. Ahead (left ++ 0x0b ∷ []) z in
      record {
        done = record {
          counted = refl;
          walks = λ k c. simp map-id (run_walks k c);
          onward = λ k m v. rw (map-id operators) (run_onward k m (simp map-id at v));
        };
        ahead = subst A (sym e) (subst B (sym others_at) ahead_of.onward);
      }

-- ---- a run, and what is done with the operator behind it

-- a place where these bytes are left, and `end`
abbrev at_left : List ℕ → Reading
at_left left = record { bytes = left ++ 0x0b ∷ []; at = 0 }

empty_of : (xs : List ℕ) → length xs ≡ 0 → xs ≡ []
empty_of [] e = refl
empty_of (x ∷ xs) e = absurd (omega (arith, e))

-- what stands there stands there with `end` behind
with_end : {t : Tree} {bytes left : List ℕ} → Begins (Shape.op true) bytes t left → Begins (Shape.op true) (bytes ++ 0x0b ∷ []) t (left ++ 0x0b ∷ [])
with_end {left = left} b = record { text = b.text; spells = b.spells; reads = ap (λ (z : List ℕ). z ++ 0x0b ∷ []) b.reads ∙ append_assoc b.text left (0x0b ∷ []) }

more_than_end : {t : Tree} {bytes left rest : List ℕ} → Begins (Shape.op true) bytes t left → rest ≡ bytes ++ 0x0b ∷ [] → rest ≢ 0x0b ∷ []
more_than_end {bytes = bytes} {left = left} b e = λ one.
    let fewer : length left < length bytes = fewer_left refl b in
    let long : length bytes + 1 ≡ 1 = sym (length-append bytes (0x0b ∷ [])) ∙ ap length (sym e ∙ one) in
    absurd (omega arith)

module _ {S E : Type 0} (reply : S → Visit → Result ℕ E) (next_state : S → Visit → S) {keeps : Bool} {s0 s : S} {operators made : List Tree} {reader : Reading} {left : List ℕ}
    (d : ExpressionDone (ask reply next_state) keeps s0 operators reader s made) (stands_there : left ≡ rest_of reader) where
  -- `end` is left
  pub some_left : 1 ≤ length left
  some_left =
      let e : left ≡ take (length left - 1) left ++ 0x0b ∷ [] = let A : List ℕ → Type 0 = λ z. Ahead z (drop (length made) operators) in ends _ (subst A (sym stands_there) d.ahead) in
      omega (arith, ap length e, length-append (take (length left - 1) left) (0x0b ∷ []))

  cut : rest_of reader ≡ take (length left - 1) left ++ 0x0b ∷ []
  cut = let A : List ℕ → Type 0 = λ z. Ahead z (drop (length made) operators) in sym stands_there ∙ ends _ (subst A (sym stands_there) d.ahead)

  -- the next operator is refused
  module _ {m : S} {e : Error E} (p : StopsRun (ask reply next_state) s (take (length left - 1) left) e m) where
    stopped : ExpressionDone (ask reply next_state) keeps s0 operators (at_left p.left) p.mid (made ++ p.kept.operators)
    stopped = run_done d cut p.kept (at_left p.left) refl

    pub kept_refused : IsTrue keeps → Maps {B = List Tree} reply next_state s0 (expression_of operators) expression_of m (Err e)
    kept_refused k = λ c other. refused_here reply next_state k stopped (more_than_end p.stops.begins refl) c (with_end p.stops.begins) (p.stops.refuses c other)

    pub kept_left : {A : Type 0} {sure : Bool} → IsTrue keeps → IsTrue sure → NeverWants {A = A} sure (Err e) → Visited (ask reply next_state) s0 (visits (expression_of operators)) m
    kept_left k wanting never =
        left_there reply next_state k stopped (more_than_end p.stops.begins refl) (with_end p.stops.begins) (refused_visited 0 p.stops.operator (p.stops.refuses 0 (never_wants e never wanting)))

  module _ {m : S} {kept : ℕ} {y : Next} (p : PassesRun (ask reply next_state) s (take (length left - 1) left) m (record { kept = kept; next = y })) where
    -- the bytes that are added
    pub run_spelled : HeldOperators (take kept (take (length left - 1) left))
    run_spelled = held_in d cut p.kept (run_added p)

    pub run_gains : {made' : List Tree} → ((held : HeldOperators (take kept (take (length left - 1) left))) → made' ≡ made ++ held.0) → made' ≡ made ++ p.kept.operators
    unfolding run_spelled
    run_gains gains = gains run_spelled

    -- what was asked
    pub run_left_there : IsTrue keeps → Visited (ask reply next_state) s0 (visits (expression_of operators)) m
    run_left_there k = go y p.onward
      where
        go : (z : Next) → PassesNext (ask reply next_state) p.mid p.left m z → Visited (ask reply next_state) s0 (visits (expression_of operators)) m
        go (next.Made op f n) o =
            let b = o.there.begins in
            left_there reply next_state k (run_done d cut p.kept (at_left p.left) refl) (more_than_end b refl) (with_end b) (accepted_visited 0 o.there.operator (o.walks 0))
        go next.Other o = let V : S → Type 0 = λ z. Visited (ask reply next_state) s0 (visits (rows_tree operators)) z in subst V (sym o) (run_onward d cut p.kept k p.mid (none_visited p.mid _))

    -- nothing is left but `end`
    pub run_finished : {made' : List Tree} → IsTrue keeps → kept ≡ length (take (length left - 1) left) → made' ≡ made ++ p.kept.operators → (c : ℕ) →
        walk (ask reply next_state) c s0 (expression_of operators) ≡ accepted (expression_of made') m
    run_finished {made' = made'} k all pushed c =
        let long : length (take (length left - 1) left) ≡ length p.kept.text + length p.left = run_counted p.kept in
        let none : length p.left ≡ 0 = omega (arith, p.counted, all) in
        let done = expression_mapped reply next_state k (run_done d cut p.kept (at_left p.left) refl) c (ap (λ (z : List ℕ). z ++ 0x0b ∷ []) (empty_of p.left none)) in
        done ∙ ap (λ (z : List Tree). accepted (expression_of z) p.mid) (sym pushed) ∙ ap (accepted (expression_of made')) (sym (go y none p.onward))
      where
        go : (z : Next) → length p.left ≡ 0 → PassesNext (ask reply next_state) p.mid p.left m z → m ≡ p.mid
        go (next.Made op f n) none o = let fewer : length o.there.left < length p.left = fewer_left refl o.there.begins in absurd (omega (arith, none))
        go next.Other none o = o

    module _ (middle : Reading) (passed : rest_of middle ≡ drop kept (rest_of reader)) where
      behind_run : rest_of middle ≡ p.left ++ 0x0b ∷ []
      behind_run =
          let whole : rest_of reader ≡ p.kept.text ++ (p.left ++ 0x0b ∷ []) =
          cut ∙ ap (λ (z : List ℕ). z ++ 0x0b ∷ []) p.kept.reads ∙ append_assoc p.kept.text p.left (0x0b ∷ []) in
          passed ∙ ap (λ (n : ℕ). drop n (rest_of reader)) (sym p.counted) ∙ ap (drop (length p.kept.text)) whole ∙ drop-append_seam p.kept.text (p.left ++ 0x0b ∷ [])

      -- nothing was asked of the operator
      pub run_other : {made' : List Tree} → y ≡ next.Other → made' ≡ made ++ p.kept.operators → ExpressionDone (ask reply next_state) keeps s0 operators middle m made'
      run_other {made' = made'} is pushed =
          let P : Next → Type 0 = λ z. PassesNext (ask reply next_state) p.mid p.left m z in
          let same : m ≡ p.mid = subst P is p.onward in
          let D : S → Type 0 = λ z. ExpressionDone (ask reply next_state) keeps s0 operators middle z (made ++ p.kept.operators) in
          let F : List Tree → Type 0 = λ z. ExpressionDone (ask reply next_state) keeps s0 operators middle m z in
          subst F (sym pushed) (subst D (sym same) (run_done d cut p.kept middle behind_run))

      -- more than `end` is left
      pub run_more_left : (kept ≡ length (take (length left - 1) left) → ⊥) → rest_of middle ≢ 0x0b ∷ []
      run_more_left some = λ one.
          let long : length (take (length left - 1) left) ≡ length p.kept.text + length p.left = run_counted p.kept in
          let few : length p.left + 1 ≡ 1 = sym (length-append p.left (0x0b ∷ [])) ∙ ap length (sym behind_run ∙ one) in
          some (omega (arith, p.counted))

      -- the operator was made
      pub run_made : {made' made2 : List Tree} {behind : Reading} (op : Opcode) (f : Fresh) (n : ℕ) → y ≡ next.Made op f n → made' ≡ made ++ p.kept.operators →
          made2 ≡ made' ++ operator_tree op (imms_of f) ∷ [] → rest_of behind ≡ drop n (rest_of middle) → ExpressionDone (ask reply next_state) keeps s0 operators behind m made2
      run_made {behind = behind} op f n is pushed more on =
          let P : Next → Type 0 = λ z. PassesNext (ask reply next_state) p.mid p.left m z in
          let o : MakesOperator (ask reply next_state) p.mid p.left n op (imms_of f) m = subst P is p.onward in
          let b = o.there.begins in
          let R : List ℕ → Type 0 = λ z. Begins (Shape.op true) z o.there.operator (o.there.left ++ 0x0b ∷ []) in
          let whole : rest_of middle ≡ b.text ++ (o.there.left ++ 0x0b ∷ []) = behind_run ∙ ap (λ (z : List ℕ). z ++ 0x0b ∷ []) b.reads ∙ append_assoc b.text o.there.left (0x0b ∷ []) in
          let left_behind : rest_of behind ≡ o.there.left ++ 0x0b ∷ [] =
          on ∙ ap (λ (k : ℕ). drop k (rest_of middle)) (sym o.there.counted) ∙ ap (drop (length b.text)) whole ∙ drop-append_seam b.text (o.there.left ++ 0x0b ∷ []) in
          expression_step (run_done d cut p.kept middle behind_run) (more_than_end b behind_run) (subst R (sym behind_run) (with_end b)) left_behind (operator_tree op (imms_of f)) (λ _ c. o.walks c)
          (more ∙ ap (λ (z : List Tree). z ++ operator_tree op (imms_of f) ∷ []) pushed)

-- ---- an operator that is read and mapped

-- it was mapped, and the reader stands behind it
pub mapped_there : {S E B : Type 0} (reply : S → Visit → Result ℕ E) (next_state : S → Visit → S) {s m : S} {reader : Reading} (behind : Reading) {operator : Tree} → Begins (Shape.op true) (rest_of reader) operator (rest_of behind) →
    (view : B → Tree) (b : B) → Maps reply next_state s operator view m (Ok b) → ParsesOperator reply next_state s reader view m behind (Ok b)
mapped_there reply next_state behind {operator = operator} begins view b maps = record { operator = operator; rest = rest_of behind; begins = begins; maps = maps; behind_it = refl }

module _ {S E : Type 0} (reply : S → Visit → Result ℕ E) (next_state : S → Visit → S) {keeps : Bool} {s0 s : S} {operators made : List Tree} {reader : Reading} (k : IsTrue keeps)
    (d : ExpressionDone (ask reply next_state) keeps s0 operators reader s made) (more : rest_of reader ≢ 0x0b ∷ []) where
  -- one begins there
  pub read_there : (f : Fault) (at : ℕ) → ReadsNoneOrWants f at (BeginsNone (Shape.op true) (rest_of reader)) → {m : S} → Maps {B = List Tree} reply next_state s0 (expression_of operators) expression_of m (Err (error_of_fault f))
  read_there (fault.Read e) at h = absurd (begins_there reply next_state k d more h.1)
  read_there fault.NoMemory at h = λ c other. absurd (other refl)
  read_there fault.CodeSize at h = absurd h
  read_there (fault.Header x) at h = absurd h

  module _ {operator : Tree} {left : List ℕ} {m : S} (begins : Begins (Shape.op true) (rest_of reader) operator left) where
    pub operator_refused : {B : Type 0} (view : B → Tree) (e : Error E) → Maps reply next_state s operator view m (Err e) → Maps {B = List Tree} reply next_state s0 (expression_of operators) expression_of m (Err e)
    operator_refused view e gives = λ c other. refused_here reply next_state k d more c begins (gives c other)

    pub operator_left : {B : Type 0} (view : B → Tree) (b : B) → Maps reply next_state s operator view m (Ok b) → Visited (ask reply next_state) s0 (visits (expression_of operators)) m
    operator_left view b gives = left_there reply next_state k d more begins (accepted_visited 0 operator (gives 0))
