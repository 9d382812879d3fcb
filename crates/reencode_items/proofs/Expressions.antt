-- The walk over the operators of an expression, as far as a loop over them has come.
use Rattle.std.proofs.Common.{◌≡◌, ◌≢◌, ◌<◌, ◌≤◌, ℕ, ◌+◌, Bool, true, false, ◌&&◌, nat_eq, List, [], ◌∷◌, ◌++◌, length, drop, get_or, Result, Ok, Err, refl, sym, subst, ap, ◌∙◌, length-append, append_assoc, arith, inl, inr, ◌⊎◌}
use Rattle.std.specs.Prelude.{IsTrue}
use Rattle.std.specs.Coded.{Coded-set}
use Rattle.std.proofs.lemmas.List.{append_cancel_left, length-drop, map-id}
use mathlib.Core.Logic.{∥∥₁_elim, ∥∥₁_prop}
use Rattle.wasm_shapes.specs.declared.Visit.{Visit}
use Rattle.wasm_shapes.specs.declared.Opcode.{Opcode}
use Rattle.wasm_shapes.specs.Operators.{Code, plain, code_from, code_of}
use Rattle.wasm_shapes.specs.Tree.{Tree, visits}
use Rattle.wasm_shapes.specs.TreeCode.{trees_code}
use Rattle.wasm_shapes.specs.Shape.{Shape, Named}
use Rattle.wasm_shapes.specs.Spells.{Is, Spelled}
use Rattle.wasm_shapes.specs.Place.{Begins, BeginsNone}
use Rattle.wasm_shapes.specs.Types.{rows_tree, expression_of}
use Rattle.wasm_shapes.proofs.Begins.{none_at_end}
use Rattle.wasm_shapes.proofs.Expressions.{no_end, outer_is}
use Rattle.wasm_shapes.proofs.Lists.{both}
use Rattle.std.proofs.lemmas.Bool.{eqb-true}
use Rattle.wasm_shapes.proofs.Unique.{unique}
use Rattle.wasm_read.specs.Expressions.{SpellsExpression}
use Rattle.wasm_read.specs.Operations.{Reading, rest_of}
use Rattle.reencode_hooks.specs.declared.error.Error.{Error}
use Rattle.reencode_hooks.specs.declared.error.Error.TheVariants.{CanonicalizedHeapTypeReference, InvalidConstExpr, InvalidCodeSectionSize, UnexpectedNonCoreModuleSection, UnexpectedNonComponentSection, UnsupportedCoreTypeInComponent, ParseError, UserError, TooLarge, NoMemory}
use Rattle.reencode_hooks.specs.Run.{Step, accepted, refused, and_then, ask, Visited}
use Rattle.reencode_hooks.specs.Walk.{walk}
use Rattle.reencode_hooks.proofs.Leaving.{accepted_visited, none_visited}
use Rattle.reencode_items.specs.Maps.{Maps, MapsOperator, ParsesOperator, VisitedOperator}
use Rattle.reencode_items.proofs.Loops.{ItemsDone, drop_at, items_begin, items_leave, items_more, rows_accept, rows_refuse}

-- ---- what is spelled up to `end`

-- these operators are spelled there, and `end` behind them
abbrev pub Ahead : List ℕ → List Tree → Type 0
Ahead rest operators = ∥ SpellsExpression rest (expression_of operators) ∥₁

no_lie : (a b : ⊥) → a ≡ b
no_lie a b = absurd a

inner : {t : Tree} → Is (Shape.ref Named.expression) t → Is (Shape.until 0x0b (Shape.op false)) t
inner (Is.ref d) = d

-- no operators, and nothing but `end`
none_spelled : {rest : List ℕ} → SpellsExpression rest (expression_of []) → rest ≡ 0x0b ∷ []
none_spelled p = let s = p.spelled in s.1 ∙ ap (λ (z : List ℕ). z ++ 0x0b ∷ []) s.2

-- the first operator, in front of the others
record First (rest left : List ℕ) (operator t : Tree) (others : List Tree) : Type 0 where
  same : operator ≡ t
  inside : Is (Shape.op false) operator
  behind : SpellsExpression left (expression_of others)

first : {rest left : List ℕ} {operator t : Tree} {others : List Tree} → SpellsExpression rest (expression_of (t ∷ others)) → Begins (Shape.op true) rest operator left → First rest left operator t others
first {rest = rest} {left = left} {operator = operator} {t = t} {others = others} p there = go (inner p.shaped) p.spelled
  where
    go : Is (Shape.until 0x0b (Shape.op false)) (expression_of (t ∷ others)) → Spelled (expression_of (t ∷ others)) rest → First rest left operator t others
    go (Is.until (Is.cons d d')) s =
        let q = s.2 in
        let tail : List ℕ = q.1 ++ (0x0b ∷ []) in
        let whole : rest ≡ q.0 ++ tail = s.1 ∙ ap (λ (z : List ℕ). z ++ (0x0b ∷ [])) q.2 ∙ append_assoc q.0 q.1 (0x0b ∷ []) in
        let both_ways : there.text ++ left ≡ q.0 ++ tail = sym there.reads ∙ whole in
        let one : (there.text ≡ q.0) × (operator ≡ t) = unique there.spells.shaped (outer_is d) there.text q.0 left tail refl (inl refl) there.spells.spelled q.3 both_ways in
        let shifted : q.0 ++ left ≡ q.0 ++ tail = ap (λ (z : List ℕ). z ++ left) (sym one.0) ∙ both_ways in
        let I : Tree → Type 0 = λ z. Is (Shape.op false) z in
        record {
          same = one.1;
          inside = subst I (sym one.1) d;
          behind = record { shaped = Is.ref (Is.until d'); spelled = (q.1, append_cancel_left q.0 left tail shifted, q.4) };
        }

-- the first of the operators ahead
pub one_ahead : {rest left : List ℕ} {t : Tree} (ahead : List Tree) → Ahead rest ahead → rest ≢ 0x0b ∷ [] → Begins (Shape.op true) rest t left →
    (others : List Tree) × (ahead ≡ t ∷ others) × Ahead left others × ∥ Is (Shape.op false) t ∥₁
one_ahead [] p more there = absurd (∥∥₁_elim p no_lie (λ q. more (none_spelled q)))
one_ahead {t = t} (u ∷ us) p more there = (
  us,
  ∥∥₁_elim p (Coded-set trees_code (u ∷ us) (t ∷ us)) (λ q. ap (λ (z : Tree). z ∷ us) (sym (first q there).same)),
  ∥∥₁_elim p ∥∥₁_prop (λ q. ∣ (first q there).behind ∣₁),
  ∥∥₁_elim p ∥∥₁_prop (λ q. ∣ (first q there).inside ∣₁),
)

-- where `end` alone is left no operator stands before it
some_spelled : (t : Tree) (others : List Tree) → SpellsExpression (0x0b ∷ []) (expression_of (t ∷ others)) → ⊥
some_spelled t others p = go (inner p.shaped) p.spelled
  where
    nothing : (y : List ℕ) → 0x0b ∷ [] ≡ y ++ (0x0b ∷ []) → [] ≡ y
    nothing [] e = refl
    nothing (x ∷ xs) e = let l : 1 ≡ length ((x ∷ xs) ++ (0x0b ∷ [])) = ap length e in let m = length-append (x ∷ xs) (0x0b ∷ []) in absurd (omega arith)

    go : Is (Shape.until 0x0b (Shape.op false)) (expression_of (t ∷ others)) → Spelled (expression_of (t ∷ others)) (0x0b ∷ []) → ⊥
    go (Is.until (Is.cons d d')) s =
        let q = s.2 in
        let none : BeginsNone (Shape.op true) [] = none_at_end refl in
        none.none q.0 q.1 t (record { shaped = outer_is d; spelled = q.3 }) (nothing s.0 s.1 ∙ q.2)

-- ---- a list at a place

inside : {A : Type 0} (xs : List A) (i : ℕ) {t : A} {ts : List A} → drop i xs ≡ t ∷ ts → i < length xs
inside xs i e = let l = length-drop i xs in let m = ap length e in omega arith

passed : {A : Type 0} (xs : List A) (i : ℕ) → drop i xs ≡ [] → length xs ≤ i
passed xs i e = let l = length-drop i xs in let m = ap length e in omega arith

-- ---- a loop over operators

-- The operators so far are mapped, and the others, with `end` behind them, are left in the reader.
pub record ExpressionDone {S E : Type 0} (asked : S → Visit → Step S (Error E) ℕ) (keeps : Bool) (s0 : S) (operators : List Tree) (reader : Reading) (s : S) (made : List Tree) : Type 0 where
  pub done : ItemsDone asked keeps (λ t. t) (λ t. t) s0 operators (length made) s made
  pub ahead : Ahead (rest_of reader) (drop (length made) operators)

pub expression_begins : {S E : Type 0} {asked : S → Visit → Step S (Error E) ℕ} {keeps : Bool} {s : S} {operators made : List Tree} {bytes : List ℕ} {reader : Reading} →
    reader ≡ record { bytes = bytes; at = 0 } → Ahead bytes operators → made ≡ [] → ExpressionDone asked keeps s operators reader s made
expression_begins {asked = asked} {keeps = keeps} {s = s} {operators = operators} {reader = reader} stands ahead none =
    let P : List Tree → Type 0 = λ z. ExpressionDone asked keeps s operators reader s z in
    let A : Reading → Type 0 = λ z. Ahead (rest_of z) operators in
    subst P (sym none) (record { done = items_begin s operators; ahead = subst A (sym stands) ahead })

-- the next operator is the one that begins in the reader
pub record Next (operators : List Tree) (place : ℕ) (operator : Tree) (left : List ℕ) : Type 0 where
  pub within : place < length operators
  pub at : get_or operators place Tree.nil ≡ operator
  pub ahead : Ahead left (drop (place + 1) operators)
  pub no_end : (c : Code) (u : Tree) → operator ≡ Tree.op c u → c ≢ plain 0x0b

next : {operators : List Tree} {place : ℕ} {rest left : List ℕ} {operator : Tree} → Ahead rest (drop place operators) → rest ≢ 0x0b ∷ [] → Begins (Shape.op true) rest operator left →
    Next operators place operator left
next {operators = operators} {place = place} {rest = rest} {left = left} {operator = operator} ahead more there = go (drop place operators) refl ahead
  where
    go : (ts : List Tree) → drop place operators ≡ ts → Ahead rest ts → Next operators place operator left
    go [] e p = absurd (∥∥₁_elim p no_lie (λ q. more (none_spelled q)))
    go (t ∷ ts) e p =
        let here : drop place operators ≡ get_or operators place Tree.nil ∷ drop (place + 1) operators = drop_at operators operators place Tree.nil refl (inside operators place e) in
        let whole : t ∷ ts ≡ operator ∷ ts = ∥∥₁_elim p (Coded-set trees_code (t ∷ ts) (operator ∷ ts)) (λ q. ap (λ (z : Tree). z ∷ ts) (sym (first q there).same)) in
        let parts : get_or operators place Tree.nil ∷ drop (place + 1) operators ≡ operator ∷ ts = sym here ∙ e ∙ whole in
        let others : drop (place + 1) operators ≡ ts = cc in
        let A : List Tree → Type 0 = λ z. Ahead left z in
        record {
          within = inside operators place e;
          at = cc;
          ahead = subst A (sym others) (∥∥₁_elim p ∥∥₁_prop (λ q. ∣ (first q there).behind ∣₁));
          no_end = λ c u is at_end. ∥∥₁_elim p no_lie (λ q. ended c u is at_end (first q there).inside);
        }
      where
        ended : (c : Code) (u : Tree) → operator ≡ Tree.op c u → c ≡ plain 0x0b → Is (Shape.op false) operator → ⊥
        ended c u is at_end d = let I : Tree → Type 0 = λ z. Is (Shape.op false) z in open_up (subst I is d)
          where
            open_up : Is (Shape.op false) (Tree.op c u) → ⊥
            open_up (Is.op k d') = no_end d' at_end

module _ {S E : Type 0} (asked : S → Visit → Step S (Error E) ℕ) (c : ℕ) (s : S) (t : Tree) where
  until_accepted : {m : S} {u : Tree} → walk asked c s t ≡ accepted u m → walk asked c s (Tree.until 0x0b t) ≡ accepted (Tree.until 0x0b u) m
  until_accepted h = rw h refl

  until_refused : {m : S} {e : Error E} → walk asked c s t ≡ refused e m → walk asked c s (Tree.until 0x0b t) ≡ refused e m
  until_refused h = rw h refl

-- an operator becomes one with the same number
module _ {S E : Type 0} (k' : Code) (v : Tree) (m : S) where
  same_code : (k : Code) (r : Step S (Error E) Tree) → and_then r (λ u n. accepted (Tree.op k u) n) ≡ accepted (Tree.op k' v) m → k ≡ k'
  same_code k (accepted u n) e = cc
  same_code k (refused x n) e = absurd cc

-- one operator more
pub expression_step : {S E : Type 0} {asked : S → Visit → Step S (Error E) ℕ} {keeps : Bool} {s0 s m : S} {operators made made' : List Tree} {reader behind : Reading} {operator : Tree} {left : List ℕ} →
    ExpressionDone asked keeps s0 operators reader s made → rest_of reader ≢ 0x0b ∷ [] → Begins (Shape.op true) (rest_of reader) operator left → rest_of behind ≡ left → (t : Tree) →
    (IsTrue keeps → (c : ℕ) → walk asked c s operator ≡ accepted t m) → made' ≡ made ++ t ∷ [] → ExpressionDone asked keeps s0 operators behind m made'
expression_step {asked = asked} {keeps = keeps} {s0 = s0} {s = s} {m = m} {operators = operators} {made = made} {made' = made'} {behind = behind} d more there behind_it t maps pushed =
    let n = next d.ahead more there in
    let long : length made' ≡ length made + 1 = ap length pushed ∙ length-append made (t ∷ []) in
    let step : IsTrue keeps → (c : ℕ) → walk asked c s (get_or operators (length made) Tree.nil) ≡ accepted t m =
    λ k c. let V : Tree → Type 0 = λ z. walk asked c s z ≡ accepted t m in subst V (sym n.at) (maps k c) in
    let D : ℕ → Type 0 = λ z. ItemsDone asked keeps (λ t. t) (λ t. t) s0 operators z m made' in
    let A : ℕ → Type 0 = λ z. Ahead (rest_of behind) (drop z operators) in
    let R : List ℕ → Type 0 = λ z. Ahead z (drop (length made + 1) operators) in
    record {
      done = subst D (sym long) (items_more Tree.nil d.done refl n.within step pushed);
      ahead = subst A (sym long) (subst R (sym behind_it) n.ahead);
    }

is_operator : {operator : Tree} → Is (Shape.op true) operator → (c : Code) × (u : Tree) × (operator ≡ Tree.op c u)
is_operator (Is.op {c = c} {t = u} k d) = (c, u, refl)

module _ {S E : Type 0} (reply : S → Visit → Result ℕ E) (next_state : S → Visit → S) {keeps : Bool} {s0 s : S} {operators made : List Tree} {reader : Reading}
    (k : IsTrue keeps) (d : ExpressionDone (ask reply next_state) keeps s0 operators reader s made) where
  -- ---- nothing but `end` is left

  pub expression_mapped : (c : ℕ) → rest_of reader ≡ 0x0b ∷ [] → walk (ask reply next_state) c s0 (expression_of operators) ≡ accepted (expression_of made) s
  expression_mapped c ends =
      let A : List ℕ → Type 0 = λ z. Ahead z (drop (length made) operators) in
      let all : length operators ≤ length made = passed operators (length made) (go (drop (length made) operators) (subst A ends d.ahead)) in
      let W : List Tree → Type 0 = λ z. walk (ask reply next_state) c s0 (rows_tree z) ≡ accepted (rows_tree made) s in
      until_accepted (ask reply next_state) c s0 (rows_tree operators) (subst W (map-id operators) (rows_accept c d.done refl all k ∙ ap (λ (z : List Tree). accepted (rows_tree z) s) (map-id made)))
    where
      go : (ts : List Tree) → Ahead (0x0b ∷ []) ts → ts ≡ []
      go [] p = refl
      go (t ∷ ts) p = absurd (∥∥₁_elim p no_lie (λ q. some_spelled t ts q))

  -- ---- more is left
  module _ (more : rest_of reader ≢ 0x0b ∷ []) where
    here : {operator : Tree} {left : List ℕ} → Begins (Shape.op true) (rest_of reader) operator left → Next operators (length made) operator left
    here there = next d.ahead more there

    pub expression_more : {B : Type 0} {m : S} {behind : Reading} {made' : List Tree} (view : B → Tree) (b : B) →
        ParsesOperator reply next_state s reader view m behind (Ok b) → made' ≡ made ++ view b ∷ [] → ExpressionDone (ask reply next_state) keeps s0 operators behind m made'
    expression_more {m = m} {behind = behind} {made' = made'} view b p pushed =
        expression_step d more p.begins p.behind_it (view b) (λ _ c. p.maps c) pushed

    -- no `end` is made of it
    pub no_end_made : {B : Type 0} {m : S} {behind : Reading} (view : B → Tree) (b : B) (c : Code) (u : Tree) →
        ParsesOperator reply next_state s reader view m behind (Ok b) → view b ≡ Tree.op c u → c ≢ plain 0x0b
    no_end_made {m = m} view b c u p is at_end =
        let o = is_operator p.begins.spells.shaped in
        let W : Tree → Type 0 = λ z. walk (ask reply next_state) 0 s z ≡ accepted (view b) m in
        let walked : walk (ask reply next_state) 0 s (Tree.op o.0 o.1) ≡ accepted (Tree.op c u) m = subst W o.2 (p.maps 0) ∙ ap (λ (z : Tree). accepted z m) is in
        (here p.begins).no_end o.0 o.1 o.2 (same_code c u m o.0 (walk (ask reply next_state) 0 s o.1) walked ∙ at_end)

    -- `end` at least is left behind it
    pub end_behind : {B : Type 0} {m : S} {behind : Reading} (view : B → Tree) (b : B) → ParsesOperator reply next_state s reader view m behind (Ok b) → rest_of behind ≢ []
    end_behind view b p empty =
        let n = here p.begins in
        let R : List ℕ → Type 0 = λ z. Ahead z (drop (length made + 1) operators) in
        ∥∥₁_elim (subst R (sym p.behind_it ∙ empty) n.ahead) no_lie (λ q. let s = q.spelled in
        let e : 0 ≡ length (s.0 ++ (0x0b ∷ [])) = ap length s.1 in let l = length-append s.0 (0x0b ∷ []) in omega arith)

    pub refused_here : {m : S} {operator : Tree} {left : List ℕ} {e : Error E} (c : ℕ) → Begins (Shape.op true) (rest_of reader) operator left → walk (ask reply next_state) c s operator ≡ refused e m →
        walk (ask reply next_state) c s0 (expression_of operators) ≡ refused e m
    refused_here {m = m} {e = e} c there stops =
        let n = here there in
        let V : Tree → Type 0 = λ z. walk (ask reply next_state) c s z ≡ refused e m in
        let W : List Tree → Type 0 = λ z. walk (ask reply next_state) c s0 (rows_tree z) ≡ refused e m in
        until_refused (ask reply next_state) c s0 (rows_tree operators) (subst W (map-id operators) (rows_refuse Tree.nil c d.done refl n.within k (subst V (sym n.at) stops)))

    -- an operator begins there
    pub begins_there : BeginsNone (Shape.op true) (rest_of reader) → ⊥
    begins_there none = go (drop (length made) operators) d.ahead
      where
        stands : (t : Tree) (ts : List Tree) → SpellsExpression (rest_of reader) (expression_of (t ∷ ts)) → ⊥
        stands t ts p = at (inner p.shaped) p.spelled
          where
            at : Is (Shape.until 0x0b (Shape.op false)) (expression_of (t ∷ ts)) → Spelled (expression_of (t ∷ ts)) (rest_of reader) → ⊥
            at (Is.until (Is.cons h h')) s =
                let q = s.2 in
                none.none q.0 (q.1 ++ (0x0b ∷ [])) t (record { shaped = outer_is h; spelled = q.3 })
                (s.1 ∙ ap (λ (z : List ℕ). z ++ (0x0b ∷ [])) q.2 ∙ append_assoc q.0 q.1 (0x0b ∷ []))

        go : (ts : List Tree) → Ahead (rest_of reader) ts → ⊥
        go [] p = ∥∥₁_elim p no_lie (λ q. more (none_spelled q))
        go (t ∷ ts) p = ∥∥₁_elim p no_lie (λ q. stands t ts q)

    pub expression_refused : {B : Type 0} {m : S} (behind : Reading) (view : B → Tree) (e : Error E) → ParsesOperator reply next_state s reader view m behind (Err e) →
        Maps {B = List Tree} reply next_state s0 (expression_of operators) expression_of m (Err e)
    expression_refused {B = B} {m = m} behind view e p = go e p
      where
        by : (e : Error E) → MapsOperator {B = B} reply next_state s reader view m behind (Err e) → Maps {B = List Tree} reply next_state s0 (expression_of operators) expression_of m (Err e)
        by e q = λ c other. refused_here c q.begins (q.maps c other)

        go : (e : Error E) → ParsesOperator {B = B} reply next_state s reader view m behind (Err e) → Maps {B = List Tree} reply next_state s0 (expression_of operators) expression_of m (Err e)
        go (ParseError at) p = absurd (begins_there p.1)
        go NoMemory p = λ c other. absurd (other refl)
        go CanonicalizedHeapTypeReference p = by CanonicalizedHeapTypeReference p
        go InvalidConstExpr p = by InvalidConstExpr p
        go InvalidCodeSectionSize p = by InvalidCodeSectionSize p
        go UnexpectedNonCoreModuleSection p = by UnexpectedNonCoreModuleSection p
        go UnexpectedNonComponentSection p = by UnexpectedNonComponentSection p
        go UnsupportedCoreTypeInComponent p = by UnsupportedCoreTypeInComponent p
        go (UserError x) p = by (UserError x) p
        go (TooLarge size) p = by (TooLarge size) p

    pub left_there : {m : S} {operator : Tree} {left : List ℕ} → Begins (Shape.op true) (rest_of reader) operator left → Visited (ask reply next_state) s (visits operator) m →
        Visited (ask reply next_state) s0 (visits (expression_of operators)) m
    left_there {m = m} there v =
        let n = here there in
        let V : Tree → Type 0 = λ z. Visited (ask reply next_state) s (visits z) m in
        let W : List Tree → Type 0 = λ z. Visited (ask reply next_state) s0 (visits (rows_tree z)) m in
        subst W (map-id operators) (items_leave Tree.nil d.done refl n.within k (subst V (sym n.at) v))

    pub expression_left : {m : S} → (m ≡ s) ⊎ VisitedOperator (ask reply next_state) s reader m → Visited (ask reply next_state) s0 (visits (expression_of operators)) m
    expression_left (inr v) = left_there v.begins v.visited
    expression_left (inl same) =
        let W : List Tree → Type 0 = λ z. Visited (ask reply next_state) s0 (visits (rows_tree z)) s in
        let V : S → Type 0 = λ z. Visited (ask reply next_state) s0 (visits (rows_tree operators)) z in
        subst V (sym same) (subst W (map-id operators) (d.done.onward k s (none_visited s _)))

    -- what was asked of it stays asked where it is not added
    pub expression_visited : {B : Type 0} {m : S} {behind : Reading} (view : B → Tree) (b : B) → ParsesOperator reply next_state s reader view m behind (Ok b) →
        Visited (ask reply next_state) s0 (visits (expression_of operators)) m
    expression_visited view b p = left_there p.begins (accepted_visited 0 p.operator (p.maps 0))

-- ---- what a test says

pub some_more : (b : Bool) (xs : List ℕ) → (IsTrue b → xs ≡ 0x0b ∷ []) × (xs ≡ 0x0b ∷ [] → IsTrue b) → b ≡ false → xs ≢ 0x0b ∷ []
some_more b xs p e x = let yes : b ≡ true = p.1 x in absurd cc

pub no_more : (b : Bool) (xs : List ℕ) → (IsTrue b → xs ≡ 0x0b ∷ []) × (xs ≡ 0x0b ∷ [] → IsTrue b) → b ≡ true → xs ≡ 0x0b ∷ []
no_more b xs p e = p.0 e

pub none_behind : (b : Bool) (xs : List ℕ) → (IsTrue b → xs ≡ []) × (xs ≡ [] → IsTrue b) → b ≡ true → xs ≡ []
none_behind b xs p e = p.0 e

pub is_end : (o : Opcode) → true ≡ (nat_eq o.prefix 0 && nat_eq o.sub 0x0b) → code_of o ≡ plain 0x0b
is_end o h =
    let parts = both (nat_eq o.prefix 0) (nat_eq o.sub 0x0b) (sym h) in
    ap (λ (z : ℕ). code_from z o.sub) (eqb-true o.prefix 0 parts.0) ∙ ap plain (eqb-true o.sub 0x0b parts.1)
