-- The laws of drawn visits.
use Rattle.std.proofs.Common.{◌≡◌, ◌+◌, ℕ, zero, suc, List, [], ◌∷◌, ◌++◌, Contains, refl, sym, ap, ◌∙◌, subst, append_assoc, append-nil, arith, Option, Some, None}
use Rattle.std.proofs.lemmas.List.Elements.{All-nil, All-cons, All-append, All-contains, All-contains_itself, All-weaker, Contains-append_left}
use Rattle.wasm_shapes.specs.declared.SectionId.{SectionId}
use Rattle.wasm_shapes.specs.declared.Visit.{Visit}
use Rattle.wasm_shapes.specs.declared.Visit.TheVariants.{Index, Outer, Section, Closed, Push, Pop}
use Rattle.wasm_shapes.specs.Tree.{Tree, visits}
use Rattle.wasm_shapes.specs.Shape.{Shape}
use Rattle.wasm_shapes.specs.Spells.{Spells}
use Rattle.wasm_shapes.specs.Place.{Begins}
use Rattle.wasm_shapes.specs.Drawn as statements
use Rattle.wasm_shapes.specs.Drawn.{IsItem, OfItem, IsDrawn, Drawn}
use Rattle.wasm_shapes.specs.Scopes.{open_behind}
use Rattle.wasm_shapes.proofs.Scopes.{bracketed}

-- ---- the scopes that are open

-- the same with more scopes open before
open_more : (k i j : ℕ) (vs : List Visit) → open_behind i vs ≡ Some j → open_behind (i + k) vs ≡ Some (j + k)
open_more k i j [] h = let e : i ≡ j = cc in ap (λ (z : ℕ). Some (z + k)) e
open_more k i j (Index s n ∷ vs) h = open_more k i j vs h
open_more k i j (Outer s c n ∷ vs) h = open_more k i j vs h
open_more k i j (Section after before ∷ vs) h = open_more k i j vs h
open_more k i j (Closed kind ∷ vs) h = open_more k i j vs h
open_more k i j (Push ∷ vs) h = let e : suc (i + k) ≡ suc i + k = omega arith in rw e (open_more k (suc i) j vs h)
open_more k zero j (Pop ∷ vs) h = absurd cc
open_more k (suc i) j (Pop ∷ vs) h = let e : suc i + k ≡ suc (i + k) = omega arith in rw e (open_more k i j vs h)

-- what is open behind two lists
pub open_joined : (i j : ℕ) (vs ws : List Visit) → open_behind i vs ≡ Some j → open_behind i (vs ++ ws) ≡ open_behind j ws
open_joined i j [] ws h = let e : i ≡ j = cc in ap (λ (z : ℕ). open_behind z ws) e
open_joined i j (Index s n ∷ vs) ws h = open_joined i j vs ws h
open_joined i j (Outer s c n ∷ vs) ws h = open_joined i j vs ws h
open_joined i j (Section after before ∷ vs) ws h = open_joined i j vs ws h
open_joined i j (Closed kind ∷ vs) ws h = open_joined i j vs ws h
open_joined i j (Push ∷ vs) ws h = open_joined (suc i) j vs ws h
open_joined zero j (Pop ∷ vs) ws h = absurd cc
open_joined (suc i) j (Pop ∷ vs) ws h = open_joined i j vs ws h

open_part : (i j : ℕ) (vs ws : List Visit) → open_behind i (vs ++ ws) ≡ Some j → (k : ℕ) × (open_behind i vs ≡ Some k)
open_part i j [] ws h = (i, refl)
open_part i j (Index s n ∷ vs) ws h = open_part i j vs ws h
open_part i j (Outer s c n ∷ vs) ws h = open_part i j vs ws h
open_part i j (Section after before ∷ vs) ws h = open_part i j vs ws h
open_part i j (Closed kind ∷ vs) ws h = open_part i j vs ws h
open_part i j (Push ∷ vs) ws h = open_part (suc i) j vs ws h
open_part zero j (Pop ∷ vs) ws h = absurd cc
open_part (suc i) j (Pop ∷ vs) ws h = open_part i j vs ws h

-- ---- a stretch, and the whole

of_whole : (before text behind : List ℕ) {v : Visit} → OfItem text v → OfItem (before ++ (text ++ behind)) v
of_whole before text behind o = record {
  item = o.item;
  is_item = o.is_item;
  before = before ++ o.before;
  text = o.text;
  behind = o.behind ++ behind;
  stands =
      let inner : text ++ behind ≡ o.before ++ (o.text ++ (o.behind ++ behind)) =
      ap (λ (z : List ℕ). z ++ behind) o.stands ∙ append_assoc o.before (o.text ++ o.behind) behind ∙ ap (λ (z : List ℕ). o.before ++ z) (append_assoc o.text o.behind behind) in
      ap (λ (z : List ℕ). before ++ z) inner ∙ sym (append_assoc before o.before (o.text ++ (o.behind ++ behind)));
  tree = o.tree;
  spells = o.spells;
  among = o.among;
}

is_whole : (before text behind : List ℕ) (v : Visit) → IsDrawn text v → IsDrawn (before ++ (text ++ behind)) v
is_whole before text behind (Index s i) d = of_whole before text behind d
is_whole before text behind (Outer s c i) d = of_whole before text behind d
is_whole before text behind _ d = tt

pub drawn_from_whole : statements.IsDrawnFromWhole
drawn_from_whole before text behind vs d =
    record { each = All-weaker (IsDrawn text) (IsDrawn (before ++ (text ++ behind))) (is_whole before text behind) vs d.each; opened = d.opened }

pub drawn_joined : statements.IsDrawnJoined
drawn_joined bytes vs ws p q =
    let k = p.opened.0 in
    let more : k ≡ 0 + k = omega arith in
    record {
      each = All-append (IsDrawn bytes) vs ws p.each q.each;
      opened = (q.opened.0 + k, open_joined 0 k vs ws p.opened.1 ∙ ap (λ (z : ℕ). open_behind z ws) more ∙ open_more k 0 q.opened.0 ws q.opened.1);
    }

-- ---- what is drawn

pub drawn_none : {bytes : List ℕ} → Drawn bytes []
drawn_none {bytes = bytes} = record { each = All-nil (IsDrawn bytes); opened = (0, refl) }

-- the section hook's
pub drawn_hook : {bytes : List ℕ} {after before : Option SectionId} → Drawn bytes (Section after before ∷ [])
drawn_hook {bytes = bytes} {after = after} {before = before} = record { each = All-cons (IsDrawn bytes) (Section after before) [] tt (All-nil (IsDrawn bytes)); opened = (0, refl) }

-- the closing hook's
pub drawn_closing : {bytes : List ℕ} {kind : SectionId} → Drawn bytes (Closed kind ∷ [])
drawn_closing {bytes = bytes} {kind = kind} = record { each = All-cons (IsDrawn bytes) (Closed kind) [] tt (All-nil (IsDrawn bytes)); opened = (0, refl) }

-- a scope is opened
pub drawn_push : {bytes : List ℕ} → Drawn bytes (Push ∷ [])
drawn_push {bytes = bytes} = record { each = All-cons (IsDrawn bytes) Push [] tt (All-nil (IsDrawn bytes)); opened = (1, refl) }

-- the visits of a tree in a scope
pub drawn_scope : {bytes : List ℕ} (t : Tree) → Drawn bytes (visits t) → Drawn bytes (Push ∷ visits t ++ Pop ∷ [])
drawn_scope {bytes = bytes} t d = record {
  each = All-cons (IsDrawn bytes) Push (visits t ++ Pop ∷ []) tt (All-append (IsDrawn bytes) (visits t) (Pop ∷ []) d.each (All-cons (IsDrawn bytes) Pop [] tt (All-nil (IsDrawn bytes))));
  opened = (0, bracketed.closed (Tree.scope t));
}

-- a part of a list
pub drawn_part : {bytes : List ℕ} (vs ws : List Visit) → Drawn bytes (vs ++ ws) → Drawn bytes vs
drawn_part {bytes = bytes} vs ws d = record {
  each = All-weaker (Contains vs) (IsDrawn bytes) (λ v c. All-contains (IsDrawn bytes) (vs ++ ws) v d.each (Contains-append_left vs ws v c)) vs (All-contains_itself vs);
  opened = open_part 0 d.opened.0 vs ws d.opened.1;
}

-- bytes in two parts
pub drawn_front : {bytes : List ℕ} {vs : List Visit} (text rest : List ℕ) → bytes ≡ text ++ rest → Drawn text vs → Drawn bytes vs
drawn_front {vs = vs} text rest e d = let P : List ℕ → Type 0 = λ z. Drawn z vs in subst P (sym e) (drawn_from_whole [] text rest vs d)

pub drawn_behind : {bytes : List ℕ} {vs : List Visit} (text rest : List ℕ) → bytes ≡ text ++ rest → Drawn rest vs → Drawn bytes vs
drawn_behind {vs = vs} text rest e d =
    let P : List ℕ → Type 0 = λ z. Drawn z vs in
    let Q : List ℕ → Type 0 = λ z. Drawn (text ++ z) vs in
    subst P (sym e) (subst Q (append-nil rest) (drawn_from_whole text rest [] vs d))

-- the visits of an item
of_text : {s : Shape} {text : List ℕ} {t : Tree} → IsItem s → Spells s text t → (v : Visit) → Contains (visits t) v → OfItem text v
of_text {s = s} {text = text} {t = t} i p v c =
    record { item = s; is_item = i; before = []; text = text; behind = []; stands = sym (append-nil text); tree = t; spells = p; among = c }

is_of_text : {s : Shape} {text : List ℕ} {t : Tree} → IsItem s → Spells s text t → (v : Visit) → Contains (visits t) v → IsDrawn text v
is_of_text i p (Index s j) c = of_text i p (Index s j) c
is_of_text i p (Outer s k j) c = of_text i p (Outer s k j) c
is_of_text i p _ c = tt

pub drawn_item : {s : Shape} {text : List ℕ} {t : Tree} → IsItem s → Spells s text t → Drawn text (visits t)
drawn_item {text = text} {t = t} i p =
    record { each = All-weaker (Contains (visits t)) (IsDrawn text) (is_of_text i p) (visits t) (All-contains_itself (visits t)); opened = (0, bracketed.closed t) }

pub drawn_begun : {s : Shape} {bytes left : List ℕ} {t : Tree} → IsItem s → Begins s bytes t left → Drawn bytes (visits t)
drawn_begun {left = left} i there = drawn_front there.text left there.reads (drawn_item i there.spells)
