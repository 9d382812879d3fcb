-- The walks over operators and their immediates.
use Rattle.std.proofs.Common.{◌≡◌, ℕ, ◌+◌, Bool, true, List, [], ◌∷◌, ◌++◌, length, Option, Some, None, Result, Ok, Err, refl, sym, ap, ◌∙◌, subst, append_assoc, append-nil, arith}
use Rattle.std.specs.Prelude.{map, IsTrue, IsSome}
use Rattle.std.proofs.lemmas.List.{map-append}
use Rattle.wasm_shapes.specs.declared.Visit.{Visit}
use Rattle.wasm_shapes.specs.declared.ImmKind.{ImmKind}
use Rattle.wasm_shapes.specs.declared.Opcode.{Opcode}
use Rattle.wasm_shapes.specs.Operators.{Code, kinds_of}
use Rattle.wasm_shapes.specs.Immediates.{AreOfRow, HasKinds}
use Rattle.wasm_shapes.specs.Tree.{Tree, visits}
use Rattle.wasm_leb.specs.declared.fault.ReadError.{ReadError}
use Rattle.wasm_shapes.specs.Shape.{Shape}
use Rattle.wasm_shapes.specs.Place.{Begins}
use Rattle.wasm_read.specs.Operations.{Reading, rest_of}
use Rattle.reencode_items.specs.Maps.{Maps, MapsOperator, ParsesOperator}
use Rattle.wasm_read.specs.Immediates.{Imm as ReadImm}
use Rattle.wasm_read.specs.Immediates as read
use Rattle.wasm_write.specs.Instructions.{Imm as WrittenImm}
use Rattle.wasm_write.specs.Instructions as write
use Rattle.reencode_hooks.specs.declared.error.Error.{Error}
use Rattle.reencode_hooks.specs.declared.error.Error.TheVariants.{CanonicalizedHeapTypeReference, InvalidConstExpr, InvalidCodeSectionSize, UnexpectedNonCoreModuleSection, UnexpectedNonComponentSection, UnsupportedCoreTypeInComponent, ParseError, UserError, TooLarge, NoMemory}
use Rattle.reencode_hooks.specs.Run.{Step, accepted, refused, and_then, ask, answered, Visited}
use Rattle.reencode_hooks.specs.Walk.{walk}
use Rattle.reencode_hooks.specs.Moments.{Moment, asks, closes, lost, Ends}
use Rattle.reencode_hooks.proofs.Walks.{walk_stops}
use Rattle.reencode_hooks.proofs.Leaving.{first_visited, second_visited}

-- ---- the kinds of a row

-- each of these immediates has a kind
abbrev pub AllKinds : List ReadImm → Type 0
AllKinds [] = Unit {0}
AllKinds (m ∷ ms) = IsSome (read.imm_kind m) × AllKinds ms

all_some : (ks : List ImmKind) (ms : List ReadImm) → map read.imm_kind ms ≡ map Some ks → AllKinds ms
all_some ks [] f = tt
all_some [] (m ∷ ms) f = absurd cc
all_some (k ∷ ks) (m ∷ ms) f =
    let first : read.imm_kind m ≡ Some k = cc in
    let others : map read.imm_kind ms ≡ map Some ks = cc in
    (rw first refl, all_some ks ms others)

-- the immediates of an operator have kinds
pub operator_kinds : (op : Opcode) (ms : List ReadImm) → HasKinds op (map read.imm_kind ms) → AllKinds ms
operator_kinds op ms f = go (kinds_of op) f
  where
    go : (o : Option (List ImmKind)) → AreOfRow o (map read.imm_kind ms) → AllKinds ms
    go (Some ks) f = all_some ks ms f
    go None f = absurd f

-- ---- immediates one behind another

-- immediates, and others behind them
abbrev pairs_then : List Tree → Tree → Tree
pairs_then [] others = others
pairs_then (t ∷ ts) others = Tree.pair t (pairs_then ts others)

abbrev onto_pairs : {S E : Type 0} → List Tree → Step S E Tree → Step S E Tree
onto_pairs ts step = and_then step (λ u m. accepted (pairs_then ts u) m)

-- Of the immediates of an operator those in front were mapped one by one, each to one of its kind, and so many are left, which
-- have kinds too. Where the defaults are kept, the first were walked, to what is made so far and this state, and the rest is
-- walked from here.
pub record ImmsDone {S E : Type 0} (asked : S → Visit → Step S (Error E) ℕ) (keeps : Bool) (s0 : S) (imms gone rest : List ReadImm) (count : ℕ)
    (s : S) (made : List WrittenImm) : Type 0 where
  pub parts : gone ++ rest ≡ imms
  pub counted : count ≡ length rest
  pub all_have : AllKinds rest
  pub kinds : map write.imm_kind made ≡ map read.imm_kind gone
  pub walks : IsTrue keeps → (c : ℕ) → walk asked c s0 (read.imms_tree imms) ≡ onto_pairs (map write.imm_tree made) (walk asked c s (read.imms_tree rest))
  -- what was asked of the rest was asked behind the first
  pub onward : IsTrue keeps → (m : S) → Visited asked s (visits (read.imms_tree rest)) m → Visited asked s0 (visits (read.imms_tree imms)) m

onto_nothing : {S E : Type 0} (step : Step S E Tree) → step ≡ onto_pairs [] step
onto_nothing (accepted u m) = refl
onto_nothing (refused e m) = refl

pairs_then-append : (ts : List Tree) (t u : Tree) → pairs_then (ts ++ t ∷ []) u ≡ pairs_then ts (Tree.pair t u)
pairs_then-append [] t u = refl
pairs_then-append (x ∷ ts) t u = ap (λ (z : Tree). Tree.pair x z) (pairs_then-append ts t u)

one_onto : {S E : Type 0} (made : List WrittenImm) (b : WrittenImm) (step : Step S E Tree) →
    onto_pairs (map write.imm_tree made) (and_then step (λ u m. accepted (Tree.pair (write.imm_tree b) u) m)) ≡ onto_pairs (map write.imm_tree (made ++ b ∷ [])) step
one_onto made b (accepted u m) =
    ap (λ (t : Tree). accepted t m)
    (sym (pairs_then-append (map write.imm_tree made) (write.imm_tree b) u) ∙ ap (λ (ts : List Tree). pairs_then ts u) (sym (map-append write.imm_tree made (b ∷ []))))
one_onto made b (refused e m) = refl

imms_are : (made : List WrittenImm) → pairs_then (map write.imm_tree made) Tree.empty ≡ write.imms_tree made
imms_are [] = refl
imms_are (m ∷ ms) = ap (λ (z : Tree). Tree.pair (write.imm_tree m) z) (imms_are ms)

none_left : {A : Type 0} (l : List A) → 0 ≡ length l → l ≡ []
none_left [] h = refl
none_left (x ∷ xs) h = absurd (omega arith)

module _ {S E : Type 0} {asked : S → Visit → Step S (Error E) ℕ} {keeps : Bool} where
  pub imms_begin : {imms rest : List ReadImm} {count : ℕ} {made : List WrittenImm} (s : S) →
      AllKinds imms → rest ≡ imms → count ≡ length rest → made ≡ [] → ImmsDone asked keeps s imms [] rest count s made
  imms_begin {imms} s have all many none = record {
    parts = all;
    counted = many;
    all_have = rw all have;
    kinds = rw none refl;
    walks = λ k c. rw (all, none) (onto_nothing (walk asked c s (read.imms_tree imms)));
    onward = λ k m v. let P : List ReadImm → Type 0 = λ z. Visited asked s (visits (read.imms_tree z)) m in subst P all v;
  }

  module _ {s0 s : S} {imms gone rest others : List ReadImm} {count : ℕ} {made : List WrittenImm} (x : ReadImm)
      (done : ImmsDone asked keeps s0 imms gone rest count s made) (next : rest ≡ x ∷ others) where
    pub next_has : IsSome (read.imm_kind x)
    next_has = (subst AllKinds next done.all_have).0

    pub imms_more : {m : S} {more : List WrittenImm} {n : ℕ} (b : WrittenImm) → count ≡ n + 1 → write.imm_kind b ≡ read.imm_kind x →
        (IsTrue keeps → (c : ℕ) → walk asked c s (read.imm_tree x) ≡ accepted (write.imm_tree b) m) → more ≡ made ++ b ∷ [] →
        ImmsDone asked keeps s0 imms (gone ++ x ∷ []) others n m more
    imms_more {m = m} b fewer kind step pushed = record {
      parts = append_assoc gone (x ∷ []) others ∙ rw (← next) done.parts;
      counted = let many = done.counted in let short = ap length next in omega arith;
      all_have = (subst AllKinds next done.all_have).1;
      kinds = rw (pushed, map-append write.imm_kind made (b ∷ []), map-append read.imm_kind gone (x ∷ [])) (rw (done.kinds, kind) refl);
      walks = λ k c.
          let tail : Step S (Error E) Tree = walk asked c m (read.imms_tree others) in
          let first : walk asked c s (Tree.pair (read.imm_tree x) (read.imms_tree others)) ≡ and_then tail (λ u n. accepted (Tree.pair (write.imm_tree b) u) n) = rw (step k c) refl in
          done.walks k c ∙ rw (next, pushed) (ap (λ (r : Step S (Error E) Tree). onto_pairs (map write.imm_tree made) r) first ∙ one_onto made b tail);
      onward = λ k n v.
          let P : List ReadImm → Type 0 = λ z. Visited asked s (visits (read.imms_tree z)) n in
          done.onward k n (subst P (sym next) (second_visited 0 (read.imm_tree x) (step k 0) v));
    }

    -- the next was asked in part
    pub imms_leave : {m : S} → IsTrue keeps → Visited asked s (visits (read.imm_tree x)) m → Visited asked s0 (visits (read.imms_tree imms)) m
    imms_leave {m = m} k v =
        let P : List ReadImm → Type 0 = λ z. Visited asked s (visits (read.imms_tree z)) m in
        done.onward k m (subst P (sym next) (first_visited (visits (read.imms_tree others)) v))

    -- the operator with these immediates is refused where the next is
    pub operator_refused : {m : S} {e : Error E} (code : Code) (c : ℕ) → IsTrue keeps → walk asked c s (read.imm_tree x) ≡ refused e m →
        walk asked c s0 (Tree.op code (read.imms_tree imms)) ≡ refused e m
    operator_refused {m = m} {e = err} code c k step =
        let first : walk asked c s (Tree.pair (read.imm_tree x) (read.imms_tree others)) ≡ refused err m = rw step refl in
        let all : walk asked c s0 (read.imms_tree imms) ≡ refused err m = done.walks k c ∙ rw (next, first) refl in
        rw all refl

  -- none is left
  module _ {s0 s : S} {imms gone rest : List ReadImm} {count : ℕ} {made : List WrittenImm} (done : ImmsDone asked keeps s0 imms gone rest count s made) (end : count ≡ 0) where
    pub all_kinds : (op : Opcode) → HasKinds op (map read.imm_kind imms) → HasKinds op (map write.imm_kind made)
    all_kinds op fit =
        let none : rest ≡ [] = none_left rest (sym end ∙ done.counted) in
        let all : gone ≡ imms = sym (append-nil gone) ∙ rw none at done.parts in
        let same : map write.imm_kind made ≡ map read.imm_kind imms = done.kinds ∙ ap (map read.imm_kind) all in
        rw same fit

    pub operator_accepted : (code : Code) (c : ℕ) → IsTrue keeps →
        walk asked c s0 (Tree.op code (read.imms_tree imms)) ≡ accepted (Tree.op code (write.imms_tree made)) s
    operator_accepted code c k =
        let none : rest ≡ [] = none_left rest (sym end ∙ done.counted) in
        let all : walk asked c s0 (read.imms_tree imms) ≡ accepted (write.imms_tree made) s =
        done.walks k c ∙ rw none (ap (λ (t : Tree). accepted t s) (imms_are made)) in
        rw all refl

-- ---- what a walk is refused with

-- a hook refuses with no place in any bytes
pub never_parse : {S E : Type 0} (reply : S → Visit → Result ℕ E) (next : S → Visit → S) (c : ℕ) (s m : S) (t : Tree) (at : ReadError) →
    walk (ask reply next) c s t ≡ refused (ParseError at) m → ⊥
never_parse {S} {E} reply next c s m t at h =
    let stops = (walk_stops (ask reply next) c s m t (ParseError at)).0 h in ends stops.moment stops.state stops.ends
  where
    replied : (r : Result ℕ E) (k : S) → answered r k ≡ refused (ParseError at) m → ⊥
    replied (Ok n) k e = absurd cc
    replied (Err e') k e = absurd cc

    ends : (moment : Moment) (k : S) → Ends (ask reply next) c k moment (ParseError at) m → ⊥
    ends (asks v) k e = replied (reply k v) (next k v) e
    ends (closes n) k e = let is : ◌≡◌ {A = Error E} (ParseError at) (TooLarge n) = e.1 in absurd cc
    ends lost k e = let is : ◌≡◌ {A = Error E} (ParseError at) CanonicalizedHeapTypeReference = e.0 in absurd cc

-- ---- the operator at a reader's place

-- one was read and mapped
pub parse_mapped : {S E B : Type 0} (reply : S → Visit → Result ℕ E) (next : S → Visit → S) (s m : S) (reader behind : Reading) (view : B → Tree) (operator : Tree)
    (r : Result B (Error E)) → Begins (Shape.op true) (rest_of reader) operator (rest_of behind) → Maps reply next s operator view m r →
    ParsesOperator reply next s reader view m behind r
parse_mapped reply next s m reader behind view operator (Ok b) begins maps =
    record { operator = operator; rest = rest_of behind; begins = begins; maps = maps; behind_it = refl }
parse_mapped {S} {E} {B} reply next s m reader behind view operator (Err e) begins maps =
    go e maps (record { operator = operator; rest = rest_of behind; begins = begins; maps = maps; behind_it = tt })
  where
    go : (e : Error E) → Maps {B = B} reply next s operator view m (Err e) → MapsOperator reply next s reader view m behind (Err e) → ParsesOperator reply next s reader view m behind (Err e)
    go (ParseError at) maps h = absurd (never_parse reply next 0 s m operator at (maps 0 (λ (same : ◌≡◌ {A = Error E} (ParseError at) NoMemory). absurd cc)))
    go NoMemory maps h = tt
    go CanonicalizedHeapTypeReference maps h = h
    go InvalidConstExpr maps h = h
    go InvalidCodeSectionSize maps h = h
    go UnexpectedNonCoreModuleSection maps h = h
    go UnexpectedNonComponentSection maps h = h
    go UnsupportedCoreTypeInComponent maps h = h
    go (UserError e) maps h = h
    go (TooLarge size) maps h = h
