-- The visits of a reading, and their answers, are in range.
use Rattle.std.proofs.Common.{◌≡◌, ◌<◌, ◌≤◌, ◌^◌, ◌+◌, ℕ, zero, suc, List, [], ◌∷◌, ◌++◌, drop, get_or, get_or-drop, Option, Some, None, Result, Ok, Err, subst, All, arith}
use Rattle.std.proofs.lemmas.List.Elements.{All-nil, All-cons, All-append, All-head, All-tail}
use Rattle.wasm_shapes.specs.declared.SectionId.{SectionId}
use Rattle.wasm_shapes.specs.declared.Visit.{Visit}
use Rattle.wasm_shapes.specs.declared.Visit.TheVariants.{Index, Outer, Section, Closed, Push, Pop}
use Rattle.wasm_shapes.specs.declared.Space.TheVariants as space
use Rattle.wasm_shapes.specs.Tree.{Tree, visits_from, before, behind, kind}
use Rattle.wasm_shapes.specs.Fits.{InRange}
use Rattle.reencode_hooks.specs.Run.{accepted, and_then, answered, ask, run}
use Rattle.reencode_hooks.specs.Hooks.{IsInRange, IsGiven, IsAnswer, KeepsAnswers}
use Rattle.reencode_hooks.proofs.Agrees.{inv, given}

abbrev IsSmall : ℕ → Type 0
IsSmall n = n < 2 ^ 32

before_in_range : (last : Option SectionId) (t : Tree) → All IsInRange (before last t)
before_in_range last (Tree.row k t) = before_in_range last t
before_in_range last (Tree.told k t) = All-cons IsInRange (Section last (Some k)) [] tt (All-nil IsInRange)
before_in_range last _ = All-nil IsInRange

behind_in_range : (t : Tree) → All IsInRange (behind t)
behind_in_range (Tree.row k t) = behind_in_range t
behind_in_range (Tree.told k t) = All-cons IsInRange (Closed k) [] tt (All-nil IsInRange)
behind_in_range _ = All-nil IsInRange

pub visits_in_range : (last : Option SectionId) (t : Tree) → InRange t → All IsInRange (visits_from last t)
visits_in_range last (Tree.ix p i) r = All-cons IsInRange (Index p i) [] r (All-nil IsInRange)
visits_in_range last (Tree.sx p i) r = All-cons IsInRange (Index p i) [] r (All-nil IsInRange)
visits_in_range last (Tree.outer p k i) r = All-cons IsInRange (Outer p k i) [] r (All-nil IsInRange)
visits_in_range last (Tree.mem a i o) r = All-cons IsInRange (Index space.Memory i) [] r.1 (All-nil IsInRange)
visits_in_range last (Tree.pair t u) r = All-append IsInRange (visits_from None t) (visits_from None u) (visits_in_range None t r.0) (visits_in_range None u r.1)
visits_in_range last (Tree.swap t u) r = All-append IsInRange (visits_from None u) (visits_from None t) (visits_in_range None u r.1) (visits_in_range None t r.0)
visits_in_range last (Tree.cons t u) r = All-append IsInRange (visits_from None t) (visits_from None u) (visits_in_range None t r.0) (visits_in_range None u r.1)
visits_in_range last (Tree.vec t) r = visits_in_range None t r.1
visits_in_range last (Tree.present t) r = visits_in_range None t r
visits_in_range last (Tree.sized t) r = visits_in_range None t r
visits_in_range last (Tree.row k t) r = visits_in_range None t r
visits_in_range last (Tree.scope t) r =
    All-cons IsInRange Push (visits_from None t ++ (Pop ∷ [])) tt
    (All-append IsInRange (visits_from None t) (Pop ∷ []) (visits_in_range None t r) (All-cons IsInRange Pop [] tt (All-nil IsInRange)))
visits_in_range last (Tree.spare b t) r = visits_in_range None t r
visits_in_range last (Tree.kept b t) r = visits_in_range None t r
visits_in_range last (Tree.final t u) r = All-append IsInRange (visits_from None t) (visits_from None u) (visits_in_range None t r.1) (visits_in_range None u r.2)
visits_in_range last (Tree.until b t) r = visits_in_range None t r
visits_in_range last (Tree.op c t) r = visits_in_range None t r.1
visits_in_range last (Tree.left w o t) r =
    All-append IsInRange (visits_from None t) (Index space.Table 0 ∷ visits_from None o) (visits_in_range None t r.1)
    (All-cons IsInRange (Index space.Table 0) (visits_from None o) (omega arith) (visits_in_range None o r.0))
visits_in_range last (Tree.aimed w i o t) r =
    All-append IsInRange (visits_from None t) (Index space.Table i ∷ visits_from None o) (visits_in_range None t r.2)
    (All-cons IsInRange (Index space.Table i) (visits_from None o) r.0 (visits_in_range None o r.1))
visits_in_range last (Tree.placed i o t) r =
    All-cons IsInRange (Index space.Memory i) (visits_from None o ++ visits_from None t) r.0
    (All-append IsInRange (visits_from None o) (visits_from None t) (visits_in_range None o r.1) (visits_in_range None t r.2))
visits_in_range last (Tree.told k t) r = visits_in_range None t r
visits_in_range last Tree.finish r = All-cons IsInRange (Section last None) [] tt (All-nil IsInRange)
visits_in_range last (Tree.also t u) r =
    let others : List Visit = visits_from (kind last t) u in
    All-append IsInRange (before last t) (visits_from None t ++ (behind t ++ others)) (before_in_range last t)
    (All-append IsInRange (visits_from None t) (behind t ++ others) (visits_in_range None t r.0)
    (All-append IsInRange (behind t) others (behind_in_range t) (visits_in_range (kind last t) u r.1)))
visits_in_range last _ r = All-nil IsInRange

given_small : (v : Visit) (n : ℕ) → IsGiven v n → n < 2 ^ 32
given_small (Index p i) n h = h
given_small (Outer p k i) n h = h
given_small _ n h = omega arith

module _ {S E : Type 0} (reply : S → Visit → Result ℕ E) (next : S → Visit → S) (keeps : KeepsAnswers reply) where
  answer_small : (s m : S) (v : Visit) (n : ℕ) → IsInRange v → ask reply next s v ≡ accepted n m → n < 2 ^ 32
  answer_small s m v n r h = go (reply s v) (keeps s v r) h
    where
      go : (a : Result ℕ E) → IsAnswer v a → answered a (next s v) ≡ accepted n m → n < 2 ^ 32
      go (Ok k) p h = let P : ℕ → Type 0 = IsSmall in subst P (given h).0 (given_small v k p)
      go (Err e) p h = absurd cc

  pub answers_small : (s m : S) (vs : List Visit) (ns : List ℕ) → All IsInRange vs → run (ask reply next) s vs ≡ accepted ns m → All IsSmall ns
  answers_small s m [] ns r h = let P : List ℕ → Type 0 = All IsSmall in subst P (given h).0 (All-nil IsSmall)
  answers_small s m (v ∷ vs) ns r h =
      let i = inv (ask reply next s v) (λ n k. and_then (run (ask reply next) k vs) (λ ks l. accepted (n ∷ ks) l)) h in
      let j = inv (run (ask reply next) i.1 vs) (λ ks l. accepted (i.0 ∷ ks) l) i.3 in
      let P : List ℕ → Type 0 = All IsSmall in
      subst P (given j.3).0
      (All-cons IsSmall i.0 j.0 (answer_small s i.1 v i.0 (All-head IsInRange v vs r) i.2) (answers_small i.1 j.1 vs j.0 (All-tail IsInRange v vs r) j.2))

abbrev pub Small : List ℕ → Type 0
Small xs = (k : ℕ) → get_or xs k 0 < 2 ^ 32

pub all_small : (xs : List ℕ) → All IsSmall xs → Small xs
all_small [] h k = omega arith
all_small (x ∷ xs) h zero = All-head IsSmall x xs h
all_small (x ∷ xs) h (suc k) = all_small xs (All-tail IsSmall x xs h) k

pub small_behind : (n : ℕ) (xs : List ℕ) → Small xs → Small (drop n xs)
small_behind n xs h k = rw get_or-drop (h (n + k))

-- what fits a ceiling fits a higher one
pub below : (c d : ℕ) (xs : List ℕ) → c ≤ d → All (λ n. n ≤ c) xs → All (λ n. n ≤ d) xs
below c d [] h p = All-nil (λ n. n ≤ d)
below c d (x ∷ xs) h p =
    let first : x ≤ c = All-head (λ n. n ≤ c) x xs p in
    All-cons (λ n. n ≤ d) x xs (omega arith) (below c d xs h (All-tail (λ n. n ≤ c) x xs p))
