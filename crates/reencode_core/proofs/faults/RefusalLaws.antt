-- The laws of `specs/Refusals.antt`.
use Rattle.std.proofs.Common.{◌≡◌, ℕ, Bool, IfOk, IfErr, IsTrue, List, Result, Ok, Err, [], ◌∷◌, ◌++◌, refl, sym, ap, ◌∙◌, subst, ◌⊎◌, inl, inr}
use Rattle.wasm_shapes.specs.declared.Visit.{Visit}
use Rattle.wasm_shapes.specs.Tree.{Tree}
use Rattle.wasm_shapes.specs.Module.{FaultAt, alsos}
use Rattle.wasm_write.specs.Sections.{SectionRow}
use Rattle.wasm_shapes.proofs.Laws.{module_headed}
use Rattle.reencode_hooks.specs.declared.error.Error.{Error}
use Rattle.reencode_hooks.specs.declared.error.Error.TheVariants.{CanonicalizedHeapTypeReference, InvalidConstExpr, InvalidCodeSectionSize, UnexpectedNonCoreModuleSection, UnexpectedNonComponentSection, UnsupportedCoreTypeInComponent, ParseError, UserError, TooLarge, NoMemory}
use Rattle.reencode_hooks.specs.Run.{Step, accepted, refused, and_then, run}
use Rattle.reencode_core.specs.Leaves.{CoreUpTo, IsFront, IsSize, Leaves, LeavesCore, MadeUpTo, Text, core_in, module_in}
use Rattle.reencode_core.specs.Refusals as statements
use Rattle.reencode_core.specs.Refusals.{IsFaultOr, RefusedUpTo, RefusesNone}
use Rattle.reencode_core.specs.Rows.{Asks}
use Rattle.reencode_core.specs.Core.{IsCause}
use Rattle.reencode_core.specs.Faults.{FaultGives}
use Rattle.reencode_core.specs.Weave.{Puts}
use Rattle.reencode_core.specs.Woven.{IsOwn, IsWovenCause, OwnNext, OwnTooLarge}
use Rattle.reencode_core.proofs.faults.FaultPlace.{fault_tells}

module _ {S E : Type 0} (asked : Asks S E) where
  -- visits in two parts
  joined : Step S (Error E) (List ℕ) → (S → Step S (Error E) (List ℕ)) → Step S (Error E) (List ℕ)
  joined r next = and_then r (λ a n. and_then (next n) (λ b k. accepted (a ++ b) k))

  run_both : (s : S) (xs ys : List Visit) → run asked s (xs ++ ys) ≡ and_then (run asked s xs) (λ a n. and_then (run asked n ys) (λ b k. accepted (a ++ b) k))
  run_both s [] ys = go (run asked s ys)
    where
      go : (r : Step S (Error E) (List ℕ)) → r ≡ and_then r (λ b k. accepted ([] ++ b) k)
      go (accepted b k) = refl
      go (refused e k) = refl
  run_both s (v ∷ xs) ys = first (asked s v) (λ n. run_both n xs ys)
    where
      first : (r : Step S (Error E) ℕ) → ((n : S) → run asked n (xs ++ ys) ≡ and_then (run asked n xs) (λ a k. and_then (run asked k ys) (λ b l. accepted (a ++ b) l))) →
          and_then r (λ n m. and_then (run asked m (xs ++ ys)) (λ ns k. accepted (n ∷ ns) k))
          ≡ and_then (and_then r (λ n m. and_then (run asked m xs) (λ ns k. accepted (n ∷ ns) k))) (λ a k. and_then (run asked k ys) (λ b l. accepted (a ++ b) l))
      first (refused e m) again = refl
      first (accepted n m) again = ap (λ (z : Step S (Error E) (List ℕ)). and_then z (λ ns k. accepted (n ∷ ns) k)) (again m) ∙ second (run asked m xs)
        where
          third : (a : List ℕ) (q : Step S (Error E) (List ℕ)) → and_then (and_then q (λ b l. accepted (a ++ b) l)) (λ ns k. accepted (n ∷ ns) k) ≡ and_then q (λ b l. accepted ((n ∷ a) ++ b) l)
          third a (accepted b l) = refl
          third a (refused e l) = refl

          second : (r : Step S (Error E) (List ℕ)) →
              and_then (and_then r (λ a k. and_then (run asked k ys) (λ b l. accepted (a ++ b) l))) (λ ns k. accepted (n ∷ ns) k)
              ≡ and_then (and_then r (λ ns k. accepted (n ∷ ns) k)) (λ a k. and_then (run asked k ys) (λ b l. accepted (a ++ b) l))
          second (refused e k) = refl
          second (accepted a k) = third a (run asked k ys)

  -- a refusal among the first of two parts
  refused_first : {m : S} {e : Error E} (s : S) (xs ys : List Visit) → run asked s xs ≡ refused e m → run asked s (xs ++ ys) ≡ refused e m
  refused_first s xs ys h = run_both s xs ys ∙ ap (λ (r : Step S (Error E) (List ℕ)). and_then r (λ a n. and_then (run asked n ys) (λ b k. accepted (a ++ b) k))) h

  -- a refusal among two parts
  refused_either : {m : S} {e : Error E} (s : S) (xs ys : List Visit) → run asked s (xs ++ ys) ≡ refused e m →
      (run asked s xs ≡ refused e m) ⊎ ((a : List ℕ) × (n : S) × (run asked s xs ≡ accepted a n) × (run asked n ys ≡ refused e m))
  refused_either {m = m} {e = e} s xs ys h = go (run asked s xs) refl (sym (run_both s xs ys) ∙ h)
    where
      second : (a : List ℕ) (q : Step S (Error E) (List ℕ)) → and_then q (λ b k. accepted (a ++ b) k) ≡ refused e m → q ≡ refused e m
      second a (accepted b k) k' = absurd cc
      second a (refused d k) k' = let x : d ≡ e = cc in let y : k ≡ m = cc in rw (x, y) refl

      go : (r : Step S (Error E) (List ℕ)) → run asked s xs ≡ r → and_then r (λ a n. and_then (run asked n ys) (λ b k. accepted (a ++ b) k)) ≡ refused e m →
          (run asked s xs ≡ refused e m) ⊎ ((a : List ℕ) × (n : S) × (run asked s xs ≡ accepted a n) × (run asked n ys ≡ refused e m))
      go (refused d k) is q = let x : d ≡ e = cc in let y : k ≡ m = cc in inl (is ∙ rw (x, y) refl)
      go (accepted a n) is q = inr (a, n, is, second a (run asked n ys) q)

  pub front_refused : {m : S} {e : Error E} {made all : List Visit} (s : S) → IsFront made all → run asked s made ≡ refused e m → run asked s all ≡ refused e m
  front_refused {m = m} {e = e} {made = made} s f h = let P : List Visit → Type 0 = λ z. run asked s z ≡ refused e m in subst P (sym f.parts) (refused_first s made f.rest h)

  pub up_to : {m : S} {e : Error E} {made all : List Visit} {rest : List ℕ} (s : S) → MadeUpTo e made all rest → run asked s made ≡ refused e m → RefusedUpTo asked s all rest e m
  up_to s (inl p) h = inl (front_refused s p.1 h)
  up_to {m = m} {e = e} {all = all} {rest = rest} s (inr p) h =
      let P : List Visit → Type 0 = λ z. run asked s z ≡ refused e m in by (refused_either s all p.0 (subst P p.1 h))
    where
      by : (run asked s all ≡ refused e m) ⊎ ((a : List ℕ) × (n : S) × (run asked s all ≡ accepted a n) × (run asked n p.0 ≡ refused e m)) → RefusedUpTo asked s all rest e m
      by (inl q) = inl q
      by (inr q) = inr (q.0, q.1, p.0, q.2, p.2, q.3)

  -- all are accepted where none is refused
  all_accepted : RefusesNone asked → (s : S) (vs : List Visit) → (a : List ℕ) × (n : S) × (run asked s vs ≡ accepted a n)
  all_accepted none s [] = ([], s, refl)
  all_accepted none s (v ∷ vs) =
      let one = none s v in
      let others = all_accepted none one.1 vs in
      (one.0 ∷ others.0, others.1, rw (one.2, others.2) refl)

  pub never_refused : RefusesNone asked → (text : Text) (s m : S) (x : E) → Leaves asked text s (UserError x) m → ⊥
  never_refused none text s m x l =
      let all = all_accepted none s l.made in
      let apart : ◌≡◌ {A = Step S (Error E) (List ℕ)} (accepted all.0 all.1) (refused (UserError x) m) = sym all.2 ∙ l.ended.by in absurd cc

  pub refusal_tells : statements.RefusalTells asked core_in
  refusal_tells = record {
    reading = λ bytes s m x l t p. front_refused s (l.reading t p) l.ended.by;
    fault = λ bytes s m x l before rest f.
        let unread = (fault_tells asked).none bytes before rest f in
        up_to s (l.fault (λ t p. let r = module_headed.back bytes t p in unread r.0 r.2) (alsos before Tree.empty) rest (CoreUpTo.sections before rest f)) l.ended.by;
    never = λ none bytes s m x l. never_refused none (core_in bytes) s m x l;
  }

  pub refusal_tells_sections : statements.RefusalTells asked module_in
  refusal_tells_sections = record {
    reading = λ bytes s m x l t p. front_refused s (l.reading t p) l.ended.by;
    fault = λ bytes s m x l before rest f.
        up_to s (l.fault ((fault_tells asked).none bytes before rest f) (alsos before Tree.empty) rest (CoreUpTo.sections before rest f)) l.ended.by;
    never = λ none bytes s m x l. never_refused none (module_in bytes) s m x l;
  }

-- what an error of a cause is, where the reencoder refuses no visit: by each error
module _ {S E : Type 0} (asked : Asks S E) (adds : Puts S SectionRow) (c : ℕ) (bytes : List ℕ) (s m : S) (before : List Tree) (rest : List ℕ) (f : FaultAt bytes before rest) where
  caused : (e : Error E) → IsCause asked c bytes s m e → FaultGives asked c bytes s m before rest e
  caused e h = (fault_tells asked).told c bytes s m e h before rest f

  -- a size of the section hook's own is another error
  own : (e : Error E) → ((own : List SectionRow) → IsOwn c own e → ⊥) → OwnTooLarge asked adds c bytes s e → ⊥
  own e never o = by o.own
    where
      by : OwnNext asked adds c o.front.last o.front.at o.front.rest e → ⊥
      by (inl q) = never _ q.1
      by (inr (k, body, left, framed, inl x)) = never _ x
      by (inr (k, body, left, framed, inr x)) = never _ x.own

  told : (A : Type 0) (e : Error E) → ((x : E) → e ≡ UserError x → ⊥) → IsWovenCause asked adds c bytes s m e → IsFaultOr {E = E} {A = A} bytes rest (Err e)
  told A (UserError x) unasked h = absurd (unasked x refl)
  told A (TooLarge x) unasked h = tt
  told A NoMemory unasked h = tt
  told A (ParseError x) unasked (inl h) = caused (ParseError x) h.0
  told A (ParseError x) unasked (inr o) = absurd (own (ParseError x) (λ own h. h) o)
  told A InvalidCodeSectionSize unasked (inl h) = caused InvalidCodeSectionSize h.0
  told A InvalidCodeSectionSize unasked (inr o) = absurd (own InvalidCodeSectionSize (λ own h. h) o)
  told A UnexpectedNonCoreModuleSection unasked (inl h) = caused UnexpectedNonCoreModuleSection h.0
  told A UnexpectedNonCoreModuleSection unasked (inr o) = own UnexpectedNonCoreModuleSection (λ own h. h) o
  told A CanonicalizedHeapTypeReference unasked (inl h) = h.0
  told A CanonicalizedHeapTypeReference unasked (inr o) = own CanonicalizedHeapTypeReference (λ own h. h) o
  told A InvalidConstExpr unasked (inl h) = h.0
  told A InvalidConstExpr unasked (inr o) = own InvalidConstExpr (λ own h. h) o
  told A UnexpectedNonComponentSection unasked (inl h) = h.0
  told A UnexpectedNonComponentSection unasked (inr o) = own UnexpectedNonComponentSection (λ own h. h) o
  told A UnsupportedCoreTypeInComponent unasked (inl h) = h.0
  told A UnsupportedCoreTypeInComponent unasked (inr o) = own UnsupportedCoreTypeInComponent (λ own h. h) o

  -- the same of what a call answers, where bytes with a fault have no reading and no refusal comes
  answered : {A : Type 0} (result : Result A (Error E)) → IfOk result (λ _. ⊥) → IfErr result (IsWovenCause asked adds c bytes s m) → IfErr result (λ e. (x : E) → e ≡ UserError x → ⊥) → IsFaultOr {E = E} {A = A} bytes rest result
  answered (Ok a) none cause unasked = absurd none
  answered {A = A} (Err e) none cause unasked = told A e unasked cause

pub fault_is_answered : {S E A : Type 0} (asked : Asks S E) (adds : Puts S SectionRow) (view : A → List ℕ) → statements.FaultIsAnswered asked adds view
fault_is_answered {S = S} {E = E} {A = A} asked adds view = record {
  bytes = λ none c bytes s m result given sure nothing left before rest f.
      answered asked adds c bytes s m before rest f result
      (ok_none result given.readable (λ r. let q = module_headed.back bytes r.0 r.1 in (fault_tells asked).none bytes before rest f q.0 q.2))
      given.cause
      (unrefused none (core_in bytes) sure nothing s m result left);
  sections = λ none bytes before after result given sure nothing left read rest f.
      answered asked adds before.1.ceiling bytes before.0 after.0 read rest f result
      (ok_none result given.readable (λ r. (fault_tells asked).none bytes read rest f r.0 r.1))
      given.cause
      (unrefused none (module_in bytes) sure nothing before.0 after.0 result left);
}
  where
    ok_none : {B P : Type 0} (result : Result B (Error E)) → IfOk result (λ _. P) → (P → ⊥) → IfOk result (λ _. ⊥)
    ok_none (Ok b) p never = never p
    ok_none (Err e) p never = tt

    unrefused : {B : Type 0} → RefusesNone asked → (text : Text) (sure nothing : Bool) (s m : S) (result : Result B (Error E)) → LeavesCore sure nothing asked text s m result →
        IfErr result (λ e. (x : E) → e ≡ UserError x → ⊥)
    unrefused none text sure nothing s m (Ok b) left = tt
    unrefused none text sure nothing s m (Err e) left =
        λ x is.
        let L : Error E → Type 0 = λ z. (z ≡ NoMemory → IsTrue sure) → (IsSize z → IsTrue nothing) → Leaves asked text s z m in
        never_refused asked none text s m x (subst L is left (λ h. absurd cc) (λ h. absurd h))
