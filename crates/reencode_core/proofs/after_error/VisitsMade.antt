-- The visits that were made when an error came.
use Rattle.std.proofs.Common.{◌≡◌, ◌≢◌, ℕ, List, [], ◌∷◌, ◌++◌, Result, Ok, Err, IsTrue, Bool, refl, sym, ap, ◌∙◌, append_assoc, append-nil, subst, ◌⊎◌, inl, inr}
use Rattle.wasm_leb.specs.declared.fault.Fault.{Fault}
use Rattle.wasm_leb.specs.declared.fault.Fault.TheVariants as fault
use Rattle.wasm_leb.specs.declared.fault.Kind.TheVariants as kinds
use Rattle.wasm_write.specs.declared.fault.WriteFault.{WriteFault}
use Rattle.wasm_write.specs.declared.fault.WriteFault.TheVariants as write
use Rattle.wasm_shapes.specs.declared.Visit.{Visit}
use Rattle.wasm_shapes.specs.Drawn.{Drawn}
use Rattle.wasm_shapes.specs.Tree.{Tree, visits}
use Rattle.wasm_shapes.proofs.Drawn.{drawn_part}
use Rattle.reencode_hooks.specs.declared.error.Error.{Error}
use Rattle.reencode_hooks.specs.declared.error.Error.TheVariants.{CanonicalizedHeapTypeReference, InvalidConstExpr, InvalidCodeSectionSize, UnexpectedNonCoreModuleSection, UnexpectedNonComponentSection, UnsupportedCoreTypeInComponent, ParseError, UserError, TooLarge, NoMemory}
use Rattle.reencode_hooks.specs.Errors.{error_of_fault, error_of_write}
use Rattle.reencode_hooks.specs.Moments.{Moment, asks, closes, lost, Ends, asked_in}
use Rattle.reencode_hooks.specs.Run.{Step, accepted, refused, and_then, ask, answered, run, answers, state_after, Visited, NeverWants}
use Rattle.reencode_hooks.specs.Walk.{walk}
use Rattle.reencode_hooks.proofs.Agrees.{asked_in-append, inv, given}
use Rattle.reencode_hooks.proofs.Leaving.{never_wants}
use Rattle.reencode_hooks.proofs.Walks.{moments_asked, walk_is_run, walk_stops}
use Rattle.reencode_core.specs.Errors.{IfParse, placed_at}
use Rattle.reencode_core.specs.Leaves.{Ended, EndsBy, IsFront, MadeUpTo, TellsFault}
use Rattle.reencode_core.specs.Rows.{Asks}
use Rattle.reencode_core.proofs.rows_walked.SmallCounts.{run_then}
use Rattle.reencode_core.proofs.faults.WalkRefusals.{IfParse-map}

-- ---- errors

-- it is no refusal of the reencoder
abbrev pub Unasked : {E : Type 0} → Error E → Type 0
Unasked (UserError x) = ⊥
Unasked _ = Unit {0}

pub is_wanting : {E : Type 0} (e : Error E) → (e ≡ NoMemory) ⊎ (e ≢ NoMemory)
is_wanting NoMemory = inl refl
is_wanting (UserError x) = inr (λ q. cc)
is_wanting (TooLarge x) = inr (λ q. cc)
is_wanting (ParseError x) = inr (λ q. cc)
is_wanting CanonicalizedHeapTypeReference = inr (λ q. cc)
is_wanting InvalidConstExpr = inr (λ q. cc)
is_wanting InvalidCodeSectionSize = inr (λ q. cc)
is_wanting UnexpectedNonCoreModuleSection = inr (λ q. cc)
is_wanting UnexpectedNonComponentSection = inr (λ q. cc)
is_wanting UnsupportedCoreTypeInComponent = inr (λ q. cc)

-- an error that says nothing of the bytes
pub tells_none : {E : Type 0} (e : Error E) → IfParse e (λ at. ⊥) → ¬ TellsFault e
tells_none (ParseError x) p = λ h. p
tells_none (UserError x) p = λ h. h
tells_none (TooLarge x) p = λ h. h
tells_none NoMemory p = λ h. h
tells_none CanonicalizedHeapTypeReference p = λ h. h
tells_none InvalidConstExpr p = λ h. h
tells_none InvalidCodeSectionSize p = λ h. p
tells_none UnexpectedNonCoreModuleSection p = λ h. p
tells_none UnexpectedNonComponentSection p = λ h. p
tells_none UnsupportedCoreTypeInComponent p = λ h. h

pub wants_tells_none : (E : Type 0) → ¬ TellsFault {E = E} NoMemory
wants_tells_none E = λ h. h

pub fault_unasked : (E : Type 0) (f : Fault) → Unasked (error_of_fault {E = E} f)
fault_unasked E (fault.Read x) = tt
fault_unasked E fault.NoMemory = tt
fault_unasked E fault.CodeSize = tt
fault_unasked E (fault.Header kinds.Module) = tt
fault_unasked E (fault.Header kinds.Component) = tt

pub write_unasked : (E : Type 0) (w : WriteFault) → Unasked (error_of_write {E = E} w)
write_unasked E (write.TooLarge x) = tt
write_unasked E write.NoMemory = tt

pub write_tells_none : (E : Type 0) (w : WriteFault) → ¬ TellsFault (error_of_write {E = E} w)
write_tells_none E (write.TooLarge x) = λ h. h
write_tells_none E write.NoMemory = λ h. h

-- the reencoder is sure where memory runs out, and its call never wants any
pub not_wanting : {E B : Type 0} {sure : Bool} (e : Error E) → NeverWants {A = B} sure (Err e) → (e ≡ NoMemory → IsTrue sure) → e ≢ NoMemory
not_wanting e never told h = never_wants e never (told h) h

-- ---- lists

pub front_all : (xs : List Visit) → IsFront xs xs
front_all xs = record { rest = []; parts = sym (append-nil xs) }

pub front_none : (xs : List Visit) → IsFront [] xs
front_none xs = record { rest = xs; parts = refl }

pub front_same : {made xs ys : List Visit} → xs ≡ ys → IsFront made xs → IsFront made ys
front_same {made = made} e f = let P : List Visit → Type 0 = λ z. IsFront made z in subst P e f

-- of the first of two parts
pub front_first : {made xs : List Visit} (ys : List Visit) → IsFront made xs → IsFront made (xs ++ ys)
front_first {made = made} ys f = record { rest = f.rest ++ ys; parts = ap (λ (z : List Visit). z ++ ys) f.parts ∙ append_assoc made f.rest ys }

-- of the second, behind the first
pub front_then : (xs : List Visit) {made ys : List Visit} → IsFront made ys → IsFront (xs ++ made) (xs ++ ys)
front_then xs {made = made} f = record { rest = f.rest; parts = ap (λ (z : List Visit). xs ++ z) f.parts ∙ sym (append_assoc xs made f.rest) }

-- others behind them, up to a fault
pub made_then : {E : Type 0} (e : Error E) (xs : List Visit) {made all : List Visit} {rest : List ℕ} → MadeUpTo e made all rest → MadeUpTo e (xs ++ made) (xs ++ all) rest
made_then e xs (inl h) = inl (h.0, front_then xs h.1)
made_then e xs {made = made} {all = all} (inr h) = inr (h.0, ap (λ (z : List Visit). xs ++ z) h.1 ∙ sym (append_assoc xs all h.0), h.2)

pub drawn_made : {bytes : List ℕ} {made all : List Visit} → IsFront made all → Drawn bytes all → Drawn bytes made
drawn_made {bytes = bytes} {made = made} f d = let P : List Visit → Type 0 = λ z. Drawn bytes z in drawn_part made f.rest (subst P f.parts d)

-- ---- runs

-- visits that were accepted, by an error that is no refusal
pub ended_all : {S E : Type 0} {asked : Asks S E} {s m : S} {xs : List Visit} {a : List ℕ} (e : Error E) → Unasked e → run asked s xs ≡ accepted a m → EndsBy asked s xs e m
ended_all {E = E} {asked = asked} {s = s} {m = m} {xs = xs} {a = a} e u h = record { by = go e u }
  where
    go : (e : Error E) → Unasked e → Ended e (run asked s xs) m
    go (UserError x) never = absurd never
    go NoMemory u = rw h refl
    go (ParseError x) u = (a, h)
    go (TooLarge x) u = (a, h)
    go CanonicalizedHeapTypeReference u = (a, h)
    go InvalidConstExpr u = (a, h)
    go InvalidCodeSectionSize u = (a, h)
    go UnexpectedNonCoreModuleSection u = (a, h)
    go UnexpectedNonComponentSection u = (a, h)
    go UnsupportedCoreTypeInComponent u = (a, h)

module _ {S E : Type 0} (asked : Asks S E) where
  run_refused : (s n m : S) (xs ys : List Visit) (a : List ℕ) (e : Error E) → run asked s xs ≡ accepted a n → run asked n ys ≡ refused e m → run asked s (xs ++ ys) ≡ refused e m
  run_refused s n m [] ys a e h k = let g = given h in let P : S → Type 0 = λ z. run asked z ys ≡ refused e m in subst P (sym g.1) k
  run_refused s n m (v ∷ xs) ys a e h k =
      let i = inv (asked s v) (λ x l. and_then (run asked l xs) (λ ns j. accepted (x ∷ ns) j)) h in
      let j = inv (run asked i.1 xs) (λ ns l. accepted (i.0 ∷ ns) l) i.3 in
      let g = given j.3 in
      rw (i.2, run_refused i.1 n m xs ys j.0 e (j.2 ∙ ap (λ (z : S). accepted j.0 z) g.1) k) refl

  kept_state : (r : Step S (Error E) (List ℕ)) (n : ℕ) → state_after (and_then r (λ ns j. accepted (n ∷ ns) j)) ≡ state_after r
  kept_state (accepted ns j) n = refl
  kept_state (refused e j) n = refl

  pub run_state : (s n : S) (xs ys : List Visit) (a : List ℕ) → run asked s xs ≡ accepted a n → state_after (run asked s (xs ++ ys)) ≡ state_after (run asked n ys)
  run_state s n [] ys a h = let g = given h in rw g.1 refl
  run_state s n (v ∷ xs) ys a h =
      let i = inv (asked s v) (λ x l. and_then (run asked l xs) (λ ns j. accepted (x ∷ ns) j)) h in
      let j = inv (run asked i.1 xs) (λ ns l. accepted (i.0 ∷ ns) l) i.3 in
      let g = given j.3 in
      rw i.2 (kept_state (run asked i.1 (xs ++ ys)) i.0 ∙ run_state i.1 n xs ys j.0 (j.2 ∙ ap (λ (z : S). accepted j.0 z) g.1))

  -- visits behind others that were accepted
  pub ended_behind : {s n m : S} {a : List ℕ} (e : Error E) (xs ys : List Visit) → run asked s xs ≡ accepted a n → EndsBy asked n ys e m → EndsBy asked s (xs ++ ys) e m
  ended_behind {s = s} {n = n} {m = m} {a = a} e xs ys h k = record { by = go e k.by }
    where
      both : (b : List ℕ) × (run asked n ys ≡ accepted b m) → (b : List ℕ) × (run asked s (xs ++ ys) ≡ accepted b m)
      both k = (a ++ k.0, run_then asked s n m xs ys a k.0 h k.1)

      go : (e : Error E) → Ended e (run asked n ys) m → Ended e (run asked s (xs ++ ys)) m
      go (UserError x) k = run_refused s n m xs ys a (UserError x) h k
      go NoMemory k = run_state s n xs ys a h ∙ k
      go (ParseError x) k = both k
      go (TooLarge x) k = both k
      go CanonicalizedHeapTypeReference k = both k
      go InvalidConstExpr k = both k
      go InvalidCodeSectionSize k = both k
      go UnexpectedNonCoreModuleSection k = both k
      go UnexpectedNonComponentSection k = both k
      go UnsupportedCoreTypeInComponent k = both k

-- the same error at another place
pub ended_placed : {S E : Type 0} {asked : Asks S E} {s m : S} {xs : List Visit} (e : Error E) (at : ℕ) → EndsBy asked s xs e m → EndsBy asked s xs (placed_at e at) m
ended_placed {E = E} {asked = asked} {s = s} {m = m} {xs = xs} e at k = record { by = go e k.by }
  where
    go : (e : Error E) → Ended e (run asked s xs) m → Ended (placed_at e at) (run asked s xs) m
    go (ParseError x) h = h
    go (UserError x) h = h
    go (TooLarge x) h = h
    go NoMemory h = h
    go CanonicalizedHeapTypeReference h = h
    go InvalidConstExpr h = h
    go InvalidCodeSectionSize h = h
    go UnexpectedNonCoreModuleSection h = h
    go UnexpectedNonComponentSection h = h
    go UnsupportedCoreTypeInComponent h = h

pub tells_placed : {E : Type 0} (e : Error E) (at : ℕ) → TellsFault (placed_at e at) → TellsFault e
tells_placed (ParseError x) at h = h
tells_placed (UserError x) at h = h
tells_placed (TooLarge x) at h = h
tells_placed NoMemory at h = h
tells_placed CanonicalizedHeapTypeReference at h = h
tells_placed InvalidConstExpr at h = h
tells_placed InvalidCodeSectionSize at h = h
tells_placed UnexpectedNonCoreModuleSection at h = h
tells_placed UnexpectedNonComponentSection at h = h
tells_placed UnsupportedCoreTypeInComponent at h = h

pub wants_placed : {E : Type 0} (e : Error E) (at : ℕ) → e ≡ NoMemory → placed_at e at ≡ NoMemory
wants_placed e at h = rw h refl

pub placed_wants : {E : Type 0} (e : Error E) (at : ℕ) → placed_at e at ≡ NoMemory → e ≡ NoMemory
placed_wants (ParseError x) at h = absurd cc
placed_wants (UserError x) at h = h
placed_wants (TooLarge x) at h = h
placed_wants NoMemory at h = h
placed_wants CanonicalizedHeapTypeReference at h = h
placed_wants InvalidConstExpr at h = h
placed_wants InvalidCodeSectionSize at h = h
placed_wants UnexpectedNonCoreModuleSection at h = h
placed_wants UnexpectedNonComponentSection at h = h
placed_wants UnsupportedCoreTypeInComponent at h = h

-- ---- an item that stands whole

-- A front part of these visits was made when the error came.
pub record PartMade {S E : Type 0} (asked : Asks S E) (s : S) (all : List Visit) (e : Error E) (m : S) : Type 0 where
  pub part : List Visit
  pub front : IsFront part all
  pub ended : EndsBy asked s part e m

module _ {S E : Type 0} (asked : Asks S E) {s m : S} where
  -- all of them, and then an error that is no refusal came
  pub whole_made : {a : List ℕ} (e : Error E) (all : List Visit) → Unasked e → run asked s all ≡ accepted a m → PartMade asked s all e m
  whole_made e all u h = record { part = all; front = front_all all; ended = ended_all e u h }

  pub tree_made : {v : Tree} (c : ℕ) (e : Error E) (t : Tree) → Unasked e → walk asked c s t ≡ accepted v m → PartMade asked s (visits t) e m
  tree_made {v = v} c e t u h = whole_made e (visits t) u ((walk_is_run asked).forth c s m t v h).ran

  -- memory ran out
  pub wants_made : {all : List Visit} → Visited asked s all m → PartMade asked s all NoMemory m
  wants_made v = record { part = v.front; front = record { rest = v.rest; parts = v.parts }; ended = record { by = v.state } }

module _ {S E : Type 0} (reply : S → Visit → Result ℕ E) (next : S → Visit → S) {s m : S} where
  -- one visit was refused
  pub one_ended : (e : Error E) (v : Visit) → ask reply next s v ≡ refused e m → EndsBy (ask reply next) s (v ∷ []) e m
  one_ended e v h = go (reply s v) refl
    where
      go : (r : Result ℕ E) → reply s v ≡ r → EndsBy (ask reply next) s (v ∷ []) e m
      go (Ok n) k = let never : ◌≡◌ {A = Step S (Error E) ℕ} (accepted n (next s v)) (refused e m) = sym (ap (λ (z : Result ℕ E). answered z (next s v)) k) ∙ h in absurd cc
      go (Err x) k =
          let is : ◌≡◌ {A = Step S (Error E) ℕ} (refused (UserError x) (next s v)) (refused e m) = sym (ap (λ (z : Result ℕ E). answered z (next s v)) k) ∙ h in
          let same : UserError x ≡ e = cc in
          let P : Error E → Type 0 = λ z. EndsBy (ask reply next) s (v ∷ []) z m in
          let there : run (ask reply next) s (v ∷ []) ≡ refused e m = rw h refl in
          let Q : Error E → Type 0 = λ z. run (ask reply next) s (v ∷ []) ≡ refused z m in
          subst P same (record { by = subst Q (sym same) there })

  pub one_made : (e : Error E) (v : Visit) → ask reply next s v ≡ refused e m → PartMade (ask reply next) s (v ∷ []) e m
  one_made e v h = record { part = v ∷ []; front = front_all (v ∷ []); ended = one_ended e v h }

module _ {S E : Type 0} (reply : S → Visit → Result ℕ E) (next : S → Visit → S) {s m : S} where
  -- a walk was refused
  stops_made : (c : ℕ) (e : Error E) (k : S) (x : Moment) (front rest : List Moment) (a : List ℕ) → run (ask reply next) s (asked_in front) ≡ accepted a k → Ends (ask reply next) c k x e m →
      PartMade (ask reply next) s (asked_in front ++ asked_in (x ∷ rest)) e m
  stops_made c e k (asks v) front rest a h d = record {
    part = asked_in front ++ v ∷ [];
    front = front_then (asked_in front) (record { rest = asked_in rest; parts = refl });
    ended = ended_behind (ask reply next) e (asked_in front) (v ∷ []) h (one_ended reply next e v d);
  }
  stops_made c e k (closes n) front rest a h d =
      let P : Error E → Type 0 = λ z. PartMade (ask reply next) s (asked_in front ++ asked_in rest) z m in
      let ran : run (ask reply next) s (asked_in front) ≡ accepted a m = h ∙ ap (λ (z : S). accepted a z) (sym d.2) in
      subst P (sym d.1) (record { part = asked_in front; front = front_first (asked_in rest) (front_all (asked_in front)); ended = record { by = (a, ran) } })
  stops_made c e k lost front rest a h d =
      let P : Error E → Type 0 = λ z. PartMade (ask reply next) s (asked_in front ++ asked_in rest) z m in
      let ran : run (ask reply next) s (asked_in front) ≡ accepted a m = h ∙ ap (λ (z : S). accepted a z) (sym d.1) in
      subst P (sym d.0) (record { part = asked_in front; front = front_first (asked_in rest) (front_all (asked_in front)); ended = record { by = (a, ran) } })

  pub refused_made : (c : ℕ) (t : Tree) (e : Error E) → walk (ask reply next) c s t ≡ refused e m → PartMade (ask reply next) s (visits t) e m
  refused_made c t e h =
      let b = answers (ask reply next) s (visits t) in
      let p = (walk_stops (ask reply next) c s m t e).0 h in
      let all : asked_in p.front ++ asked_in (p.moment ∷ p.rest) ≡ visits t = sym (asked_in-append p.front (p.moment ∷ p.rest)) ∙ ap asked_in (sym p.parts) ∙ moments_asked t b in
      let P : List Visit → Type 0 = λ z. PartMade (ask reply next) s z e m in
      subst P all (stops_made c e p.state p.moment p.front p.rest p.so_far p.ran p.ends)

  -- the walk was refused, or memory ran out
  pub either_made : (c : ℕ) (t : Tree) (e : Error E) → (e ≢ NoMemory → walk (ask reply next) c s t ≡ refused e m) → (e ≡ NoMemory → Visited (ask reply next) s (visits t) m) →
      PartMade (ask reply next) s (visits t) e m
  either_made c t e stops wants = go (is_wanting e)
    where
      go : (e ≡ NoMemory) ⊎ (e ≢ NoMemory) → PartMade (ask reply next) s (visits t) e m
      go (inl h) = let P : Error E → Type 0 = λ z. PartMade (ask reply next) s (visits t) z m in subst P (sym h) (wants_made (ask reply next) (wants h))
      go (inr h) = refused_made c t e (stops h)

-- ---- parts one behind another

module _ {S E : Type 0} (asked : Asks S E) {s m : S} {e : Error E} where
  pub part_same : {xs ys : List Visit} → xs ≡ ys → PartMade asked s xs e m → PartMade asked s ys e m
  part_same q p = let P : List Visit → Type 0 = λ z. PartMade asked s z e m in subst P q p

  pub part_first : {xs : List Visit} (ys : List Visit) → PartMade asked s xs e m → PartMade asked s (xs ++ ys) e m
  part_first ys p = record { part = p.part; front = front_first ys p.front; ended = p.ended }

  pub part_behind : {n : S} {ys : List Visit} {a : List ℕ} (xs : List Visit) → run asked s xs ≡ accepted a n → PartMade asked n ys e m → PartMade asked s (xs ++ ys) e m
  part_behind xs h p = record { part = xs ++ p.part; front = front_then xs p.front; ended = ended_behind asked e xs p.part h p.ended }

  -- behind a tree whose walk was accepted
  pub part_then : {n : S} {ys : List Visit} {u : Tree} (c : ℕ) (t : Tree) → walk asked c s t ≡ accepted u n → PartMade asked n ys e m → PartMade asked s (visits t ++ ys) e m
  part_then {n = n} {u = u} c t h p = part_behind (visits t) ((walk_is_run asked).forth c s n t u h).ran p

-- what is known of an error by the bytes
pub tells_if : {E : Type 0} {P : ℕ → Type 0} (e : Error E) → ((at : ℕ) → P at → ⊥) → IfParse e P → ¬ TellsFault e
tells_if e never p = tells_none e (IfParse-map e never p)

pub fault_known : {E : Type 0} {P : ℕ → Type 0} (e : Error E) → IfParse e P → TellsFault e → (at : ℕ) × P at
fault_known (ParseError x) p h = (x.at, p)
fault_known InvalidCodeSectionSize p h = absurd p
fault_known (UserError x) p h = absurd h
fault_known (TooLarge x) p h = absurd h
fault_known NoMemory p h = absurd h
fault_known CanonicalizedHeapTypeReference p h = absurd h
fault_known InvalidConstExpr p h = absurd h
fault_known UnexpectedNonCoreModuleSection p h = absurd p
fault_known UnexpectedNonComponentSection p h = absurd p
fault_known UnsupportedCoreTypeInComponent p h = absurd h
