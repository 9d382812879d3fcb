-- What the re-encoding under the renamings of a command makes of some bytes.
use Rattle.std.proofs.Common.{◌≡◌, ◌≢◌, ℕ, ◌<◌, ◌≤◌, ◌⊎◌, inl, inr, List, [], ◌∷◌, length, map, Bool, true, false, nat_lt, ltb-true, ltb-false, Option, Result, Ok, Err, refl, sym, ap, ◌∙◌, subst, arith}
use Rattle.std.proofs.lemmas.List.{length-set}
use Rattle.wasm_shapes.specs.declared.SectionId.{SectionId}
use Rattle.wasm_shapes.specs.declared.Visit.{Visit}
use Rattle.wasm_shapes.specs.declared.Visit.TheVariants.{Index, Outer, Section, Closed, Push, Pop}
use Rattle.wasm_shapes.specs.Tree.{Tree, fill, normal, visits}
use Rattle.wasm_shapes.specs.Fits.{Fits}
use Rattle.wasm_leb.specs.declared.fault.Fault.{Fault}
use Rattle.wasm_leb.specs.declared.fault.Fault.TheVariants as faults
use Rattle.wasm_leb.specs.declared.fault.Kind.TheVariants as kinds
use Rattle.wasm_shapes.specs.Module.{core_tree}
use Rattle.wasm_shapes.specs.Spells.{Spelled}
use Rattle.wasm_shapes.specs.Component.{component_tree}
use Rattle.wasm_shapes.proofs.ComponentLaws.{component_headed}
use Rattle.wasm_shapes.proofs.Laws.{module_headed}
use Rattle.wasm_shapes.proofs.OwnAnswers.{fill_own}
use Rattle.reencode_hooks.specs.declared.asked.Unmapped.{Unmapped}
use Rattle.reencode_hooks.specs.declared.error.Error.{Error}
use Rattle.reencode_hooks.specs.declared.error.Error.TheVariants as error
use Rattle.reencode_hooks.specs.Renamings.{no_renaming, renamer_next}
use Rattle.reencode_hooks.specs.Run.{accepted, answered, refused}
use Rattle.reencode_core.specs.Clauses.{BytesClauses, asks}
use Rattle.reencode_core.specs.Errors.{IfRefused}
use Rattle.reencode_core.specs.Refusals.{RefusedUpTo}
use Rattle.reencode_hooks.specs.Walk.{walk}
use Rattle.reencode_hooks.proofs.Walks.{walk_stops}
use Rattle.reencode_core.specs.Core.{GivesBytes, BeforeFault, IsCause}
use Rattle.reencode_component.specs.Causes.{CauseBy, IfFault, inside, own_inside}
use Rattle.reencode_component.specs.ComponentLaws.{IsOfBytes}
use Rattle.reencode_component.specs.ComponentLeaves.{NoComponentHeading}
use Rattle.reencode_component.specs.Components.{ComponentReading}
use Rattle.reencode_component.specs.Within.{ComponentBytesClauses, HasComponentHeading}
use Rattle.reencode_component.specs.WithinLaws.{ErrorTells, OutputIsTaken}
use Rattle.reencode_component.proofs.whole_binaries.ComponentLaws as components
use Rattle.reencode_component.proofs.whole_binaries.WithinLaws.{binary_error_tells, binary_output, heading_or_not, module_error_tells, module_output}
use Rattle.reencode_run.specs.Counts.{counted, counted_at}
use Rattle.reencode_run.specs.declared.answer.ReencodingFault.{ReencodingFault}
use Rattle.reencode_run.specs.declared.renamers.Renamers.{Renamers}
use Rattle.reencode_run.specs.declared.renamers.Renamers.TheVariants.{Alone, Both}
use Rattle.reencode_run.specs.Plain.{IsPlain}
use Rattle.reencode_run.specs.Renamers.{AreCounts, IsLacking, Lack, State, all_counted, asks_of, begun, counts_in, hooks_of, next_of, reply_of, rule_of, told_lack}
use Rattle.reencode_run.specs.Reencoded.{IsReencoded, IsMakingFault, IsRefused, IsFault, IsFirstUpTo, IsUserRefusal, IsOutputTooLarge, IsRefusal, OfComponent, OfModule}
use Rattle.reencode_run.specs.Reencoded.{AnyBeforeFault}
use Rattle.reencode_run.specs.Taken.{HasFault, Reads, promised, taking}
use Rattle.reencode_run.specs.declared.binary_taken.Taken.{Taken}
use Rattle.reencode_run.specs.declared.binary_taken.Taken.TheVariants.{Modules, Binaries}
use Rattle.reencode_run.specs.Errors.{EndsAs, HasStatus}
use Rattle.reencode_run.proofs.Blank.{Blank, Large, blank_new, blank_next, run_is, walk_blank, only_large}
use Rattle.reencode_run.proofs.ByRule.{Keeps, Told, hook_answers, keeps_begun, keeps_next, lacking_or_not, no_answer, now, now_begun, ran, replies_by_rule, runs, stops, told_walk, walk_keeps}
use Rattle.reencode_run.proofs.ComponentRefusals.{component_is_told}
use Rattle.reencode_run.proofs.Refusals.{Tells, refusal_is_told}

-- ---- what is promised

module _ {A : Type 0} (rs : Renamers) (view : A → List ℕ) where
  outputs : (k : Taken) → OutputIsTaken (taking k) (hooks_of rs) (promised k (hooks_of rs) view) view
  outputs Modules = module_output (hooks_of rs) (λ s v h. refl) view
  outputs Binaries = binary_output (hooks_of rs) (λ s v h. refl) view

  tells : (k : Taken) → ErrorTells (taking k) (hooks_of rs) (promised k (hooks_of rs) view)
  tells Modules = module_error_tells (hooks_of rs) (λ s v h. refl) view
  tells Binaries = binary_error_tells (hooks_of rs) (λ s v h. refl) view

-- ---- output

pub given : {A : Type 0} (k : Taken) (c : ℕ) (rs : Renamers) (bytes : List ℕ) (m : State rs) (out : A) (view : A → List ℕ) →
    promised k (hooks_of rs) view c bytes (begun rs) m (Ok out) → IsReencoded k c rs bytes (view out) (counts_in (now rs m))
given k c rs bytes m out view g =
    let h = (outputs rs view k).output c bytes (begun rs) m (Ok out) g refl refl in
    let n = ran rs (visits h.tree) (begun rs) (keeps_begun rs) h.filled.ran in record {
      tree = h.tree;
      reading = h.reads;
      answers = h.filled.given;
      answered = n.answers;
      fits = h.filled.fits;
      spelled = h.spelled;
      asked = n.counts ∙ ap (λ (z : Renamers). all_counted (counts_in z) (visits h.tree)) (now_begun rs);
    }

length-at : (counts : List ℕ) (v : Visit) → length (counted_at counts v) ≡ length counts
length-at counts (Index p i) = length-set counts _ _
length-at counts (Outer p k i) = length-set counts _ _
length-at counts (Section a b) = length-set counts _ _
length-at counts (Closed k) = refl
length-at counts Push = length-set counts _ _
length-at counts Pop = length-set counts _ _

length-counted : (counts : List ℕ) (vs : List Visit) → length (counted counts vs) ≡ length counts
length-counted counts [] = refl
length-counted counts (v ∷ vs) = length-counted (counted_at counts v) vs ∙ length-at counts v

first_of : {x y : List ℕ} {xs ys : List (List ℕ)} → x ∷ xs ≡ y ∷ ys → x ≡ y
first_of e = cc

second_of : {x y z w : List ℕ} {xs ys : List (List ℕ)} → x ∷ y ∷ xs ≡ z ∷ w ∷ ys → y ≡ w
second_of e = cc

-- behind a run there is still a count of everything
pub still_counts : {k : Taken} {c : ℕ} {rs : Renamers} {bytes output : List ℕ} (m : State rs) → IsReencoded k c rs bytes output (counts_in (now rs m)) → AreCounts rs → AreCounts (now rs m)
still_counts {rs = rs} m p h = go rs m (visits p.tree) p.asked h
  where
    go : (rs : Renamers) (m : State rs) (vs : List Visit) → counts_in (now rs m) ≡ all_counted (counts_in rs) vs → AreCounts rs → AreCounts (now rs m)
    go (Alone r) m vs e h = ap length (first_of e) ∙ length-counted r.counts vs ∙ h
    go (Both c) m vs e h = (
      ap length (first_of e) ∙ length-counted c.a.counts vs ∙ h.0,
      ap length (second_of e) ∙ length-counted c.b.counts vs ∙ h.1,
    )

-- answers of a rule are its only ones
pub one_answer : (xs ys : List ℕ) {E : Type 0} → ◌≡◌ {A = List (Result ℕ E)} (map Ok xs) (map Ok ys) → xs ≡ ys
one_answer [] [] e = refl
one_answer [] (y ∷ ys) e = absurd cc
one_answer (x ∷ xs) [] e = absurd cc
one_answer (x ∷ xs) (y ∷ ys) {E} e =
    let same : x ≡ y = cc in
    let rest : ◌≡◌ {A = List (Result ℕ E)} (map Ok xs) (map Ok ys) = cc in
    let more = one_answer xs ys rest in cc

-- ---- errors

-- why an error comes; no error comes of which nothing is said here
abbrev pub Why : Taken → ℕ → (rs : Renamers) → List ℕ → Error (Lack rs) → Type 0
Why k c rs bytes error.InvalidCodeSectionSize = IsFault k c rs bytes faults.CodeSize
Why k c rs bytes error.UnexpectedNonCoreModuleSection = IsFault k c rs bytes (faults.Header kinds.Component)
Why k c rs bytes error.UnexpectedNonComponentSection = IsFault k c rs bytes (faults.Header kinds.Module)
Why k c rs bytes (error.ParseError e) = IsFault k c rs bytes (faults.Read e)
Why k c rs bytes (error.UserError u) = IsUserRefusal k c rs bytes (told_lack rs u)
Why k c rs bytes (error.TooLarge size) = IsOutputTooLarge k c rs bytes size
Why k c rs bytes error.NoMemory = Unit {0}
Why k c rs bytes _ = ⊥

less_or_not : (a b : ℕ) → ((a < b) → ⊥) ⊎ (a < b)
less_or_not a b = go (nat_lt a b) refl
  where
    go : (z : Bool) → nat_lt a b ≡ z → ((a < b) → ⊥) ⊎ (a < b)
    go true e = inr (ltb-true a b e)
    go false e = let not : b ≤ a = ltb-false a b e in inl (λ h. omega arith)

longer : {c : ℕ} {x y : List ℕ} {e : Error Unmapped} → length x ≤ length y → Large c x e → Large c y e
longer h l = let long : _ < _ = l.long in record { size = l.size; is = l.is; long = omega arith }

blank_tells : Tells (asks_of (Alone no_renaming)) Blank Large
blank_tells = record {
  larger = λ less l. longer less l;
  kept = λ c t b w. walk_blank c t b w;
  hooked = λ s k a last before b h. let same : renamer_next s (Section last before) ≡ k = cc in subst Blank same (blank_next b (Section last before));
  opened = λ s k a b h. let same : renamer_next s Push ≡ k = cc in subst Blank same (blank_next b Push);
  unrefused = λ s m e last before b h. absurd cc;
  only = λ c t x b p w. only_large c t x b p w;
}

-- the bytes are longer than the ceiling where these renamings end so
abbrev IsLarge : (A : Type 0) → ℕ → List ℕ → (A → List ℕ) → Renamers → Type 0
IsLarge A c bytes view rs =
    (m : State rs) (e : Error (Lack rs)) → e ≢ error.NoMemory → GivesBytes (asks_of rs) c bytes (begun rs) m (Err e) view → BeforeFault (asks_of rs) c bytes (begun rs) m e
    → c < length bytes

large_alone : (A : Type 0) (c : ℕ) (bytes : List ℕ) (view : A → List ℕ) → IsLarge A c bytes view (Alone no_renaming)
large_alone A c bytes view m e other h before = go (less_or_not c (length bytes))
  where
    go : ((c < length bytes) → ⊥) ⊎ (c < length bytes) → c < length bytes
    go (inr t) = t
    go (inl never) =
        absurd (refusal_is_told blank_tells blank_new before
        (λ t reading. let p = module_headed.forth bytes t reading in only_large c (core_tree t) bytes blank_new p.spelled (h.reading (core_tree t) p other))
        (λ l. never l.long))

-- where nothing is renamed, the bytes are longer than the ceiling
large : (A : Type 0) (c : ℕ) (bytes : List ℕ) (view : A → List ℕ) (rs : Renamers) → rs ≡ Alone no_renaming → IsLarge A c bytes view rs
large A c bytes view rs same = subst (IsLarge A c bytes view) (sym same) (large_alone A c bytes view)

module _ (k : Taken) (c : ℕ) (rs : Renamers) (bytes : List ℕ) where
  -- an error that has a cause comes to an end, which has that cause

  pub has_status : (e : Error (Lack rs)) → Why k c rs bytes e → HasStatus e
  has_status error.CanonicalizedHeapTypeReference h = absurd h
  has_status error.InvalidConstExpr h = absurd h
  has_status error.UnsupportedCoreTypeInComponent h = absurd h
  has_status _ h = tt

  pub refused_as : (e : Error (Lack rs)) (fault : ReencodingFault) → Why k c rs bytes e → EndsAs (told_lack rs) c e fault → IsRefused k c rs bytes fault
  refused_as error.InvalidCodeSectionSize fault h f = rw f h
  refused_as error.UnexpectedNonCoreModuleSection fault h f = rw f h
  refused_as error.UnexpectedNonComponentSection fault h f = rw f h
  refused_as (error.ParseError e) fault h f = rw f h
  refused_as (error.UserError u) fault h f = rw f h
  refused_as (error.TooLarge size) fault h f = rw f (refl, h)
  refused_as error.NoMemory fault h f = rw f tt
  refused_as _ fault h f = absurd h

module _ (rs : Renamers) where
  -- it is told or it isn't
  told_or_not : (c : ℕ) (e : Error (Lack rs)) → (Told rs c e → ⊥) ⊎ Told rs c e
  told_or_not c (error.UserError u) = lacking_or_not rs u
  told_or_not c (error.TooLarge size) = less_or_not c size
  told_or_not c _ = inl (λ h. h)

  visit_keeps : (v : Visit) (s k : State rs) (a : ℕ) → Keeps rs s → asks_of rs s v ≡ accepted a k → Keeps rs k
  visit_keeps v s k a l h = go (reply_of rs s v) h
    where
      go : (r : Result ℕ (Lack rs)) → answered r (next_of rs s v) ≡ accepted a k → Keeps rs k
      go (Ok n) h = let same : next_of rs s v ≡ k = cc in subst (Keeps rs) same (keeps_next rs s l v)
      go (Err u) h = absurd cc

  hook_unrefused : (s n : State rs) (e : Error (Lack rs)) (last before : Option SectionId) → Keeps rs s → asks_of rs s (Section last before) ≡ refused e n → ⊥
  hook_unrefused s n e last before l h = go (reply_of rs s (Section last before)) (replies_by_rule rs s l (Section last before) ∙ hook_answers rs last before) h
    where
      go : (r : Result ℕ (Lack rs)) → r ≡ Ok 0 → answered r (next_of rs s (Section last before)) ≡ refused e n → ⊥
      go (Ok k) is h = absurd cc
      go (Err u) is h = absurd cc

  renamers_tell : Tells (asks_of rs) (Keeps rs) (λ c x e. Told rs c e)
  renamers_tell = record {
    larger = λ less q. q;
    kept = λ {s} c t l w. walk_keeps rs s c t l w;
    hooked = λ s k a last before l h. visit_keeps (Section last before) s k a l h;
    opened = λ s k a l h. visit_keeps Push s k a l h;
    unrefused = hook_unrefused;
    only = λ {s} c t x l p w. told_walk rs s c t x l p w;
  }

module _ {A : Type 0} (c : ℕ) (rs : Renamers) (bytes : List ℕ) {m : State rs} (view : A → List ℕ) where
  -- what an error of a core module says, whether it has a reading or not
  module_told : (e : Error (Lack rs)) → e ≢ error.NoMemory → GivesBytes (asks_of rs) c bytes (begun rs) m (Err e) view → BeforeFault (asks_of rs) c bytes (begun rs) m e → Told rs c e
  module_told e other h before = go (told_or_not rs c e)
    where
      go : (Told rs c e → ⊥) ⊎ Told rs c e → Told rs c e
      go (inr t) = t
      go (inl never) =
          absurd (refusal_is_told (renamers_tell rs) (keeps_begun rs) before
          (λ t reading. let p = module_headed.forth bytes t reading in told_walk rs (begun rs) c (core_tree t) bytes (keeps_begun rs) p.spelled (h.reading (core_tree t) p other)) never)

  -- why an error is not out of memory, of a core module
  module_cause : (e : Error (Lack rs)) → BytesClauses (hooks_of rs) c bytes (begun rs) m (Err e) view → IsCause (asks_of rs) c bytes (begun rs) m e
  module_cause e g = (g.default refl refl).cause

-- the bytes of a reading spell it
spelled_by : (k : Taken) (bytes : List ℕ) (t : Tree) → Reads k bytes t → Spelled t bytes
spelled_by Modules bytes t p = p.spelled
spelled_by Binaries bytes t (inl p) = p.spelled
spelled_by Binaries bytes t (inr (u, q, r)) = let P : Tree → Type 0 = λ z. Spelled z bytes in subst P (sym q) (component_headed.forth 0 bytes u r).0.spelled

module _ {A : Type 0} (k : Taken) (c : ℕ) (rs : Renamers) (bytes : List ℕ) (m : State rs) (view : A → List ℕ) where
  -- the walk over a reading was refused
  walked : (e : Error (Lack rs)) → promised k (hooks_of rs) view c bytes (begun rs) m (Err e) → e ≢ error.NoMemory → (t : Tree) → Reads k bytes t → walk (asks_of rs) c (begun rs) t ≡ refused e m
  walked e g other t r = (walk_stops (asks_of rs) c (begun rs) m t e).1 ((tells rs view k).stops c bytes (begun rs) m e g refl refl other t r)

  reading_told : (e : Error (Lack rs)) → promised k (hooks_of rs) view c bytes (begun rs) m (Err e) → e ≢ error.NoMemory → (t : Tree) → Reads k bytes t → Told rs c e
  reading_told e g other t r = told_walk rs (begun rs) c t bytes (keeps_begun rs) (spelled_by k bytes t r) (walked e g other t r)

  -- the fault that an error tells
  fault_there : (e : Error (Lack rs)) (x : Fault) → promised k (hooks_of rs) view c bytes (begun rs) m (Err e) → e ≢ error.NoMemory → (Told rs c e → ⊥) → IsOfBytes e → HasFault k bytes x →
      IsFault k c rs bytes x
  fault_there e x g other none tells_it h = record {
    none = λ t r. none (reading_told e g other t r);
    fault = h;
    accepted = λ t rest f.
        let p = (tells rs view k).accepted c bytes (begun rs) m e g refl refl tells_it t rest f in
        (p.1.given, (ran rs (visits t) (begun rs) (keeps_begun rs) p.1.ran).answers, p.1.fits);
  }

  -- the first visit without an answer, of those before a fault and of further ones
  first_up_to : (vs : List Visit) (rest : List ℕ) {u : Lack rs} → RefusedUpTo (asks_of rs) (begun rs) vs rest (error.UserError u) m → IsFirstUpTo rs vs rest u
  first_up_to vs rest (inl h) = inl (stops rs vs (begun rs) (keeps_begun rs) h)
  first_up_to vs rest (inr h) =
      let n = ran rs vs (begun rs) (keeps_begun rs) h.3 in inr (h.0, h.2, n.answers, h.4, stops rs h.2 h.1 n.keeps h.5)

  -- the last visit that was made has no answer
  last_lacks : (u : Lack rs) → promised k (hooks_of rs) view c bytes (begun rs) m (Err (error.UserError u)) → IsLacking rs u
  last_lacks u g =
      let p = (tells rs view k).last c bytes (begun rs) m (error.UserError u) g refl u refl in
      let q = stops rs p.0 (begun rs) (keeps_begun rs) p.1 in no_answer rs q.visit u q.refused

-- where a component's bytes have a fault, a refusal comes of what stands before it
module _ {A : Type 0} (c : ℕ) (rs : Renamers) (bytes : List ℕ) (m : State rs) (view : A → List ℕ) where
  component_before : (e : Error (Lack rs)) → ComponentBytesClauses (hooks_of rs) c bytes (begun rs) m (Err e) view → IsRefusal e → OfComponent c rs bytes m e
  component_before e (inl h) is = absurd (not_wanted e h.0 is)
    where
      not_wanted : (w : Error (Lack rs)) → ◌≡◌ {A = Result A (Error (Lack rs))} (Err w) (Err error.NoMemory) → IsRefusal w → ⊥
      not_wanted (error.UserError u) q is = cc
      not_wanted (error.TooLarge size) q is = cc
      not_wanted _ q is = is
  component_before e (inr h) is = λ sections rest f. by e is ((components.refusal_tells (hooks_of rs) (λ s v h. refl)).stops_before 0 bytes (begun rs) m (record { ceiling = c; sections = [] }) h.made e h.gives refl refl sections rest f)
    where
      by : (w : Error (Lack rs)) → IsRefusal w → {P : Type 0} → IfRefused w P → P
      by (error.UserError u) is p = p
      by (error.TooLarge size) is p = p
      by _ is p = absurd is

  core_before : (e : Error (Lack rs)) → BytesClauses (hooks_of rs) c bytes (begun rs) m (Err e) view → IsRefusal e → OfModule c rs bytes m e
  core_before e g is = by e is (module_cause c rs bytes view e g)
    where
      by : (w : Error (Lack rs)) → IsRefusal w → IsCause (asks_of rs) c bytes (begun rs) m w → OfModule c rs bytes m w
      by (error.UserError u) is h = h
      by (error.TooLarge size) is h = h
      by _ is h = absurd is

  pub before_fault : (k : Taken) (e : Error (Lack rs)) → promised k (hooks_of rs) view c bytes (begun rs) m (Err e) → IsRefusal e → AnyBeforeFault k c rs bytes m e
  before_fault Modules e g is = core_before e g is
  before_fault Binaries e g is = go (heading_or_not bytes)
    where
      go : HasComponentHeading bytes ⊎ NoComponentHeading bytes → AnyBeforeFault Binaries c rs bytes m e
      go (inl h) = inr (h, component_before e (g.component h) is)
      go (inr n) = inl (n, core_before e (g.core n) is)

  -- a size is above the ceiling, and where nothing is renamed, so is the input
  module_above : (size : ℕ) → BytesClauses (hooks_of rs) c bytes (begun rs) m (Err (error.TooLarge size)) view → (c < size) × (rs ≡ Alone no_renaming → c < length bytes)
  module_above size g =
      let d = g.default refl refl in
      (module_told c rs bytes view (error.TooLarge size) (λ same. cc) d d.cause, λ same. large A c bytes view rs same m (error.TooLarge size) (λ e. cc) d d.cause)

-- why an error of a component comes
abbrev Caused : ℕ → (rs : Renamers) → List ℕ → State rs → Error (Lack rs) → Type 0
Caused c rs bytes m e =
    CauseBy (asks (hooks_of rs)) (λ s v. []) c 0 (inside (asks (hooks_of rs)) (λ s v. []) c 0) (own_inside (asks (hooks_of rs)) (λ s v. []) c 0) bytes (begun rs) m e

-- where nothing is renamed, a component's bytes are longer than the ceiling
abbrev IsLong : ℕ → List ℕ → Renamers → Type 0
IsLong c bytes rs =
    (m : State rs) (e : Error (Lack rs)) → IsRefusal e → Caused c rs bytes m e → ((t : Tree) → ComponentReading 0 bytes t → walk (asks_of rs) c (begun rs) (component_tree t) ≡ refused e m) → c < length bytes

long_alone : (c : ℕ) (bytes : List ℕ) → IsLong c bytes (Alone no_renaming)
long_alone c bytes m e is cause reads = go (less_or_not c (length bytes))
  where
    go : ((c < length bytes) → ⊥) ⊎ (c < length bytes) → c < length bytes
    go (inr t) = t
    go (inl never) =
        absurd (component_is_told (hooks_of (Alone no_renaming)) (λ s v h. refl) blank_tells 200 0 c e bytes no_renaming m refl is blank_new cause
        (λ t r. never (only_large c (component_tree t) bytes blank_new (component_headed.forth 0 bytes t r).0.spelled (reads t r)).long)
        (λ l. never l.long))

module _ {A : Type 0} (c : ℕ) (rs : Renamers) (bytes : List ℕ) (m : State rs) (view : A → List ℕ) where
  component_above : (size : ℕ) → promised Binaries (hooks_of rs) view c bytes (begun rs) m (Err (error.TooLarge size)) → HasComponentHeading bytes → (c < size) × (rs ≡ Alone no_renaming → c < length bytes)
  component_above size g h = (go (told_or_not rs c (error.TooLarge size)), λ same. by same m (error.TooLarge size) tt cause reads)
    where
      caused : ComponentBytesClauses (hooks_of rs) c bytes (begun rs) m (Err (error.TooLarge size)) view → Caused c rs bytes m (error.TooLarge size)
      caused (inl w) = absurd cc
      caused (inr w) = (w.gives.default refl).cause

      cause : Caused c rs bytes m (error.TooLarge size)
      cause = caused (g.component h)

      reads : (t : Tree) → ComponentReading 0 bytes t → walk (asks_of rs) c (begun rs) (component_tree t) ≡ refused (error.TooLarge size) m
      reads t r = walked Binaries c rs bytes m view (error.TooLarge size) g (λ same. cc) (component_tree t) (inr (t, refl, r))

      go : (Told rs c (error.TooLarge size) → ⊥) ⊎ Told rs c (error.TooLarge size) → Told rs c (error.TooLarge size)
      go (inr t) = t
      go (inl never) =
          absurd (component_is_told (hooks_of rs) (λ s v h. refl) (renamers_tell rs) 200 0 c (error.TooLarge size) bytes (begun rs) m refl tt (keeps_begun rs) cause
          (λ t r. never (reading_told Binaries c rs bytes m view (error.TooLarge size) g (λ same. cc) (component_tree t) (inr (t, refl, r)))) never)

      by : rs ≡ Alone no_renaming → IsLong c bytes rs
      by same = subst (IsLong c bytes) (sym same) (long_alone c bytes)

  above : (k : Taken) (size : ℕ) → promised k (hooks_of rs) view c bytes (begun rs) m (Err (error.TooLarge size)) → (c < size) × (rs ≡ Alone no_renaming → c < length bytes)
  above Modules size g = module_above c rs bytes m view size g
  above Binaries size g = go (heading_or_not bytes)
    where
      go : HasComponentHeading bytes ⊎ NoComponentHeading bytes → (c < size) × (rs ≡ Alone no_renaming → c < length bytes)
      go (inl h) = component_above size g h
      go (inr n) = module_above c rs bytes m view size (g.core n)

module _ {A : Type 0} (k : Taken) (c : ℕ) (rs : Renamers) (bytes : List ℕ) (m : State rs) (view : A → List ℕ) where
  pub why_given : (e : Error (Lack rs)) → promised k (hooks_of rs) view c bytes (begun rs) m (Err e) → Why k c rs bytes e
  why_given e g = go e g ((tells rs view k).fault c bytes (begun rs) m e g refl)
    where
      go : (e : Error (Lack rs)) → promised k (hooks_of rs) view c bytes (begun rs) m (Err e) → IfFault e (HasFault k bytes) → Why k c rs bytes e
      go error.InvalidCodeSectionSize g h = fault_there k c rs bytes m view error.InvalidCodeSectionSize faults.CodeSize g (λ same. cc) (λ q. q) tt h
      go error.UnexpectedNonCoreModuleSection g h = fault_there k c rs bytes m view error.UnexpectedNonCoreModuleSection (faults.Header kinds.Component) g (λ same. cc) (λ q. q) tt h
      go error.UnexpectedNonComponentSection g h = fault_there k c rs bytes m view error.UnexpectedNonComponentSection (faults.Header kinds.Module) g (λ same. cc) (λ q. q) tt h
      go (error.ParseError e) g h = fault_there k c rs bytes m view (error.ParseError e) (faults.Read e) g (λ same. cc) (λ q. q) tt h
      go (error.UserError u) g h = record {
        u = u;
        is = refl;
        unmapped = last_lacks k c rs bytes m view u g;
        first = λ t r. stops rs (visits t) (begun rs) (keeps_begun rs) ((tells rs view k).reading c bytes (begun rs) m (error.UserError u) g refl u refl t r);
        walked = λ t r. (m, walked k c rs bytes m view (error.UserError u) g (λ same. cc) t r);
        fault = λ t rest f. first_up_to k c rs bytes m view (visits t) rest ((tells rs view k).further c bytes (begun rs) m (error.UserError u) g refl u refl t rest f);
        before = (m, before_fault c rs bytes m view k (error.UserError u) g tt);
      }
      go (error.TooLarge size) g h = record {
        above = (above c rs bytes m view k size g).0;
        first = λ t r. (m, walked k c rs bytes m view (error.TooLarge size) g (λ same. cc) t r);
        before = (m, before_fault c rs bytes m view k (error.TooLarge size) g tt);
        longer = (above c rs bytes m view k size g).1;
      }
      go error.NoMemory g h = tt
      go _ g h = h

  not_made : (e : Error (Lack rs)) → promised k (hooks_of rs) view c bytes (begun rs) m (Err e) → e ≢ error.NoMemory → (t : Tree) (answers : List ℕ) → Reads k bytes t
      → map (rule_of rs) (visits t) ≡ map Ok answers → Fits (fill t answers) c → ⊥
  not_made e g other t answers r all fits =
      let there = runs rs (visits t) (begun rs) answers (keeps_begun rs) all in
      other ((outputs rs view k).complete c bytes (begun rs) m (Err e) g refl refl (normal (fill t answers)) there.0
      (record { tree = t; reads = r; filled = record { given = answers; ran = there.1; fits = fits }; spelled = refl }))

  pub made_as : (e : Error (Lack rs)) → promised k (hooks_of rs) view c bytes (begun rs) m (Err e) → (fault : ReencodingFault) → EndsAs (told_lack rs) c e fault → IsMakingFault k c rs bytes fault
  made_as error.NoMemory g fault f = λ t answers reading all fits. f
  made_as e g fault f = λ t answers reading all fits. absurd (not_made e g (λ same. cc) t answers reading all fits)

-- ---- where nothing is renamed

pub plain_of : {k : Taken} {c : ℕ} {bytes output : List ℕ} {counts : List (List ℕ)} → IsReencoded k c (Alone no_renaming) bytes output counts → IsPlain k bytes output counts
plain_of {k} {c} {bytes} {output} {counts} p =
    let t = p.tree in
    let there = runs (Alone no_renaming) (visits t) no_renaming p.answers (keeps_begun (Alone no_renaming)) p.answered in
    let same = run_is blank_new (visits t) there.1 in record {
      tree = p.tree;
      reading = p.reading;
      spelled = p.spelled ∙ ap (λ (a : List ℕ). normal (fill t a)) same.0 ∙ ap normal (fill_own t);
      asked = p.asked;
    }
