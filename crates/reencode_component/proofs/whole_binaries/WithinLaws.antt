-- The laws of `specs/WithinLaws.antt`.
use Rattle.std.proofs.Common.{arith, ◌≡◌, ◌≢◌, ◌⊎◌, inl, inr, ℕ, Bool, true, false, List, [], ◌∷◌, ◌++◌, nat_eq, Option, Result, Ok, Err, IfOk, IsTrue, refl, sym, ap, ap₂, ◌∙◌, subst}
use Rattle.std.proofs.lemmas.Bool.Decides.{nat_tests}
use Rattle.std.proofs.lemmas.Result.{IfErr-at_err}
use Rattle.wasm_leb.specs.declared.fault.Fault.{Fault}
use Rattle.wasm_shapes.specs.declared.SectionId.{SectionId}
use Rattle.wasm_shapes.specs.declared.Visit.{Visit}
use Rattle.wasm_shapes.specs.Component.{component_tree}
use Rattle.wasm_shapes.specs.Module.{component_header, core_header, core_module, alsos, FaultAt}
use Rattle.wasm_shapes.specs.Spells.{Spells}
use Rattle.wasm_shapes.specs.Tree.{Tree, fill, normal, visits}
use Rattle.wasm_shapes.proofs.Laws.{module_headed}
use Rattle.wasm_write.specs.Sections.{Sections, sections_bytes}
use Rattle.wasm_write_component.specs.ComponentBytes.{component_bytes}
use Rattle.reencode_hooks.specs.declared.error.Error.{Error}
use Rattle.reencode_hooks.specs.declared.error.Error.TheVariants.{InvalidCodeSectionSize, UnexpectedNonCoreModuleSection, UnexpectedNonComponentSection, ParseError, UserError, TooLarge, NoMemory}
use Rattle.reencode_hooks.specs.declared.indices.ReencodeIndices.{Ghosts}
use Rattle.reencode_hooks.specs.Hooks.{KeepsAdds, MayAdd}
use Rattle.reencode_hooks.specs.Run.{refused, run}
use Rattle.reencode_hooks.proofs.Walks.{walk_stops}
use Rattle.reencode_core.specs.Clauses.{BytesClauses, asks}
use Rattle.reencode_core.specs.Core.{AcceptsSections, IsCause}
use Rattle.reencode_core.specs.Leaves.{CoreUpTo, Leaves, core_in}
use Rattle.reencode_core.specs.Refusals.{RefusedUpTo, RefusesNone}
use Rattle.reencode_core.specs.Weave.{added}
use Rattle.reencode_core.specs.Woven.{IsOrWants, IsWovenCause, OwnNext}
use Rattle.reencode_core.proofs.weave.AddsNothing.{added_none}
use Rattle.reencode_core.proofs.faults.OneFront.{one_front}
use Rattle.reencode_core.proofs.faults.RefusalLaws.{never_refused, refusal_tells}
use Rattle.reencode_component.specs.Causes.{CauseBy, IfFault, inside, own_inside}
use Rattle.reencode_component.specs.ComponentClauses.{ComponentClauses}
use Rattle.reencode_component.specs.ComponentLaws.{AnswersFault, Filled, IsOfBytes, IsTaken, StopsOn}
use Rattle.reencode_component.specs.ComponentLeaves.{ComponentUpTo, NoComponentHeading}
use Rattle.reencode_component.specs.Components.{ComponentFault, ModuleFault, ComponentReading}
use Rattle.reencode_component.specs.Within.{ComponentBytesClauses, HasComponentHeading, WithinClauses, ended}
use Rattle.reencode_component.specs.WithinLaws as statements
use Rattle.reencode_component.specs.WithinLaws.{BinaryFault, ReadsBinary, as_binary, as_module, of_binary, of_module}
use Rattle.reencode_component.proofs.whole_binaries.ComponentLaws as components
use Rattle.reencode_component.proofs.whole_binaries.ComponentLaws.{filled_of, only_wants, same_taken}
use Rattle.reencode_component.proofs.nested_binaries.NestedSections.{fault_map}

-- ---- headers

-- bytes begin with these, or do not
begins_or_not : (front bytes : List ℕ) → ((rest : List ℕ) × (bytes ≡ front ++ rest)) ⊎ ((rest : List ℕ) → bytes ≢ front ++ rest)
begins_or_not [] bytes = inl (bytes, refl)
begins_or_not (b ∷ front) [] = inr (λ rest e. cc)
begins_or_not (b ∷ front) (x ∷ bytes) = go (nat_eq x b) refl (begins_or_not front bytes)
  where
    go : (same : Bool) → nat_eq x b ≡ same → ((rest : List ℕ) × (bytes ≡ front ++ rest)) ⊎ ((rest : List ℕ) → bytes ≢ front ++ rest) →
        ((rest : List ℕ) × (x ∷ bytes ≡ b ∷ (front ++ rest))) ⊎ ((rest : List ℕ) → x ∷ bytes ≢ b ∷ (front ++ rest))
    go true e (inl h) = let is : x ≡ b = grind (arith, nat_tests) in inl (h.0, ap₂ (λ (y : ℕ) (z : List ℕ). y ∷ z) is h.1)
    go true e (inr h) = inr (λ rest q. let tails : bytes ≡ front ++ rest = cc in h rest tails)
    go false e h = inr (λ rest q. let is : x ≡ b = cc in grind (arith, nat_tests))

pub heading_or_not : (bytes : List ℕ) → HasComponentHeading bytes ⊎ NoComponentHeading bytes
heading_or_not bytes = begins_or_not component_header bytes

-- a core module's bytes have not the header of a component
core_apart : (bytes x y : List ℕ) → bytes ≡ core_header ++ x → bytes ≡ component_header ++ y → ⊥
core_apart bytes x y p q = let never : core_header ++ x ≡ component_header ++ y = sym p ∙ q in cc

-- an error of a call that refuses no visit tells the fault, or it is a size that is too large, or out of memory
pub answers_fault : {E : Type 0} (fault : Fault → Type 0) (e : Error E) → IfFault e fault → ((x : E) → e ≢ UserError x) → AnswersFault fault (Err e)
answers_fault fault (UserError x) h none = none x refl
answers_fault fault (ParseError x) h none = h
answers_fault fault InvalidCodeSectionSize h none = h
answers_fault fault UnexpectedNonCoreModuleSection h none = h
answers_fault fault UnexpectedNonComponentSection h none = h
answers_fault fault (TooLarge size) h none = h
answers_fault fault NoMemory h none = h
answers_fault fault _ h none = h

-- ---- a core module

module _ {S E A : Type 0} (i : Ghosts S E) (adds : KeepsAdds i.adds i.adds_nothing) (view : A → List ℕ) where
  none_added : IsTrue i.adds_nothing → (s : S) (v : Visit) → MayAdd v → i.adds s v ≡ []
  none_added nothing = added_none adds nothing

  core_output : (c : ℕ) (bytes : List ℕ) (s m : S) (out : A) → BytesClauses i c bytes s m (Ok out) view → IsTrue i.keeps_defaults → IsTrue i.adds_nothing → IsTaken as_module (asks i) c bytes s m (view out)
  core_output c bytes s m out g keeps nothing =
      let d = g.default keeps nothing in
      let t = d.readable.0 in
      let q = d.reading t d.readable.1 in
      let p = filled_of i (none_added nothing) c s m t q.0 q.1 in
      record { tree = t; reads = d.readable.1; filled = p.0; spelled = q.2 ∙ ap normal p.1 }

  core_complete : (c : ℕ) (bytes : List ℕ) (s m : S) (result : Result A (Error E)) → BytesClauses i c bytes s m result view → IsTrue i.keeps_defaults → IsTrue i.adds_nothing → (out : List ℕ) (n : S) →
      IsTaken as_module (asks i) c bytes s n out → IsOrWants out n m result view
  core_complete c bytes s m (Ok o) g keeps nothing out n h =
      let q = (g.default keeps nothing).reading h.tree h.reads in
      let same = same_taken i (none_added nothing) as_module h _ h.reads.spelled q.0 q.1 in (q.2 ∙ same.0, same.1)
  core_complete c bytes s m (Err e) g keeps nothing out n h =
      only_wants i (none_added nothing) as_module h _ h.reads.spelled e (λ other. (g.default keeps nothing).reading h.tree h.reads other)

  core_caused : (c : ℕ) (bytes : List ℕ) (s m : S) (e : Error E) → IsCause (asks i) c bytes s m e → IfFault e (ModuleFault bytes)
  core_caused c bytes s m InvalidCodeSectionSize h = (h.0, h.1, h.2, h.3)
  core_caused c bytes s m UnexpectedNonCoreModuleSection h = (h.0, h.1)
  core_caused c bytes s m (ParseError e) (inl h) = inl (h.0, h.1)
  core_caused c bytes s m (ParseError e) (inr h) = inr (h.0, h.1, h.2, h.3, h.4)
  core_caused c bytes s m (UserError x) h = tt
  core_caused c bytes s m (TooLarge size) h = tt
  core_caused c bytes s m NoMemory h = tt
  core_caused c bytes s m _ h = absurd h

  pub woven_caused : (c : ℕ) (bytes : List ℕ) (s m : S) (e : Error E) → IsWovenCause (asks i) i.adds c bytes s m e → IfFault e (ModuleFault bytes)
  woven_caused c bytes s m e (inl h) = core_caused c bytes s m e h.0
  woven_caused c bytes s m e (inr own) = by e own.own
    where
      by : (w : Error E) → OwnNext (asks i) i.adds c own.front.last own.front.at own.front.rest w → IfFault w (ModuleFault bytes)
      by (TooLarge size) h = tt
      by (UserError x) h = tt
      by NoMemory h = tt
      by _ (inl h) = absurd h.1
      by _ (inr (k, body, left, framed, inl x)) = absurd x
      by _ (inr (k, body, left, framed, inr x)) = absurd x.own

  core_fault : (c : ℕ) (bytes : List ℕ) (s m : S) (e : Error E) → BytesClauses i c bytes s m (Err e) view → IsTrue i.keeps_defaults → IfFault e (ModuleFault bytes)
  core_fault c bytes s m e g keeps = woven_caused c bytes s m e (g.woven keeps).cause

  -- sections that were accepted
  sections_filled : (c : ℕ) (s n : S) (read made : List Tree) (last : Option SectionId) → IsTrue i.adds_nothing → AcceptsSections (asks i) c s read made last n → Filled (asks i) c s (alsos read Tree.empty) n
  sections_filled c s n read made last nothing h = (filled_of i (none_added nothing) c s n (alsos read Tree.empty) (alsos made Tree.empty) (h Tree.empty)).0

  -- with an error of the bytes all sections before their fault were
  pub cause_accepted : (c : ℕ) (bytes : List ℕ) (s m : S) (e : Error E) → IsCause (asks i) c bytes s m e → IsTrue i.adds_nothing → IsOfBytes e → (t : Tree) (rest : List ℕ) → CoreUpTo bytes t rest →
      (n : S) × Filled (asks i) c s t n
  cause_accepted c bytes s m e cause nothing tells t rest (CoreUpTo.sections before left f) = go e tells cause
    where
      same : (read : List Tree) (others : List ℕ) → FaultAt bytes read others → (n : S) → Filled (asks i) c s (alsos read Tree.empty) n → (k : S) × Filled (asks i) c s (alsos before Tree.empty) k
      same read others r n h =
          let one = one_front bytes read before others left r.front f.front in
          let P : List Tree → Type 0 = λ z. Filled (asks i) c s (alsos z Tree.empty) n in (n, subst P one.0 h)

      go : (w : Error E) → IsOfBytes w → IsCause (asks i) c bytes s m w → (n : S) × Filled (asks i) c s (alsos before Tree.empty) n
      go InvalidCodeSectionSize tells h = same h.0 h.1 h.2 m (sections_filled c s m h.0 h.4 h.5 nothing h.6)
      go UnexpectedNonCoreModuleSection tells h = absurd (core_apart bytes (f.front.text ++ left) h.0 f.front.stands h.1)
      go (ParseError x) tells (inl h) = absurd ((h.0 (f.front.text ++ left)).0 f.front.stands)
      go (ParseError x) tells (inr h) = same h.0 h.1 h.2 h.7 (sections_filled c s h.7 h.0 h.5 h.6 nothing h.8)
      go UnexpectedNonComponentSection tells h = absurd h
      go _ tells h = absurd tells

  core_accepted : (c : ℕ) (bytes : List ℕ) (s m : S) (e : Error E) → BytesClauses i c bytes s m (Err e) view → IsTrue i.keeps_defaults → IsTrue i.adds_nothing → IsOfBytes e → (t : Tree) (rest : List ℕ) →
      CoreUpTo bytes t rest → (n : S) × Filled (asks i) c s t n
  core_accepted c bytes s m e g keeps nothing tells t rest f = cause_accepted c bytes s m e (g.default keeps nothing).cause nothing tells t rest f

  core_leaves : (c : ℕ) (bytes : List ℕ) (s m : S) (x : E) → BytesClauses i c bytes s m (Err (UserError x)) view → IsTrue i.keeps_defaults → Leaves (asks i) (core_in bytes) s (UserError x) m
  core_leaves c bytes s m x g keeps = g.after_error keeps (λ h. absurd cc) (λ h. absurd h)

  core_reading : (c : ℕ) (bytes : List ℕ) (s m : S) (e : Error E) → BytesClauses i c bytes s m (Err e) view → IsTrue i.keeps_defaults → (x : E) → e ≡ UserError x → (t : Tree) → Spells core_module bytes t →
      run (asks i) s (visits t) ≡ refused e m
  core_reading c bytes s m (UserError y) g keeps x is t p = (refusal_tells (asks i)).reading bytes s m y (core_leaves c bytes s m y g keeps) t p
  core_reading c bytes s m _ g keeps x is t p = absurd cc

  core_further : (c : ℕ) (bytes : List ℕ) (s m : S) (e : Error E) → BytesClauses i c bytes s m (Err e) view → IsTrue i.keeps_defaults → (x : E) → e ≡ UserError x → (t : Tree) (rest : List ℕ) →
      CoreUpTo bytes t rest → RefusedUpTo (asks i) s (visits t) rest e m
  core_further c bytes s m (UserError y) g keeps x is t rest (CoreUpTo.sections before left f) = (refusal_tells (asks i)).fault bytes s m y (core_leaves c bytes s m y g keeps) before left f
  core_further c bytes s m _ g keeps x is t rest f = absurd cc

  core_last : (c : ℕ) (bytes : List ℕ) (s m : S) (e : Error E) → BytesClauses i c bytes s m (Err e) view → IsTrue i.keeps_defaults → (x : E) → e ≡ UserError x →
      (made : List Visit) × (run (asks i) s made ≡ refused e m)
  core_last c bytes s m (UserError y) g keeps x is = let l = core_leaves c bytes s m y g keeps in (l.made, l.ended.by)
  core_last c bytes s m _ g keeps x is = absurd cc

  core_never : (c : ℕ) (bytes : List ℕ) (s m : S) (e : Error E) → BytesClauses i c bytes s m (Err e) view → IsTrue i.keeps_defaults → RefusesNone (asks i) → (x : E) → e ≢ UserError x
  core_never c bytes s m (UserError y) g keeps none x is = never_refused (asks i) none (core_in bytes) s m y (core_leaves c bytes s m y g keeps)
  core_never c bytes s m _ g keeps none x is = cc

  core_stops : (c : ℕ) (bytes : List ℕ) (s m : S) (e : Error E) → BytesClauses i c bytes s m (Err e) view → IsTrue i.keeps_defaults → IsTrue i.adds_nothing → e ≢ NoMemory → (t : Tree) →
      Spells core_module bytes t → StopsOn (asks i) c s t e m
  core_stops c bytes s m e g keeps nothing other t p = (walk_stops (asks i) c s m t e).0 ((g.default keeps nothing).reading t p other)

  -- ---- a component

  -- memory ran out before anything was asked
  wanted : {P : Type 0} (e : Error E) → ◌≡◌ {A = Result A (Error E)} (Err e) (Err NoMemory) → e ≢ NoMemory → P
  wanted e is other = absurd (other cc)

  component_output : (c : ℕ) (bytes : List ℕ) (s m : S) (out : A) → ComponentBytesClauses i c bytes s m (Ok out) view → IsTrue i.keeps_defaults → IsTrue i.adds_nothing →
      IsTaken as_binary (asks i) c bytes s m (view out)
  component_output c bytes s m out (inl h) keeps nothing = let never : ◌≡◌ {A = Result A (Error E)} (Ok out) (Err NoMemory) = h.0 in absurd cc
  component_output c bytes s m out (inr h) keeps nothing =
      let p = components.ok_is_reencoded i adds 0 bytes s m (record { ceiling = c; sections = [] }) h.made (Ok tt) h.gives keeps nothing in
      let r = p.2 in
      record {
        tree = component_tree r.tree;
        reads = inr (r.tree, refl, r.reads);
        filled = record { given = r.filled.given; ran = r.filled.ran; fits = r.filled.fits };
        spelled = h.spelled ∙ ap (λ (z : Sections). component_header ++ sections_bytes z.sections) p.1.gains ∙ ap (λ (z : List ℕ). component_header ++ z) (p.1.spelled ∙ r.spelled);
      }

  component_complete : (c : ℕ) (bytes : List ℕ) (s m : S) (result : Result A (Error E)) → ComponentBytesClauses i c bytes s m result view → IsTrue i.keeps_defaults → IsTrue i.adds_nothing →
      (out : List ℕ) (n : S) (t : Tree) → ComponentReading 0 bytes t → (f : Filled (asks i) c s t n) → out ≡ component_header ++ normal (fill t f.given) → IsOrWants out n m result view
  component_complete c bytes s m (Ok o) (inl h) keeps nothing out n t r f is = let never : ◌≡◌ {A = Result A (Error E)} (Ok o) (Err NoMemory) = h.0 in absurd cc
  component_complete c bytes s m (Err e) (inl h) keeps nothing out n t r f is = cc h.0
  component_complete c bytes s m (Ok o) (inr h) keeps nothing out n t r f is =
      let p = components.reencoded_is_answered i adds 0 bytes s m (record { ceiling = c; sections = [] }) h.made (Ok tt) h.gives keeps nothing (normal (fill t f.given)) n
      (record { tree = t; reads = r; filled = f; spelled = refl }) in
      (h.spelled ∙ ap (λ (z : Sections). component_header ++ sections_bytes z.sections) p.0.gains ∙ ap (λ (z : List ℕ). component_header ++ z) p.0.spelled ∙ sym is, p.1)
  component_complete c bytes s m (Err e) (inr h) keeps nothing out n t r f is =
      components.reencoded_is_answered i adds 0 bytes s m (record { ceiling = c; sections = [] }) h.made (Err e) h.gives keeps nothing (normal (fill t f.given)) n
      (record { tree = t; reads = r; filled = f; spelled = refl })

  component_caused : (c : ℕ) (bytes : List ℕ) (s m : S) (e : Error E) →
      CauseBy (asks i) i.adds c 0 (inside (asks i) i.adds c 0) (own_inside (asks i) i.adds c 0) bytes s m e → IfFault e (ComponentFault 0 bytes)
  component_caused c bytes s m (ParseError x) h = h.fault
  component_caused c bytes s m InvalidCodeSectionSize h = h.fault
  component_caused c bytes s m UnexpectedNonCoreModuleSection h = h.fault
  component_caused c bytes s m UnexpectedNonComponentSection h = h.fault
  component_caused c bytes s m (UserError x) h = tt
  component_caused c bytes s m (TooLarge size) h = tt
  component_caused c bytes s m NoMemory h = tt
  component_caused c bytes s m _ h = h

  component_fault : (c : ℕ) (bytes : List ℕ) (s m : S) (e : Error E) → ComponentBytesClauses i c bytes s m (Err e) view → IsTrue i.keeps_defaults → IfFault e (ComponentFault 0 bytes)
  component_fault c bytes s m NoMemory g keeps = tt
  component_fault c bytes s m e (inl h) keeps = wanted e h.0 (λ same. cc)
  component_fault c bytes s m e (inr h) keeps = component_caused c bytes s m e (h.gives.default keeps).cause

  component_accepted : (c : ℕ) (bytes : List ℕ) (s m : S) (e : Error E) → ComponentBytesClauses i c bytes s m (Err e) view → IsTrue i.keeps_defaults → IsTrue i.adds_nothing → IsOfBytes e →
      (t : Tree) (rest : List ℕ) → ComponentUpTo 0 bytes t rest → (n : S) × Filled (asks i) c s t n
  component_accepted c bytes s m NoMemory g keeps nothing tells t rest f = absurd tells
  component_accepted c bytes s m e (inl h) keeps nothing tells t rest f = wanted e h.0 (λ same. cc)
  component_accepted c bytes s m e (inr h) keeps nothing tells t rest (ComponentUpTo.sections before left f) =
      let p = components.fault_gains i adds 0 bytes s m (record { ceiling = c; sections = [] }) h.made e h.gives keeps nothing tells before left f in (p.at, p.filled)

  component_reading : (c : ℕ) (bytes : List ℕ) (s m : S) (e : Error E) → ComponentBytesClauses i c bytes s m (Err e) view → IsTrue i.keeps_defaults → (x : E) → e ≡ UserError x → (t : Tree) →
      ComponentReading 0 bytes t → run (asks i) s (visits t) ≡ refused e m
  component_reading c bytes s m e (inl h) keeps x is t r = wanted e h.0 (λ same. cc)
  component_reading c bytes s m e (inr h) keeps x is t r =
      (components.refusal_tells i adds).reading 0 bytes s m (record { ceiling = c; sections = [] }) h.made e h.gives keeps x is t r

  component_further : (c : ℕ) (bytes : List ℕ) (s m : S) (e : Error E) → ComponentBytesClauses i c bytes s m (Err e) view → IsTrue i.keeps_defaults → (x : E) → e ≡ UserError x → (t : Tree) (rest : List ℕ) →
      ComponentUpTo 0 bytes t rest → RefusedUpTo (asks i) s (visits t) rest e m
  component_further c bytes s m e (inl h) keeps x is t rest f = wanted e h.0 (λ same. cc)
  component_further c bytes s m e (inr h) keeps x is t rest (ComponentUpTo.sections before left f) =
      (components.refusal_tells i adds).fault 0 bytes s m (record { ceiling = c; sections = [] }) h.made e h.gives keeps x is before left f

  component_last : (c : ℕ) (bytes : List ℕ) (s m : S) (e : Error E) → ComponentBytesClauses i c bytes s m (Err e) view → IsTrue i.keeps_defaults → (x : E) → e ≡ UserError x →
      (made : List Visit) × (run (asks i) s made ≡ refused e m)
  component_last c bytes s m e (inl h) keeps x is = wanted e h.0 (λ same. cc)
  component_last c bytes s m (UserError y) (inr h) keeps x is = let l = components.leaves i adds 0 bytes s m (record { ceiling = c; sections = [] }) h.made y h.gives keeps in (l.made, l.ended.by)
  component_last c bytes s m _ (inr h) keeps x is = absurd cc

  component_never : (c : ℕ) (bytes : List ℕ) (s m : S) (e : Error E) → ComponentBytesClauses i c bytes s m (Err e) view → IsTrue i.keeps_defaults → RefusesNone (asks i) → (x : E) → e ≢ UserError x
  component_never c bytes s m e (inl h) keeps none x is = wanted e h.0 (λ same. cc)
  component_never c bytes s m e (inr h) keeps none x is =
      (components.refusal_tells i adds).never 0 bytes s m (record { ceiling = c; sections = [] }) h.made e h.gives keeps none x is

  component_stops : (c : ℕ) (bytes : List ℕ) (s m : S) (e : Error E) → ComponentBytesClauses i c bytes s m (Err e) view → IsTrue i.keeps_defaults → IsTrue i.adds_nothing → e ≢ NoMemory → (t : Tree) →
      ComponentReading 0 bytes t → StopsOn (asks i) c s t e m
  component_stops c bytes s m e (inl h) keeps nothing other t r = wanted e h.0 other
  component_stops c bytes s m e (inr h) keeps nothing other t r =
      (components.refusal_tells i adds).stops 0 bytes s m (record { ceiling = c; sections = [] }) h.made e h.gives keeps nothing other t r

  -- ---- what is said of calls with such promises

  pub module_error_tells : statements.ErrorTells as_module i (of_module i view)
  module_error_tells = record {
    fault = core_fault;
    accepted = core_accepted;
    reading = core_reading;
    further = core_further;
    last = core_last;
    never = core_never;
    stops = core_stops;
  }

  pub module_output : statements.OutputIsTaken as_module i (of_module i view) view
  module_output = record {
    output = λ c bytes s m result g keeps nothing. go c bytes s m result g keeps nothing;
    complete = core_complete;
    unread = λ c bytes s m result g keeps none bare. unread c bytes s m result g keeps none bare;
  }
    where
      go : (c : ℕ) (bytes : List ℕ) (s m : S) (result : Result A (Error E)) → BytesClauses i c bytes s m result view → IsTrue i.keeps_defaults → IsTrue i.adds_nothing →
          IfOk result (λ out. IsTaken as_module (asks i) c bytes s m (view out))
      go c bytes s m (Ok out) g keeps nothing = core_output c bytes s m out g keeps nothing
      go c bytes s m (Err e) g keeps nothing = tt

      unread : (c : ℕ) (bytes : List ℕ) (s m : S) (result : Result A (Error E)) → BytesClauses i c bytes s m result view → IsTrue i.keeps_defaults → RefusesNone (asks i) →
          ((t : Tree) → Spells core_module bytes t → ⊥) → AnswersFault (ModuleFault bytes) (ended result)
      unread c bytes s m (Ok o) g keeps none bare = let t = (g.woven keeps).readable in absurd (bare t.0 t.1)
      unread c bytes s m (Err e) g keeps none bare = answers_fault (ModuleFault bytes) e (core_fault c bytes s m e g keeps) (core_never c bytes s m e g keeps none)

  -- by the header
  abbrev Within : ℕ → List ℕ → S → S → Result A (Error E) → Type 0
  Within c bytes s m result = WithinClauses i c bytes s m result view

  no_core : (bytes : List ℕ) → HasComponentHeading bytes → {P : Type 0} (t : Tree) → Spells core_module bytes t → P
  no_core bytes h t p = let r = module_headed.back bytes t p in absurd (core_apart bytes r.2.rest h.0 r.2.stands h.1)

  no_core_fault : (bytes : List ℕ) → HasComponentHeading bytes → {P : Type 0} (t : Tree) (rest : List ℕ) → CoreUpTo bytes t rest → P
  no_core_fault bytes h t rest (CoreUpTo.sections before left f) = absurd (core_apart bytes (f.front.text ++ left) h.0 f.front.stands h.1)

  no_component : (bytes : List ℕ) → NoComponentHeading bytes → {P : Type 0} (t : Tree) → ComponentReading 0 bytes t → P
  no_component bytes n t r = absurd (n r.rest r.stands)

  no_component_fault : (bytes : List ℕ) → NoComponentHeading bytes → {P : Type 0} (t : Tree) (rest : List ℕ) → ComponentUpTo 0 bytes t rest → P
  no_component_fault bytes n t rest (ComponentUpTo.sections before left f) = absurd (n f.front.start f.front.stands)

  pub binary_error_tells : statements.ErrorTells as_binary i (of_binary i view)
  binary_error_tells = record {
    fault = λ c bytes s m e g keeps. fault c bytes s m e g keeps (heading_or_not bytes);
    accepted = λ c bytes s m e g keeps nothing tells t rest f. accepted_there c bytes s m e g keeps nothing tells t rest f (heading_or_not bytes);
    reading = λ c bytes s m e g keeps x is t r. reading c bytes s m e g keeps x is t r (heading_or_not bytes);
    further = λ c bytes s m e g keeps x is t rest f. further c bytes s m e g keeps x is t rest f (heading_or_not bytes);
    last = λ c bytes s m e g keeps x is. last c bytes s m e g keeps x is (heading_or_not bytes);
    never = λ c bytes s m e g keeps none x is. never c bytes s m e g keeps none x is (heading_or_not bytes);
    stops = λ c bytes s m e g keeps nothing other t r. stops c bytes s m e g keeps nothing other t r (heading_or_not bytes);
  }
    where
      fault : (c : ℕ) (bytes : List ℕ) (s m : S) (e : Error E) → Within c bytes s m (Err e) → IsTrue i.keeps_defaults → HasComponentHeading bytes ⊎ NoComponentHeading bytes → IfFault e (BinaryFault bytes)
      fault c bytes s m e g keeps (inl h) = fault_map e (λ x p. inr (h, p)) (component_fault c bytes s m e (g.component h) keeps)
      fault c bytes s m e g keeps (inr n) = fault_map e (λ x p. inl (n, p)) (core_fault c bytes s m e (g.core n) keeps)

      accepted_there : (c : ℕ) (bytes : List ℕ) (s m : S) (e : Error E) → Within c bytes s m (Err e) → IsTrue i.keeps_defaults → IsTrue i.adds_nothing → IsOfBytes e → (t : Tree) (rest : List ℕ) →
          CoreUpTo bytes t rest ⊎ ComponentUpTo 0 bytes t rest → HasComponentHeading bytes ⊎ NoComponentHeading bytes → (n : S) × Filled (asks i) c s t n
      accepted_there c bytes s m e g keeps nothing tells t rest (inl f) (inl h) = no_core_fault bytes h t rest f
      accepted_there c bytes s m e g keeps nothing tells t rest (inr f) (inl h) = component_accepted c bytes s m e (g.component h) keeps nothing tells t rest f
      accepted_there c bytes s m e g keeps nothing tells t rest (inl f) (inr n) = core_accepted c bytes s m e (g.core n) keeps nothing tells t rest f
      accepted_there c bytes s m e g keeps nothing tells t rest (inr f) (inr n) = no_component_fault bytes n t rest f

      reading : (c : ℕ) (bytes : List ℕ) (s m : S) (e : Error E) → Within c bytes s m (Err e) → IsTrue i.keeps_defaults → (x : E) → e ≡ UserError x → (t : Tree) → ReadsBinary bytes t →
          HasComponentHeading bytes ⊎ NoComponentHeading bytes → run (asks i) s (visits t) ≡ refused e m
      reading c bytes s m e g keeps x is t (inl p) (inl h) = no_core bytes h t p
      reading c bytes s m e g keeps x is t (inr (u, q, r)) (inl h) =
          let P : Tree → Type 0 = λ z. run (asks i) s (visits z) ≡ refused e m in subst P (sym q) (component_reading c bytes s m e (g.component h) keeps x is u r)
      reading c bytes s m e g keeps x is t (inl p) (inr n) = core_reading c bytes s m e (g.core n) keeps x is t p
      reading c bytes s m e g keeps x is t (inr (u, q, r)) (inr n) = no_component bytes n u r

      further : (c : ℕ) (bytes : List ℕ) (s m : S) (e : Error E) → Within c bytes s m (Err e) → IsTrue i.keeps_defaults → (x : E) → e ≡ UserError x → (t : Tree) (rest : List ℕ) →
          CoreUpTo bytes t rest ⊎ ComponentUpTo 0 bytes t rest → HasComponentHeading bytes ⊎ NoComponentHeading bytes → RefusedUpTo (asks i) s (visits t) rest e m
      further c bytes s m e g keeps x is t rest (inl f) (inl h) = no_core_fault bytes h t rest f
      further c bytes s m e g keeps x is t rest (inr f) (inl h) = component_further c bytes s m e (g.component h) keeps x is t rest f
      further c bytes s m e g keeps x is t rest (inl f) (inr n) = core_further c bytes s m e (g.core n) keeps x is t rest f
      further c bytes s m e g keeps x is t rest (inr f) (inr n) = no_component_fault bytes n t rest f

      last : (c : ℕ) (bytes : List ℕ) (s m : S) (e : Error E) → Within c bytes s m (Err e) → IsTrue i.keeps_defaults → (x : E) → e ≡ UserError x →
          HasComponentHeading bytes ⊎ NoComponentHeading bytes → (made : List Visit) × (run (asks i) s made ≡ refused e m)
      last c bytes s m e g keeps x is (inl h) = component_last c bytes s m e (g.component h) keeps x is
      last c bytes s m e g keeps x is (inr n) = core_last c bytes s m e (g.core n) keeps x is

      never : (c : ℕ) (bytes : List ℕ) (s m : S) (e : Error E) → Within c bytes s m (Err e) → IsTrue i.keeps_defaults → RefusesNone (asks i) → (x : E) → e ≡ UserError x →
          HasComponentHeading bytes ⊎ NoComponentHeading bytes → ⊥
      never c bytes s m e g keeps none x is (inl h) = component_never c bytes s m e (g.component h) keeps none x is
      never c bytes s m e g keeps none x is (inr n) = core_never c bytes s m e (g.core n) keeps none x is

      stops : (c : ℕ) (bytes : List ℕ) (s m : S) (e : Error E) → Within c bytes s m (Err e) → IsTrue i.keeps_defaults → IsTrue i.adds_nothing → e ≢ NoMemory → (t : Tree) → ReadsBinary bytes t →
          HasComponentHeading bytes ⊎ NoComponentHeading bytes → StopsOn (asks i) c s t e m
      stops c bytes s m e g keeps nothing other t (inl p) (inl h) = no_core bytes h t p
      stops c bytes s m e g keeps nothing other t (inr (u, q, r)) (inl h) =
          let P : Tree → Type 0 = λ z. StopsOn (asks i) c s z e m in subst P (sym q) (component_stops c bytes s m e (g.component h) keeps nothing other u r)
      stops c bytes s m e g keeps nothing other t (inl p) (inr n) = core_stops c bytes s m e (g.core n) keeps nothing other t p
      stops c bytes s m e g keeps nothing other t (inr (u, q, r)) (inr n) = no_component bytes n u r

  -- what a core module is taken as it is as a binary too
  as_any : {c : ℕ} {bytes out : List ℕ} {s m : S} → IsTaken as_module (asks i) c bytes s m out → IsTaken as_binary (asks i) c bytes s m out
  as_any h = record { tree = h.tree; reads = inl h.reads; filled = h.filled; spelled = h.spelled }

  pub binary_output : statements.OutputIsTaken as_binary i (of_binary i view) view
  binary_output = record {
    output = λ c bytes s m result g keeps nothing. go c bytes s m result g keeps nothing (heading_or_not bytes);
    complete = λ c bytes s m result g keeps nothing out n h. whole c bytes s m result g keeps nothing out n h h.reads (heading_or_not bytes);
    unread = λ c bytes s m result g keeps none bare. unread c bytes s m result g keeps none bare (heading_or_not bytes);
  }
    where
      go : (c : ℕ) (bytes : List ℕ) (s m : S) (result : Result A (Error E)) → Within c bytes s m result → IsTrue i.keeps_defaults → IsTrue i.adds_nothing →
          HasComponentHeading bytes ⊎ NoComponentHeading bytes → IfOk result (λ out. IsTaken as_binary (asks i) c bytes s m (view out))
      go c bytes s m (Ok out) g keeps nothing (inl h) = component_output c bytes s m out (g.component h) keeps nothing
      go c bytes s m (Ok out) g keeps nothing (inr n) = as_any (core_output c bytes s m out (g.core n) keeps nothing)
      go c bytes s m (Err e) g keeps nothing heading = tt

      whole : (c : ℕ) (bytes : List ℕ) (s m : S) (result : Result A (Error E)) → Within c bytes s m result → IsTrue i.keeps_defaults → IsTrue i.adds_nothing → (out : List ℕ) (n : S) →
          (h : IsTaken as_binary (asks i) c bytes s n out) → ReadsBinary bytes h.tree → HasComponentHeading bytes ⊎ NoComponentHeading bytes → IsOrWants out n m result view
      whole c bytes s m result g keeps nothing out n h (inl p) (inl head) = no_core bytes head h.tree p
      whole c bytes s m result g keeps nothing out n h (inr (u, q, r)) (inl head) =
          let P : Tree → Type 0 = λ z. (f : Filled (asks i) c s z n) × (out ≡ normal (fill z f.given)) in
          let there : P (component_tree u) = subst P q (h.filled, h.spelled) in
          component_complete c bytes s m result (g.component head) keeps nothing out n u r (record { given = there.0.given; ran = there.0.ran; fits = there.0.fits }) there.1
      whole c bytes s m result g keeps nothing out n h (inl p) (inr none) =
          core_complete c bytes s m result (g.core none) keeps nothing out n (record { tree = h.tree; reads = p; filled = h.filled; spelled = h.spelled })
      whole c bytes s m result g keeps nothing out n h (inr (u, q, r)) (inr none) = no_component bytes none u r

      unread : (c : ℕ) (bytes : List ℕ) (s m : S) (result : Result A (Error E)) → Within c bytes s m result → IsTrue i.keeps_defaults → RefusesNone (asks i) →
          ((t : Tree) → ReadsBinary bytes t → ⊥) → HasComponentHeading bytes ⊎ NoComponentHeading bytes → AnswersFault (BinaryFault bytes) (ended result)
      unread c bytes s m (Ok o) g keeps none bare (inl head) = component_read (g.component head)
        where
          component_read : ComponentBytesClauses i c bytes s m (Ok o) view → ⊥
          component_read (inl h) = let never : ◌≡◌ {A = Result A (Error E)} (Ok o) (Err NoMemory) = h.0 in absurd cc
          component_read (inr h) = let t = (h.gives.default keeps).readable in bare (component_tree t.0) (inr (t.0, refl, t.1))
      unread c bytes s m (Ok o) g keeps none bare (inr other) = let t = ((g.core other).woven keeps).readable in bare t.0 (inl t.1)
      unread c bytes s m (Err e) g keeps none bare heading =
          answers_fault (BinaryFault bytes) e (binary_error_tells.fault c bytes s m e g keeps) (binary_error_tells.never c bytes s m e g keeps none)

  pub kind_tells : statements.KindTells i (of_binary i view)
  kind_tells c bytes s m e g keeps none is = by e is (core_fault c bytes s m e (g.core none) keeps)
    where
      by : (w : Error E) → w ≡ UnexpectedNonCoreModuleSection → IfFault w (ModuleFault bytes) → ⊥
      by UnexpectedNonCoreModuleSection q h = none h.0 h.1
      by _ q h = cc

-- ---- a component without sections that was made

pub component_made : {S E A : Type 0} (i : Ghosts S E) (c : ℕ) (bytes : List ℕ) (s m : S) (old new : Sections) (result : Result A (Error E)) (view : A → List ℕ) → old ≡ record { ceiling = c; sections = [] } →
    ComponentClauses i 0 bytes s old m new (ended result) → IfOk result (λ out. view out ≡ component_bytes new.sections) → ComponentBytesClauses i c bytes s m result view
component_made i c bytes s m old new result view fresh g spelled =
    let P : Sections → Type 0 = λ z. ComponentClauses i 0 bytes s z m new (ended result) in inr (record { made = new; gives = subst P fresh g; spelled = spelled })

-- the same answer, seen another way
pub component_seen : {S E A B : Type 0} (i : Ghosts S E) (c : ℕ) (bytes : List ℕ) (s m : S) (out : A) (view : A → List ℕ) (other : B) (seen : B → List ℕ) → seen other ≡ view out →
    ComponentBytesClauses i c bytes s m (Ok out) view → ComponentBytesClauses i c bytes s m (Ok other) seen
component_seen i c bytes s m out view other seen same (inl p) = let never : Ok out ≡ Err NoMemory = p.0 in absurd cc
component_seen i c bytes s m out view other seen same (inr b) = inr (record { made = b.made; gives = b.gives; spelled = same ∙ b.spelled })

pub component_stopped : {S E A B : Type 0} (i : Ghosts S E) (c : ℕ) (bytes : List ℕ) (s m : S) (e : Error E) (view : A → List ℕ) (seen : B → List ℕ) →
    ComponentBytesClauses i c bytes s m (Err e) view → ComponentBytesClauses i c bytes s m (Err e) seen
component_stopped i c bytes s m e view seen (inl p) = inl (ap Err (IfErr-at_err (λ y. e ≡ y) p.0 refl), p.1)
component_stopped i c bytes s m e view seen (inr b) = inr (record { made = b.made; gives = b.gives; spelled = tt })
