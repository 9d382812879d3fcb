-- A nested core module, by what the call that maps one gives.
use Rattle.std.proofs.Common.{◌≡◌, ◌≢◌, ◌+◌, ◌<◌, ℕ, suc, List, [], ◌++◌, Ok, Err, IsTrue, refl, sym, ◌∙◌, subst, arith, ◌⊎◌, inl, inr}
use Rattle.wasm_leb.specs.declared.fault.Fault.{Fault}
use Rattle.wasm_shapes.specs.declared.Visit.TheVariants.{Push}
use Rattle.wasm_shapes.specs.Component.{component_body_of}
use Rattle.wasm_shapes.specs.Module.{CoreReading, component_header, core_header, core_tree, numbered_frame}
use Rattle.wasm_shapes.specs.Shape.{Shape}
use Rattle.wasm_shapes.specs.Tree.{Tree}
use Rattle.wasm_shapes.proofs.ComponentLaws.{one_reading}
use Rattle.wasm_shapes.proofs.Laws.{module_headed}
use Rattle.wasm_write.specs.Sections.{Sections, SectionRow, module_bytes}
use Rattle.reencode_hooks.specs.declared.error.Error.{Error}
use Rattle.reencode_hooks.specs.declared.error.Error.TheVariants.{CanonicalizedHeapTypeReference, InvalidConstExpr, InvalidCodeSectionSize, UnexpectedNonCoreModuleSection, UnexpectedNonComponentSection, UnsupportedCoreTypeInComponent, ParseError, UserError, TooLarge, NoMemory}
use Rattle.reencode_hooks.specs.declared.indices.ReencodeIndices.{Ghosts}
use Rattle.reencode_hooks.specs.Run.{accepted, refused}
use Rattle.reencode_core.specs.Clauses.{ModuleClauses, asks}
use Rattle.reencode_core.specs.Core.{IsCause}
use Rattle.reencode_core.specs.Leaves.{module_in}
use Rattle.reencode_core.specs.Rows.{Asks}
use Rattle.reencode_core.specs.Weave.{Puts, added, weave}
use Rattle.reencode_core.specs.Woven.{GivesWovenBytes, IsOwn, IsWovenCause, OwnNext, OwnTooLarge}
use Rattle.reencode_core.proofs.faults.FaultPlace.{fault_tells}
use Rattle.reencode_core.proofs.after_error.NoneOrAllVisited.{module_drawn}
use Rattle.reencode_core.proofs.sections_walked.WholeBytes.{bytes_given, bytes_refused}
use Rattle.reencode_component.specs.Causes.{FitsPushed, IfFault, OwnInside, StopsNested, fits_inside, own_inside, room}
use Rattle.reencode_component.specs.Components.{ModuleFault, NestedFault}
use Rattle.reencode_component.specs.NestedClauses.{inner_module}
use Rattle.reencode_component.specs.WeaveIn.{weave_in}
use Rattle.reencode_component.proofs.nested_binaries.NestedReadings.{module_back, module_forth}
use Rattle.reencode_component.proofs.nested_binaries.NestedSections.{Accepts, IsNested, Refuses, fault_map, next_room}
use Rattle.reencode_component.proofs.nested_binaries.NestedSteps.{core_same}

-- ---- what stands in the frame

pub module_no_rows : (row : Shape) → component_body_of 1 ≡ Shape.vec row → ⊥
module_no_rows row e = cc

pub module_nested : (depth : ℕ) (body : List ℕ) → depth < 200 → IsNested depth 1 core_tree (module_in body)
module_nested depth body low = record {
  forth = λ t r. let q = module_forth depth body t r in (q.0, q.1, q.2);
  back = λ u r. module_back depth body low u r;
  one = λ u v p q. one_reading.core body u v p q;
  headed = λ u. refl;
  drawn = λ u r. module_drawn body (core_tree u) (module_headed.forth body u r);
  no_rows = module_no_rows;
}

-- ---- errors of its bytes

module _ {S E : Type 0} (asked : Asks S E) (adds : Puts S SectionRow) (c : ℕ) (bytes : List ℕ) (s m : S) where
  -- a section of the hook's own tells nothing of the bytes
  own_unread : (P : Fault → Type 0) (e : Error E) → OwnTooLarge asked adds c bytes s e → IfFault e P
  own_unread P e o = go e o.own
    where
      never : (e : Error E) → ((own : List SectionRow) → IsOwn c own e → ⊥) → OwnNext asked adds c o.front.last o.front.at o.front.rest e → ⊥
      never e none (inl q) = none _ q.1
      never e none (inr (k, body, left, framed, inl x)) = none _ x
      never e none (inr (k, body, left, framed, inr x)) = none _ x.own

      go : (e : Error E) → OwnNext asked adds c o.front.last o.front.at o.front.rest e → IfFault e P
      go (UserError x) q = tt
      go (TooLarge x) q = tt
      go NoMemory q = tt
      go (ParseError x) q = absurd (never (ParseError x) (λ own h. h) q)
      go InvalidCodeSectionSize q = absurd (never InvalidCodeSectionSize (λ own h. h) q)
      go UnexpectedNonCoreModuleSection q = absurd (never UnexpectedNonCoreModuleSection (λ own h. h) q)
      go UnexpectedNonComponentSection q = absurd (never UnexpectedNonComponentSection (λ own h. h) q)
      go CanonicalizedHeapTypeReference q = never CanonicalizedHeapTypeReference (λ own h. h) q
      go InvalidConstExpr q = never InvalidConstExpr (λ own h. h) q
      go UnsupportedCoreTypeInComponent q = never UnsupportedCoreTypeInComponent (λ own h. h) q

  plain_unread : (e : Error E) → IsCause asked c bytes s m e → IfFault e (λ x. ((u : Tree) → CoreReading bytes u → ⊥) × ModuleFault bytes x)
  plain_unread (ParseError x) (inl h) = ((λ u r. (h.0 r.rest).0 r.stands), inl (h.0, h.1))
  plain_unread (ParseError x) (inr h) = ((fault_tells asked).none bytes h.0 h.1 h.2, inr (h.0, h.1, h.2, h.3, h.4))
  plain_unread InvalidCodeSectionSize h = ((fault_tells asked).none bytes h.0 h.1 h.2, (h.0, h.1, h.2, h.3))
  plain_unread UnexpectedNonCoreModuleSection h = ((λ u r. let e : core_header ++ r.rest ≡ component_header ++ h.0 = sym r.stands ∙ h.1 in cc), (h.0, h.1))
  plain_unread (UserError x) h = tt
  plain_unread (TooLarge x) h = tt
  plain_unread NoMemory h = tt
  plain_unread UnexpectedNonComponentSection h = absurd h
  plain_unread CanonicalizedHeapTypeReference h = h
  plain_unread InvalidConstExpr h = h
  plain_unread UnsupportedCoreTypeInComponent h = h

  module_unread : (e : Error E) → IsWovenCause asked adds c bytes s m e → IfFault e (λ x. ((u : Tree) → CoreReading bytes u → ⊥) × ModuleFault bytes x)
  module_unread e (inl h) = plain_unread e h.0
  module_unread e (inr o) = own_unread (λ x. ((u : Tree) → CoreReading bytes u → ⊥) × ModuleFault bytes x) e o

-- ---- what the call gave

module _ {S E : Type 0} (i : Ghosts S E) (depth : ℕ) (body : List ℕ) (low : depth < 200) (s p m : S) (top : ℕ) (fresh new : Sections) (is_fresh : fresh ≡ record { ceiling = top; sections = [] })
    (pushed : asks i s Push ≡ accepted 0 p) where
  pub module_refused : (e : Error E) → ModuleClauses i body p fresh m new (Err e) → IsTrue i.keeps_defaults →
      Refuses i depth 1 (inner_module i body) core_tree top s p m e
  module_refused e g k = record {
    walks = λ u r other. by u r (b.reading (core_tree u) (module_headed.forth body u r) other);
    unread = fault_map e (λ x h. (h.0, faults x h.1)) (module_unread (asks i) i.adds top body p m e b.cause);
    cause = b.cause;
    why = let P : ℕ → Type 0 = λ z. StopsNested (asks i) i.adds top depth z (numbered_frame 1 body) s m e in subst P (next_room depth low) (1, body, refl, p, pushed, inl (refl, b.cause));
    fits = fitting b.cause;
    left = λ told size. record { leaves = g.after_error k told size; unread = λ none. tt };
    below = λ four made h. absurd (omega (arith, four));
    bare = g.headless k;
  }
    where
      faults : (x : Fault) → ModuleFault body x → NestedFault depth (room depth) (numbered_frame 1 body) x
      faults x h = let P : ℕ → Type 0 = λ z. NestedFault depth z (numbered_frame 1 body) x in subst P (next_room depth low) (1, body, refl, inl (refl, h))

      b : GivesWovenBytes {A = Unit {0}} (asks i) i.adds top body p m (Err e) (λ _. [])
      b = bytes_refused (asks i) i.adds body top p m fresh new e (λ _. []) is_fresh (g.woven k)

      fitting : IsWovenCause (asks i) i.adds top body p m e → e ≢ NoMemory → OwnInside (asks i) i.adds top depth (suc (room (depth + 1))) (numbered_frame 1 body) s m e
          ⊎ FitsPushed (asks i) i.adds top (depth + 1) (fits_inside (asks i) i.adds top (depth + 1)) (own_inside (asks i) i.adds top (depth + 1)) (numbered_frame 1 body) s m e
      fitting (inl h) other = inr (1, body, refl, p, pushed, inl (refl, h.1 other))
      fitting (inr own) other = inl (1, body, refl, p, pushed, inl (refl, own))

      by : (u : Tree) → CoreReading body u → OwnTooLarge (asks i) i.adds top body p e ⊎ (weave (asks i) (added i.adds) top p (core_tree u) ≡ refused e m) →
          OwnInside (asks i) i.adds top depth (room depth) (numbered_frame 1 body) s m e ⊎ (weave_in (asks i) (added i.adds) top p (core_tree u) ≡ refused e m)
      by u r (inl own) =
          let P : ℕ → Type 0 = λ z. OwnInside (asks i) i.adds top depth z (numbered_frame 1 body) s m e in
          inl (subst P (next_room depth low) (1, body, refl, p, pushed, inl (refl, own)))
      by u r (inr h) = inr (core_same (asks i) (added i.adds) top p u r ∙ h)

  pub module_accepted : ModuleClauses i body p fresh m new (Ok tt) → IsTrue i.keeps_defaults →
      Accepts i depth 1 (inner_module i body) core_tree top p m (module_bytes new.sections)
  module_accepted g k = record {
    walks = λ u r.
        let q = b.reading (core_tree u) (module_headed.forth body u r) in
        (q.0, core_same (asks i) (added i.adds) top p u r ∙ q.1, q.2);
    some = (g.woven k).readable;
    fits = λ u r. b.fits (core_tree u) (module_headed.forth body u r);
  }
    where
      b : GivesWovenBytes {A = Sections} (asks i) i.adds top body p m (Ok new) (λ z. module_bytes z.sections)
      b = bytes_given (asks i) i.adds body top p m fresh new tt is_fresh (g.woven k) new (λ z. module_bytes z.sections) refl
