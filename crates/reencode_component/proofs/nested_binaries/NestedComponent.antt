-- A nested component, by what the call that maps one gives.
use Rattle.std.proofs.Common.{◌≡◌, ◌≢◌, ◌+◌, ◌<◌, ℕ, suc, List, [], ◌++◌, Ok, Err, IsTrue, refl, ap, ◌∙◌, subst, ◌⊎◌, inl, inr}
use Rattle.wasm_leb.specs.declared.fault.Fault.{Fault}
use Rattle.wasm_leb.specs.declared.fault.Fault.TheVariants as fault
use Rattle.wasm_leb.specs.declared.fault.Kind.TheVariants as kinds
use Rattle.wasm_shapes.specs.declared.Visit.TheVariants.{Push}
use Rattle.wasm_shapes.specs.Component.{component_body_of, component_tree}
use Rattle.wasm_shapes.specs.Module.{component_header, numbered_frame}
use Rattle.wasm_shapes.specs.Shape.{Shape}
use Rattle.wasm_shapes.specs.Tree.{Tree, visits}
use Rattle.wasm_shapes.proofs.ComponentLaws.{one_reading}
use Rattle.wasm_write.specs.Sections.{SectionRow, Sections}
use Rattle.wasm_write_component.specs.ComponentBytes.{component_bytes}
use Rattle.reencode_hooks.specs.declared.error.Error.{Error}
use Rattle.reencode_hooks.specs.declared.error.Error.TheVariants.{CanonicalizedHeapTypeReference, InvalidConstExpr, InvalidCodeSectionSize, UnexpectedNonCoreModuleSection, UnexpectedNonComponentSection, UnsupportedCoreTypeInComponent, ParseError, UserError, TooLarge, NoMemory}
use Rattle.reencode_hooks.specs.declared.indices.ReencodeIndices.{Ghosts}
use Rattle.reencode_hooks.specs.Run.{accepted, refused}
use Rattle.reencode_core.specs.Clauses.{asks}
use Rattle.reencode_core.specs.Rows.{Asks}
use Rattle.reencode_core.specs.Weave.{Puts, added}
use Rattle.reencode_core.specs.Woven.{AddsFit}
use Rattle.reencode_component.specs.Causes.{BehindFront, CauseBy, ComponentCause, FitsFront, FitsPushed, IfFault, IsFault, OwnInside, Stops, StopsNested, fits_inside, inside, own_inside, room}
use Rattle.reencode_component.specs.Gives.{GainsBefore}
use Rattle.reencode_component.specs.ComponentClauses.{ComponentClauses}
use Rattle.reencode_component.specs.ComponentLeaves.{component_in}
use Rattle.reencode_component.specs.Components.{ComponentFault, NestedFault, ComponentReading}
use Rattle.reencode_component.specs.NestedClauses.{inner_component}
use Rattle.reencode_component.specs.WeaveIn.{weave_in}
use Rattle.reencode_component.proofs.faults.OneFault.{fault_is_one}
use Rattle.reencode_component.proofs.nested_binaries.NestedReadings.{component_back, component_forth}
use Rattle.reencode_component.proofs.nested_binaries.NestedSections.{Accepts, IsNested, Refuses, fault_map, next_room}
use Rattle.reencode_component.proofs.nested_binaries.NestedSteps.{headed_accepted, headed_refused}
use Rattle.reencode_component.proofs.after_error.SectionsDrawn.{component_drawn}

-- ---- what stands in the frame

pub component_no_rows : (row : Shape) → component_body_of 4 ≡ Shape.vec row → ⊥
component_no_rows row e = cc

pub component_nested : (depth : ℕ) (body : List ℕ) → IsNested depth 4 component_tree (component_in (depth + 1) body)
component_nested depth body = record {
  forth = λ t r. component_forth depth body t r;
  back = λ u r. component_back depth body u r;
  one = λ u v p q. one_reading.component (depth + 1) (depth + 1) body u v p q;
  headed = λ u. refl;
  drawn = λ u r. component_drawn (depth + 1) body u r;
  no_rows = component_no_rows;
}

-- ---- errors of its bytes

module _ {S E : Type 0} (asked : Asks S E) (adds : Puts S SectionRow) (c depth : ℕ) (inner own : Stops S E) (bytes : List ℕ) (s m : S) where
  unread : (x : Fault) → IsFault asked adds c depth bytes s x → ((u : Tree) → ComponentReading depth bytes u → ⊥) × ComponentFault depth bytes x
  unread x h = ((λ u r. fault_is_one.none depth bytes x h.fault u r), h.fault)

  component_unread : (e : Error E) → CauseBy asked adds c depth inner own bytes s m e → IfFault e (λ x. ((u : Tree) → ComponentReading depth bytes u → ⊥) × ComponentFault depth bytes x)
  component_unread (ParseError x) h = unread (fault.Read x) h
  component_unread InvalidCodeSectionSize h = unread fault.CodeSize h
  component_unread UnexpectedNonCoreModuleSection h = unread (fault.Header kinds.Component) h
  component_unread UnexpectedNonComponentSection h = unread (fault.Header kinds.Module) h
  component_unread (UserError x) h = tt
  component_unread (TooLarge x) h = tt
  component_unread NoMemory h = tt
  component_unread CanonicalizedHeapTypeReference h = h
  component_unread InvalidConstExpr h = h
  component_unread UnsupportedCoreTypeInComponent h = h

-- ---- what the call gave

module _ {S E : Type 0} (i : Ghosts S E) (depth : ℕ) (body : List ℕ) (low : depth < 200) (s p m : S) (top : ℕ) (fresh new : Sections) (is_fresh : fresh ≡ record { ceiling = top; sections = [] })
    (pushed : asks i s Push ≡ accepted 0 p) where
  ceiling : fresh.ceiling ≡ top
  ceiling = ap Sections.ceiling is_fresh

  pub component_refused : (e : Error E) → ComponentClauses i (depth + 1) body p fresh m new (Err e) → IsTrue i.keeps_defaults →
      Refuses i depth 4 (inner_component i (depth + 1) body) component_tree top s p m e
  component_refused e g k = record {
    walks = λ u r other.
        let P : ℕ → Type 0 = λ z.
        BehindFront (asks i) i.adds z (depth + 1) (own_inside (asks i) i.adds z (depth + 1)) body p m e ⊎ (weave_in (asks i) (added i.adds) z p u ≡ refused e m) in
        by u (subst P ceiling ((g.default k).reading u r other));
    unread = fault_map e (λ x h. (h.0, faults x h.1)) (component_unread (asks i) i.adds top (depth + 1) (inside (asks i) i.adds top (depth + 1)) (own_inside (asks i) i.adds top (depth + 1)) body p m e cause);
    cause = cause;
    why = let P : ℕ → Type 0 = λ z. StopsNested (asks i) i.adds top depth z (numbered_frame 4 body) s m e in subst P (next_room depth low) (4, body, refl, p, pushed, inr (refl, cause));
    fits = fitting;
    left = g.after_error k;
    below = λ four made h. h;
    bare = g.headless k;
  }
    where
      cause : ComponentCause (asks i) i.adds top (depth + 1) body p m e
      cause = let P : ℕ → Type 0 = λ z. ComponentCause (asks i) i.adds z (depth + 1) body p m e in subst P ceiling (g.default k).cause

      faults : (x : Fault) → ComponentFault (depth + 1) body x → NestedFault depth (room depth) (numbered_frame 4 body) x
      faults x h = let P : ℕ → Type 0 = λ z. NestedFault depth z (numbered_frame 4 body) x in subst P (next_room depth low) (4, body, refl, inr (refl, h))

      front_fits : (c : ℕ) {before after : S × Sections} → GainsBefore (asks i) i.adds (depth + 1) (own_inside (asks i) i.adds before.1.ceiling (depth + 1)) (fits_inside (asks i) i.adds before.1.ceiling (depth + 1)) body before after e →
          before.1.ceiling ≡ c → e ≢ NoMemory → FitsFront (asks i) i.adds c (depth + 1) (fits_inside (asks i) i.adds c (depth + 1)) (own_inside (asks i) i.adds c (depth + 1)) body before.0 after.0 e
      front_fits c {before = before} {after = after} h is other =
          let P : ℕ → Type 0 = λ z. FitsFront (asks i) i.adds z (depth + 1) (fits_inside (asks i) i.adds z (depth + 1)) (own_inside (asks i) i.adds z (depth + 1)) body before.0 after.0 e in
          subst P is (go h)
        where
          go : GainsBefore (asks i) i.adds (depth + 1) (own_inside (asks i) i.adds before.1.ceiling (depth + 1)) (fits_inside (asks i) i.adds before.1.ceiling (depth + 1)) body before after e →
              FitsFront (asks i) i.adds before.1.ceiling (depth + 1) (fits_inside (asks i) i.adds before.1.ceiling (depth + 1)) (own_inside (asks i) i.adds before.1.ceiling (depth + 1)) body before.0 after.0 e
          go (inl none) = inl none.0
          go (inr g) = inr (g.front, (λ t left b. g.there t left b other), g.inside other)

      fitting : e ≢ NoMemory → OwnInside (asks i) i.adds top depth (suc (room (depth + 1))) (numbered_frame 4 body) s m e
          ⊎ FitsPushed (asks i) i.adds top (depth + 1) (fits_inside (asks i) i.adds top (depth + 1)) (own_inside (asks i) i.adds top (depth + 1)) (numbered_frame 4 body) s m e
      fitting other = inr (4, body, refl, p, pushed, inr (refl, front_fits top {before = (p, fresh)} {after = (m, new)} (g.default k).gained ceiling other))

      by : (u : Tree) → BehindFront (asks i) i.adds top (depth + 1) (own_inside (asks i) i.adds top (depth + 1)) body p m e ⊎ (weave_in (asks i) (added i.adds) top p u ≡ refused e m) →
          OwnInside (asks i) i.adds top depth (room depth) (numbered_frame 4 body) s m e ⊎ (weave_in (asks i) (added i.adds) top p (component_tree u) ≡ refused e m)
      by u (inl own) =
          let P : ℕ → Type 0 = λ z. OwnInside (asks i) i.adds top depth z (numbered_frame 4 body) s m e in
          inl (subst P (next_room depth low) (4, body, refl, p, pushed, inr (refl, own)))
      by u (inr h) = inr (headed_refused (asks i) (added i.adds) component_header top p m e u h)

  pub component_accepted : ComponentClauses i (depth + 1) body p fresh m new (Ok tt) → IsTrue i.keeps_defaults →
      Accepts i depth 4 (inner_component i (depth + 1) body) component_tree top p m (component_bytes new.sections)
  component_accepted g k = record {
    walks = λ u r.
        let q = (g.default k).reading u r in
        let W : ℕ → Type 0 = λ z. weave_in (asks i) (added i.adds) z p u ≡ accepted q.0 m in
        let rows : new.sections ≡ q.1 = ap Sections.sections q.3 ∙ ap (λ (z : Sections). z.sections ++ q.1) is_fresh in (
          component_tree q.0,
          headed_accepted (asks i) (added i.adds) component_header top p m u q.0 (subst W ceiling q.2),
          ap component_bytes rows ∙ ap (λ (z : List ℕ). component_header ++ z) q.4,
        );
    some = (g.default k).readable;
    fits = λ u r. let F : ℕ → Type 0 = λ z. AddsFit (asks i) i.adds z p (visits u) in subst F ceiling ((g.default k).fits u r);
  }
