-- The law of `specs/ComponentFaults.antt`.
use Rattle.std.proofs.Common.{◌≡◌, ◌+◌, ◌-◌, ℕ, zero, suc, List, [], ◌++◌, length, refl, sym, ap, ◌∙◌, subst, arith, ◌⊎◌, inl, inr}
use Rattle.std.proofs.lemmas.List.{append_cancel_left}
use Rattle.wasm_leb.specs.declared.fault.Fault.{Fault}
use Rattle.wasm_leb.specs.declared.fault.Fault.TheVariants as fault
use Rattle.wasm_leb.specs.declared.fault.Kind.TheVariants as kinds
use Rattle.wasm_shapes.specs.CodeSize.{InvalidCodeSize}
use Rattle.wasm_shapes.specs.Module as core
use Rattle.wasm_shapes.specs.Module.{core_header, component_header, alsos, frame, numbered_frame}
use Rattle.wasm_shapes.specs.Tree.{Tree}
use Rattle.wasm_shapes.proofs.Depth.{begins_unique}
use Rattle.reencode_core.specs.Core.{NoHeader}
use Rattle.reencode_core.proofs.sections_walked.CoreLoop as loop
use Rattle.reencode_component.specs.Components.{FaultAt, FaultBy, Framed, IsHandedOut, ModuleFault, NestedFault, ComponentReading}
use Rattle.reencode_component.specs.ComponentFaults as statements
use Rattle.reencode_component.proofs.sections_walked.SectionsAhead.{SectionsAhead, none_at_nil, sections_ahead, sections_of}

-- ---- one place

same_module_place : {bytes : List ℕ} {before ts : List Tree} {rest left : List ℕ} → core.FaultAt bytes before rest → core.FaultAt bytes ts left → left ≡ rest
same_module_place {before = before} {ts = ts} {rest = rest} {left = left} f g =
    let behind : f.front.text ++ rest ≡ g.front.text ++ left = append_cancel_left core_header (f.front.text ++ rest) (g.front.text ++ left) (sym f.front.stands ∙ g.front.stands) in
    go (loop.ahead before (f.front.text ++ rest) f.front.text rest g.front.text left (alsos ts Tree.finish) f.front.spells refl g.front.spells behind g.front.ends)
  where
    go : loop.Ahead before rest (alsos ts Tree.finish) left → left ≡ rest
    go (loop.Ahead.same e r) = sym r
    go (loop.Ahead.more t u behind e b) = absurd (f.front.ends.none b.text behind t b.spells b.reads)

same_place : {depth : ℕ} {bytes : List ℕ} {before ts : List Tree} {rest left : List ℕ} → FaultAt depth bytes before rest → FaultAt depth bytes ts left → left ≡ rest
same_place {depth = depth} {before = before} {ts = ts} {rest = rest} {left = left} f g = go (sections_ahead f.front g.front g.none)
  where
    go : SectionsAhead depth before rest ts left → left ≡ rest
    go (SectionsAhead.same e r) = r
    go (SectionsAhead.more t others behind e b) = absurd (f.none.none behind t b)

-- ---- headers

clash : {A : Type 0} {bytes x y : List ℕ} → bytes ≡ core_header ++ x → bytes ≡ component_header ++ y → A
clash {x = x} {y = y} p q = absurd (let e : core_header ++ x ≡ component_header ++ y = sym p ∙ q in cc)

no_core : {A : Type 0} {bytes x : List ℕ} → NoHeader bytes → bytes ≡ core_header ++ x → A
no_core {x = x} h p = absurd ((h x).0 p)

no_component : {A : Type 0} {bytes x : List ℕ} → NoHeader bytes → bytes ≡ component_header ++ x → A
no_component {x = x} h p = absurd ((h x).1 p)

-- ---- of a module

-- the ways in which a module's bytes are at fault
data Broken (bytes : List ℕ) (x : Fault) : Type 0 where
  headless : NoHeader bytes → x ≡ fault.Read (record { at = 0 }) → Broken bytes x
  of_component : (rest : List ℕ) → bytes ≡ component_header ++ rest → x ≡ fault.Header kinds.Component → Broken bytes x
  sized : (before : List Tree) (rest : List ℕ) → core.FaultAt bytes before rest → InvalidCodeSize rest → x ≡ fault.CodeSize → Broken bytes x
  here : (before : List Tree) (rest : List ℕ) → core.FaultAt bytes before rest → ¬ InvalidCodeSize rest → x ≡ fault.Read (record { at = length bytes - length rest }) → Broken bytes x

broken : (bytes : List ℕ) (x : Fault) → ModuleFault bytes x → Broken bytes x
broken bytes (fault.Read e) (inl h) = headless h.0 (ap (λ (n : ℕ). fault.Read (record { at = n })) h.1)
broken bytes (fault.Read e) (inr h) = here h.0 h.1 h.2 h.3 (ap (λ (n : ℕ). fault.Read (record { at = n })) h.4)
broken bytes fault.CodeSize h = sized h.0 h.1 h.2 h.3 refl
broken bytes (fault.Header kinds.Component) h = of_component h.0 h.1 refl
broken bytes (fault.Header kinds.Module) h = absurd h
broken bytes fault.NoMemory h = absurd h

broken_one : (bytes : List ℕ) (x y : Fault) → Broken bytes x → Broken bytes y → x ≡ y
broken_one bytes x y (headless h e) (headless h' e') = e ∙ sym e'
broken_one bytes x y (headless h e) (of_component r p e') = no_component h p
broken_one bytes x y (headless h e) (sized b r f s e') = no_core h f.front.stands
broken_one bytes x y (headless h e) (here b r f s e') = no_core h f.front.stands
broken_one bytes x y (of_component r p e) (headless h e') = no_component h p
broken_one bytes x y (of_component r p e) (of_component r' p' e') = e ∙ sym e'
broken_one bytes x y (of_component r p e) (sized b r' f s e') = clash f.front.stands p
broken_one bytes x y (of_component r p e) (here b r' f s e') = clash f.front.stands p
broken_one bytes x y (sized b r f s e) (headless h e') = no_core h f.front.stands
broken_one bytes x y (sized b r f s e) (of_component r' p e') = clash f.front.stands p
broken_one bytes x y (sized b r f s e) (sized b' r' f' s' e') = e ∙ sym e'
broken_one bytes x y (sized b r f s e) (here b' r' f' s' e') = absurd (s' (subst InvalidCodeSize (same_module_place f' f) s))
broken_one bytes x y (here b r f s e) (headless h e') = no_core h f.front.stands
broken_one bytes x y (here b r f s e) (of_component r' p e') = clash f.front.stands p
broken_one bytes x y (here b r f s e) (sized b' r' f' s' e') = absurd (s (subst InvalidCodeSize (same_module_place f f') s'))
broken_one bytes x y (here b r f s e) (here b' r' f' s' e') =
    e ∙ ap (λ (z : List ℕ). fault.Read (record { at = length bytes - length z })) (sym (same_module_place f f')) ∙ sym e'

-- ---- of a component

-- the ways in which a component's bytes are at fault
data Seen (depth : ℕ) (nested : Tree → Fault → Type 0) (bytes : List ℕ) (x : Fault) : Type 0 where
  bare : NoHeader bytes → x ≡ fault.Read (record { at = 0 }) → Seen depth nested bytes x
  of_core : (rest : List ℕ) → bytes ≡ core_header ++ rest → x ≡ fault.Header kinds.Module → Seen depth nested bytes x
  place : (before : List Tree) (rest : List ℕ) → FaultAt depth bytes before rest → x ≡ fault.Read (record { at = length bytes - length rest }) →
      ((y : Fault) → IsHandedOut y → Framed (λ f. nested f y) rest → ⊥) → Seen depth nested bytes x
  within : (before : List Tree) (rest : List ℕ) → FaultAt depth bytes before rest → IsHandedOut x → Framed (λ f. nested f x) rest → Seen depth nested bytes x

seen : (depth : ℕ) (nested : Tree → Fault → Type 0) (bytes : List ℕ) (x : Fault) → FaultBy depth nested bytes x → Seen depth nested bytes x
seen depth nested bytes (fault.Read e) (inl h) = bare h.0 (ap (λ (n : ℕ). fault.Read (record { at = n })) h.1)
seen depth nested bytes (fault.Read e) (inr h) = place h.0 h.1 h.2 (ap (λ (n : ℕ). fault.Read (record { at = n })) h.3) h.4
seen depth nested bytes (fault.Header kinds.Module) (inl h) = of_core h.0 h.1 refl
seen depth nested bytes (fault.Header kinds.Module) (inr h) = within h.1 h.2 h.3 tt h.4
seen depth nested bytes (fault.Header kinds.Component) h = within h.1 h.2 h.3 tt h.4
seen depth nested bytes fault.CodeSize h = within h.1 h.2 h.3 tt h.4
seen depth nested bytes fault.NoMemory h = absurd h.0

module _ (depth : ℕ) (nested : Tree → Fault → Type 0) (one : (f : Tree) (x y : Fault) → nested f x → nested f y → x ≡ y) where
  framed_one : {rest : List ℕ} (x y : Fault) → Framed (λ f. nested f x) rest → Framed (λ f. nested f y) rest → x ≡ y
  framed_one x y p q = let P : Tree → Type 0 = λ z. nested z y in one p.0 x y p.3 (subst P (begins_unique refl refl q.2 p.2).0 q.3)

  seen_one : (bytes : List ℕ) (x y : Fault) → Seen depth nested bytes x → Seen depth nested bytes y → x ≡ y
  seen_one bytes x y (bare h e) (bare h' e') = e ∙ sym e'
  seen_one bytes x y (bare h e) (of_core r p e') = no_core h p
  seen_one bytes x y (bare h e) (place b r f e' n) = no_component h f.front.stands
  seen_one bytes x y (bare h e) (within b r f o n) = no_component h f.front.stands
  seen_one bytes x y (of_core r p e) (bare h e') = no_core h p
  seen_one bytes x y (of_core r p e) (of_core r' p' e') = e ∙ sym e'
  seen_one bytes x y (of_core r p e) (place b r' f e' n) = clash p f.front.stands
  seen_one bytes x y (of_core r p e) (within b r' f o n) = clash p f.front.stands
  seen_one bytes x y (place b r f e n) (bare h e') = no_component h f.front.stands
  seen_one bytes x y (place b r f e n) (of_core r' p' e') = clash p' f.front.stands
  seen_one bytes x y (place b r f e n) (place b' r' f' e' n') = e ∙ ap (λ (z : List ℕ). fault.Read (record { at = length bytes - length z })) (sym (same_place f f')) ∙ sym e'
  seen_one bytes x y (place b r f e n) (within b' r' f' o' n') = let P : List ℕ → Type 0 = λ z. Framed (λ g. nested g y) z in absurd (n y o' (subst P (same_place f f') n'))
  seen_one bytes x y (within b r f o n) (bare h e') = no_component h f.front.stands
  seen_one bytes x y (within b r f o n) (of_core r' p' e') = clash p' f.front.stands
  seen_one bytes x y (within b r f o n) (place b' r' f' e' n') = let P : List ℕ → Type 0 = λ z. Framed (λ g. nested g x) z in absurd (n' x o (subst P (same_place f' f) n))
  seen_one bytes x y (within b r f o n) (within b' r' f' o' n') = let P : List ℕ → Type 0 = λ z. Framed (λ g. nested g y) z in framed_one x y n (subst P (same_place f f') n')

-- in one frame stands one section
pub nested_one : (depth room : ℕ) (f : Tree) (x y : Fault) → NestedFault depth room f x → NestedFault depth room f y → x ≡ y
nested_one depth zero f x y p q = absurd p
nested_one depth (suc room) f x y p q = go (nested_one (depth + 1) room) p.3 q.3
  where
    frames : numbered_frame p.0 p.1 ≡ numbered_frame q.0 q.1
    frames = sym p.2 ∙ q.2

    ids : p.0 ≡ q.0
    ids = let e : numbered_frame p.0 p.1 ≡ numbered_frame q.0 q.1 = frames in cc

    bodies : q.1 ≡ p.1
    bodies = let e : numbered_frame p.0 p.1 ≡ numbered_frame q.0 q.1 = frames in cc

    go : ((g : Tree) (a b : Fault) → NestedFault (depth + 1) room g a → NestedFault (depth + 1) room g b → a ≡ b) → ((p.0 ≡ 1) × ModuleFault p.1 x) ⊎ ((p.0 ≡ 4) × FaultBy (depth + 1) (NestedFault (depth + 1) room) p.1 x) →
        ((q.0 ≡ 1) × ModuleFault q.1 y) ⊎ ((q.0 ≡ 4) × FaultBy (depth + 1) (NestedFault (depth + 1) room) q.1 y) → x ≡ y
    go again (inl h) (inl k) = let P : List ℕ → Type 0 = λ z. ModuleFault z y in broken_one p.1 x y (broken p.1 x h.1) (broken p.1 y (subst P bodies k.1))
    go again (inl h) (inr k) = let m : p.0 ≡ 1 = h.0 in let n : q.0 ≡ 4 = k.0 in absurd (omega (arith, ids, m, n))
    go again (inr h) (inl k) = let m : p.0 ≡ 4 = h.0 in let n : q.0 ≡ 1 = k.0 in absurd (omega (arith, ids, m, n))
    go again (inr h) (inr k) =
        let P : List ℕ → Type 0 = λ z. FaultBy (depth + 1) (NestedFault (depth + 1) room) z y in
        seen_one (depth + 1) (NestedFault (depth + 1) room) again p.1 x y (seen (depth + 1) (NestedFault (depth + 1) room) p.1 x h.1)
        (seen (depth + 1) (NestedFault (depth + 1) room) p.1 y (subst P bodies k.1))

-- bytes with a fault behind their header have no reading
pub at_fault : (depth : ℕ) (bytes : List ℕ) (before : List Tree) (rest : List ℕ) → FaultAt depth bytes before rest → (t : Tree) → ComponentReading depth bytes t → ⊥
at_fault depth bytes before rest f t r = let l = sections_of r in go l.0 (sections_ahead f.front l.2 (none_at_nil depth))
  where
    go : (read : List Tree) → SectionsAhead depth before rest read [] → ⊥
    go read (SectionsAhead.same e empty) = f.some (sym empty)
    go read (SectionsAhead.more u others left e b) = f.none.none left u b

pub fault_is_one : statements.FaultIsOne
fault_is_one = record {
  one = λ depth bytes x y p q.
      seen_one depth (NestedFault depth (200 - depth)) (nested_one depth (200 - depth)) bytes x y (seen depth (NestedFault depth (200 - depth)) bytes x p)
      (seen depth (NestedFault depth (200 - depth)) bytes y q);
  none = λ depth bytes x p t r. no_reading depth bytes x (seen depth (NestedFault depth (200 - depth)) bytes x p) t r;
}
  where
    no_reading : (depth : ℕ) (bytes : List ℕ) (x : Fault) → Seen depth (NestedFault depth (200 - depth)) bytes x → (t : Tree) → ComponentReading depth bytes t → ⊥
    no_reading depth bytes x (bare h e) t r = no_component h r.stands
    no_reading depth bytes x (of_core rest p e) t r = clash p r.stands
    no_reading depth bytes x (place b rest f e n) t r = at_fault depth bytes b rest f t r
    no_reading depth bytes x (within b rest f o n) t r = at_fault depth bytes b rest f t r
