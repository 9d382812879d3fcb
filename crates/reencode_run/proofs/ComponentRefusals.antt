-- What a refusal of a reencoder of a component comes of, where its bytes have no reading.
use Rattle.std.proofs.Common.{◌≡◌, ℕ, zero, suc, ◌+◌, ◌⊎◌, inl, inr, List, [], sym, ◌∙◌, subst, arith}
use Rattle.wasm_shapes.specs.declared.Visit.{Visit}
use Rattle.wasm_shapes.specs.Component.{component_tree}
use Rattle.wasm_shapes.specs.ComponentNames.{sort_bytes}
use Rattle.wasm_shapes.specs.Module.{component_header, core_tree, frame, numbered_frame}
use Rattle.wasm_shapes.specs.Place.{Begins}
use Rattle.wasm_shapes.specs.Tree.{Tree}
use Rattle.wasm_shapes.specs.Types.{rows_tree}
use Rattle.reencode_hooks.specs.declared.error.Error.{Error}
use Rattle.reencode_hooks.specs.declared.error.Error.TheVariants.{UserError, TooLarge}
use Rattle.reencode_hooks.specs.declared.indices.ReencodeIndices.{Ghosts}
use Rattle.reencode_hooks.specs.Hooks.{MayAdd}
use Rattle.reencode_hooks.specs.Run.{refused}
use Rattle.reencode_hooks.specs.Walk.{walk}
use Rattle.reencode_core.specs.Clauses.{asks}
use Rattle.reencode_core.specs.Core as core
use Rattle.reencode_core.specs.Weave.{added}
use Rattle.reencode_core.specs.Woven.{IsWovenCause}
use Rattle.reencode_core.proofs.weave.AddsNothing.{no_own}
use Rattle.reencode_component.specs.Causes.{BeforeFault, BehindFront, CauseBy, OwnInside, StopsBy, StopsInRows, StopsNested}
use Rattle.reencode_component.specs.ComponentNames.{component_names}
use Rattle.reencode_component.specs.Components.{FaultAt, Framed, ComponentReading, ReadsSection}
use Rattle.reencode_component.specs.WeaveIn.{AcceptsAll, RefusesAmong}
use Rattle.reencode_component.proofs.sections_walked.FrontLaws.{reads_or_fails}
use Rattle.reencode_component.proofs.whole_binaries.ComponentLaws.{is_walk, own_never}
use Rattle.reencode_component.proofs.nested_binaries.NestedReadings.{component_back, module_back}
use Rattle.reencode_component.proofs.nested_binaries.NestedSteps.{nested_tree}
use Rattle.reencode_component.proofs.sections_walked.SectionsAhead.{section_there}
use Rattle.reencode_run.specs.Reencoded.{IsRefusal}
use Rattle.reencode_run.proofs.Refusals.{MapsWithin, Tells, custom, first_shorter, names_told, numbered, refusal_is_told, row_told, second_shorter}

-- ---- names

-- behind its sort stands the map of a subsection
sorted_within : MapsWithin component_names
sorted_within id body row map h = second_shorter (sort_bytes h.1.space) map h.1.stands

-- ---- what is said

module _ {S E : Type 0} (i : Ghosts S E) (none : (s : S) (v : Visit) → MayAdd v → i.adds s v ≡ []) {P : S → Type 0} {Q : ℕ → List ℕ → Error E → Type 0} (tells : Tells (asks i) P Q) where
  rows_told : (c depth id : ℕ) (body : List ℕ) (s m : S) (e : Error E) → P s → StopsInRows (asks i) c depth id body s m e → Q c body e
  rows_told c depth id body s m e b h = let counted = h.counted.counted in tells.larger (second_shorter counted.0 h.reader.rest counted.2) (row_told tells b h.stops)

  of_plain : (c : ℕ) (e : Error E) (bytes : List ℕ) (s m : S) → IsRefusal e → core.IsCause (asks i) c bytes s m e → core.BeforeFault (asks i) c bytes s m e
  of_plain c (UserError x) bytes s m is h = h
  of_plain c (TooLarge size) bytes s m is h = h
  of_plain c _ bytes s m is h = absurd is

  of_module : (c : ℕ) (e : Error E) (bytes : List ℕ) (s m : S) → IsRefusal e → IsWovenCause (asks i) i.adds c bytes s m e → core.BeforeFault (asks i) c bytes s m e
  of_module c e bytes s m is (inl h) = of_plain c e bytes s m is h.0
  of_module c e bytes s m is (inr h) = absurd (no_own (asks i) i.adds none h)

  of_component : (scopes depth c : ℕ) (e : Error E) (bytes : List ℕ) (s m : S) → IsRefusal e →
      CauseBy (asks i) i.adds c depth (StopsBy (asks i) c depth (StopsNested (asks i) i.adds c depth scopes)) (OwnInside (asks i) i.adds c depth scopes) bytes s m e →
      BeforeFault (asks i) i.adds c depth (StopsBy (asks i) c depth (StopsNested (asks i) i.adds c depth scopes)) (OwnInside (asks i) i.adds c depth scopes) bytes s m e
  of_component scopes depth c (UserError x) bytes s m is h = h
  of_component scopes depth c (TooLarge size) bytes s m is h = h
  of_component scopes depth c _ bytes s m is h = absurd is

  -- sections before a fault that were accepted
  front_keeps : (c : ℕ) (s n : S) (read made : List Tree) → P s → AcceptsAll (asks i) (added i.adds) c s read made n → P n
  front_keeps c s n read made b h = tells.kept c (rows_tree read) b (sym (is_walk i none c s (rows_tree read)) ∙ h Tree.nil)

  front_told : (c depth : ℕ) (bytes : List ℕ) (s m : S) (e : Error E) (before : List Tree) (rest : List ℕ) → P s → FaultAt depth bytes before rest → RefusesAmong (asks i) (added i.adds) c s before e m → Q c bytes e
  front_told c depth bytes s m e before rest b f h =
      let step : walk (asks i) c s (rows_tree before) ≡ refused e m = sym (is_walk i none c s (rows_tree before)) ∙ h Tree.nil in
      tells.larger (second_shorter component_header f.front.start f.front.stands)
      (tells.larger (first_shorter f.front.rows.text rest f.front.rows.stands) (tells.only c (rows_tree before) f.front.rows.text b f.front.rows.spelled step))

  behind : (c depth : ℕ) (bytes : List ℕ) (e : Error E) (before : List Tree) (rest : List ℕ) → FaultAt depth bytes before rest → Q c rest e → Q c bytes e
  behind c depth bytes e before rest f q =
      tells.larger (second_shorter component_header f.front.start f.front.stands) (tells.larger (second_shorter f.front.rows.text rest f.front.rows.stands) q)

  -- a refusal of a nested section is told, and one of a component: so many scopes may still be opened
  abbrev NestedTold : ℕ → Type 0
  NestedTold scopes = (depth c : ℕ) (e : Error E) (f : Tree) (rest left : List ℕ) (s m : S) → depth + scopes ≡ 200 → IsRefusal e → P s → Begins frame rest f left →
      ((t : Tree) → ReadsSection depth f t → ⊥) → StopsNested (asks i) i.adds c depth scopes f s m e → (Q c rest e → ⊥) → ⊥

  abbrev ComponentTold : ℕ → Type 0
  ComponentTold scopes = (depth c : ℕ) (e : Error E) (bytes : List ℕ) (s m : S) → depth + scopes ≡ 200 → IsRefusal e → P s →
      CauseBy (asks i) i.adds c depth (StopsBy (asks i) c depth (StopsNested (asks i) i.adds c depth scopes)) (OwnInside (asks i) i.adds c depth scopes) bytes s m e →
      ((t : Tree) → ComponentReading depth bytes t → ⊥) → (Q c bytes e → ⊥) → ⊥

  component_by : (scopes : ℕ) → NestedTold scopes → ComponentTold scopes
  component_by scopes nested_by depth c e bytes s m whole is b cause bare never =
      let h = of_component scopes depth c e bytes s m is cause in
      reads_or_fails depth bytes h.rest (omega (arith, whole)) h.stands bare (λ before rest f. at_fault before rest f (h.fault before rest f))
    where
      inside : (before : List Tree) (rest left : List ℕ) (f : FaultAt depth bytes before rest) (x : Tree) (n : S) → P n → Begins frame rest x left →
          StopsBy (asks i) c depth (StopsNested (asks i) i.adds c depth scopes) x n m e → ⊥
      inside before rest left f x n p there (inl (id, body, framed, h)) =
          let B : Tree → Type 0 = λ z. Begins frame rest z left in
          never (behind c depth bytes e before rest f (tells.larger (numbered (subst B framed there)) (rows_told c depth id body n m e p h)))
      inside before rest left f x n p there (inr (inl (name, contents, framed, h))) =
          let B : Tree → Type 0 = λ z. Begins frame rest z left in
          never (behind c depth bytes e before rest f (tells.larger (custom (subst B framed there)) (names_told tells component_names sorted_within p h.1)))
      inside before rest left f x n p there (inr (inr h)) =
          nested_by depth c e x rest left n m whole is p there (λ t r. f.none.none left t (section_there r there)) h (λ q. never (behind c depth bytes e before rest f q))

      own : BehindFront (asks i) i.adds c depth (OwnInside (asks i) i.adds c depth scopes) bytes s m e → ⊥
      own h = let n = h.1 in own_never i none c depth scopes n.0 h.0.at m e n.3

      at_fault : (before : List Tree) (rest : List ℕ) → FaultAt depth bytes before rest →
          RefusesAmong (asks i) (added i.adds) c s before e m
          ⊎ ((made : List Tree) × (n : S) × AcceptsAll (asks i) (added i.adds) c s before made n × Framed (λ x. StopsBy (asks i) c depth (StopsNested (asks i) i.adds c depth scopes) x n m e) rest)
          ⊎ BehindFront (asks i) i.adds c depth (OwnInside (asks i) i.adds c depth scopes) bytes s m e → ⊥
      at_fault before rest f (inl r) = never (front_told c depth bytes s m e before rest b f r)
      at_fault before rest f (inr (inl q)) = let x = q.3 in inside before rest x.1 f x.0 q.1 (front_keeps c s q.1 before q.0 b q.2) x.2 x.3
      at_fault before rest f (inr (inr h)) = own h

  nested_told : (scopes : ℕ) → NestedTold scopes
  nested_told zero depth c e f rest left s m whole is b there bare h never = h
  nested_told (suc scopes) depth c e f rest left s m whole is b there bare (id, body, framed, k, push, inl (one, cause)) never =
      let B : Tree → Type 0 = λ z. Begins frame rest z left in
      let R : Tree → Type 0 = λ z. (t : Tree) → ReadsSection depth z t → ⊥ in
      let N : ℕ → Type 0 = λ z. (t : Tree) → ReadsSection depth (numbered_frame z body) t → ⊥ in
      let unread : (t : Tree) → ReadsSection depth (numbered_frame 1 body) t → ⊥ = subst N one (subst R framed bare) in
      refusal_is_told tells (tells.opened s k 0 b push) (of_module c e body k m is cause)
      (λ t r. absurd (unread (nested_tree 1 (core_tree t)) (module_back depth body (omega (arith, whole)) t r)))
      (λ q. never (tells.larger (numbered (subst B framed there)) q))
  nested_told (suc scopes) depth c e f rest left s m whole is b there bare (id, body, framed, k, push, inr (four, cause)) never =
      let B : Tree → Type 0 = λ z. Begins frame rest z left in
      let R : Tree → Type 0 = λ z. (t : Tree) → ReadsSection depth z t → ⊥ in
      let N : ℕ → Type 0 = λ z. (t : Tree) → ReadsSection depth (numbered_frame z body) t → ⊥ in
      let unread : (t : Tree) → ReadsSection depth (numbered_frame 4 body) t → ⊥ = subst N four (subst R framed bare) in
      component_by scopes (nested_told scopes) (depth + 1) c e body k m (omega (arith, whole)) is (tells.opened s k 0 b push) cause
      (λ t r. unread (nested_tree 4 (component_tree t)) (component_back depth body t r))
      (λ q. never (tells.larger (numbered (subst B framed there)) q))

  -- a refusal is told, whether the bytes have a reading or not
  pub component_is_told : (scopes : ℕ) → ComponentTold scopes
  component_is_told scopes = component_by scopes (nested_told scopes)
