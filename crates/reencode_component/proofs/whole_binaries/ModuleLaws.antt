-- The law of `specs/ModuleLaws.antt`.
use Rattle.std.proofs.Common.{◌≡◌, ◌≢◌, ℕ, List, [], Option, Result, Ok, Err, IfErr, IsTrue, refl, ap, ◌∙◌, inl, inr}
use Rattle.wasm_shapes.specs.declared.SectionId.{SectionId}
use Rattle.wasm_shapes.specs.declared.Visit.{Visit}
use Rattle.wasm_shapes.specs.Module.{CoreReading, alsos}
use Rattle.wasm_shapes.specs.Tree.{Tree}
use Rattle.wasm_write.specs.Sections.{Sections}
use Rattle.reencode_hooks.specs.declared.error.Error.{Error}
use Rattle.reencode_hooks.specs.declared.error.Error.TheVariants.{UserError, NoMemory}
use Rattle.reencode_hooks.specs.declared.indices.ReencodeIndices.{Ghosts}
use Rattle.reencode_hooks.specs.Hooks.{KeepsAdds, MayAdd}
use Rattle.reencode_hooks.specs.Run.{Step, accepted, refused}
use Rattle.reencode_hooks.specs.Walk.{walk, walk_from}
use Rattle.reencode_hooks.proofs.Walks.{walk_stops}
use Rattle.reencode_core.specs.Clauses.{ModuleClauses, asks}
use Rattle.reencode_core.specs.Core.{RefusesNext, StopsSections, closed_off, onto}
use Rattle.reencode_core.specs.Leaves.{CoreUpTo, module_in}
use Rattle.reencode_core.specs.Refusals.{RefusesNone}
use Rattle.reencode_core.specs.Rows.{Asks}
use Rattle.reencode_core.proofs.weave.AddsNothing.{added_none}
use Rattle.reencode_core.proofs.sections_walked.CoreLoop.{also_closed}
use Rattle.reencode_core.proofs.faults.RefusalLaws.{never_refused}
use Rattle.reencode_component.specs.Causes.{IfFault}
use Rattle.reencode_component.specs.ComponentLaws.{AddsOrWants, AnswersFault, Filled, IfTaken, IsOfBytes, IsTaken, StopsOn}
use Rattle.reencode_component.specs.Components.{ModuleFault}
use Rattle.reencode_component.specs.ModuleLaws as statements
use Rattle.reencode_component.specs.ModuleLaws.{as_sections}
use Rattle.reencode_component.proofs.whole_binaries.ComponentLaws.{only_wants, same_taken, taken}
use Rattle.reencode_component.proofs.whole_binaries.WithinLaws as laws

-- where a section is refused, or a hook at it, so are sections that begin with it
first_refused : {S E : Type 0} (asked : Asks S E) (c : ℕ) (last : Option SectionId) (s m : S) (v others : Tree) (e : Error E) → closed_off asked c last s v ≡ refused e m →
    walk_from asked c last s (Tree.also v others) ≡ refused e m
first_refused asked c last s m v others e h = also_closed asked c last s v others ∙ rw h refl

-- sections of which one is refused are so
sections_refused : {S E : Type 0} (asked : Asks S E) (c : ℕ) (s m : S) (old new : Sections) (t : Tree) (e : Error E) → StopsSections asked c (s, old) t (m, new) e → e ≢ NoMemory → walk asked c s t ≡ refused e m
sections_refused {S} {E} asked c s m old new t e g other = go g.others g.parts g.refuses
  where
    refuses : (u : Tree) → t ≡ alsos g.read u → walk_from asked c g.last g.at u ≡ refused e m → walk asked c s t ≡ refused e m
    refuses u is step = rw is (g.accepts u ∙ ap (λ (w : Step S (Error E) Tree). onto g.made w) step)

    go : (u : Tree) → t ≡ alsos g.read u → RefusesNext asked c g.last g.at u g.own e m → walk asked c s t ≡ refused e m
    go (Tree.also v others) is (inl h) = refuses (Tree.also v others) is (first_refused asked c g.last g.at m v others e (rw (h.1 other) refl))
    go (Tree.also v others) is (inr h) = refuses (Tree.also v others) is (first_refused asked c g.last g.at m v others e (rw (h.2, h.4 other) refl))
    go Tree.finish is h = refuses Tree.finish is (rw (h.1 other) refl)
    go _ is h = absurd h

module _ {S E : Type 0} (i : Ghosts S E) (adds : KeepsAdds i.adds i.adds_nothing) where
  none_added : IsTrue i.adds_nothing → (s : S) (v : Visit) → MayAdd v → i.adds s v ≡ []
  none_added nothing = added_none adds nothing

  -- what is viewed is of no matter
  view : Unit {0} → List ℕ
  view u = []

  output : (bytes : List ℕ) (s m : S) (old new : Sections) (result : Result (Unit {0}) (Error E)) → ModuleClauses i bytes s old m new result → IsTrue i.keeps_defaults → IsTrue i.adds_nothing →
      IfTaken as_sections (asks i) bytes s old m new result
  output bytes s m old new (Err e) g keeps nothing = tt
  output bytes s m old new (Ok u) g keeps nothing =
      let d = g.default keeps nothing in
      let t = d.readable.0 in
      let q = d.reading t d.readable.1 in
      taken i (none_added nothing) as_sections t q.0 d.readable.1 q.2 (record { rows = q.1; gains = q.3; spelled = q.4 })

  stopped : (bytes : List ℕ) (s m : S) (old new : Sections) (e : Error E) → ModuleClauses i bytes s old m new (Err e) → IsTrue i.keeps_defaults → IsTrue i.adds_nothing → (t : Tree) →
      CoreReading bytes t → e ≢ NoMemory → walk (asks i) old.ceiling s t ≡ refused e m
  stopped bytes s m old new e g keeps nothing t r other = sections_refused (asks i) old.ceiling s m old new t e ((g.default keeps nothing).reading t r) other

  complete : (bytes : List ℕ) (s m : S) (old new : Sections) (result : Result (Unit {0}) (Error E)) → ModuleClauses i bytes s old m new result → IsTrue i.keeps_defaults → IsTrue i.adds_nothing →
      (out : List ℕ) (n : S) → IsTaken as_sections (asks i) old.ceiling bytes s n out → AddsOrWants out n old m new result
  complete bytes s m old new (Ok u) g keeps nothing out n h =
      let q = (g.default keeps nothing).reading h.tree h.reads in
      let same = same_taken i (none_added nothing) as_sections h _ h.reads.spells.spelled q.0 q.2 in (record { rows = q.1; gains = q.3; spelled = q.4 ∙ same.0 }, same.1)
  complete bytes s m old new (Err e) g keeps nothing out n h =
      only_wants i (none_added nothing) as_sections h _ h.reads.spells.spelled e (λ other. stopped bytes s m old new e g keeps nothing h.tree h.reads other)

  fault : (bytes : List ℕ) (s m : S) (old new : Sections) (e : Error E) → ModuleClauses i bytes s old m new (Err e) → IsTrue i.keeps_defaults → IfFault e (ModuleFault bytes)
  fault bytes s m old new e g keeps = laws.woven_caused i adds view old.ceiling bytes s m e (g.woven keeps).cause

  never : (bytes : List ℕ) (s m : S) (old new : Sections) (e : Error E) → ModuleClauses i bytes s old m new (Err e) → IsTrue i.keeps_defaults → RefusesNone (asks i) → (x : E) → e ≢ UserError x
  never bytes s m old new (UserError y) g keeps none x is = never_refused (asks i) none (module_in bytes) s m y (g.after_error keeps (λ h. absurd cc) (λ h. absurd h))
  never bytes s m old new _ g keeps none x is = cc

  pub module_tells : statements.ModuleTells i
  module_tells = record {
    output = output;
    complete = complete;
    stops = λ bytes s m old new result g keeps. stops bytes s m old new result g keeps;
    fault = λ bytes s m old new result g keeps. told bytes s m old new result g keeps;
    accepted = λ bytes s m old new result g keeps. accepted_there bytes s m old new result g keeps;
    unread = λ bytes s m old new result g keeps none bare. unread bytes s m old new result g keeps none bare;
  }
    where
      stops : (bytes : List ℕ) (s m : S) (old new : Sections) (result : Result (Unit {0}) (Error E)) → ModuleClauses i bytes s old m new result → IsTrue i.keeps_defaults →
          IfErr result (λ e. IsTrue i.adds_nothing → e ≢ NoMemory → (t : Tree) → CoreReading bytes t → StopsOn (asks i) old.ceiling s t e m)
      stops bytes s m old new (Ok u) g keeps = tt
      stops bytes s m old new (Err e) g keeps = λ nothing other t r. (walk_stops (asks i) old.ceiling s m t e).0 (stopped bytes s m old new e g keeps nothing t r other)

      told : (bytes : List ℕ) (s m : S) (old new : Sections) (result : Result (Unit {0}) (Error E)) → ModuleClauses i bytes s old m new result → IsTrue i.keeps_defaults →
          IfErr result (λ e. IfFault e (ModuleFault bytes))
      told bytes s m old new (Ok u) g keeps = tt
      told bytes s m old new (Err e) g keeps = fault bytes s m old new e g keeps

      accepted_there : (bytes : List ℕ) (s m : S) (old new : Sections) (result : Result (Unit {0}) (Error E)) → ModuleClauses i bytes s old m new result → IsTrue i.keeps_defaults →
          IfErr result (λ e. IsTrue i.adds_nothing → IsOfBytes e → (t : Tree) (rest : List ℕ) → CoreUpTo bytes t rest → (n : S) × Filled (asks i) old.ceiling s t n)
      accepted_there bytes s m old new (Ok u) g keeps = tt
      accepted_there bytes s m old new (Err e) g keeps = λ nothing tells t rest f. laws.cause_accepted i adds view old.ceiling bytes s m e (g.default keeps nothing).cause nothing tells t rest f

      unread : (bytes : List ℕ) (s m : S) (old new : Sections) (result : Result (Unit {0}) (Error E)) → ModuleClauses i bytes s old m new result → IsTrue i.keeps_defaults → RefusesNone (asks i) →
          ((t : Tree) → CoreReading bytes t → ⊥) → AnswersFault (ModuleFault bytes) result
      unread bytes s m old new (Ok u) g keeps none bare = let t = (g.woven keeps).readable in absurd (bare t.0 t.1)
      unread bytes s m old new (Err e) g keeps none bare = laws.answers_fault (ModuleFault bytes) e (fault bytes s m old new e g keeps) (never bytes s m old new e g keeps none)
