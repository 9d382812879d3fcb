-- A fault has one place, and says which error comes.
use Rattle.std.proofs.Common.{◌≡◌, ◌≢◌, ◌-◌, ℕ, List, [], ◌++◌, length, refl, sym, ap, ◌∙◌, subst, append-nil, ◌⊎◌, inl, inr, Option, None, Some, Result}
use Rattle.std.proofs.lemmas.List.{append_cancel_left}
use Rattle.wasm_shapes.specs.declared.SectionId.{SectionId}
use Rattle.wasm_shapes.specs.declared.Visit.{Visit}
use Rattle.wasm_shapes.specs.declared.Visit.TheVariants.{Section, Closed}
use Rattle.wasm_shapes.specs.Tree.{Tree}
use Rattle.wasm_shapes.specs.Place.{Begins}
use Rattle.wasm_shapes.specs.CodeSize.{InvalidCodeSize}
use Rattle.wasm_shapes.specs.Module.{core_header, component_header, section, alsos, CoreReading, FaultAt}
use Rattle.wasm_shapes.proofs.SectionTable.{frame_there, none_section}
use Rattle.wasm_read.proofs.CodeSize.{code_size_other}
use Rattle.wasm_write.specs.Sections.{Sections, SectionRow}
use Rattle.reencode_hooks.specs.declared.error.Error.{Error}
use Rattle.reencode_hooks.specs.declared.error.Error.TheVariants.{InvalidCodeSectionSize, UnexpectedNonCoreModuleSection, UnexpectedNonComponentSection, ParseError, UserError, TooLarge, NoMemory}
use Rattle.reencode_hooks.specs.Run.{Step, ask, refused}
use Rattle.reencode_core.specs.Errors.{IfParse}
use Rattle.reencode_core.specs.Rows.{Asks}
use Rattle.reencode_core.specs.Core.{AcceptsSections, RefusedIn, StopsThere, BeforeFault, IsCause}
use Rattle.reencode_core.specs.Weave.{Puts}
use Rattle.reencode_core.specs.Woven.{AddedThere, GainsFront, IsOwn}
use Rattle.reencode_core.specs.Faults.{FaultGives, FaultTells}
use Rattle.reencode_core.specs.Leaves.{TellsFault}
use Rattle.reencode_core.proofs.sections_walked.CoreLoop.{Ahead, same, more, ahead, none_behind, same_sections}
use Rattle.reencode_core.proofs.faults.OneFront.{one_front}
use Rattle.reencode_core.proofs.faults.WalkRefusals.{Usual, stops_usual, usual_ask, usual_walk}

module _ {bytes : List ℕ} {before : List Tree} {rest : List ℕ} (f : FaultAt bytes before rest) where
  -- what is left at a fault
  same_fault : {ts : List Tree} {left : List ℕ} → FaultAt bytes ts left → left ≡ rest
  same_fault {ts = ts} {left = left} g = sym (one_front bytes before ts rest left f.front g.front).1

  no_reading : (t : Tree) → CoreReading bytes t → ⊥
  no_reading t r =
      let behind : f.front.text ++ rest ≡ r.rest ++ [] =
      append_cancel_left core_header (f.front.text ++ rest) r.rest (sym f.front.stands ∙ r.stands) ∙ sym (append-nil r.rest) in
      go (ahead before (f.front.text ++ rest) f.front.text rest r.rest [] t f.front.spells refl r.spells behind none_behind)
    where
      go : Ahead before rest t [] → ⊥
      go (same e empty) = f.some empty
      go (more u v left e b) = f.front.ends.none b.text left u b.spells b.reads

  module _ {S E : Type 0} (asked : Asks S E) (c : ℕ) (s m : S) where
    -- no frame begins where the size of a code section is at fault, and so nothing in one is refused
    refused_before : (e : Error E) → BeforeFault asked c bytes s m e → InvalidCodeSize rest → RefusedIn asked c s before e m
    refused_before e h size = go (h.1 before rest f)
      where
        go : RefusedIn asked c s before e m
            ⊎ ((made : List Tree) × (last : Option SectionId) × (n : S) × AcceptsSections asked c s before made last n × StopsThere asked c rest last n e m) → RefusedIn asked c s before e m
        go (inl r) = r
        go (inr (_, _, _, _, inl q)) = absurd (code_size_other q.framed size)
        go (inr (_, _, _, _, inr q)) = absurd (code_size_other q.framed size)

    told : (e : Error E) → IsCause asked c bytes s m e → FaultGives asked c bytes s m before rest e
    told InvalidCodeSectionSize h = subst InvalidCodeSize (same_fault h.2) h.3
    told (ParseError e) (inl p) = absurd ((p.0 (f.front.text ++ rest)).0 f.front.stands)
    told (ParseError e) (inr p) =
        let left : p.1 ≡ rest = same_fault p.2 in
        (λ size. p.3 (subst InvalidCodeSize (sym left) size), p.4 ∙ ap (λ (z : List ℕ). length bytes - length z) left)
    told (UserError x) h = refused_before (UserError x) h
    told (TooLarge size) h = refused_before (TooLarge size) h
    told NoMemory h = tt
    told UnexpectedNonCoreModuleSection h = let never : core_header ++ (f.front.text ++ rest) ≡ component_header ++ h.0 = sym f.front.stands ∙ h.1 in cc
    told _ h = absurd h

pub fault_tells : {S E : Type 0} (asked : Asks S E) → FaultTells asked
fault_tells asked = record {
  none = λ bytes before rest f. no_reading f;
  told = λ c bytes s m e h before rest f. told f asked c s m e h;
}

-- ---- what stands in the module

not_wanting : {E : Type 0} (e : Error E) → TellsFault e → e ≢ NoMemory
not_wanting (ParseError x) tells = λ q. cc
not_wanting InvalidCodeSectionSize tells = λ q. cc
not_wanting UnexpectedNonCoreModuleSection tells = λ q. cc
not_wanting UnexpectedNonComponentSection tells = λ q. cc
not_wanting _ tells = absurd tells

-- no refusal is such an error
not_usual : {E : Type 0} (e : Error E) → TellsFault e → IfParse e (λ at. ⊥) → ⊥
not_usual (ParseError x) tells h = h
not_usual InvalidCodeSectionSize tells h = h
not_usual UnexpectedNonCoreModuleSection tells h = h
not_usual UnexpectedNonComponentSection tells h = h
not_usual _ tells h = absurd tells

not_own : {E : Type 0} (e : Error E) (c : ℕ) (own : List SectionRow) → TellsFault e → IsOwn c own e → ⊥
not_own (ParseError x) c own tells h = h
not_own InvalidCodeSectionSize c own tells h = h
not_own UnexpectedNonCoreModuleSection c own tells h = h
not_own UnexpectedNonComponentSection c own tells h = h
not_own _ c own tells h = absurd tells

module _ {S E : Type 0} (reply : S → Visit → Result ℕ E) (next : S → Visit → S) (adds : Puts S SectionRow) {c : ℕ} {bytes : List ℕ} {before after : S × Sections} {e : Error E}
    (g : GainsFront (ask reply next) adds c bytes before after e) (tells : TellsFault e) where
  never : {A : Type 0} {step : Step S (Error E) A} → Usual step → step ≡ refused e after.0 → ⊥
  never {step = step} usual h = not_usual e tells (stops_usual (λ at. ⊥) step e after.0 usual (λ other. h))

  hook_never : (s : S) (own : List SectionRow) (v : Visit) → (e ≢ NoMemory → IsOwn c own e ⊎ (ask reply next s v ≡ refused e after.0)) → ⊥
  hook_never s own v h = go (h (not_wanting e tells))
    where
      go : IsOwn c own e ⊎ (ask reply next s v ≡ refused e after.0) → ⊥
      go (inl x) = not_own e c own tells x
      go (inr q) = never (usual_ask reply next s v) q

  -- no section begins where it stopped
  none_there : (t : Tree) (left : List ℕ) → Begins section g.front.rest t left → ⊥
  none_there t left b = go g.there
    where
      go : AddedThere (ask reply next) adds c g.front.last g.front.at g.front.rest e after.0 g.part → ⊥
      go (AddedThere.at_end empty h) = none_behind.none b.text left t b.spells (sym empty ∙ b.reads)
      go (AddedThere.hook k body others framed h) = hook_never g.front.at (adds g.front.at (Section g.front.last (Some k))) (Section g.front.last (Some k)) h.1
      go (AddedThere.section f others n framed told fits refuses) =
          never (usual_walk reply next c None n t b.text b.spells.spelled) (refuses t (frame_there framed b) (not_wanting e tells))
      go (AddedThere.closing k body others n u made l row added framed told fits there walked spelled h parts) = hook_never l (adds l (Closed k)) (Closed k) h.1
      go (AddedThere.unframed none some empty) = (none_section none).none b.text left t b.spells b.reads

  pub fault_gains : (read : List Tree) (rest : List ℕ) → FaultAt bytes read rest → (g.front.read ≡ read) × (g.front.rest ≡ rest)
  fault_gains read rest f =
      let behind : g.front.text ++ g.front.rest ≡ f.front.text ++ rest =
      append_cancel_left core_header (g.front.text ++ g.front.rest) (f.front.text ++ rest) (sym g.front.stands ∙ f.front.stands) in
      go (ahead g.front.read (g.front.text ++ g.front.rest) g.front.text g.front.rest f.front.text rest (alsos read Tree.finish) g.front.spells refl f.front.spells behind f.front.ends)
    where
      go : Ahead g.front.read g.front.rest (alsos read Tree.finish) rest → (g.front.read ≡ read) × (g.front.rest ≡ rest)
      go (same a r) = (sym (same_sections read g.front.read a), r)
      go (more t u left a b) = absurd (none_there t left b)
