-- The section hooks of a reencoder that adds the sections of a rule behind those of another.
use Rattle.std.specs.Prelude.{◌≡◌, ◌++◌, ℕ, List, Option, Result, Ok, Err, IsErrAnd}
use Rattle.std.proofs.Common.{ap, subst}
use Rattle.wasm_shapes.specs.declared.SectionId.{SectionId}
use Rattle.wasm_shapes.specs.declared.Visit.{Visit}
use Rattle.wasm_write.specs.declared.fault.WriteFault.{WriteFault}
use Rattle.wasm_write.specs.declared.fault.WriteFault.TheVariants as write
use Rattle.wasm_write.specs.Faults.{IfTooLarge}
use Rattle.wasm_write.specs.Sections.{SectionRow, Sections}
use Rattle.reencode_hooks.specs.declared.error.Error.{Error}
use Rattle.reencode_hooks.specs.declared.error.Error.TheVariants.{TooLarge, NoMemory}
use Rattle.reencode_hooks.specs.Errors.{error_of_write}
use Rattle.reencode_hooks.specs.Run.{refused, answered}
use Rattle.reencode_hooks.specs.Hooks.{Gains, GainsPart, HasTooLarge, RefusesSection, RepliesSection, at_section}
use Rattle.reencode_hooks.proofs.Chained.{part_behind, part_front, too_large_behind, too_large_front}
use Rattle.reencode_core.specs.declared.adding.Adding.{Adding}

-- ---- the hooks

-- what a rule adds at a visit
abbrev pub rule : {R : Type 0} → (R → Option SectionId → Option SectionId → List SectionRow) → (R → SectionId → List SectionRow) → R → Visit → List SectionRow
rule sections behind k v = at_section (sections k) (behind k) v

-- a refusal of the inner reencoder is one of both
refused_within : {S R E : Type 0} (r : Result ℕ E) (s m : S) (k : R) (e : Error E) → answered r s ≡ refused e m
    → answered {S = Adding S R} {A = ℕ} r (record { reencoder = s; sections = k }) ≡ refused e (record { reencoder = m; sections = k })
refused_within (Ok n) s m k e h = cc
refused_within (Err x) s m k e h = cc

module _ {S R E : Type 0} (reply : S → Visit → Result ℕ E) (next : S → Visit → S) (adds : S → Visit → List SectionRow)
    (sections : R → Visit → List SectionRow) where
  refuses_within : (e : Error E) (s m : S) (k : R) (v : Visit) (c : ℕ) (rows more : List SectionRow)
      → RefusesSection reply next s m v c rows e
      → RefusesSection {S = Adding S R} (λ t w. reply t.reencoder w) (λ t w. record t { reencoder = next t.reencoder w })
      (record { reencoder = s; sections = k }) (record { reencoder = m; sections = k }) v c (rows ++ more) e
  refuses_within (TooLarge size) s m k v c rows more h = too_large_front more h
  refuses_within NoMemory s m k v c rows more h = tt
  refuses_within e s m k v c rows more h = refused_within (reply s v) (next s v) m k e h

  -- the hook of both
  abbrev Hook : S → S → R → Sections → Sections → Visit → Result (Unit {0}) (Error E) → Type 0
  Hook s m k old new v r =
      RepliesSection {S = Adding S R} (λ t w. reply t.reencoder w) (λ t w. record t { reencoder = next t.reencoder w })
      (λ t w. adds t.reencoder w ++ sections t.sections w)
      (record { reencoder = s; sections = k }) (record { reencoder = m; sections = k }) old new v r

  -- the inner hook's error is that of both
  pub inner_error : (s m : S) (k : R) (old new : Sections) (v : Visit) (e : Error E)
      → RepliesSection reply next adds s m old new v (Err e)
      → (r : Result (Unit {0}) (Error E)) → IsErrAnd r (λ x. x ≡ e) → Hook s m k old new v r
  inner_error s m k old new v e h (Ok _) is = absurd is
  inner_error s m k old new v e h (Err x) is =
      (refuses_within x s m k v old.ceiling (adds s v) (sections k v) (rw is h.0), part_front (sections k v) h.1)

  rule_refuses : (s m : S) (k : R) (v : Visit) (c : ℕ) (rows more : List SectionRow) (fault : WriteFault) → IfTooLarge fault (HasTooLarge c more)
      → RefusesSection {S = Adding S R} (λ t w. reply t.reencoder w) (λ t w. record t { reencoder = next t.reencoder w })
      (record { reencoder = s; sections = k }) (record { reencoder = m; sections = k }) v c (rows ++ more) (error_of_write fault)
  rule_refuses s m k v c rows more (write.TooLarge size) h = too_large_behind rows h
  rule_refuses s m k v c rows more write.NoMemory h = tt

  -- the rule's error, where the inner hook accepted, is that of both
  pub rule_error : (s m : S) (k : R) (old mid new : Sections) (v : Visit) (fault : WriteFault)
      → Gains old mid (adds s v) → GainsPart mid new (sections k v) → IfTooLarge fault (HasTooLarge mid.ceiling (sections k v))
      → (r : Result (Unit {0}) (Error E)) → IsErrAnd r (λ x. x ≡ error_of_write fault) → Hook s m k old new v r
  rule_error s m k old mid new v fault gains part large (Ok _) is = absurd is
  rule_error s m k old mid new v fault gains part large (Err x) is =
      let same : mid.ceiling ≡ old.ceiling = ap (λ z. z.ceiling) gains in
      let own : IfTooLarge fault (HasTooLarge old.ceiling (sections k v)) = subst (λ z. IfTooLarge fault (HasTooLarge z (sections k v))) same large in
      (rw is (rule_refuses s m k v old.ceiling (adds s v) (sections k v) fault own), part_behind (adds s v) gains part)
