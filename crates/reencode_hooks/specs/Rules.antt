-- Rules for indices, and what the reencoder of a rule answers.
use Rattle.std.specs.Prelude.{◌≡◌, ◌<◌, ◌≤◌, ◌+◌, ◌^◌, ℕ, Bool, true, false, nat_lt, if◌then◌else◌, Result, Ok, Err, refl}
use Rattle.std.proofs.Common.{arith}
use Rattle.std.proofs.lemmas.Bool.{ltb-true, ltb-false}
use Rattle.wasm_shapes.specs.declared.Space.{Space}
use Rattle.wasm_shapes.specs.declared.Visit.{Visit}
use Rattle.wasm_shapes.specs.declared.Visit.TheVariants.{Index, Outer}
use Rattle.reencode_hooks.specs.Hooks.{IsAnswer, IsInRange, is_of_components}

-- every answer of a rule is an index, and a component's index is never refused
abbrev pub IsRule : {S E : Type 0} → (S → Space → ℕ → Result ℕ E) → Type 0
IsRule {S} renamed = (s : S) (p : Space) (i : ℕ) → i < 2 ^ 32 → IsAnswer (Index p i) (renamed s p i)

-- the answer to a visit: that of the rule to an index, and 0 where none is asked
abbrev pub by_rule : {E : Type 0} → (Space → ℕ → Result ℕ E) → Visit → Result ℕ E
by_rule renamed (Index p i) = renamed p i
by_rule renamed (Outer p k i) = renamed p i
by_rule renamed _ = Ok 0

outer_too : {E : Type 0} (p : Space) (k i : ℕ) (r : Result ℕ E) → IsAnswer (Index p i) r → IsAnswer (Outer p k i) r
outer_too p k i (Ok n) h = h
outer_too p k i (Err e) h = h

-- the answers of a rule are answers of hooks
pub rule_answers : {S E : Type 0} (renamed : S → Space → ℕ → Result ℕ E) → IsRule renamed → (s : S) (v : Visit) → IsInRange v → IsAnswer v (by_rule (renamed s) v)
rule_answers renamed is s (Index p i) h = is s p i h
rule_answers renamed is s (Outer p k i) h = outer_too p k i (renamed s p i) (is s p i h.1)
rule_answers renamed is s _ h = refl

-- an index behind so many others, and a refusal where that is no index
abbrev pub moved_by : {E : Type 0} → E → ℕ → ℕ → Result ℕ E
moved_by refusal count i = if nat_lt (i + count) (2 ^ 32) then Ok (i + count) else Err refusal

-- For a rule of one's own: so moved, an index of a core module has an answer as it may be,
pub moved_is_answer : {E : Type 0} (refusal : E) (count : ℕ) (p : Space) (i : ℕ) → is_of_components p ≡ false → IsAnswer (Index p i) (moved_by refusal count i)
moved_is_answer refusal count p i core = go (nat_lt (i + count) (2 ^ 32)) refl
  where
    go : (b : Bool) → nat_lt (i + count) (2 ^ 32) ≡ b → IsAnswer (Index p i) (if b then Ok (i + count) else Err refusal)
    go true e = ltb-true (i + count) (2 ^ 32) e
    go false e = core

-- and where it moves by 0, so has any.
pub unmoved_is_answer : {E : Type 0} (refusal : E) (p : Space) (i : ℕ) → i < 2 ^ 32 → IsAnswer (Index p i) (moved_by refusal 0 i)
unmoved_is_answer refusal p i h = go (nat_lt (i + 0) (2 ^ 32)) refl
  where
    go : (b : Bool) → nat_lt (i + 0) (2 ^ 32) ≡ b → IsAnswer (Index p i) (if b then Ok (i + 0) else Err refusal)
    go true e = ltb-true (i + 0) (2 ^ 32) e
    go false e = let high : 2 ^ 32 ≤ i + 0 = ltb-false (i + 0) (2 ^ 32) e in absurd (omega arith)
