-- What two reencoders mean, one after the other.
use Rattle.std.specs.Fmt.{◌++?◌}
use Rattle.std.specs.Prelude.{◌++◌, ◌&&◌, ℕ, Bool, true, false, List, Option, Some, Result, Ok, Err, IsTrue, codes, refl}
use Rattle.wasm_shapes.specs.declared.Visit.{Visit}
use Rattle.wasm_shapes.specs.declared.Visit.TheVariants.{Index, Outer, Section, Closed, Push, Pop}
use Rattle.wasm_write.specs.Sections.{SectionRow}
use Rattle.reencode_hooks.specs.declared.error.Error.{Error}
use Rattle.reencode_hooks.specs.declared.error.Error.TheVariants.{CanonicalizedHeapTypeReference, InvalidConstExpr, InvalidCodeSectionSize, UnexpectedNonCoreModuleSection, UnexpectedNonComponentSection, UnsupportedCoreTypeInComponent, ParseError, UserError, TooLarge, NoMemory}
use Rattle.reencode_hooks.specs.declared.chain.Chain.{Chain}
use Rattle.reencode_hooks.specs.declared.chain.ChainError.{ChainError}
use Rattle.reencode_hooks.specs.declared.chain.ChainError.TheVariants.{First, Second}
use Rattle.reencode_hooks.specs.Hooks.{IsInRange, IsGiven, IsAnswer, KeepsAnswers, KeepsAdds, both_keep}

-- the same visit, asked with another index
abbrev pub reindexed : Visit → ℕ → Visit
reindexed (Index p i) n = Index p n
reindexed (Outer p k i) n = Outer p k n
reindexed v n = v

-- an answer of the second
abbrev pub second_of : {X Y : Type 0} → Result ℕ Y → Result ℕ (ChainError X Y)
second_of (Ok n) = Ok n
second_of (Err e) = Err (Second e)

-- the first one's refusal, or the second one's answer to what the first one answered
abbrev pub first_then : {X Y : Type 0} → Result ℕ X → (ℕ → Result ℕ Y) → Result ℕ (ChainError X Y)
first_then (Ok n) second = second_of (second n)
first_then (Err e) second = Err (First e)

-- the first one's refusal, or the second one's answer to what the first answered
abbrev pub chain_reply : {A B X Y : Type 0} → (A → Visit → Result ℕ X) → (B → Visit → Result ℕ Y) → Chain A B → Visit → Result ℕ (ChainError X Y)
chain_reply f g c v = first_then (f c.a v) (λ n. g c.b (reindexed v n))

-- the second is as it was where the first refused
abbrev pub unless_err : {B X : Type 0} → Result ℕ X → B → (ℕ → B) → B
unless_err (Ok n) b next = next n
unless_err (Err e) b next = b

-- both next states; the second one's is as it was where the first refused
abbrev pub chain_next : {A B X : Type 0} → (A → Visit → Result ℕ X) → (A → Visit → A) → (B → Visit → B) → Chain A B → Visit → Chain A B
chain_next f a_next b_next c v = record { a = a_next c.a v; b = unless_err (f c.a v) c.b (λ n. b_next c.b (reindexed v n)) }

-- what the first adds, and then what the second does
abbrev pub chain_adds : {A B : Type 0} → (A → Visit → List SectionRow) → (B → Visit → List SectionRow) → Chain A B → Visit → List SectionRow
chain_adds f g c v = f c.a v ++ g c.b v

-- ---- texts

-- the text of a refusal, and which of the two refused
abbrev pub chain_text : {X Y : Type 0} → (X → Option (List ℕ)) → (Y → Option (List ℕ)) → ChainError X Y → Option (List ℕ)
chain_text x y (First e) = x e ++? Some (codes " by 1")
chain_text x y (Second e) = y e ++? Some (codes " by 2")

-- ---- errors

abbrev pub as_first : {X Y : Type 0} → Error X → Error (ChainError X Y)
as_first CanonicalizedHeapTypeReference = CanonicalizedHeapTypeReference
as_first InvalidConstExpr = InvalidConstExpr
as_first InvalidCodeSectionSize = InvalidCodeSectionSize
as_first UnexpectedNonCoreModuleSection = UnexpectedNonCoreModuleSection
as_first UnexpectedNonComponentSection = UnexpectedNonComponentSection
as_first UnsupportedCoreTypeInComponent = UnsupportedCoreTypeInComponent
as_first (ParseError e) = ParseError e
as_first (UserError e) = UserError (First e)
as_first (TooLarge size) = TooLarge size
as_first NoMemory = NoMemory

abbrev pub as_second : {X Y : Type 0} → Error Y → Error (ChainError X Y)
as_second CanonicalizedHeapTypeReference = CanonicalizedHeapTypeReference
as_second InvalidConstExpr = InvalidConstExpr
as_second InvalidCodeSectionSize = InvalidCodeSectionSize
as_second UnexpectedNonCoreModuleSection = UnexpectedNonCoreModuleSection
as_second UnexpectedNonComponentSection = UnexpectedNonComponentSection
as_second UnsupportedCoreTypeInComponent = UnsupportedCoreTypeInComponent
as_second (ParseError e) = ParseError e
as_second (UserError e) = UserError (Second e)
as_second (TooLarge size) = TooLarge size
as_second NoMemory = NoMemory

-- ---- a chain answers as a reencoder does

reindexed_in_range : (v : Visit) (n : ℕ) → IsInRange v → IsGiven v n → IsInRange (reindexed v n)
reindexed_in_range (Index p i) n h g = g
reindexed_in_range (Outer p k i) n h g = (h.0, g)
reindexed_in_range (Section after before) n h g = tt
reindexed_in_range (Closed kind) n h g = tt
reindexed_in_range Push n h g = tt
reindexed_in_range Pop n h g = tt

answers_second : (X : Type 0) {Y : Type 0} (v : Visit) (n : ℕ) (r : Result ℕ Y) → IsAnswer (reindexed v n) r → IsAnswer {E = ChainError X Y} v (second_of r)
answers_second X (Index p i) n (Ok m) h = h
answers_second X (Index p i) n (Err e) h = h
answers_second X (Outer p k i) n (Ok m) h = h
answers_second X (Outer p k i) n (Err e) h = h
answers_second X (Section after before) n (Ok m) h = h
answers_second X (Section after before) n (Err e) h = h
answers_second X (Closed kind) n (Ok m) h = h
answers_second X (Closed kind) n (Err e) h = h
answers_second X Push n (Ok m) h = h
answers_second X Push n (Err e) h = h
answers_second X Pop n (Ok m) h = h
answers_second X Pop n (Err e) h = h

answers_both : {X Y : Type 0} (v : Visit) (r : Result ℕ X) (second : ℕ → Result ℕ Y) → IsInRange v → IsAnswer v r →
    ((n : ℕ) → IsInRange (reindexed v n) → IsAnswer (reindexed v n) (second n)) → IsAnswer v (first_then r second)
answers_both {X} v (Ok n) second h is more = answers_second X v n (second n) (more n (reindexed_in_range v n h is))
answers_both v (Err e) second h is more = is

pub chain_answers : {A B X Y : Type 0} (f : A → Visit → Result ℕ X) (g : B → Visit → Result ℕ Y) → KeepsAnswers f → KeepsAnswers g → KeepsAnswers (chain_reply f g)
chain_answers f g p q c v h = answers_both v (f c.a v) (λ n. g c.b (reindexed v n)) h (p c.a v h) (λ n i. q c.b (reindexed v n) i)

both_true : (p q : Bool) → IsTrue (p && q) → IsTrue p × IsTrue q
both_true true q h = (refl, h)
both_true false q h = absurd cc

pub chain_adds_ok : {A B : Type 0} (f : A → Visit → List SectionRow) (g : B → Visit → List SectionRow) (p q : Bool) → KeepsAdds f p → KeepsAdds g q →
    KeepsAdds (chain_adds f g) (p && q)
chain_adds_ok f g p q h k = both_keep (both_true p q) (λ c. h c.a) (λ c. k c.b)
