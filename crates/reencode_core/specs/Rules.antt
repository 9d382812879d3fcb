-- What a rule for indices makes of a core module.
use Rattle.std.specs.Prelude.{◌≡◌, ◌++◌, ◌∷◌, ℕ, List, map, Result, Ok, Err}
use Rattle.wasm_shapes.specs.declared.Space.{Space}
use Rattle.wasm_shapes.specs.declared.Visit.{Visit}
use Rattle.wasm_shapes.specs.Tree.{Tree, fill, normal, visits}
use Rattle.wasm_shapes.specs.Spells.{Spells}
use Rattle.wasm_shapes.specs.Fits.{Fits}
use Rattle.wasm_shapes.specs.Module.{core_module}
use Rattle.reencode_hooks.specs.declared.error.Error.{Error}
use Rattle.reencode_hooks.specs.declared.error.Error.TheVariants.{UserError, NoMemory}
use Rattle.reencode_hooks.specs.Rules.{by_rule}
use Rattle.reencode_hooks.specs.Run.{ask}
use Rattle.reencode_core.specs.Core.{GivesBytes}

-- The bytes are a core module, the rule has an answer to each index that stands in it, in the order of the visits, and the
-- output is the normal spelling of the module with each index replaced by its answer.
pub record IsRenamed {E : Type 0} (renamed : Space → ℕ → Result ℕ E) (bytes output : List ℕ) : Type 0 where
  pub tree : Tree
  pub reading : Spells core_module bytes tree
  pub answers : List ℕ
  pub answered : map (by_rule renamed) (visits tree) ≡ map Ok answers
  pub spelled : output ≡ normal (fill tree answers)

-- One of the visits has no answer but a refusal, and each before it has an answer.
pub record Refuses {E : Type 0} (answer : Visit → Result ℕ E) (visits : List Visit) (refusal : E) : Type 0 where
  pub front : List Visit
  pub visit : Visit
  pub rest : List Visit
  pub parts : visits ≡ front ++ visit ∷ rest
  pub answers : List ℕ
  pub accepted : map answer front ≡ map Ok answers
  pub refused : answer visit ≡ Err refusal

-- Where the bytes are a core module, the refusal is the first of its visits.
abbrev pub IsRefusal : {E : Type 0} → (Space → ℕ → Result ℕ E) → List ℕ → E → Type 0
IsRefusal renamed bytes refusal = (tree : Tree) → Spells core_module bytes tree → Refuses (by_rule renamed) (visits tree) refusal

-- the fact about a refusal of the rule
abbrev pub IfUser : {E : Type 0} → Error E → (E → Type 0) → Type 0
IfUser (UserError refusal) P = P refusal
IfUser _ P = Unit {0}

-- Where the bytes are a core module whose indices all have answers, and no frame of the output is above the ceiling, memory is
-- the one thing that may run out.
abbrev pub IsMade : {E : Type 0} → (Space → ℕ → Result ℕ E) → ℕ → List ℕ → Error E → Type 0
IsMade renamed ceiling bytes e =
    (tree : Tree) (answers : List ℕ) → Spells core_module bytes tree → map (by_rule renamed) (visits tree) ≡ map Ok answers
    → Fits (fill tree answers) ceiling → e ≡ NoMemory

-- What a reencoder gives that answers each visit by a rule and stays as it is.
abbrev pub GivesByRule : {S E A : Type 0} → (S → Space → ℕ → Result ℕ E) → ℕ → List ℕ → S → Result A (Error E) → (A → List ℕ) → Type 0
GivesByRule {S} renamed ceiling bytes s result view =
    (last : S) × GivesBytes (ask (λ k visit. by_rule (renamed k) visit) (λ k _. k)) ceiling bytes s last result view
