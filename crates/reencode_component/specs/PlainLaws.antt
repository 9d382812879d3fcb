-- What a plain reencoder makes of a binary, as a contract of one's own says it: an output, a refusal of its own, and when an output comes.
-- `k` is how the bytes are taken, as a core module or as any binary; `asked` is what the reencoder is asked and answers, `before` and
-- `after` are its states.
use Rattle.std.specs.Prelude.{◌≡◌, ◌≤◌, ◌++◌, ◌∷◌, ℕ, List, All, Result, IsTrue}
use Rattle.wasm_shapes.specs.declared.Visit.{Visit}
use Rattle.wasm_shapes.specs.Fits.{Fits}
use Rattle.wasm_shapes.specs.Tree.{Tree, fill, normal, visits}
use Rattle.reencode_hooks.specs.declared.error.Error.{Error}
use Rattle.reencode_hooks.specs.declared.error.Error.TheVariants.{UserError}
use Rattle.reencode_hooks.specs.declared.indices.ReencodeIndices.{Ghosts}
use Rattle.reencode_hooks.specs.Moments.{Moment, asks, asked_in, closed_in, moments}
use Rattle.reencode_hooks.specs.Run.{accepted, answers as answers_to, refused, run}
use Rattle.reencode_core.specs.Refusals.{RefusedUpTo}
use Rattle.reencode_core.specs.Rows.{Asks}
use Rattle.reencode_core.specs.Woven.{IsOrWants}
use Rattle.reencode_component.specs.ComponentLaws.{Taking}
use Rattle.reencode_component.specs.WithinLaws.{OfAnswers, Promises}

-- The bytes are read as this tree, and its visits were accepted in their order, with these answers. The output is the normal spelling of
-- the tree with each index replaced by its answer, and no frame of it is above the ceiling.
pub record IsReencoded {S E : Type 0} (k : Taking) (asked : Asks S E) (ceiling : ℕ) (bytes : List ℕ) (before after : S) (output : List ℕ) : Type 0 where
  pub tree : Tree
  pub reading : k.reads bytes tree
  pub answers : List ℕ
  pub answered : run asked before (visits tree) ≡ accepted answers after
  pub fits : Fits (fill tree answers) ceiling
  pub spelled : output ≡ normal (fill tree answers)

-- One of a tree's visits was refused: the run over them ends in it, each before it was accepted, and no frame that closes before it is
-- above the ceiling.
pub record RefusesVisit {S E : Type 0} (asked : Asks S E) (ceiling : ℕ) (tree : Tree) (before after : S) (refusal : E) : Type 0 where
  pub ended : run asked before (visits tree) ≡ refused (UserError refusal) after
  pub front : List Moment
  pub visit : Visit
  pub rest : List Moment
  pub parts : moments tree (answers_to asked before (visits tree)) ≡ front ++ asks visit ∷ rest
  pub answers : List ℕ
  pub at : S
  pub answered : run asked before (asked_in front) ≡ accepted answers at
  pub fits : All (λ n. n ≤ ceiling) (closed_in front)
  pub refuses : asked at visit ≡ refused (UserError refusal) after

-- A refusal of the reencoder's own: of the first of the reading's visits that it refuses; or where the bytes have no reading, of the
-- visits of the sections before their fault, or of further ones behind these, which are drawn from the bytes from the fault on. It is
-- of the last visit that was made.
pub record IsRefused {S E : Type 0} (k : Taking) (asked : Asks S E) (ceiling : ℕ) (bytes : List ℕ) (before after : S) (refusal : E) : Type 0 where
  pub reading : (tree : Tree) → k.reads bytes tree → RefusesVisit asked ceiling tree before after refusal
  pub unread : (tree : Tree) (rest : List ℕ) → k.faulty bytes tree rest → RefusedUpTo asked before (visits tree) rest (UserError refusal) after
  pub last : (made : List Visit) × (run asked before made ≡ refused (UserError refusal) after)

-- Where the bytes have a reading whose visits are accepted and whose frames fit, that output is answered, in that state, or memory runs
-- out.
abbrev pub IsAnswered : {S E A : Type 0} → Taking → Asks S E → ℕ → List ℕ → S → S → Result A (Error E) → (A → List ℕ) → Type 0
IsAnswered {S} k asked ceiling bytes before after result view =
    (output : List ℕ) (last : S) → IsReencoded k asked ceiling bytes before last output → IsOrWants output last after result view

-- what a law says of every call with these promises, of a plain reencoder
abbrev pub OfPlain : {S E A : Type 0} → Ghosts S E → Promises S E A → Promises S E A → Type 0
OfPlain i promised P = OfAnswers i promised (λ ceiling bytes before after result. IsTrue i.adds_nothing → P ceiling bytes before after result)
