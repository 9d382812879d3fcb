-- Steps of a reencoder, and its run over a list of visits.
use Rattle.std.specs.Prelude.{◌≡◌, ◌≢◌, ◌++◌, ℕ, Bool, List, [], ◌∷◌, Result, Ok, Err, IfErr, IsErrOf, IsTrue}
use Rattle.wasm_shapes.specs.declared.Visit.{Visit}
use Rattle.reencode_hooks.specs.declared.error.Error.{Error}
use Rattle.reencode_hooks.specs.declared.error.Error.TheVariants.{UserError, NoMemory}

-- one step: what it gave, or the refusal, and the state after
pub data Step (S E A : Type 0) : Type 0 where
  accepted : A → S → Step S E A
  refused : E → S → Step S E A

-- a step and, where it was accepted, what follows
abbrev pub and_then : {S E A B : Type 0} → Step S E A → (A → S → Step S E B) → Step S E B
and_then (accepted a s) next = next a s
and_then (refused e s) next = refused e s

-- the state after a step
abbrev pub state_after : {S E A : Type 0} → Step S E A → S
state_after (accepted a s) = s
state_after (refused e s) = s

-- an answer and the state after, as a step
abbrev pub answered : {S E A : Type 0} → Result A E → S → Step S (Error E) A
answered (Ok a) s = accepted a s
answered (Err e) s = refused (UserError e) s

-- one visit: it is answered by `reply`, and the state after is `next`
abbrev pub ask : {S E : Type 0} → (S → Visit → Result ℕ E) → (S → Visit → S) → S → Visit → Step S (Error E) ℕ
ask reply next s v = answered (reply s v) (next s v)

-- the answers to a list of visits, or the first refusal
abbrev pub run : {S E : Type 0} → (S → Visit → Step S E ℕ) → S → List Visit → Step S E (List ℕ)
run asked s [] = accepted [] s
run asked s (v ∷ vs) = and_then (asked s v) (λ n m. and_then (run asked m vs) (λ ns k. accepted (n ∷ ns) k))

-- an answer in front of those that follow where there is one
abbrev pub then_answers : {S E : Type 0} → Step S E ℕ → (S → List ℕ) → List ℕ
then_answers (accepted n s) more = n ∷ more s
then_answers (refused e s) more = []

-- the answers to a list of visits up to the first refusal
abbrev pub answers : {S E : Type 0} → (S → Visit → Step S E ℕ) → S → List Visit → List ℕ
answers asked s [] = []
answers asked s (v ∷ vs) = then_answers (asked s v) (λ m. answers asked m vs)

-- the second state is the one after the visits of a front part of the list, of which the last may have been refused
pub record Visited {S E : Type 0} (asked : S → Visit → Step S E ℕ) (s : S) (visits : List Visit) (m : S) : Type 0 where
  pub front : List Visit
  pub rest : List Visit
  pub parts : visits ≡ front ++ rest
  pub state : state_after (run asked s front) ≡ m

-- an error left the state after a front part of these visits
abbrev pub LeavesVisited : {S E A : Type 0} → (S → Visit → Step S (Error E) ℕ) → S → List Visit → S → Result A (Error E) → Type 0
LeavesVisited asked s visits new result = IfErr result (λ e. Visited asked s visits new)

-- a call answered what a step gave, seen by `view`, and left its state; of `NoMemory` nothing is said
abbrev pub Gives : {S E A B : Type 0} → Step S (Error E) B → (A → B) → S → Result A (Error E) → Type 0
Gives step view new (Ok a) = step ≡ accepted (view a) new
Gives step view new (Err e) = e ≢ NoMemory → step ≡ refused e new

-- where the type is sure, the call did not answer `NoMemory`
abbrev pub NeverWants : {E A : Type 0} → Bool → Result A (Error E) → Type 0
NeverWants sure r = IsTrue sure → IsErrOf r NoMemory → ⊥
