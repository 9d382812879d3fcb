-- How the calls of the tools over core modules end.
use Rattle.std.specs.Prelude.{◌≡◌, ◌<◌, ◌≤◌, ◌⊎◌, ◌+◌, ◌++◌, ℕ, List, [], ◌∷◌, length, take}
use Rattle.std.specs.List.{concat}
use Rattle.wasm_renumber.specs.declared.fault.RenumberFault.{RenumberFault}
use Rattle.wasm_renumber.specs.Renumber as renumber
use Rattle.wasm_reach.specs.declared.fault.ReachFault.{ReachFault}
use Rattle.wasm_reach.specs.Checks as reach
use Rattle.wasm_reach.specs.Graph.{AreCalls, AreTold}
use Rattle.wasm_reach.specs.Prune as prune
use Rattle.wasm_merge.specs.declared.fault.MergeFault.{MergeFault}
use Rattle.wasm_merge.specs.Merging as merge
use Rattle.wasm_merge.specs.Refusals as merging
use Rattle.reencode_c.specs.declared.outcome.Outcome.{Outcome}
use Rattle.reencode_c.specs.Ends.{IsPut, IsTooSmall, bare}
use Rattle.reencode_c.specs.Refusals.{TellsMerge, TellsReach, TellsRenumber}
use Rattle.reencode_c.specs.Visits.{tally}

-- A call finishes with an output that was put, or for which room is wanted, or with a refusal of which all is said.
pub data Finishes {F : Type 0} (Put Small : Type 0) (Refused : F → Type 0) : Type 0 where
  put : Put → Finishes Put Small Refused
  too_small : Small → Finishes Put Small Refused
  refused : (fault : F) → Refused fault → Finishes Put Small Refused

-- ---- one room

-- an output of which this holds was put into the front of the room
pub record PutsAny {X : Type 0} (Done : List X → Type 0) (o : Outcome) (room : List X) : Type 0 where
  pub out : List X
  pub is_put : IsPut o room out
  pub is_done : Done out

-- the room is too small for such an output
pub record WantsRoom {X : Type 0} (Done : List X → Type 0) (o : Outcome) (room : List X) : Type 0 where
  pub out : List X
  pub is_small : IsTooSmall o room (tally (length out))
  pub is_done : Done out

abbrev pub FinishesIn : {X F : Type 0} → (List X → Type 0) → (F → Type 0) → Outcome → List X → Type 0
FinishesIn Done Refused o room = Finishes (PutsAny Done o room) (WantsRoom Done o room) Refused

-- The module with its functions in this order was put, or room for it is wanted; or the refusal has its cause, and the outcome tells it.
abbrev pub Renumbers : List ℕ → List ℕ → ℕ → Outcome → List ℕ → Type 0
Renumbers bytes order ceiling o room =
    FinishesIn (renumber.IsRenumbered bytes order ceiling)
    (λ (e : RenumberFault). renumber.IsWhy bytes order ceiling e × renumber.IsMade bytes order ceiling e × TellsRenumber e o) o room

-- The same of the one module of two. The refusal of a name that both export leaves it in the room, or that as it was before.
abbrev pub Merges : List ℕ → List ℕ → ℕ → Outcome → List ℕ → List ℕ → Type 0
Merges first second ceiling o before room =
    FinishesIn (merge.IsMerged first second ceiling)
    (λ (e : MergeFault). merging.IsWhy first second ceiling e × merge.IsMade first second ceiling e × TellsMerge e o before room) o room

-- ---- two rooms

-- the output and the kept functions were put into the fronts of two rooms
pub record PutsBoth (bytes : List ℕ) (ceiling : ℕ) (o : Outcome) (room kept_room : List ℕ) : Type 0 where
  pub tells : o ≡ record (bare 0) { length = o.length; count = o.count }
  pub length_is : o.length ≤ length room
  pub count_is : o.count ≤ length kept_room
  pub pruned : prune.IsPruned bytes ceiling (take o.length room) (take o.count kept_room)

-- one of the rooms is too small for them
pub record WantsBoth (bytes : List ℕ) (ceiling : ℕ) (o : Outcome) (room kept_room : List ℕ) : Type 0 where
  pub out : List ℕ
  pub kept : List ℕ
  pub tells : o ≡ record (bare 16) { length = length out; count = length kept }
  pub is_small : (length room < length out) ⊎ (length kept_room < length kept)
  pub pruned : prune.IsPruned bytes ceiling out kept

-- The same of the module without the functions that nothing reaches, and of those that are kept.
abbrev pub Prunes : List ℕ → ℕ → Outcome → List ℕ → List ℕ → Type 0
Prunes bytes ceiling o room kept_room =
    Finishes (PutsBoth bytes ceiling o room kept_room) (WantsBoth bytes ceiling o room kept_room)
    (λ (e : ReachFault). prune.IsWhyNot bytes ceiling e × prune.IsMade bytes ceiling e × TellsReach e o)

-- ---- calls

-- where each of some lists begins, if the first begins there and each stands behind the one before; and where the last ends
abbrev pub starts : ℕ → List (List ℕ) → List ℕ
starts n [] = n ∷ []
starts n (row ∷ rows) = n ∷ starts (n + length row) rows

-- how many functions are imported, where each list begins here and where the last ends, and the lists, one behind another
abbrev pub packed : ℕ → List (List ℕ) → List ℕ
packed imports rows = imports ∷ (starts (length rows + 2) rows ++ concat rows)

-- what the functions of a module are asked for by: first the roots, then of each defined function what its body asks for
pub record ArePackedCalls (bytes list : List ℕ) : Type 0 where
  pub imports : ℕ
  pub roots : List ℕ
  pub calls : List (List ℕ)
  pub are_calls : AreCalls bytes imports roots calls
  pub is_packed : list ≡ packed imports (roots ∷ calls)

-- The list of what the functions of a module are asked for by was put, or room for it is wanted, or nothing comes, for a cause.
abbrev pub GivesCalls : List ℕ → Outcome → List ℕ → Type 0
GivesCalls bytes o room = FinishesIn (ArePackedCalls bytes) (λ (e : ReachFault). reach.IsWhy bytes e × AreTold bytes e × TellsReach e o) o room
