-- How a call ends: its status, and what then holds.
use Rattle.std.specs.Prelude.{◌≡◌, ◌≢◌, ◌<◌, ◌≤◌, ℕ, List, [], length, take, true, Result, Err}
use Rattle.wasm_shapes.specs.declared.Visit.{Visit}
use Rattle.wasm_shapes.specs.Tree.{Tree, visits}
use Rattle.reencode_hooks.specs.declared.asked.Unmapped.{Unmapped}
use Rattle.reencode_hooks.specs.declared.error.Error.{Error}
use Rattle.reencode_hooks.specs.declared.error.Error.TheVariants as error
use Rattle.reencode_hooks.specs.declared.error.Error.TheVariants.{UserError, NoMemory}
use Rattle.reencode_hooks.specs.declared.indices.ReencodeIndices.{Ghosts}
use Rattle.reencode_hooks.specs.Renamings.{space_number}
use Rattle.reencode_hooks.specs.Run.{refused, run}
use Rattle.reencode_core.specs.Clauses.{asks}
use Rattle.reencode_core.specs.Refusals.{RefusedUpTo, RefusesNone}
use Rattle.reencode_component.specs.Causes.{IfFault}
use Rattle.reencode_component.specs.ComponentLaws.{Filled, IsOfBytes, IsTaken, StopsOn}
use Rattle.reencode_component.specs.Within.{WithinClauses}
use Rattle.reencode_component.specs.WithinLaws.{BinaryFault, as_binary}
use Rattle.reencode_c.specs.declared.outcome.Outcome.{Outcome}
use Rattle.reencode_c.specs.Visits.{tally}

-- ---- reencoders

-- the meanings of a reencoder that answers each visit by one method: it keeps every default, adds nothing, and is never out of memory
abbrev pub hooks_by : {S : Type 0} → (S → Visit → Result ℕ Unmapped) → (S → Visit → S) → Ghosts S Unmapped
hooks_by reply next = record { reply = reply; next = next; adds = λ s v. []; keeps_defaults = true; adds_nothing = true; sure = true }

-- ---- why an error comes

-- The error is one that the re-encoding of these bytes under this ceiling by this reencoder, from this state on, may give, and it left
-- `after`. An error of the bytes is their fault, and all sections before it were accepted. A refusal is of the first visit that is refused,
-- where the bytes have a reading, and else of one of the sections before the fault, or of visits drawn from the bytes from there on. Of
-- bytes that have a reading, an error is a refused visit, or a frame above the ceiling that closes before any, and it never comes where
-- the output can be made.
pub record IsErrorOf {S : Type 0} (i : Ghosts S Unmapped) (begun : S) (ceiling : ℕ) (bytes : List ℕ) (e : Error Unmapped) : Type 0 where
  pub after : S
  pub allowed : WithinClauses {A = List ℕ} i ceiling bytes begun after (Err e) (λ out. out)
  pub fault : IfFault e (BinaryFault bytes)
  pub before : IsOfBytes e → (t : Tree) (rest : List ℕ) → as_binary.faulty bytes t rest → (n : S) × Filled (asks i) ceiling begun t n
  pub first : (x : Unmapped) → e ≡ UserError x → (t : Tree) → as_binary.reads bytes t → run (asks i) begun (visits t) ≡ refused e after
  pub further : (x : Unmapped) → e ≡ UserError x → (t : Tree) (rest : List ℕ) → as_binary.faulty bytes t rest → RefusedUpTo (asks i) begun (visits t) rest e after
  pub last : (x : Unmapped) → e ≡ UserError x → (made : List Visit) × (run (asks i) begun made ≡ refused e after)
  pub never : RefusesNone (asks i) → (x : Unmapped) → e ≢ UserError x
  pub walked : e ≢ NoMemory → (t : Tree) → as_binary.reads bytes t → StopsOn (asks i) ceiling begun t e after
  pub unmade : e ≢ NoMemory → (out : List ℕ) (n : S) → IsTaken as_binary (asks i) ceiling bytes begun n out → ⊥

-- the errors that come of a whole binary
abbrev pub HasStatus : Error Unmapped → Type 0
HasStatus e = IfFault e (λ x. Unit {0})

-- ---- statuses

-- an outcome of this status, and all else in it 0
abbrev pub bare : ℕ → Outcome
bare status = record {
  length = 0;
  place = 0;
  size = 0;
  status = status;
  space = 0;
  index = 0;
  by = 0;
  count = 0;
  stated = 0;
  rows = 0;
  id = 0;
  spare = 0;
}

-- the outcome tells the error
abbrev pub Tells : Error Unmapped → Outcome → Type 0
Tells error.NoMemory o = o ≡ bare 1
Tells (error.ParseError e) o = o ≡ record (bare 5) { place = e.at }
Tells (error.UserError u) o = o ≡ record (bare 6) { space = space_number u.space; index = u.index }
Tells error.InvalidCodeSectionSize o = o ≡ bare 7
Tells error.UnexpectedNonCoreModuleSection o = o ≡ bare 8
Tells error.UnexpectedNonComponentSection o = o ≡ bare 9
Tells (error.TooLarge size) o = o ≡ record (bare 10) { size = size }
Tells _ o = ⊥

-- these items were put into the front of the room, and the outcome tells how many they are
abbrev pub IsPut : {X : Type 0} → Outcome → List X → List X → Type 0
IsPut o room out = (o ≡ record (bare 0) { length = o.length }) × (o.length ≤ length room) × (take o.length room ≡ out)

-- the outcome tells that the room is too small for so many items
abbrev pub IsTooSmall : {X : Type 0} → Outcome → List X → ℕ → Type 0
IsTooSmall o room n = (o ≡ record (bare 16) { length = n }) × (length room < n)

-- How a call ends with each status, where an output or a list of which `Done` holds is wanted: `Bad` is said of 11, `Miscounted` of 15, and of
-- an error why it comes. What does not go with the status is 0 in the outcome.
pub data Ends {X : Type 0} (Done : List X → Type 0) (Bad Miscounted : Type 0) (Why : Error Unmapped → Type 0) (o : Outcome) (room : List X) : ℕ → Type 0 where
  done : (out : List X) → IsPut o room out → Done out → Ends Done Bad Miscounted Why o room 0
  no_memory : o ≡ bare 1 → Ends Done Bad Miscounted Why o room 1
  parse_error : o ≡ record (bare 5) { place = o.place } → Why (error.ParseError (record { at = o.place })) → Ends Done Bad Miscounted Why o room 5
  unmapped : (u : Unmapped) → o ≡ record (bare 6) { space = space_number u.space; index = u.index } → Why (error.UserError u) → Ends Done Bad Miscounted Why o room 6
  code_size : o ≡ bare 7 → Why error.InvalidCodeSectionSize → Ends Done Bad Miscounted Why o room 7
  component : o ≡ bare 8 → Why error.UnexpectedNonCoreModuleSection → Ends Done Bad Miscounted Why o room 8
  core_module : o ≡ bare 9 → Why error.UnexpectedNonComponentSection → Ends Done Bad Miscounted Why o room 9
  too_large : o ≡ record (bare 10) { size = o.size } → Why (error.TooLarge o.size) → Ends Done Bad Miscounted Why o room 10
  bad_renaming : o ≡ record (bare 11) { place = o.place; space = o.space; index = o.index } → Bad → Ends Done Bad Miscounted Why o room 11
  miscounted : o ≡ record (bare 15) { length = o.length } → Miscounted → Ends Done Bad Miscounted Why o room 15
  too_small : (out : List X) → IsTooSmall o room (tally (length out)) → Done out → Ends Done Bad Miscounted Why o room 16
