-- What the re-encoding under the renamings of a command makes of some bytes.
use Rattle.std.specs.Prelude.{◌≡◌, ◌⊎◌, ◌<◌, ℕ, List, length, map, Ok}
use Rattle.wasm_leb.specs.declared.fault.Fault.{Fault}
use Rattle.wasm_leb.specs.declared.fault.Fault.TheVariants as fault
use Rattle.wasm_leb.specs.declared.fault.Kind.TheVariants as kind
use Rattle.wasm_shapes.specs.declared.Visit.{Visit}
use Rattle.wasm_shapes.specs.Drawn.{Drawn}
use Rattle.wasm_shapes.specs.Tree.{Tree, fill, normal, visits}
use Rattle.wasm_shapes.specs.Fits.{Fits}
use Rattle.reencode_hooks.specs.declared.error.Error.{Error}
use Rattle.reencode_hooks.specs.declared.error.Error.TheVariants.{UserError}
use Rattle.reencode_hooks.specs.declared.error.Error.TheVariants as error
use Rattle.reencode_hooks.specs.Renamings.{no_renaming}
use Rattle.reencode_hooks.specs.Run.{refused}
use Rattle.reencode_hooks.specs.Walk.{walk}
use Rattle.reencode_core.specs.Core as core
use Rattle.reencode_core.specs.Rules.{Refuses}
use Rattle.reencode_component.specs.ComponentLaws.{StopsBefore}
use Rattle.reencode_component.specs.ComponentLeaves.{NoComponentHeading}
use Rattle.reencode_component.specs.Components.{FaultAt}
use Rattle.reencode_component.specs.Within.{HasComponentHeading}
use Rattle.reencode_run.specs.declared.answer.ReencodingFault.{ReencodingFault}
use Rattle.reencode_run.specs.declared.answer.ReencodingFault.TheVariants.{NoMemory, ParseError, Refused, CodeSectionSize, NonCoreModule, NonComponent, TooLarge}
use Rattle.reencode_run.specs.declared.renamers.Refusal.{Refusal}
use Rattle.reencode_run.specs.declared.renamers.Renamers.{Renamers}
use Rattle.reencode_run.specs.declared.renamers.Renamers.TheVariants.{Alone}
use Rattle.reencode_run.specs.declared.binary_taken.Taken.{Taken}
use Rattle.reencode_run.specs.declared.binary_taken.Taken.TheVariants.{Modules, Binaries}
use Rattle.reencode_run.specs.Renamers.{IsLacking, Lack, State, all_counted, asks_of, begun, counts_in, hooks_of, rule_of, told_lack}
use Rattle.reencode_run.specs.Taken.{Faulty, HasFault, Reads}

-- The bytes have a reading, the renamings have an answer to each visit of it, in order, and the output is the normal spelling of the reading
-- with each index replaced by its answer. No frame of it is above the ceiling, and the counts of each renaming are the numbers of the visits.
pub record IsReencoded (k : Taken) (ceiling : ℕ) (rs : Renamers) (bytes output : List ℕ) (counts : List (List ℕ)) : Type 0 where
  pub tree : Tree
  pub reading : Reads k bytes tree
  pub answers : List ℕ
  pub answered : map (rule_of rs) (visits tree) ≡ map Ok answers
  pub fits : Fits (fill tree answers) ceiling
  pub spelled : output ≡ normal (fill tree answers)
  pub asked : counts ≡ all_counted (counts_in rs) (visits tree)

-- Where the bytes have a reading whose visits all have answers, and no frame of what it becomes is above the ceiling, memory is the one
-- thing that may run out.
abbrev pub IsMakingFault : Taken → ℕ → Renamers → List ℕ → ReencodingFault → Type 0
IsMakingFault k ceiling rs bytes fault =
    (tree : Tree) (answers : List ℕ) → Reads k bytes tree → map (rule_of rs) (visits tree) ≡ map Ok answers
    → Fits (fill tree answers) ceiling → fault ≡ NoMemory

-- the renamings have an answer to each visit of these sections, and no frame of what they become is above the ceiling
abbrev pub AreAccepted : ℕ → Renamers → Tree → Type 0
AreAccepted ceiling rs t = (answers : List ℕ) × (map (rule_of rs) (visits t) ≡ map Ok answers) × Fits (fill t answers) ceiling

-- The bytes have no reading, and this is their fault: of a place it is 0 where no header stands there that is taken, and else that of the first
-- section without a reading, behind all sections before it; and these were accepted.
pub record IsFault (k : Taken) (ceiling : ℕ) (rs : Renamers) (bytes : List ℕ) (x : Fault) : Type 0 where
  pub none : (tree : Tree) → Reads k bytes tree → ⊥
  pub fault : HasFault k bytes x
  pub accepted : (sections : Tree) (rest : List ℕ) → Faulty k bytes sections rest → AreAccepted ceiling rs sections

-- some of these visits have no answer, and this is the first such
abbrev pub IsFirst : (rs : Renamers) → List Visit → Lack rs → Type 0
IsFirst rs vs u = Refuses (rule_of rs) vs u

-- The first visit without an answer is one of these; or all of these have one, and it is the first such of some further visits, which
-- are drawn from these bytes.
abbrev pub IsFirstUpTo : (rs : Renamers) → List Visit → List ℕ → Lack rs → Type 0
IsFirstUpTo rs vs rest u =
    IsFirst rs vs u
    ⊎ ((answers : List ℕ) × (further : List Visit) × (map (rule_of rs) vs ≡ map Ok answers) × Drawn rest further × IsFirst rs further u)

-- it comes of the sections of a module before the fault, or of what stands whole in the section there
abbrev pub OfModule : ℕ → (rs : Renamers) → List ℕ → State rs → Error (Lack rs) → Type 0
OfModule ceiling rs bytes after e = core.BeforeFault (asks_of rs) ceiling bytes (begun rs) after e

-- the same of a component
abbrev pub OfComponent : ℕ → (rs : Renamers) → List ℕ → State rs → Error (Lack rs) → Type 0
OfComponent ceiling rs bytes after e =
    (sections : List Tree) (rest : List ℕ) → FaultAt 0 bytes sections rest → StopsBefore (hooks_of rs) ceiling 0 (begun rs) sections rest e after

-- Where the bytes have a fault, a refusal or a size comes of what stands before it.
abbrev pub AnyBeforeFault : Taken → ℕ → (rs : Renamers) → List ℕ → State rs → Error (Lack rs) → Type 0
AnyBeforeFault Modules ceiling rs bytes after e = OfModule ceiling rs bytes after e
AnyBeforeFault Binaries ceiling rs bytes after e = (NoComponentHeading bytes × OfModule ceiling rs bytes after e) ⊎ (HasComponentHeading bytes × OfComponent ceiling rs bytes after e)

-- a refusal, or a size that is too large
abbrev pub IsRefusal : {E : Type 0} → Error E → Type 0
IsRefusal (UserError u) = Unit {0}
IsRefusal (error.TooLarge size) = Unit {0}
IsRefusal _ = ⊥

-- The one renaming is strict and has no entry for this index, or that one of the two that is named. Where the bytes have a reading, it
-- is the first of its visits that has none, and on the walk no frame that closes before it is above the ceiling. Where they have a fault,
-- it is that of the visits of the sections before it, or all of these have answers, and it is that of visits that are drawn from the
-- bytes from the fault on; and no frame before is above the ceiling.
pub record IsUserRefusal (k : Taken) (ceiling : ℕ) (rs : Renamers) (bytes : List ℕ) (refusal : Refusal) : Type 0 where
  pub u : Lack rs
  pub is : refusal ≡ told_lack rs u
  pub unmapped : IsLacking rs u
  pub first : (tree : Tree) → Reads k bytes tree → IsFirst rs (visits tree) u
  pub walked : (tree : Tree) → Reads k bytes tree → (after : State rs) × (walk (asks_of rs) ceiling (begun rs) tree ≡ refused (UserError u) after)
  pub fault : (sections : Tree) (rest : List ℕ) → Faulty k bytes sections rest → IsFirstUpTo rs (visits sections) rest u
  pub before : (after : State rs) × AnyBeforeFault k ceiling rs bytes after (UserError u)

-- The size is above the ceiling. Where the bytes have a reading, it is that of the first frame above the ceiling that closes on the
-- walk over it, and each visit before was accepted. Where they have none, it is that of such a frame before the fault. Where
-- nothing is renamed, the bytes are longer than the ceiling.
pub record IsOutputTooLarge (k : Taken) (ceiling : ℕ) (rs : Renamers) (bytes : List ℕ) (size : ℕ) : Type 0 where
  pub above : ceiling < size
  pub first : (tree : Tree) → Reads k bytes tree → (after : State rs) × (walk (asks_of rs) ceiling (begun rs) tree ≡ refused (error.TooLarge size) after)
  pub before : (after : State rs) × AnyBeforeFault k ceiling rs bytes after (error.TooLarge size)
  pub longer : rs ≡ Alone no_renaming → ceiling < length bytes

-- Why nothing is made of the bytes: they have a fault, an index is refused, or a frame is above the ceiling; or memory runs out.
abbrev pub IsRefused : Taken → ℕ → Renamers → List ℕ → ReencodingFault → Type 0
IsRefused k ceiling rs bytes (ParseError at) = IsFault k ceiling rs bytes (fault.Read (record { at = at }))
IsRefused k ceiling rs bytes CodeSectionSize = IsFault k ceiling rs bytes fault.CodeSize
IsRefused k ceiling rs bytes NonCoreModule = IsFault k ceiling rs bytes (fault.Header kind.Component)
IsRefused k ceiling rs bytes NonComponent = IsFault k ceiling rs bytes (fault.Header kind.Module)
IsRefused k ceiling rs bytes (Refused u) = IsUserRefusal k ceiling rs bytes u
IsRefused k ceiling rs bytes (TooLarge size above) = (above ≡ ceiling) × IsOutputTooLarge k ceiling rs bytes size
IsRefused k ceiling rs bytes NoMemory = Unit {0}
IsRefused k ceiling rs bytes _ = ⊥
