-- What the tools over modules show, and why they make nothing.
use Rattle.std.specs.Prelude.{◌≡◌, ℕ, List, [], ◌∷◌, ◌++◌, codes, decimal, Option, Some, None, Result, Ok, Err}
use Rattle.std.specs.declared.convert.Infallible.{Infallible}
use Rattle.wasm_shapes.specs.declared.Space.TheVariants as space
use Rattle.wasm_renumber.specs.declared.fault.RenumberFault.{RenumberFault}
use Rattle.wasm_renumber.specs.declared.fault.RenumberFault.TheVariants as renumber_fault
use Rattle.wasm_renumber.specs.Renumber as renumbering
use Rattle.wasm_reach.specs.declared.fault.ReachFault.{ReachFault}
use Rattle.wasm_reach.specs.declared.fault.ReachFault.TheVariants as reach_fault
use Rattle.wasm_reach.specs.Prune as pruning
use Rattle.wasm_merge.specs.declared.fault.MergeFault.{MergeFault}
use Rattle.wasm_merge.specs.declared.fault.MergeFault.TheVariants as merge_fault
use Rattle.wasm_merge.specs.Merging as merging
use Rattle.wasm_merge.specs.Refusals as merging_refusals
use Rattle.reencode_run.specs.declared.answer.ReencodingFault.{ReencodingFault}
use Rattle.reencode_run.specs.declared.answer.ReencodingFault.TheVariants as reencoding_fault
use Rattle.reencode_run.specs.declared.answer.TaskFault.{TaskFault}
use Rattle.reencode_run.specs.declared.renamers.Refusal.{Refusal}
use Rattle.reencode_run.specs.Errors.{EndsAs, HasStatus}
use Rattle.reencode_run.specs.Report.{Shown, with_output}

-- what is wrong, and of which input that is said
abbrev pub stop : ReencodingFault → Option ℕ → TaskFault
stop fault by = record { fault = fault; by = by }

-- no tool asks a reencoder that refuses
abbrev pub no_refusal : Infallible → Refusal
no_refusal u = elim u [ ]

-- ---- functions in another order

-- how a fault is told
abbrev pub TellsRenumbering : ℕ → RenumberFault → TaskFault → Type 0
TellsRenumbering ceiling (renumber_fault.Core error) e = (e.by ≡ None) × EndsAs no_refusal ceiling error e.fault
TellsRenumbering ceiling (renumber_fault.Repeated id) e = e ≡ stop (reencoding_fault.Repeated id) None
TellsRenumbering ceiling (renumber_fault.Uneven functions bodies) e = e ≡ stop (reencoding_fault.Uneven functions bodies) None
TellsRenumbering ceiling (renumber_fault.NotAnOrder place) e = e ≡ stop (reencoding_fault.NotAnOrder place) None
TellsRenumbering ceiling renumber_fault.NoMemory e = e ≡ stop reencoding_fault.NoMemory None

-- an error in it is one that an input may give
abbrev pub EndsRenumbering : RenumberFault → Type 0
EndsRenumbering (renumber_fault.Core error) = HasStatus error
EndsRenumbering _ = Unit {0}

-- The module whose functions are moved, and no line.
pub record ShowsRenumbered (order : List ℕ) (ceiling : ℕ) (bytes : List ℕ) (made : Shown) : Type 0 where
  pub output : List ℕ
  pub renumbered : renumbering.IsRenumbered bytes order ceiling output
  pub told : made ≡ with_output output []

-- Why nothing is made. Where nothing is refused, and no frame of the moved module is above the ceiling, that is want of memory alone.
pub record StopsRenumbering (order : List ℕ) (ceiling : ℕ) (bytes : List ℕ) (e : TaskFault) : Type 0 where
  pub fault : RenumberFault
  pub why : renumbering.IsWhy bytes order ceiling fault
  pub made : renumbering.IsMade bytes order ceiling fault
  pub tells : TellsRenumbering ceiling fault e

abbrev pub Renumbers : List ℕ → ℕ → List ℕ → Result Shown TaskFault → Type 0
Renumbers order ceiling bytes (Ok made) = ShowsRenumbered order ceiling bytes made
Renumbers order ceiling bytes (Err e) = StopsRenumbering order ceiling bytes e

-- ---- without the functions that nothing reaches

abbrev pub TellsPruning : ℕ → ReachFault → TaskFault → Type 0
TellsPruning ceiling (reach_fault.Core error) e = (e.by ≡ None) × EndsAs no_refusal ceiling error e.fault
TellsPruning ceiling (reach_fault.Repeated id) e = e ≡ stop (reencoding_fault.Repeated id) None
TellsPruning ceiling (reach_fault.Uneven functions bodies) e = e ≡ stop (reencoding_fault.Uneven functions bodies) None
TellsPruning ceiling (reach_fault.Dangling index) e = e ≡ stop (reencoding_fault.Dangling space.Function index) None
TellsPruning ceiling reach_fault.NoMemory e = e ≡ stop reencoding_fault.NoMemory None

abbrev pub EndsPruning : ReachFault → Type 0
EndsPruning (reach_fault.Core error) = HasStatus error
EndsPruning _ = Unit {0}

-- each number behind a space
abbrev pub spaced : List ℕ → List ℕ
spaced [] = []
spaced (n ∷ ns) = codes " " ++ decimal n ++ spaced ns

-- The module without them, and a line of the functions that are kept, by their old indices.
pub record ShowsPruned (ceiling : ℕ) (bytes : List ℕ) (made : Shown) : Type 0 where
  pub output : List ℕ
  pub kept : List ℕ
  pub pruned : pruning.IsPruned bytes ceiling output kept
  pub told : made ≡ with_output output (codes "kept" ++ spaced kept ++ codes "\n")

pub record StopsPruning (ceiling : ℕ) (bytes : List ℕ) (e : TaskFault) : Type 0 where
  pub fault : ReachFault
  pub why : pruning.IsWhyNot bytes ceiling fault
  pub made : pruning.IsMade bytes ceiling fault
  pub tells : TellsPruning ceiling fault e

abbrev pub Prunes : ℕ → List ℕ → Result Shown TaskFault → Type 0
Prunes ceiling bytes (Ok made) = ShowsPruned ceiling bytes made
Prunes ceiling bytes (Err e) = StopsPruning ceiling bytes e

-- ---- one module of two

abbrev pub TellsMerging : ℕ → MergeFault → TaskFault → Type 0
TellsMerging ceiling (merge_fault.Core by error) e = (e.by ≡ Some by) × EndsAs no_refusal ceiling error e.fault
TellsMerging ceiling (merge_fault.Repeated by id) e = e ≡ stop (reencoding_fault.Repeated id) (Some by)
TellsMerging ceiling (merge_fault.Uneven by stated rows) e = e ≡ stop (reencoding_fault.Uneven stated rows) (Some by)
TellsMerging ceiling (merge_fault.Dangling by s index) e = e ≡ stop (reencoding_fault.Dangling s index) (Some by)
TellsMerging ceiling merge_fault.TwoStarts e = e ≡ stop reencoding_fault.TwoStarts None
TellsMerging ceiling (merge_fault.Clash name) e = e ≡ stop (reencoding_fault.Clash name) None
TellsMerging ceiling (merge_fault.TooLarge size) e = e ≡ stop (reencoding_fault.TooLarge size ceiling) None
TellsMerging ceiling merge_fault.NoMemory e = e ≡ stop reencoding_fault.NoMemory None

abbrev pub EndsMerging : MergeFault → Type 0
EndsMerging (merge_fault.Core by error) = HasStatus error
EndsMerging _ = Unit {0}

-- The merged module, and no line. The first module is the input.
pub record ShowsMerged (second : List ℕ) (ceiling : ℕ) (first : List ℕ) (made : Shown) : Type 0 where
  pub output : List ℕ
  pub merged : merging.IsMerged first second ceiling output
  pub told : made ≡ with_output output []

pub record StopsMerging (second : List ℕ) (ceiling : ℕ) (first : List ℕ) (e : TaskFault) : Type 0 where
  pub fault : MergeFault
  pub why : merging_refusals.IsWhy first second ceiling fault
  pub made : merging.IsMade first second ceiling fault
  pub tells : TellsMerging ceiling fault e

abbrev pub Merges : List ℕ → ℕ → List ℕ → Result Shown TaskFault → Type 0
Merges second ceiling first (Ok made) = ShowsMerged second ceiling first made
Merges second ceiling first (Err e) = StopsMerging second ceiling first e
