-- Why the tools over modules make nothing: want of memory is always a reason, and a fault has a status.
use Rattle.std.proofs.Common.{ℕ, List, None, inl, inr, refl}
use Rattle.std.specs.declared.convert.Infallible.{Infallible}
use Rattle.reencode_hooks.specs.declared.error.Error.{Error}
use Rattle.reencode_hooks.specs.declared.error.Error.TheVariants as error
use Rattle.filled_modules.specs.Readings.{IsFault}
use Rattle.wasm_renumber.specs.declared.fault.RenumberFault.{RenumberFault}
use Rattle.wasm_renumber.specs.declared.fault.RenumberFault.TheVariants as renumber_fault
use Rattle.wasm_renumber.specs.Renumber as renumbering
use Rattle.wasm_reach.specs.declared.fault.ReachFault.{ReachFault}
use Rattle.wasm_reach.specs.declared.fault.ReachFault.TheVariants as reach_fault
use Rattle.wasm_reach.specs.Prune as pruning
use Rattle.wasm_merge.specs.declared.fault.MergeFault.{MergeFault}
use Rattle.wasm_merge.specs.declared.fault.MergeFault.TheVariants as merge_fault
use Rattle.wasm_merge.specs.Refusals as merging
use Rattle.reencode_run.specs.declared.answer.ReencodingFault.TheVariants.{NoMemory}
use Rattle.reencode_run.specs.Errors.{HasStatus}
use Rattle.reencode_run.specs.Tools.{EndsMerging, EndsPruning, EndsRenumbering, StopsMerging, StopsPruning, StopsRenumbering, stop}

pub no_memory_renumbering : (order : List ℕ) (c : ℕ) (bytes : List ℕ) → StopsRenumbering order c bytes (stop NoMemory None)
no_memory_renumbering order c bytes = record { fault = renumber_fault.NoMemory; why = tt; made = λ t reading ready fits. refl; tells = refl }

pub no_memory_pruning : (c : ℕ) (bytes : List ℕ) → StopsPruning c bytes (stop NoMemory None)
no_memory_pruning c bytes = record { fault = reach_fault.NoMemory; why = tt; made = λ t reading sound fits. refl; tells = refl }

pub no_memory_merging : (second : List ℕ) (c : ℕ) (first : List ℕ) → StopsMerging second c first (stop NoMemory None)
no_memory_merging second c first =
    record { fault = merge_fault.NoMemory; why = inl tt; made = λ t u one two starts clash fits. refl; tells = refl }

-- the fault of bytes that are no core module has a status
fault_ends : (bytes : List ℕ) (e : Error Infallible) → IsFault bytes e → HasStatus e
fault_ends bytes error.CanonicalizedHeapTypeReference h = absurd h
fault_ends bytes error.InvalidConstExpr h = absurd h
fault_ends bytes error.UnsupportedCoreTypeInComponent h = absurd h
fault_ends bytes _ h = tt

pub renumbering_ends : (bytes order : List ℕ) (c : ℕ) (f : RenumberFault) → renumbering.IsWhy bytes order c f → EndsRenumbering f
renumbering_ends bytes order c (renumber_fault.Core error.CanonicalizedHeapTypeReference) h = absurd h
renumbering_ends bytes order c (renumber_fault.Core error.InvalidConstExpr) h = absurd h
renumbering_ends bytes order c (renumber_fault.Core error.UnsupportedCoreTypeInComponent) h = absurd h
renumbering_ends bytes order c (renumber_fault.Core _) h = tt
renumbering_ends bytes order c _ h = tt

pub pruning_ends : (bytes : List ℕ) (c : ℕ) (f : ReachFault) → pruning.IsWhyNot bytes c f → EndsPruning f
pruning_ends bytes c (reach_fault.Core error.CanonicalizedHeapTypeReference) h = absurd h
pruning_ends bytes c (reach_fault.Core error.InvalidConstExpr) h = absurd h
pruning_ends bytes c (reach_fault.Core error.UnsupportedCoreTypeInComponent) h = absurd h
pruning_ends bytes c (reach_fault.Core _) h = tt
pruning_ends bytes c _ h = tt

pub merging_ends : (first second : List ℕ) (c : ℕ) (f : MergeFault) → merging.IsWhy first second c f → EndsMerging f
merging_ends first second c (merge_fault.Core by e) (inl h) = fault_ends first e h.1
merging_ends first second c (merge_fault.Core by e) (inr (inl h)) = fault_ends second e h.2.1
merging_ends first second c (merge_fault.Core by e) (inr (inr h)) = absurd h.4
merging_ends first second c _ h = tt
