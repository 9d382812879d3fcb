-- The texts of refusals.
use Rattle.std.specs.Prelude.{◌++◌, ℕ, List, Option, Some, None, codes}
use Rattle.std.specs.Fmt.{decimal}
use Rattle.reencode_hooks.specs.Errors.{error_text}
use Rattle.wasm_reach.specs.declared.fault.ReachFault.{ReachFault}
use Rattle.wasm_reach.specs.declared.fault.ReachFault.TheVariants as fault

abbrev pub fault_text : ReachFault → Option (List ℕ)
fault_text (fault.Core e) = error_text (λ _. None) e
fault_text (fault.Repeated id) = Some (codes "repeated section " ++ decimal id)
fault_text (fault.Uneven functions bodies) = Some (codes "uneven: " ++ decimal functions ++ codes " and " ++ decimal bodies)
fault_text (fault.Dangling index) = Some (codes "dangling function " ++ decimal index)
fault_text fault.NoMemory = Some (codes "out of memory")
