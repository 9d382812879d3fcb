-- The texts of refusals.
use Rattle.std.specs.Prelude.{◌++◌, ℕ, List, Option, Some, None, codes}
use Rattle.std.specs.Fmt.{◌++?◌, decimal}
use Rattle.wasm_shapes.specs.Names.{space_name}
use Rattle.reencode_hooks.specs.Errors.{error_text}
use Rattle.wasm_merge.specs.declared.fault.MergeFault.{MergeFault}
use Rattle.wasm_merge.specs.declared.fault.MergeFault.TheVariants as fault

abbrev by_module : ℕ → List ℕ
by_module by = codes " by " ++ decimal by

-- Of a name that is no UTF-8, which no reading has, nothing is said, and so of no name.
abbrev pub fault_text : MergeFault → Option (List ℕ)
fault_text (fault.Core by e) = error_text (λ _. None) e ++? Some (by_module by)
fault_text (fault.Repeated by id) = Some (codes "repeated section " ++ decimal id ++ by_module by)
fault_text (fault.Uneven by stated rows) = Some (codes "uneven: " ++ decimal stated ++ codes " and " ++ decimal rows ++ by_module by)
fault_text (fault.Dangling by space index) = Some (codes "dangling " ++ space_name space ++ codes " " ++ decimal index ++ by_module by)
fault_text fault.TwoStarts = Some (codes "two starts")
fault_text (fault.Clash name) = None
fault_text (fault.TooLarge size) = Some (codes "size " ++ decimal size ++ codes " is too large")
fault_text fault.NoMemory = Some (codes "out of memory")
