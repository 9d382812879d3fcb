-- The texts of faults.
use Rattle.std.specs.Prelude.{◌++◌, ℕ, List, Option, Some, codes}
use Rattle.std.specs.Fmt.{decimal}
use Rattle.wasm_strip.specs.declared.fault.StripFault.{StripFault}
use Rattle.wasm_strip.specs.declared.fault.StripFault.TheVariants as fault

abbrev pub fault_text : StripFault → Option (List ℕ)
fault_text (fault.Read at) = Some (codes "no section or header at " ++ decimal at)
fault_text (fault.TooDeep at) = Some (codes "nested too deeply at " ++ decimal at)
fault_text fault.NoMemory = Some (codes "out of memory")
