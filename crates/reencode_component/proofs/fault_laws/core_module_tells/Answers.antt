use Rattle.reencode_component.proofs.whole_binaries.ModuleLaws as laws
use Rattle.reencode_component.proofs.fault_laws.core_module_tells.Goals as goal

pub returns : goal.returns
returns g c = laws.module_tells g.T.ReencodeIndices g.met.T.ReencodeIndices.adds_ok
