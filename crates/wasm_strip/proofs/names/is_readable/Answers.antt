use Rattle.wasm_strip.proofs.NameRows.{direct_readable, indirect_readable, plain_readable}
use Rattle.wasm_strip.proofs.names.is_readable.Goals as goal

pub returns-in-Module : goal.returns-in-Module
returns-in-Module c = plain_readable c.in-Module.is

pub returns-in-Function : goal.returns-in-Function
returns-in-Function c = direct_readable c.in-Function.is c.is_map.ensures

pub returns-in-Local : goal.returns-in-Local
returns-in-Local c = indirect_readable c.in-Local.is c.is_indirect_map.ensures
