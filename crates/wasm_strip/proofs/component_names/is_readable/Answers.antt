use Rattle.wasm_strip.proofs.ComponentNameRows.{direct_readable, plain_readable}
use Rattle.wasm_strip.proofs.component_names.is_readable.Goals as goal

pub returns-in-Component : goal.returns-in-Component
returns-in-Component c = plain_readable c.in-Component.is

pub returns-in-CoreFuncs : goal.returns-in-CoreFuncs
returns-in-CoreFuncs c = direct_readable c.in-CoreFuncs.is c.is_map.ensures
