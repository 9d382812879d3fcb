use Rattle.wasm_reach.proofs.Checking.{decided}
use Rattle.wasm_reach.proofs.checks.refusal.Goals as goal

pub returns-in-Err-decide : goal.returns-in-Err-decide
returns-in-Err-decide c = decided c.in-Ok.dangling c.in-Some.ensures.some (rw c.in-Some.is at c.known_of.ensures) c.in-Ok.ensures.ok c.in-Err-decide.e c.in-Err-decide.ensures.err
