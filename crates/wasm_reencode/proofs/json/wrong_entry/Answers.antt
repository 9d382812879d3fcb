use Rattle.wasm_reencode.specs.Json.{TellsEntry}
use Rattle.wasm_reencode.proofs.json.wrong_entry.Goals as goal

pub returns-in-Some-Some : goal.returns-in-Some-Some
returns-in-Some-Some c = TellsEntry.right c.in-Some-Some.field-0-0 c.in-Some-Some.field-0-1 (cc) (cc)

pub returns-in_ok-format-in-Some-None : goal.returns-in_ok-format-in-Some-None
returns-in_ok-format-in-Some-None c = TellsEntry.no_new c.in-Some-None.field-0-0 (cc) (cc) c.in_ok-format-in-Some-None.ensures.ok

pub returns-in_ok-format-in-None-default : goal.returns-in_ok-format-in-None-default
returns-in_ok-format-in-None-default c = TellsEntry.no_old (cc) c.in_ok-format-in-None-default.ensures.ok
