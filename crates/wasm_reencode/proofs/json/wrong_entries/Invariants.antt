use Rattle.serde_json.specs.View.{members_view}
use Rattle.wasm_reencode.specs.Json.{TellsEntry, TellsFirst}
use Rattle.wasm_reencode.proofs.Wrong.{SoFar}
use Rattle.wasm_reencode.proofs.json.wrong_entries.Given as goal

abbrev pub invariant-loop-key : goal.invariant-loop-key
invariant-loop-key l = SoFar (TellsEntry l.space) (TellsFirst (TellsEntry l.space) (members_view l.entries.entries)) (members_view l.key-iterator)
