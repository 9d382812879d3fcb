use Rattle.serde_json.specs.View.{members_view, view}
use Rattle.wasm_reencode.specs.Json.{TellsMember, TellsRenaming}
use Rattle.wasm_reencode.proofs.Wrong.{SoFar}
use Rattle.wasm_reencode.proofs.json.wrong_renaming.Given as goal

abbrev pub invariant-loop-key : goal.invariant-loop-key
invariant-loop-key l = SoFar TellsMember (TellsRenaming (view l.value)) (members_view l.key-iterator)
