use Rattle.std.proofs.Common.{drop}
use Rattle.serde_json.specs.View.{view}
use Rattle.wasm_reencode.proofs.Wrong.{OrderSoFar}
use Rattle.wasm_reencode.proofs.json.wrong_order.Given as goal

abbrev pub invariant-places : goal.invariant-places
invariant-places l = OrderSoFar (view l.value) l.place-counter (drop l.place-counter l.values.items)
