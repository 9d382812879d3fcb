use Rattle.std.proofs.Common.{◌≡◌, [], drop}
use Rattle.serde_json.specs.View.{items_view}
use Rattle.reencode_run.specs.Orders.{numbers_from}
use Rattle.reencode_run.proofs.order.numbers_of.Given as goal

-- what is left goes on as the whole does
abbrev pub invariant-loop-value : goal.invariant-loop-value
invariant-loop-value l = numbers_from l.numbers (items_view (drop l.value-index l.values)) ≡ numbers_from [] (items_view l.values)
