use Rattle.std.proofs.Common.{◌-◌, length, map}
use Rattle.serde_json.specs.View.{view}
use Rattle.wasm_reencode.proofs.Trees.{HeldSoFar}
use Rattle.wasm_reencode.proofs.listing.+objects.Given as goal

abbrev pub decreases-objects_in : goal.decreases-objects_in
decreases-objects_in l = length l.sections.now

abbrev pub invariant-sections : goal.invariant-sections
invariant-sections l = HeldSoFar l.holder l.sections l.count (map view l.objects.items)

abbrev pub decreases-sections : goal.decreases-sections
decreases-sections l = length l.sections - l.count
