use Rattle.std.proofs.Common.{length}
use Rattle.wasm_shapes.specs.Module.{plain_naming}
use Rattle.reencode_core.proofs.names_mapped.MapLoops.{Walked}
use Rattle.reencode_core.proofs.names.map_names.Given as goal

-- the entries so far were asked for and added
abbrev pub invariant-entries : goal.invariant-entries
invariant-entries g l =
    record {
      callable : goal.F-IsAlwaysCallable g l.map_index;
      walked : Walked plain_naming (goal.F-step g) l.fn.map l.fn.map_index l.rest l.map_index l.mapped;
    }

abbrev pub decreases-entries : goal.decreases-entries
decreases-entries g l = length l.rest.rest
