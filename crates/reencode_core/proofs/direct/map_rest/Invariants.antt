use Rattle.std.proofs.Common.{◌≡◌, ◌-◌, length}
use Rattle.wasm_read.specs.Operations.{rest_of}
use Rattle.reencode_core.specs.Direct.{DealsWith}
use Rattle.reencode_core.proofs.bodies.BodyFromPlace.{RestKept}
use Rattle.reencode_core.proofs.rows_walked.OneRow.{asks}
use Rattle.reencode_core.proofs.direct.map_rest.Given as goal

-- the operators so far are mapped
abbrev pub invariant-operators : goal.invariant-operators
invariant-operators g l =
    record {
      deals : DealsWith (asks g.R.ReencodeIndices) (rest_of l.reader) l.reencoder l.next;
      same : l.code ≡ l.initial.code;
      mapped : RestKept g.R.ReencodeIndices l.initial.reader l.initial.function l.initial.reencoder l.initial.next l.reader l.function l.reencoder l.next;
    }

abbrev pub decreases-operators : goal.decreases-operators
decreases-operators g l = length l.reader.bytes - l.reader.at
