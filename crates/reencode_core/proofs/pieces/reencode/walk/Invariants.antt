use Rattle.std.proofs.Common.{◌≡◌, ◌++◌, ℕ, List, IsTrue, false, length}
use Rattle.reencode_core.specs.Clauses.{asks}
use Rattle.reencode_core.proofs.sections_walked.EachSection.{SectionsKept}
use Rattle.reencode_core.proofs.kept_pieces.KeptRanges.{RangesDone}
use Rattle.reencode_core.proofs.pieces.reencode.walk.Given as goal

-- the sections so far are walked and added
abbrev pub invariant-sections : goal.invariant-sections
invariant-sections g l =
    record {
      done : SectionsKept g.R.ReencodeIndices l.initial.payloads l.initial.reencoder l.initial.sink.sections l.payloads l.last l.reencoder l.sink.sections;
      same : l.sink.input ≡ l.bytes;
      ranges : l.more ≡ false → IsTrue g.R.ReencodeIndices.keeps_defaults →
          RangesDone (asks g.R.ReencodeIndices) g.R.ReencodeIndices.adds l.initial.payloads.rest l.initial.reencoder l.initial.sink.sections l.payloads.rest l.last l.reencoder l.sink.sections
          l.initial.sink.kept l.sink.kept;
      stands : (front : List ℕ) × (l.bytes ≡ front ++ l.payloads.rest);
    }

abbrev pub decreases-sections : goal.decreases-sections
decreases-sections g l = length l.payloads.rest
