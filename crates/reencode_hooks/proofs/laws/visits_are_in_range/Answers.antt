use Rattle.std.proofs.Common.{None}
use Rattle.wasm_shapes.specs.Tree.{visits}
use Rattle.wasm_shapes.proofs.ReadBack.{spelled_in_range}
use Rattle.reencode_hooks.proofs.InRange.{answers_small, visits_in_range}
use Rattle.reencode_hooks.proofs.laws.visits_are_in_range.Goals as goal

pub returns : goal.returns
returns g c =
    let t = g.T.ReencodeIndices in record {
      asked = λ u bytes p. visits_in_range None u (spelled_in_range u bytes p);
      answered = λ s m u bytes given p ran.
          answers_small t.reply t.next g.met.T.ReencodeIndices.answers_ok s m (visits u) given (visits_in_range None u (spelled_in_range u bytes p)) ran;
    }
