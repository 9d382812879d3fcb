use Rattle.reencode_component.specs.WithinLaws.{as_binary, of_binary}
use Rattle.reencode_component.proofs.whole_binaries.PlainLaws as plain
use Rattle.reencode_component.proofs.whole_binaries.WithinLaws as laws
use Rattle.reencode_component.proofs.laws.plain_binary_is_made.Goals as goal

pub returns-clause-ok : goal.returns-clause-ok
returns-clause-ok g c = λ view.
    let i = g.T.ReencodeIndices in
    plain.is_reencoded as_binary i (of_binary i view) view (laws.binary_output i g.met.T.ReencodeIndices.adds_ok view)

pub returns-clause-refused : goal.returns-clause-refused
returns-clause-refused g c = λ view.
    let i = g.T.ReencodeIndices in
    plain.is_refused as_binary i (of_binary i view) (laws.binary_error_tells i g.met.T.ReencodeIndices.adds_ok view)

pub returns-clause-made : goal.returns-clause-made
returns-clause-made g c = λ view.
    let i = g.T.ReencodeIndices in
    plain.is_answered as_binary i (of_binary i view) view (laws.binary_output i g.met.T.ReencodeIndices.adds_ok view)
