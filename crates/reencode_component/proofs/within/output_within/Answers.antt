use Rattle.reencode_component.proofs.whole_binaries.WithinLaws.{component_seen, component_stopped}
use Rattle.reencode_component.proofs.within.output_within.Goals as goal

pub returns-in-Ok : goal.returns-in-Ok
returns-in-Ok g c =
    let stands = rw c.in-Some.is at c.behind_header.ensures.some in
    record { core = λ none. absurd (none c.in-Some.field-0.now stands); component = λ h. component_seen g.R.ReencodeIndices c.args.ceiling c.args.bytes.now _ _ _ (λ v. v.items) _ (λ o. o) c.from_vec.ensures c.in-Ok.ensures }

pub returns-in-Err : goal.returns-in-Err
returns-in-Err g c =
    let stands = rw c.in-Some.is at c.behind_header.ensures.some in
    record { core = λ none. absurd (none c.in-Some.field-0.now stands); component = λ h. component_stopped g.R.ReencodeIndices c.args.ceiling c.args.bytes.now _ _ _ (λ v. v.items) (λ o. o) c.in-Err.ensures }

pub returns-in-None : goal.returns-in-None
returns-in-None g c =
    let none = rw c.in-None.is at c.behind_header.ensures.none in
    record { core = λ n. c.reencode_output.ensures; component = λ h. absurd (none h.0 h.1) }
