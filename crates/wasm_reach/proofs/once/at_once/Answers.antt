use Rattle.std.proofs.Common.{◌∙◌}
use Rattle.wasm_reach.proofs.Graphs.{are_calls, few_calls}
use Rattle.wasm_reach.proofs.Seen.{seen_ready}
use Rattle.wasm_reach.proofs.once.at_once.Goals as goal

pub returns-clause-ok : goal.returns-clause-ok
returns-clause-ok c =
    let r = c.in-Ok-note_all.ensures.read in
    let n = c.in-Ok.ensures.ok c.args.bytes.now r.0 r.1 (c.in-Some.ensures.some r.0 r.1) in
    let ready = seen_ready r.1 n c.saturating_add-bound.ensures (c.in-Ok-note_all.ensures.below r.0 r.1) in
    are_calls ready (λ t q. c.from_vec.ensures ∙ c.in-Ok-note_all.ensures.roots t q) c.in-Ok-note_all.ensures.calls

pub returns-clause-few : goal.returns-clause-few
returns-clause-few c =
    let r = c.in-Ok-note_all.ensures.read in
    let n = c.in-Ok.ensures.ok c.args.bytes.now r.0 r.1 (c.in-Some.ensures.some r.0 r.1) in
    let ready = seen_ready r.1 n c.saturating_add-bound.ensures (c.in-Ok-note_all.ensures.below r.0 r.1) in
    few_calls ready c.in-Ok-note_all.ensures.calls
