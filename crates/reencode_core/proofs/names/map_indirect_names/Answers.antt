use Rattle.std.proofs.Common.{refl, of_calls}
use Rattle.reencode_core.proofs.names_mapped.MapLoops.{walked_all, walked_unread, names_fault, names_more, names_wants}
use Rattle.reencode_core.proofs.names.map_indirect_names.Goals as goal

pub entries-preserved : goal.entries-preserved
entries-preserved g c =
    let row = rw c.in-Ok-Some.field-0-is at c.in-Ok-Some.ensures.row in
    let call = rw c.in-Ok.is at c.map_index.ensures in
    record {
      callable = search of_calls;
      walked = names_more _ c.entries.invariant.walked row call c.in-Ok-kept.ensures c.in-Ok-append.ensures.ok;
    }

pub returns-in-Err-append : goal.returns-in-Err-append
returns-in-Err-append g c =
    let row = rw c.in-Ok-Some.field-0-is at c.in-Ok-Some.ensures.row in
    let call = rw c.in-Ok.is at c.map_index.ensures in
    rw c.from.ensures (names_fault _ c.entries.invariant.walked row.read call _ c.in-Err-append.ensures.large)

pub returns-in-Err-kept : goal.returns-in-Err-kept
returns-in-Err-kept g c =
    let row = rw c.in-Ok-Some.field-0-is at c.in-Ok-Some.ensures.row in
    let call = rw c.in-Ok.is at c.map_index.ensures in
    names_wants _ c.entries.invariant.walked row call c.in-Err-kept.ensures

pub returns-in-Ok-None : goal.returns-in-Ok-None
returns-in-Ok-None g c =
    let ended = rw c.in-Ok-None.field-0-is at c.in-Ok-None.ensures.ended in
    walked_all _ c.entries.invariant.walked ended

pub returns-in-Err : goal.returns-in-Err
returns-in-Err g c = walked_unread _ _ refl refl c.entries.invariant.walked c.in-Err.ensures.err c.in-Err.ensures.at
