use Rattle.std.proofs.Common.{◌++◌, length}
use Rattle.wasm_leb.specs.Place.{BeginsNumber}
use Rattle.wasm_shapes.proofs.Framing.{begins_sized, none_sized_length, none_sized, no_body_room, begins_raw}
use Rattle.wasm_read.proofs.payloads.front_sized.Goals as goal

pub returns-then-rest-len-clause-none : goal.returns-then-rest-len-clause-none
returns-then-rest-len-clause-none c = none_sized c.in-Some.ensures.some (no_body_room c.if-rest-len.true)

pub returns-in_default-clause-none : goal.returns-in_default-clause-none
returns-in_default-clause-none c = none_sized_length c.in_default.ensures.none

pub returns-clause-some : goal.returns-clause-some
returns-clause-some c =
    let split = c.split_at.ensures in
    let n : BeginsNumber 128 32 32 c.args.bytes.now (length c.split_at.result.0.now) (c.split_at.result.0.now ++ c.split_at.result.1.now) =
    rw (split.front_len, ← split.by_index.0) c.in-Some.ensures.some in
    begins_sized n begins_raw
