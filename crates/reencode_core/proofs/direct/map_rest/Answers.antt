use Rattle.std.proofs.Common.{◌≡◌, ◌<◌, length, refl, ap, arith}
use Rattle.std.proofs.lemmas.List.{length-drop}
use Rattle.wasm_read.specs.Operations.{rest_of}
use Rattle.wasm_write.specs.Instructions.{instruction_tree}
use Rattle.reencode_items.specs.declared.direct.passing.Next.TheVariants as next
use Rattle.reencode_core.proofs.bodies.BodyFromPlace.{RestKept, deals_made, made_within, run_deals}
use Rattle.reencode_core.proofs.bodies.RestOfBody.{rest_added, rest_at, rest_code, rest_is, rest_made, rest_not_added, rest_other, rest_run, rest_refused, rest_run_refused, rest_run_wants, rest_stuck, rest_wants, some_behind}
use Rattle.reencode_core.proofs.rows_walked.OneRow.{asks}
use Rattle.reencode_core.proofs.bodies.WholeBody.{none_left, some_left}
use Rattle.reencode_core.proofs.direct.map_rest.Goals as goal
use Rattle.reencode_core.proofs.direct.map_rest.Goals.{in-Made+in_ok-add-in-Made, in-Other+else-eof+in_ok-instruction-in-Other+in_ok-instruction-in-Other-2}

pub returns-in_err-add-in-Made : goal.returns-in_err-add-in-Made
returns-in_err-add-in-Made g c =
    let i = g.R.ReencodeIndices in
    rest_code i c.operators.invariant.same (rest_wants i c.operators.code c.operators.invariant.mapped _ c.in_err-add-in-Made.ensures.wants _ c.from_residual.ensures.1)

pub returns-in_err-function-in-Other : goal.returns-in_err-function-in-Other
returns-in_err-function-in-Other g c =
    let i = g.R.ReencodeIndices in
    let inv = rest_at i _ next.Other c.in-Other.is c.operators.invariant.mapped in
    let none = none_left c.eof.result (rest_of c.operators.reader) c.eof.ensures c.if-eof.true in
    let gone = c.in_err-function-in-Other.ensures in
    rest_code i c.operators.invariant.same (rest_refused i c.operators.code inv _ none gone.err gone.large _ c.from_residual-in_err-function-in-Other.ensures.1)

pub returns-then-eof : goal.returns-then-eof
returns-then-eof g c =
    let i = g.R.ReencodeIndices in
    let inv = rest_at i _ next.Other c.in-Other.is c.operators.invariant.mapped in
    let none = none_left c.eof.result (rest_of c.operators.reader) c.eof.ensures c.if-eof.true in
    let given = c.in_ok-function-in-Other.ensures in
    rest_code i c.operators.invariant.same (rest_added i c.operators.code inv none given.ok given.fits.0)

pub returns-in_err-instruction-in-Other : goal.returns-in_err-instruction-in-Other
returns-in_err-instruction-in-Other g c =
    let i = g.R.ReencodeIndices in
    let inv = rest_at i _ next.Other c.in-Other.is c.operators.invariant.mapped in
    let some = some_left c.eof.result (rest_of c.operators.reader) c.eof.ensures c.if-eof.false in
    let gone = c.in_err-instruction-in-Other.ensures in
    rest_code i c.operators.invariant.same (rest_stuck i c.operators.code inv instruction_tree _ _ some gone.default gone.after_error _ c.from_residual-in_err-instruction-in-Other.ensures.1)

pub returns-in_err-instruction-in-Other-2 : goal.returns-in_err-instruction-in-Other-2
returns-in_err-instruction-in-Other-2 g c =
    let i = g.R.ReencodeIndices in
    let inv = rest_at i _ next.Other c.in-Other.is c.operators.invariant.mapped in
    rest_code i c.operators.invariant.same (rest_not_added i c.operators.code inv instruction_tree c.in_ok-instruction-in-Other.instruction c.in_ok-instruction-in-Other.ensures.default _
    c.in_err-instruction-in-Other-2.ensures.wants _ c.from_residual-in_err-instruction-in-Other-2.ensures.1)

pub operators-smaller-then-not-by_bytes : goal.operators-smaller-then-not-by_bytes
operators-smaller-then-not-by_bytes g c =
    let i = g.R.ReencodeIndices in
    let reader = c.operators.reader in
    let left = length-drop reader.at reader.bytes in
    let on : (reader.at < length reader.bytes) × (reader.at < c.match-next.reader.at) × (c.match-next.reader.bytes ≡ reader.bytes) =
    elim c.match-next.branch [
      | in-Made+in_ok-add-in-Made w ↦
          let m = w.in-Made in
          let within = made_within (deals_made (asks i) _ _ _ m.opcode m.fresh m.count m.is c.operators.invariant.deals).1 in
          rw w.reader-is (omega (arith, within.0, within.1, left), omega (arith, within.1, w.pass.ensures.at), w.pass.ensures.bytes)
      | in-Other+else-eof+in_ok-instruction-in-Other+in_ok-instruction-in-Other-2 w ↦
          let some = some_left w.eof.result (rest_of reader) w.eof.ensures w.if-eof.false in
          let taken = w.in_ok-instruction-in-Other.ensures.taken in
          rw w.reader-is (some_behind reader some, taken.forward, taken.bytes)
    ] in
    omega (arith, on.0, on.1, ap length on.2)

pub operators-preserved-then-not-by_bytes : goal.operators-preserved-then-not-by_bytes
operators-preserved-then-not-by_bytes g c =
    let i = g.R.ReencodeIndices in
    let inv = c.operators.invariant.mapped in
    let here : RestKept i c.args.reader c.args.function c.args.reencoder.now c.args.next c.match-next.reader c.match-next.function c.match-next.reencoder next.Other =
    elim c.match-next.branch [
      | in-Made+in_ok-add-in-Made w ↦
          rest_is i (rest_made i w.in-Made.opcode w.in-Made.fresh w.in-Made.count (rest_at i _ _ w.in-Made.is inv) w.in_ok-add-in-Made.ensures.ok w.pass.ensures.bytes w.pass.ensures.rest)
          w.reader-is w.function-is w.reencoder-is
      | in-Other+else-eof+in_ok-instruction-in-Other+in_ok-instruction-in-Other-2 w ↦
          let given = w.in_ok-instruction-in-Other.ensures in
          rest_is i (rest_other i instruction_tree w.in_ok-instruction-in-Other.instruction (rest_at i _ _ w.in-Other.is inv) given.default given.taken w.in_ok-instruction-in-Other-2.ensures.ok)
          w.reader-is w.function-is w.reencoder-is
    ] in
    record { deals = (c.match-next.reencoder, refl); same = c.operators.invariant.same; mapped = here }

pub returns-in_err-kept : goal.returns-in_err-kept
returns-in_err-kept g c =
    let i = g.R.ReencodeIndices in
    let inv = c.operators.invariant.mapped in
    let here : RestKept i c.args.reader c.args.function c.args.reencoder.now c.args.next c.match-next.reader c.match-next.function c.match-next.reencoder next.Other =
    elim c.match-next.branch [
      | in-Made+in_ok-add-in-Made w ↦
          rest_is i (rest_made i w.in-Made.opcode w.in-Made.fresh w.in-Made.count (rest_at i _ _ w.in-Made.is inv) w.in_ok-add-in-Made.ensures.ok w.pass.ensures.bytes w.pass.ensures.rest)
          w.reader-is w.function-is w.reencoder-is
      | in-Other+else-eof+in_ok-instruction-in-Other+in_ok-instruction-in-Other-2 w ↦
          let given = w.in_ok-instruction-in-Other.ensures in
          rest_is i (rest_other i instruction_tree w.in_ok-instruction-in-Other.instruction (rest_at i _ _ w.in-Other.is inv) given.default given.taken w.in_ok-instruction-in-Other-2.ensures.ok)
          w.reader-is w.function-is w.reencoder-is
    ] in
    let stop = rw c.rest-bytes.ensures at c.in_err-kept.ensures.err in
    rest_code i c.operators.invariant.same (rest_run_refused i c.operators.code here _ stop c.in_err-kept.ensures.sure _ c.from_residual-in_err-kept.ensures.1)

pub returns-in_err-spelled : goal.returns-in_err-spelled
returns-in_err-spelled g c =
    let i = g.R.ReencodeIndices in
    let inv = c.operators.invariant.mapped in
    let here : RestKept i c.args.reader c.args.function c.args.reencoder.now c.args.next c.match-next.reader c.match-next.function c.match-next.reencoder next.Other =
    elim c.match-next.branch [
      | in-Made+in_ok-add-in-Made w ↦
          rest_is i (rest_made i w.in-Made.opcode w.in-Made.fresh w.in-Made.count (rest_at i _ _ w.in-Made.is inv) w.in_ok-add-in-Made.ensures.ok w.pass.ensures.bytes w.pass.ensures.rest)
          w.reader-is w.function-is w.reencoder-is
      | in-Other+else-eof+in_ok-instruction-in-Other+in_ok-instruction-in-Other-2 w ↦
          let given = w.in_ok-instruction-in-Other.ensures in
          rest_is i (rest_other i instruction_tree w.in_ok-instruction-in-Other.instruction (rest_at i _ _ w.in-Other.is inv) given.default given.taken w.in_ok-instruction-in-Other-2.ensures.ok)
          w.reader-is w.function-is w.reencoder-is
    ] in
    let run = rw c.rest-bytes.ensures at c.in_ok-kept.ensures.ok in
    rest_code i c.operators.invariant.same (rest_run_wants i c.operators.code here _ run _ c.in_err-spelled.ensures.wants _ c.from_residual-in_err-spelled.ensures.1)

pub operators-smaller : goal.operators-smaller
operators-smaller g c =
    let i = g.R.ReencodeIndices in
    let reader = c.operators.reader in
    let left = length-drop reader.at reader.bytes in
    let on : (reader.at < length reader.bytes) × (reader.at < c.match-next.reader.at) × (c.match-next.reader.bytes ≡ reader.bytes) =
    elim c.match-next.branch [
      | in-Made+in_ok-add-in-Made w ↦
          let m = w.in-Made in
          let within = made_within (deals_made (asks i) _ _ _ m.opcode m.fresh m.count m.is c.operators.invariant.deals).1 in
          rw w.reader-is (omega (arith, within.0, within.1, left), omega (arith, within.1, w.pass.ensures.at), w.pass.ensures.bytes)
      | in-Other+else-eof+in_ok-instruction-in-Other+in_ok-instruction-in-Other-2 w ↦
          let some = some_left w.eof.result (rest_of reader) w.eof.ensures w.if-eof.false in
          let taken = w.in_ok-instruction-in-Other.ensures.taken in
          rw w.reader-is (some_behind reader some, taken.forward, taken.bytes)
    ] in
    omega (arith, on.0, on.1, ap length on.2, ap length c.pass-in-operators.ensures.bytes, c.pass-in-operators.ensures.at)

pub operators-preserved : goal.operators-preserved
operators-preserved g c =
    let i = g.R.ReencodeIndices in
    let inv = c.operators.invariant.mapped in
    let here : RestKept i c.args.reader c.args.function c.args.reencoder.now c.args.next c.match-next.reader c.match-next.function c.match-next.reencoder next.Other =
    elim c.match-next.branch [
      | in-Made+in_ok-add-in-Made w ↦
          rest_is i (rest_made i w.in-Made.opcode w.in-Made.fresh w.in-Made.count (rest_at i _ _ w.in-Made.is inv) w.in_ok-add-in-Made.ensures.ok w.pass.ensures.bytes w.pass.ensures.rest)
          w.reader-is w.function-is w.reencoder-is
      | in-Other+else-eof+in_ok-instruction-in-Other+in_ok-instruction-in-Other-2 w ↦
          let given = w.in_ok-instruction-in-Other.ensures in
          rest_is i (rest_other i instruction_tree w.in_ok-instruction-in-Other.instruction (rest_at i _ _ w.in-Other.is inv) given.default given.taken w.in_ok-instruction-in-Other-2.ensures.ok)
          w.reader-is w.function-is w.reencoder-is
    ] in
    let run = rw c.rest-bytes.ensures at c.in_ok-kept.ensures.ok in
    let gains = rw c.rest-bytes.ensures at c.in_ok-spelled.ensures.ok in
    record {
      deals = run_deals run c.pass-in-operators.ensures.rest;
      same = c.operators.invariant.same;
      mapped = rest_run i here refl run gains c.pass-in-operators.ensures.bytes c.pass-in-operators.ensures.rest;
    }
