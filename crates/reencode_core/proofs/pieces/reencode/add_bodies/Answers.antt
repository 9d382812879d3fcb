use Rattle.std.proofs.Common.{◌≡◌, ◌+◌, ℕ, List, ap, sym, ◌∙◌, arith, subst}
use Rattle.wasm_read.specs.Reading.{place_of}
use Rattle.wasm_write.specs.Bodies.{CodeRows}
use Rattle.reencode_core.proofs.bodies.EachBody.{code_begun, code_ended, code_more, code_refused, code_stuck}
use Rattle.reencode_core.specs.Sinks.{KeepsRow, StandsAt}
use Rattle.reencode_core.proofs.kept_pieces.KeptFrames.{frames_begun, frames_ended, frames_more}
use Rattle.reencode_core.proofs.kept_pieces.StandsAt.{body_stands, place_fits, row_behind}
use Rattle.reencode_core.proofs.pieces.reencode.add_bodies.Goals as goal

pub rows-init : goal.rows-init
rows-init g c = record { done = code_begun g.R.ReencodeIndices; stands = c.requires.stands; same = c.requires.same; small = omega (arith, c.ceiling.ensures, c.ceiling.type_inv); own = ap CodeRows.ceiling c.new-own.ensures ∙ c.ceiling.ensures; frames = λ more k. frames_begun c.args.start _ _ }

pub returns-in_err-func-clause-default : goal.returns-in_err-func-clause-default
returns-in_err-func-clause-default g c = (code_stuck g.R.ReencodeIndices c.rows.invariant.done _ c.in_err-func.ensures.err _ c.from_residual.ensures.1).default

pub returns-in_err-func-clause-after_error : goal.returns-in_err-func-clause-after_error
returns-in_err-func-clause-after_error g c = (code_stuck g.R.ReencodeIndices c.rows.invariant.done _ c.in_err-func.ensures.err _ c.from_residual.ensures.1).after_error

pub place_in-end-requires : goal.place_in-end-requires
place_in-end-requires g c =
    let row = rw c.in-Some.is at c.in_ok-func.ensures.row in
    let next = row_behind c.args.input.now c.in-Some.func.bytes.now c.args.start _ _ c.rows.invariant.stands row in
    let fits = place_fits c.args.input.now c.args.start _ next in
    omega (arith, fits, c.place.ensures)

pub add_body-requires-clause-stands : goal.add_body-requires-clause-stands
add_body-requires-clause-stands g c =
    let row = rw c.in-Some.is at c.in_ok-func.ensures.row in
    let stands = body_stands c.args.input.now c.in-Some.func.bytes.now c.args.start _ _ c.rows.invariant.stands row in
    let is : c.args.start + place_of c.next_row.new.self ≡ c.place_in-end.result = omega (arith, c.place.ensures, c.place_in-end.ensures) in
    let P : List ℕ → Type 0 = λ z. StandsAt z c.in-Some.func.bytes.now c.place_in-end.result in
    let Q : ℕ → Type 0 = λ n. StandsAt c.args.input.now c.in-Some.func.bytes.now n in
    subst P (sym c.rows.invariant.same) (subst Q is stands)

pub rows-preserved : goal.rows-preserved
rows-preserved g c =
    let row = rw c.in-Some.is at c.in_ok-func.ensures.row in
    let e = c.in-Ok.ensures in record {
      done = code_more g.R.ReencodeIndices c.rows.invariant.done row e.body;
      stands = row_behind c.args.input.now c.in-Some.func.bytes.now c.args.start _ _ c.rows.invariant.stands row;
      same = e.input ∙ c.rows.invariant.same;
      small = rw e.body.kept.ceiling c.rows.invariant.small;
      own = e.own ∙ c.rows.invariant.own ∙ sym e.body.kept.ceiling;
      frames = λ more k.
          let is : c.place_in-end.result ≡ c.args.start + place_of c.next_row.new.self = omega (arith, c.place.ensures, c.place_in-end.ensures) in
          let P : ℕ → Type 0 = λ n. KeepsRow c.in-Some.func.bytes.now n c.rows.code c.add_body.new.code in
          frames_more c.args.start c.in-Some.func.bytes.now _ _ _ _ _ _ c.requires.stands.short (c.rows.invariant.frames more k) row (subst P is (e.ranges more k));
    }

pub returns-in-Err-clause-default : goal.returns-in-Err-clause-default
returns-in-Err-clause-default g c =
    let row = rw c.in-Some.is at c.in_ok-func.ensures.row in
    let e = c.in-Err.ensures in
    (code_refused g.R.ReencodeIndices c.rows.invariant.done row c.in-Err.e c.place-at.result e.body c.place-at.ensures _ c.placed.ensures).default

pub returns-in-Err-clause-after_error : goal.returns-in-Err-clause-after_error
returns-in-Err-clause-after_error g c =
    let row = rw c.in-Some.is at c.in_ok-func.ensures.row in
    let e = c.in-Err.ensures in
    (code_refused g.R.ReencodeIndices c.rows.invariant.done row c.in-Err.e c.place-at.result e.body c.place-at.ensures _ c.placed.ensures).after_error

pub returns-in-None-clause-default : goal.returns-in-None-clause-default
returns-in-None-clause-default g c = (code_ended g.R.ReencodeIndices c.rows.invariant.done (rw c.in-None.is at c.in_ok-func.ensures.ended)).default

pub returns-in-None-clause-ranges : goal.returns-in-None-clause-ranges
returns-in-None-clause-ranges g c =
    let ended = rw c.in-None.is at c.in_ok-func.ensures.ended in
    λ more k. frames_ended c.args.start _ _ _ _ (c.rows.invariant.frames more k) ended.filled
