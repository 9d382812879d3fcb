use Rattle.std.proofs.Common.{IsTrue}
use Rattle.reencode_core.proofs.bodies.EachBody.{body_found, body_unbegun}
use Rattle.reencode_core.proofs.bodies.BodyFromPlace.{front_begun}
use Rattle.reencode_core.proofs.utils.parse_function_body.Goals as goal

pub returns-in_err-function : goal.returns-in_err-function
returns-in_err-function g c = body_unbegun g.T.ReencodeIndices c.args.code.now _ c.in_err-function.ensures _ c.from_residual.ensures.1

pub returns-in_err-reader : goal.returns-in_err-reader
returns-in_err-reader g c = body_found g.T.ReencodeIndices c.args.code.now c.in_ok-function.ensures _ c.in_err-reader.ensures.err _

pub returns : goal.returns
returns g c =
    let i = g.T.ReencodeIndices in
    let given = c.map_rest.ensures in
    let bytes = c.args.func.bytes.now in
    let found = c.in_ok-reader.ensures in
    let front = λ (k : IsTrue i.keeps_defaults). front_begun i c.in_ok-function.ensures k found.ok.1 found.bytes in
    record {
      kept = given.kept;
      default = λ k. given.default k bytes c.args.reencoder.now (front k);
      after_error = λ k. given.after_error k bytes c.args.reencoder.now (front k);
    }
