use Rattle.std.proofs.Common.{◌≡◌, ◌∙◌, Err, drop, IsTrue, refl, sym, ap, subst}
use Rattle.wasm_write.specs.Bodies.{Body}
use Rattle.reencode_core.specs.Direct.{MapsFront}
use Rattle.reencode_core.proofs.bodies.EachBody.{body_unbegun}
use Rattle.reencode_core.proofs.bodies.BodyFromPlace.{front_begun, front_passed, passed_body, passed_held, run_deals}
use Rattle.reencode_core.proofs.bodies.SkippedFront.{locals_unread, mapped_err, operators_at, passed_counted, skip_found, skip_refused, skip_wants, whole_stays, within_most}
use Rattle.reencode_core.proofs.rows_walked.OneRow.{asks}
use Rattle.reencode_core.proofs.direct.map_or_keep.Goals as goal

pub returns-in_err-function : goal.returns-in_err-function
returns-in_err-function g c =
    mapped_err g.R.ReencodeIndices (body_unbegun g.R.ReencodeIndices c.args.code.now _ c.in_err-function.ensures (Err _) refl) _ c.from_residual-in_err-function.ensures.1

pub returns-in_err-reader : goal.returns-in_err-reader
returns-in_err-reader g c =
    mapped_err g.R.ReencodeIndices (body_unbegun g.R.ReencodeIndices c.args.code.now _ (locals_unread g.R.ReencodeIndices _ c.in_err-reader.ensures.err) (Err _) refl) _ c.from_residual.ensures.1

pub returns-in_err-map_rest : goal.returns-in_err-map_rest
returns-in_err-map_rest g c =
    let i = g.R.ReencodeIndices in
    let given = c.in_err-map_rest.ensures in
    let bytes = c.args.func.bytes.now in
    let front = λ (k : IsTrue i.keeps_defaults). front_begun i c.in_ok-function.ensures k c.in_ok-reader.ensures.ok.1 c.in_ok-reader.ensures.bytes in
    mapped_err i (record {
      kept = given.kept;
      default = λ k. given.default k bytes c.args.reencoder.now (front k);
      after_error = λ k. given.after_error k bytes c.args.reencoder.now (front k);
    }) _ c.from_residual-in_err-map_rest.ensures.1

pub returns-in_default : goal.returns-in_default
returns-in_default g c =
    let i = g.R.ReencodeIndices in
    let given = c.in_ok-map_rest.ensures in
    let bytes = c.args.func.bytes.now in
    let front = λ (k : IsTrue i.keeps_defaults). front_begun i c.in_ok-function.ensures k c.in_ok-reader.ensures.ok.1 c.in_ok-reader.ensures.bytes in
    record {
      kept = given.kept;
      default = λ k. given.default k bytes c.args.reencoder.now (front k);
      after_error = λ k. given.after_error k bytes c.args.reencoder.now (front k);
    }

pub returns-in_err-kept : goal.returns-in_err-kept
returns-in_err-kept g c =
    mapped_err g.R.ReencodeIndices (skip_refused g.R.ReencodeIndices c.args.code.now c.in-Some.ensures _ c.in_err-kept.ensures.err c.in_err-kept.ensures.sure (Err _) refl) _ c.from_residual-in_err-kept.ensures.1

-- ---- the whole body stays

pub returns-then-kept-operators : goal.returns-then-kept-operators
returns-then-kept-operators g c = (refl, whole_stays g.R.ReencodeIndices c.in-Some.ensures c.in_ok-kept.ensures.ok c.if-kept-operators.true c.in_ok-kept.ensures.within)

-- ---- an operator does not

pub of_spelled-requires : goal.of_spelled-requires
of_spelled-requires g c =
    let q = c.in-Some.ensures in
    let p = c.in_ok-kept.ensures.ok in
    (passed_body g.R.ReencodeIndices q p, ∣ passed_held g.R.ReencodeIndices q p _ (passed_counted q c.in_ok-kept.kept) ∣₁)

pub returns-in_err-function-2 : goal.returns-in_err-function-2
returns-in_err-function-2 g c =
    mapped_err g.R.ReencodeIndices (skip_wants g.R.ReencodeIndices c.args.code.now c.in-Some.ensures _ c.in_ok-kept.ensures.ok _ c.in_err-function-2.ensures.wants (Err _) refl) _ c.from_residual-in_err-function-2.ensures.1

pub returns-in_err-reader-2 : goal.returns-in_err-reader-2
returns-in_err-reader-2 g c =
    mapped_err g.R.ReencodeIndices (skip_found g.R.ReencodeIndices c.args.code.now c.in-Some.ensures _ c.in_err-reader-2.ensures.err (Err _)) _ c.from_residual-in_err-reader-2.ensures.1

pub pass-requires : goal.pass-requires
pass-requires g c =
    let here = operators_at c.in-Some.ensures c.in_ok-reader-2.ensures.ok.1 in
    rw here (within_most _ _ _ c.in_ok-kept.ensures.within)

pub map_rest-requires-2 : goal.map_rest-requires-2
map_rest-requires-2 g c =
    let here = operators_at c.in-Some.ensures c.in_ok-reader-2.ensures.ok.1 in
    run_deals c.in_ok-kept.ensures.ok (c.pass.ensures.rest ∙ ap (drop c.in_ok-kept.kept) here)

pub returns-in_err-map_rest-2 : goal.returns-in_err-map_rest-2
returns-in_err-map_rest-2 g c =
    let i = g.R.ReencodeIndices in
    let given = c.in_err-map_rest-2.ensures in
    let bytes = c.args.func.bytes.now in
    let q = c.in-Some.ensures in
    let p = c.in_ok-kept.ensures.ok in
    let here = operators_at q c.in_ok-reader-2.ensures.ok.1 in
    let made : c.in_ok-function-2.function ≡ passed_body i q p = c.in_ok-function-2.ensures.ok (passed_body i q p) (passed_held i q p _ (passed_counted q c.in_ok-kept.kept)) in
    let P : Body → Type 0 = λ z. MapsFront (asks i) bytes c.args.reencoder.now c.pass.new.self z c.pass_run.new.reencoder c.pass_run.new.next in
    let front = subst P (sym made) (front_passed i q p c.pass.new.self (c.pass.ensures.bytes ∙ c.in_ok-reader-2.ensures.bytes) (c.pass.ensures.rest ∙ ap (drop c.in_ok-kept.kept) here)) in
    mapped_err i (record {
      kept = given.kept;
      default = λ k. given.default k bytes c.args.reencoder.now front;
      after_error = λ k. given.after_error k bytes c.args.reencoder.now front;
    }) _ c.from_residual-in_err-map_rest-2.ensures.1

pub returns : goal.returns
returns g c =
    let i = g.R.ReencodeIndices in
    let given = c.in_ok-map_rest-2.ensures in
    let bytes = c.args.func.bytes.now in
    let q = c.in-Some.ensures in
    let p = c.in_ok-kept.ensures.ok in
    let here = operators_at q c.in_ok-reader-2.ensures.ok.1 in
    let made : c.in_ok-function-2.function ≡ passed_body i q p = c.in_ok-function-2.ensures.ok (passed_body i q p) (passed_held i q p _ (passed_counted q c.in_ok-kept.kept)) in
    let P : Body → Type 0 = λ z. MapsFront (asks i) bytes c.args.reencoder.now c.pass.new.self z c.pass_run.new.reencoder c.pass_run.new.next in
    let front = subst P (sym made) (front_passed i q p c.pass.new.self (c.pass.ensures.bytes ∙ c.in_ok-reader-2.ensures.bytes) (c.pass.ensures.rest ∙ ap (drop c.in_ok-kept.kept) here)) in
    record {
      kept = given.kept;
      default = λ k. given.default k bytes c.args.reencoder.now front;
      after_error = λ k. given.after_error k bytes c.args.reencoder.now front;
    }
