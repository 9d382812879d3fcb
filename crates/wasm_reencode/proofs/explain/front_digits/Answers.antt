use Rattle.std.proofs.Common.{drop, refl, sym, true≢false, take-append-drop}
use Rattle.std.proofs.lemmas.Int.Digits.{digits_more}
use Rattle.wasm_reencode.proofs.Told.{no_digit_at}
use Rattle.wasm_reencode.proofs.explain.front_digits.Goals as goal

pub returns-then-not-is_digit : goal.returns-then-not-is_digit
returns-then-not-is_digit c =
    let text = c.args.text.now in
    let i = c.bytes.count in (
      drop i text,
      sym (take-append-drop i text),
      c.bytes.invariant,
      no_digit_at text i 0 c.bytes-test.true (λ digit. true≢false (sym (c.if-not-is_digit.ensures.1 digit))),
    )

pub bytes-preserved : goal.bytes-preserved
bytes-preserved c = digits_more 10 c.args.text.now c.bytes.count c.bytes-test.true c.bytes.invariant (c.if-not-is_digit.ensures.0 refl)
