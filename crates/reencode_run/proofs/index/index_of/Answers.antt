use Rattle.std.proofs.Common.{◌≡◌, nat_eq, false, sym, ap, ◌∙◌, decimal, true≢false, rules}
use Rattle.std.specs.Cmp.Lexicographic.{pointwise, bytes_decides}
use Rattle.reencode_run.proofs.Numerals.{is_index, no_index, reads_digits}
use Rattle.reencode_run.proofs.index.index_of.Goals as goal

pub returns-then-eq : goal.returns-then-eq
returns-then-eq c = is_index c.args.text.now c.format.result.now c.in-Ok.n (search rules) c.format.ensures.text (cc (c.eq.ensures, c.if-eq.true))

pub returns-else-eq : goal.returns-else-eq
returns-else-eq c =
    no_index c.args.text.now (λ m small is.
    let read = reads_digits c.args.text.now m c.parse.result c.parse.ensures.value.0 small is in
    let same : m ≡ c.in-Ok.n = cc (read, c.in-Ok.is) in
    let shown : c.format.result.now ≡ c.args.text.now = c.format.ensures.text ∙ ap decimal (sym same) ∙ is in
    let differs : pointwise nat_eq c.format.result.now c.args.text.now ≡ false = cc (c.eq.ensures, c.if-eq.false) in
    true≢false (sym ((bytes_decides c.format.result.now c.args.text.now).1 shown) ∙ differs))

pub returns-in-Err : goal.returns-in-Err
returns-in-Err c =
    no_index c.args.text.now (λ m small is.
    let read = reads_digits c.args.text.now m c.parse.result c.parse.ensures.value.0 small is in
    cc (read, c.in-Err.is))
