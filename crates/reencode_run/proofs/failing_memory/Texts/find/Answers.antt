use Rattle.std.proofs.Common.{◌≡◌, nat_eq, true, false, ap, ◌∙◌, Some, List, map, rules}
use Rattle.std.specs.Cmp.Lexicographic.{pointwise}
use Rattle.reencode_run.proofs.Shelves.{found, named, passed}
use Rattle.reencode_run.specs.Memory.{Named, text_of}
use Rattle.reencode_run.proofs.failing_memory.Texts.find.Goals as goal

pub returns-then-eq : goal.returns-then-eq
returns-then-eq c =
    let same : pointwise nat_eq c.as_str.result.now c.args.name.now ≡ true = cc (c.eq.ensures, c.if-eq.true) in
    let here = found c.deref-text-items.result.now c.texts.text-index c.text-item.result c.args.name.now c.as_str.result.now c.texts-test.true c.text-item.is c.as_str.ensures.value same in
    let view : map named c.deref-text-items.result.now ≡ c.args.self.now = search rules in
    ap Some c.as_slice.ensures.value ∙ here ∙ c.texts.invariant ∙ ap (λ (z : List Named). text_of z c.args.name.now) view

pub texts-preserved : goal.texts-preserved
texts-preserved c =
    let other : pointwise nat_eq c.as_str.result.now c.args.name.now ≡ false = cc (c.eq.ensures, c.if-eq.false) in
    passed c.deref-text-items.result.now c.texts.text-index c.text-item.result c.args.name.now c.as_str.result.now c.texts-test.true c.text-item.is c.as_str.ensures.value other
    ∙ c.texts.invariant
