use Rattle.std.proofs.Common.{◌∙◌, ap}
use Rattle.reencode_hooks.specs.Renamings.{entries_of}
use Rattle.reencode_hooks.proofs.Tables.{set_there, set_new, new_sorted, when_true, when_false}
use Rattle.reencode_hooks.proofs.table.put.Goals as goal

pub returns-then-stands_at-clause-ok : goal.returns-then-stands_at-clause-ok
returns-then-stands_at-clause-ok c =
    let at = rw c.deref-2.ensures.value at (when_true c.stands_at.result c.if-stands_at.true c.stands_at.ensures) in
    set_there c.args.pairs.now.items c.requires c.args.key c.place_of-at.result c.args.value at.0 at.1

pub returns-in-Ok-clause-sorted : goal.returns-in-Ok-clause-sorted
returns-in-Ok-clause-sorted c =
    let l = c.args.pairs.now.items in
    let place = rw c.deref.ensures.value at c.place_of-at.ensures in
    let differs = rw c.deref-2.ensures.value at (when_false c.stands_at.result c.if-stands_at.false c.stands_at.ensures) in
    rw c.in-Ok.ensures.items (new_sorted l c.requires c.args.key c.place_of-at.result place (λ lt same. differs (lt, same)) c.args.value)

pub returns-in-Ok-clause-ok : goal.returns-in-Ok-clause-ok
returns-in-Ok-clause-ok c =
    let l = c.args.pairs.now.items in
    let place = rw c.deref.ensures.value at c.place_of-at.ensures in
    let differs = rw c.deref-2.ensures.value at (when_false c.stands_at.result c.if-stands_at.false c.stands_at.ensures) in
    ap entries_of c.in-Ok.ensures.items ∙ set_new l c.requires c.args.key c.place_of-at.result place (λ lt same. differs (lt, same)) c.args.value
