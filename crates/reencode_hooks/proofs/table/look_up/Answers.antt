use Rattle.std.proofs.Common.{sym}
use Rattle.reencode_hooks.proofs.Tables.{found, absent, when_true, when_false}
use Rattle.reencode_hooks.proofs.table.look_up.Goals as goal

pub returns-then-stands_at : goal.returns-then-stands_at
returns-then-stands_at c =
    let at = when_true c.stands_at.result c.if-stands_at.true c.stands_at.ensures in
    sym (found c.args.pairs.now c.requires c.args.key c.args.key at.0 at.1)

pub returns-then-stands_at-2 : goal.returns-then-stands_at-2
returns-then-stands_at-2 c =
    let at = when_true c.stands_at-2.result c.if-stands_at-2.true c.stands_at-2.ensures in
    sym (found c.args.pairs.now c.requires c.args.key c.place_of-at.result at.0 at.1)

pub returns : goal.returns
returns c =
    sym (absent c.args.pairs.now c.requires c.args.key c.place_of-at.result c.place_of-at.ensures
    (λ lt same. when_false c.stands_at-2.result c.if-stands_at-2.false c.stands_at-2.ensures (lt, same)))
