use Rattle.std.proofs.Common.{◌≡◌, suc, ◌-◌, arith}
use Rattle.wasm_visits.proofs.NamesListed.{entries_begin, entries_ended, entries_more, listed_one, none_left}
use Rattle.wasm_visits.proofs.names.list_entries.Goals as goal

pub entries-init : goal.entries-init
entries-init c = entries_begin c.args.lister.now.visits c.in-Some.ensures.some

pub entries-preserved : goal.entries-preserved
entries-preserved c =
    let more : c.entries.left ≡ suc (c.entries.left - 1) = omega (arith, c.entries-test.true) in
    entries_more c.entries.invariant more c.in-Some-front_entry.ensures (listed_one c.entries.lister _ c.args.space c.move_to.ensures c.in-Ok.ensures)

pub returns-then-is_empty : goal.returns-then-is_empty
returns-then-is_empty c =
    let none : c.entries.left ≡ 0 = omega (arith, c.entries-test.false) in
    entries_ended c.entries.invariant none (none_left c.entries.rest.now c.if-is_empty.ensures)
