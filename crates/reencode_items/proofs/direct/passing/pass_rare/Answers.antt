use Rattle.reencode_items.proofs.Passing.{is_operator, labels_row, skips_keeps, skips_table, two_row}
use Rattle.reencode_items.proofs.direct.passing.pass_rare.Goals as goal

pub pass_two-requires : goal.pass_two-requires
pass_two-requires g c =
    let two = two_row c.args.opcode c.rare_by_row.result c.in-Two.first c.in-Two.second c.rare_by_row.ensures c.in-Two.is in
    record { head = c.requires (is_operator c.args.opcode two.row); two = two }

pub returns-in-Some-clause-kept : goal.returns-in-Some-clause-kept
returns-in-Some-clause-kept g c =
    let row = labels_row c.args.opcode c.rare_by_row.result c.rare_by_row.ensures c.in-Labels.is in
    skips_keeps _ _ (skips_table (c.requires (is_operator c.args.opcode row)) row c.in-Some.ensures)
