use Rattle.std.proofs.Common.{arith, rules}
use Rattle.std.proofs.lemmas.Slice.{overwrites}
use Rattle.reencode_core.proofs.kept_pieces.CutBytes.{made_in_bytes}
use Rattle.reencode_core.proofs.pieces.cuts.joined_in_place.Goals as goal

pub grow-requires : goal.grow-requires
grow-requires c =
    let a = c.requires.placed in
    let b = c.requires.shown in
    let s = c.requires.sized in
    let m = made_in_bytes c.args.input.now c.args.made.items c.args.cuts.now (omega (arith, a, b)) in
    omega (arith, s, m)

pub returns : goal.returns
returns c =
    let a = c.move_apart.ensures in
    let b = c.as_mut_slice.ensures.value in
    search (rules, overwrites, a, b)
