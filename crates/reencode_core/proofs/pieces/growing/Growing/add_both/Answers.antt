use Rattle.std.proofs.Common.{◌++◌, ℕ, List, ap, arith, length-append}
use Rattle.reencode_core.specs.Pieces.{cut_ranges}
use Rattle.reencode_core.proofs.kept_pieces.CutBytes.{added_bytes, added_is}
use Rattle.reencode_core.proofs.pieces.growing.Growing.add_both.Goals as goal

pub invariant_of-self : goal.invariant_of-self
invariant_of-self c =
    let both = c.args.head.now ++ c.args.bytes.now in
    let l = length-append c.args.head.now c.args.bytes.now in
    rw c.in-Ok.ensures.ok (added_is both c.in-Some-checked_add.size c.self.invariant (omega (arith, l, c.in-Some.ensures, c.in-Some-checked_add.ensures)))

pub returns-in-Ok-clause-ok : goal.returns-in-Ok-clause-ok
returns-in-Ok-clause-ok c =
    let both = c.args.head.now ++ c.args.bytes.now in
    rw (c.in-Ok.ensures.ok, ← c.self.view_is) (ap (λ (z : List ℕ). record { input = c.self.inside.input.now; bytes = z; kept = cut_ranges c.self.inside.cuts.items }) (added_bytes both c.self.invariant))
