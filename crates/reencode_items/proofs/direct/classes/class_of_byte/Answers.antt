use Rattle.std.proofs.Common.{◌<◌, ◌∙◌, ℕ, ap, arith, refl}
use Rattle.reencode_items.specs.declared.direct.classes.TheConstants.{ONE_BYTE}
use Rattle.reencode_items.specs.declared.direct.classes.Class.TheVariants as class
use Rattle.reencode_items.specs.Direct.{class_of, classes_from}
use Rattle.reencode_items.proofs.Passing.{class_here}
use Rattle.reencode_items.proofs.direct.classes.class_of_byte.Goals as goal

pub returns : goal.returns
unfolding classes_from
returns c =
    let small : c.from.result < 256 = omega (arith, c.from.ensures, c.ranges.byte.fits) in
    class_here {cs = ONE_BYTE} class.Bare c.from.result refl small ∙ ap (λ (n : ℕ). class_of (record { prefix = 0; sub = n })) c.from.ensures
