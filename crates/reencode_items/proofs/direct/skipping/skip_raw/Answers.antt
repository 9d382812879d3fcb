use Rattle.std.proofs.Common.{◌-◌, ℕ, arith, drop, length, subst, take}
use Rattle.wasm_shapes.specs.Shape.{Shape}
use Rattle.reencode_items.specs.Direct.{SkipsLeaf}
use Rattle.reencode_items.proofs.Passing.{skips_raw}
use Rattle.reencode_items.proofs.direct.skipping.skip_raw.Goals as goal

pub returns-else-bytes-size : goal.returns-else-bytes-size
returns-else-bytes-size c =
    let bytes = c.args.bytes.now in
    let n = c.from-size.result in
    let P : ℕ → Type 0 = λ k. SkipsLeaf (Shape.bytes k) bytes (take (length bytes - n) (drop n bytes)) in
    subst P c.from-size.ensures (skips_raw n bytes (omega (arith, c.if-bytes-size.false)))
