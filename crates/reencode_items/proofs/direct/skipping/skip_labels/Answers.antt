use Rattle.std.proofs.Common.{Bor, IfSome, List, None, Option, Some, ℕ}
use Rattle.wasm_shapes.specs.Shape.{Shape}
use Rattle.reencode_items.specs.Direct.{SkipsLeaf, labels}
use Rattle.reencode_items.proofs.Passing.{skips_seq}
use Rattle.reencode_items.proofs.direct.skipping.skip_labels.Goals as goal

behind_both : {bytes middle : List ℕ} (rest : Option (Bor (List ℕ))) → SkipsLeaf (Shape.vec Shape.u32) bytes middle → IfSome rest (λ left. SkipsLeaf Shape.u32 middle left.now) →
    IfSome rest (λ left. SkipsLeaf labels bytes left.now)
behind_both (Some left) p q = skips_seq p q
behind_both None p q = tt

pub returns-in-Some : goal.returns-in-Some
returns-in-Some c = behind_both c.skip_number.result c.in-Some.ensures c.skip_number.ensures
