use Rattle.std.proofs.Common.{arith}
use Rattle.reencode_hooks.proofs.Leaving.{handed, walk_left}
use Rattle.reencode_items.proofs.Composites.{composite_goals, composites}
use Rattle.reencode_items.proofs.items.ReencodeItems.composite_type.Goals as goal

pub returns-in_err-type_index_unpacked-in-Some : goal.returns-in_err-type_index_unpacked-in-Some
returns-in_err-type_index_unpacked-in-Some g c = record { default = grind (arith, composite_goals); after_error = grind (arith, composites, walk_left) }

pub returns-in_err-type_index_unpacked-in-Some-describes_idx : goal.returns-in_err-type_index_unpacked-in-Some-describes_idx
returns-in_err-type_index_unpacked-in-Some-describes_idx g c = record { default = grind (arith, composites); after_error = grind (arith, composites, walk_left) }

pub returns-in_err-array_type-in-Array : goal.returns-in_err-array_type-in-Array
returns-in_err-array_type-in-Array g c =
    record { default = rw (handed _ c.from_residual-in_err-array_type-in-Array.ensures.1) (λ k ceiling other. let inner = c.in_err-array_type-in-Array.ensures.default k ceiling other in grind (arith, composites, inner)); after_error = grind (arith, composite_goals) }
