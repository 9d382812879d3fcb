use Rattle.std.proofs.Common.{ℤ, w32, rules, refl, ap}
use mir.Val.{SFits}
use Rattle.std.proofs.lemmas.Int.{to_z-of_z}
use Rattle.wasm_shapes.specs.Tree.{Tree}
use Rattle.wasm_shapes.proofs.Begins.{begins_s32}
use Rattle.reencode_items.proofs.Passing.{skips_s32}
use Rattle.reencode_items.proofs.direct.passing.pass_s32.Goals as goal

pub returns-then-short-clause-kept : goal.returns-then-short-clause-kept
returns-then-short-clause-kept c = skips_s32 c.in-Some.number c.in-Some.ensures.begins (c.in-Some.ensures.short c.if-short.true)

pub returns-clause-next : goal.returns-clause-next
returns-clause-next c =
    let fits : SFits w32 c.in-Some.number = search rules in (
      refl,
      record {
        number = c.in-Some.number;
        left = c.in-Some.behind.now;
        begins = begins_s32 c.in-Some.number c.in-Some.ensures.begins;
        counted = refl;
        tree = ap (λ (z : ℤ). Tree.pair (Tree.s32 z) Tree.empty) (to_z-of_z w32 c.in-Some.number fits);
        kind = refl;
      },
    )
