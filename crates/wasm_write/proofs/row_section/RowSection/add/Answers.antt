use Rattle.std.proofs.Common.{◌++◌, ◌∷◌, [], ap, drop, ◌∙◌, arith}
use mathlib.Core.Logic.{∥∥₁_map}
use Rattle.wasm_shapes.specs.Tree.{normal}
use Rattle.wasm_shapes.proofs.ReadBack.{spelled_in_range, in_range_had}
use Rattle.wasm_write.specs.Counts.{counts}
use Rattle.wasm_write.proofs.Holding.{behind_grown, held_length, held_grown, held_grown_is, held_same_is, room_grown}
use Rattle.wasm_write.proofs.Items.{large_left, large_last}
use Rattle.wasm_write.proofs.row_section.RowSection.add.Goals as goal

pub returns-then-self-clause-large : goal.returns-then-self-clause-large
returns-then-self-clause-large g c =
    let n = held_length c.self.inside.held in
    rw (← c.self.view_is) (large_last (counts (g.R.RowOf.tree c.args.row.now)) (omega (arith, n)) (omega arith))

pub invariant_of-self-inside : goal.invariant_of-self-inside
invariant_of-self-inside g c =
    let grown = behind_grown _ _ c.self.inside.room c.in-Ok.ensures.ok in
    (room_grown _ _ c.self.inside.room c.in-Ok.ensures.ok, (held_grown c.self.inside.held (g.R.RowOf.tree c.args.row.now) grown c.in-Ok.ensures.spells, tt))

pub returns-in-Ok-clause-ok : goal.returns-in-Ok-clause-ok
returns-in-Ok-clause-ok g c =
    let t = g.R.RowOf.tree c.args.row.now in
    let grown = behind_grown _ _ c.self.inside.room c.in-Ok.ensures.ok in
    held_grown_is c.self.inside.held t g.K.RowKind.rows_sound _ grown c.in-Ok.ensures.spells ∙ ap (λ l. l ++ t ∷ []) c.self.view_is

pub returns-in-Ok-clause-in_range : goal.returns-in-Ok-clause-in_range
returns-in-Ok-clause-in_range g c =
    let t = g.R.RowOf.tree c.args.row.now in
    in_range_had t (∥∥₁_map c.in-Ok.ensures.spells (λ p. spelled_in_range t (normal t) p.spelled))

pub returns-in-Ok-clause-fits : goal.returns-in-Ok-clause-fits
returns-in-Ok-clause-fits g c =
    let n = held_length c.self.inside.held in
    rw (← c.self.view_is) (omega (arith, n))

pub returns-in-Err-clause-err : goal.returns-in-Err-clause-err
returns-in-Err-clause-err g c =
    let same = c.truncate.ensures.items ∙ rw c.len-len.ensures c.in-Err.ensures.err in
    held_same_is c.self.inside.held g.K.RowKind.rows_sound _ (ap (drop c.self.inside.front) same) ∙ c.self.view_is

pub returns-in-Err-clause-large : goal.returns-in-Err-clause-large
returns-in-Err-clause-large g c = large_left c.in-Err.fault (counts (g.R.RowOf.tree c.args.row.now)) _ c.in-Err.ensures.large
