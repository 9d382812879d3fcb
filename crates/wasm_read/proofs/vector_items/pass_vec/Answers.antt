use Rattle.std.proofs.Common.{◌≡◌, suc, [], ◌∷◌, ◌++◌, ◌-◌, arith}
use Rattle.wasm_read.proofs.VectorItems.{before_none, before_more, passed_all, stuck_count, stuck_item}
use Rattle.wasm_read.proofs.Vectors.{items_none, items_more}
use Rattle.wasm_read.specs.VectorRows.{items_closed, items_sound}
use Rattle.wasm_read.proofs.vector_items.pass_vec.Goals as goal

pub entries-init : goal.entries-init
entries-init g c = ([], items_none _ _ _, before_none _ _ _)

pub entries-preserved-in-Some-small : goal.entries-preserved-in-Some-small
entries-preserved-in-Some-small g c =
    let more : c.entries.left ≡ suc (c.entries.left - 1) = omega arith in (
      c.entries.invariant.0 ++ _ ∷ [],
      items_more c.entries.invariant.0 (items_sound g.T.Entry.shape g.T.Entry.rows_sound) (items_closed g.T.Entry.shape g.T.Entry.rows_sound) more c.in-Some-small.ensures.some c.entries.invariant.1,
      before_more more c.in-Some-small.ensures.some c.entries.invariant.2,
    )

pub returns-in_default-clause-err : goal.returns-in_default-clause-err
returns-in_default-clause-err g c = stuck_count c.in_default.ensures.none

pub returns-in-None-clause-err : goal.returns-in-None-clause-err
returns-in-None-clause-err g c =
    stuck_item c.entries.invariant.0 c.in-Some.ensures.some (omega arith) c.in-None.ensures.none c.entries.invariant.1 c.entries.invariant.2

pub returns-clause-ok : goal.returns-clause-ok
returns-clause-ok g c = passed_all c.in-Some.ensures.some (omega arith) c.entries.invariant.2
