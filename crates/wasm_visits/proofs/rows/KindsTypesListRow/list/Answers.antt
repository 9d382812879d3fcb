use Rattle.std.proofs.Common.{OnOk, Result, refl, subst, sym}
use Rattle.wasm_visits.specs.declared.rows.Unlisted.{Unlisted}
use Rattle.wasm_read.specs.Types.{group_tree}
use Rattle.wasm_visits.specs.Placed.{Lists}
use Rattle.wasm_visits.proofs.Runs.{walked}
use Rattle.wasm_visits.proofs.rows.KindsTypesListRow.list.Goals as goal
use Rattle.wasm_visits.proofs.rows.KindsTypesListRow.list.Goals.{in-Ok, in-Err}

pub returns : goal.returns
returns c =
    let P : Result (Unit {0}) Unlisted → Type 0 = λ r. OnOk r (Lists (group_tree c.args.row) c.args.lister.now c.parse_recursive_type_group.new.self) in
    elim c.match-parse_recursive_type_group.branch [
      | in-Ok w ↦ subst P (sym w.result-is) (walked 0 _ _ (group_tree c.args.row) _ (w.in-Ok.ensures.default refl 0))
      | in-Err w ↦ subst P (sym w.result-is) tt
    ]
