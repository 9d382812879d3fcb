use Rattle.std.proofs.Common.{OnOk, Result, refl, subst, sym}
use Rattle.wasm_leb.specs.declared.NoMemory.{NoMemory}
use Rattle.wasm_read.specs.Types.{group_tree}
use Rattle.reencode_c.specs.Places.{Lists}
use Rattle.reencode_c.proofs.Runs.{listed_walk}
use Rattle.reencode_c.proofs.rows.KindsTypesListRow.list.Goals as goal
use Rattle.reencode_c.proofs.rows.KindsTypesListRow.list.Goals.{in-Ok, in-Err}

pub returns : goal.returns
returns c =
    let P : Result (Unit {0}) NoMemory → Type 0 = λ r. OnOk r (Lists (group_tree c.args.row) c.args.lister.now c.parse_recursive_type_group.new.self) in
    elim c.match-parse_recursive_type_group.branch [
      | in-Ok w ↦ subst P (sym w.result-is) (listed_walk 0 _ _ (group_tree c.args.row) _ (w.in-Ok.ensures.default refl 0))
      | in-Err w ↦ subst P (sym w.result-is) tt
    ]
