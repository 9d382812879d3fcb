use Rattle.std.proofs.Common.{ℕ, List, [], ◌∷◌, ◌++◌, ap, ◌∙◌, append_assoc}
use Rattle.wasm_shapes.specs.Tree.{normal}
use Rattle.wasm_write.specs.Types.{val_type_tree}
use Rattle.wasm_write.proofs.Fronts.{front_stays, front_stays_on}
use Rattle.wasm_write_component.proofs.defined_types.write_resource.Goals as goal

pub returns-in-Ok-write_val_type-clause-err : goal.returns-in-Ok-write_val_type-clause-err
returns-in-Ok-write_val_type-clause-err c =
    let rep = normal (val_type_tree c.args.rep) in
    let both = c.in-Ok-write_val_type.ensures.ok ∙ ap (λ (z : List ℕ). z ++ rep) c.in-Ok.ensures.ok ∙ append_assoc c.args.out.now.items (0x3f ∷ []) rep in
    front_stays_on c.args.out.now.items _ _ c.args.out.now.ok.0 c.write_val_type.new.out.ok.0 both c.write_destructor.result c.write_destructor.ensures.err

pub returns-in-Err-write_val_type-clause-err : goal.returns-in-Err-write_val_type-clause-err
returns-in-Err-write_val_type-clause-err c =
    front_stays c.args.out.now.items _ _ c.args.out.now.ok.0 c.write_byte.new.out.ok.0 c.in-Ok.ensures.ok c.in-Err-write_val_type.ensures.err
