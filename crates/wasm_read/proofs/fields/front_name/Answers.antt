use Rattle.std.proofs.Common.{ℕ, List, sym, subst}
use Rattle.wasm_shapes.specs.Shape.{Shape}
use Rattle.wasm_shapes.specs.Tree.{Tree}
use Rattle.wasm_shapes.specs.Place.{Begins}
use Rattle.wasm_shapes.proofs.Begins.{begins_name, none_name_text, no_room, no_text}
use Rattle.wasm_read.proofs.fields.front_name.Goals as goal

pub returns-then-rest-len-clause-none : goal.returns-then-rest-len-clause-none
returns-then-rest-len-clause-none c = none_name_text c.in-Some.ensures.some (no_room c.if-rest-len.true)

pub returns-in-Ok-clause-some : goal.returns-in-Ok-clause-some
returns-in-Ok-clause-some c =
    let split = c.split_at.ensures in
    let valid = c.in-Ok.ensures.cases in
    let P : List ℕ → Type 0 = λ text. Begins Shape.name c.args.bytes.now (Tree.name text) c.split_at.result.1.now in
    subst P (sym valid.0) (begins_name c.in-Some.ensures.some split.by_index.0 split.front_len valid.1)

pub returns-in-Err-clause-none : goal.returns-in-Err-clause-none
returns-in-Err-clause-none c =
    let split = c.split_at.ensures in
    none_name_text c.in-Some.ensures.some
    (no_text c.split_at.result.0.now c.split_at.result.1.now split.by_index.0 split.front_len c.in-Err.ensures.cases.0)
