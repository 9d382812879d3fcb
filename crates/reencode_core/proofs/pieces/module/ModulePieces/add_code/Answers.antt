use Rattle.std.proofs.Common.{◌<◌, ◌^◌, ◌∷◌, ◌++◌, ℕ, List, length, ap, ◌∙◌, arith}
use Rattle.wasm_leb.specs.Leb.{leb}
use Rattle.wasm_shapes.specs.Tree.{normal}
use Rattle.wasm_shapes.specs.Types.{vector_tree}
use Rattle.reencode_core.specs.Sinks.{ModuleGrown, with_code}
use Rattle.reencode_core.proofs.kept_pieces.SectionsHeld.{code_seen, same_seen, section_held, sized_as}
use Rattle.reencode_core.proofs.pieces.module.ModulePieces.add_code.Goals as goal

pub invariant_of-self-inside : goal.invariant_of-self-inside
invariant_of-self-inside c =
    let body : List ℕ = normal (vector_tree c.args.code.code.rows) in
    let short : length body < 2 ^ 32 = omega (arith, c.in-Some.ensures, c.if-size-from.false, c.from.ensures) in
    (section_held c.self.inside.ceiling c.self.inside.pieces c.self.inside.held c.add_framed.new.pieces c.add_framed.result 10 body (omega arith) short (sized_as c.add_framed.result 10 _ _ body _ c.in-Some.ensures c.add_framed.ensures.bytes) c.add_framed.ensures.err, tt)

pub returns-in-Err-clause-err : goal.returns-in-Err-clause-err
returns-in-Err-clause-err c = same_seen c.self.inside.ceiling c.self.inside.pieces c.self.inside.held c.add_framed.new.pieces _ c.in-Err.ensures.err ∙ c.self.view_is

pub returns-clause-ok : goal.returns-clause-ok
returns-clause-ok c =
    let body : List ℕ = normal (vector_tree c.args.code.code.rows) in
    let short : length body < 2 ^ 32 = omega (arith, c.in-Some.ensures, c.if-size-from.false, c.from.ensures) in
    let bytes = c.in-Ok.ensures.bytes ∙ ap (λ (k : ℕ). c.self.inside.pieces.bytes ++ (10 ∷ (leb k ++ body))) c.in-Some.ensures in
    code_seen c.self.inside.ceiling c.self.inside.pieces c.self.inside.held c.add_framed.new.pieces _ body c.args.code.kept short bytes c.in-Ok.ensures.input c.in-Ok.ensures.kept ∙ ap (λ (m : ModuleGrown). with_code m c.args.code) c.self.view_is
