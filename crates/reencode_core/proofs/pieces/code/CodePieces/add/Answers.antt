use Rattle.std.proofs.Common.{◌≡◌, ◌+◌, ℕ, List, ◌++◌, length, ap, ap₂, subst, ◌∙◌, arith}
use Rattle.wasm_leb.specs.Leb.{IsUnsigned}
use Rattle.wasm_shapes.specs.Tree.{Tree}
use Rattle.wasm_write.proofs.Holding.{held_length, held_same_is}
use Rattle.reencode_core.specs.Pieces.{Grown}
use Rattle.reencode_core.specs.Sinks.{CodeGrown, code_sound, with_rows}
use Rattle.reencode_core.proofs.kept_pieces.CodeRowsHeld.{held_both, held_both_is, more_than_number}
use Rattle.reencode_core.proofs.pieces.code.CodePieces.add.Goals as goal

pub returns-in_default-clause-large : goal.returns-in_default-clause-large
returns-in_default-clause-large c =
    let n = held_length c.self.inside.held in
    let rows : length c.args.self.now.code.rows ≡ c.self.inside.count = rw (← c.self.view_is) n in
    (omega (arith, rows, c.from.ensures, c.from-in_default.ensures, c.len-in_default.ensures), omega (arith, c.in_default.ensures, c.from.ensures, c.from-in_default.ensures, c.len.ensures, c.len-in_default.ensures))

pub invariant_of-self-inside : goal.invariant_of-self-inside
invariant_of-self-inside c =
    let count : c.in-Some.count ≡ c.self.inside.count + length c.args.code.now.rows = omega (arith, c.in-Some.ensures, c.len.ensures) in
    let bytes = c.in-Ok.ensures.bytes ∙ ap (λ (z : List ℕ). c.self.inside.pieces.bytes ++ z) c.as_slice-rows.ensures.value in
    (held_both c.self.inside.held c.args.code.now.rows count bytes c.as_slice-rows.ensures.spells, tt)

pub returns-in-Ok-clause-ok : goal.returns-in-Ok-clause-ok
returns-in-Ok-clause-ok c =
    let count : c.in-Some.count ≡ c.self.inside.count + length c.args.code.now.rows = omega (arith, c.in-Some.ensures, c.len.ensures) in
    let bytes = c.in-Ok.ensures.bytes ∙ ap (λ (z : List ℕ). c.self.inside.pieces.bytes ++ z) c.as_slice-rows.ensures.value in
    let rows = held_both_is c.self.inside.held c.args.code.now.rows code_sound _ count bytes c.as_slice-rows.ensures.spells in
    ap (λ (z : List Tree). record { ceiling = c.self.inside.ceiling; rows = z }) rows ∙ ap (λ (g : CodeGrown). with_rows g.code c.args.code.now.rows) c.self.view_is

pub returns-in-Err-clause-err : goal.returns-in-Err-clause-err
returns-in-Err-clause-err c =
    let made : Grown → List Tree → CodeGrown = λ g z. record { input = g.input; code = record { ceiling = c.self.inside.ceiling; rows = z }; kept = g.kept } in
    ap₂ made c.in-Err.ensures.err (held_same_is c.self.inside.held code_sound _ (ap Grown.bytes c.in-Err.ensures.err)) ∙ c.self.view_is

pub add_rows-added-requires-clause-bodied : goal.add_rows-added-requires-clause-bodied
add_rows-added-requires-clause-bodied c = λ one n q.
    let P : List ℕ → Type 0 = λ z. IsUnsigned 32 z n in
    let rows : length c.args.code.now.rows ≡ 1 = omega (arith, one, c.len-2.ensures) in
    more_than_number c.args.code.now.rows c.as_slice-rows.ensures.spells rows n (subst P c.as_slice-rows.ensures.value q)
