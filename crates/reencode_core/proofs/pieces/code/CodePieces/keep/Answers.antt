use Rattle.std.proofs.Common.{◌≡◌, ◌<◌, ◌^◌, ℕ, List, ◌++◌, length, inr, refl, ap, ap₂, ◌∙◌, arith}
use Rattle.wasm_leb.specs.Leb.{leb}
use Rattle.wasm_shapes.specs.Tree.{Tree}
use Rattle.wasm_write.specs.Bodies.{CodeRows}
use Rattle.wasm_write.proofs.Holding.{held_length, held_same_is}
use Rattle.wasm_write.proofs.HoldingBodies.{gains_row}
use Rattle.reencode_core.specs.Pieces.{Grown}
use Rattle.reencode_core.specs.Sinks.{CodeGrown, code_sound}
use Rattle.reencode_core.proofs.kept_pieces.CodeRowsHeld.{body_fills, held_framed, held_framed_is, length_fills}
use Rattle.reencode_core.proofs.pieces.code.CodePieces.keep.Goals as goal

pub returns-in_default-clause-large : goal.returns-in_default-clause-large
returns-in_default-clause-large c =
    let n = held_length c.self.inside.held in
    let rows : length c.args.self.now.code.rows ≡ c.self.inside.count = rw (← c.self.view_is) n in
    let ceiling = ap (λ (g : CodeGrown). g.code.ceiling) c.self.view_is in
    inr (omega (arith, rows, c.from-in_default.ensures), omega (arith, c.in_default.ensures, c.from-in_default.ensures), omega (arith, c.if-size-from.false, c.from.ensures, ceiling))

pub returns-in-Err-clause-err : goal.returns-in-Err-clause-err
returns-in-Err-clause-err c =
    let made : List Tree → CodeGrown = λ z. record { input = c.self.inside.pieces.input; code = record { ceiling = c.self.inside.ceiling; rows = z }; kept = c.self.inside.pieces.kept } in
    ap made (held_same_is c.self.inside.held code_sound _ refl) ∙ c.self.view_is

pub keep_body-requires-clause-some : goal.keep_body-requires-clause-some
keep_body-requires-clause-some c =
    let ceiling = ap (λ (g : CodeGrown). g.code.ceiling) c.self.view_is in
    let short : length c.args.body.now < 2 ^ 32 = omega (arith, c.if-size-from.false, c.from.ensures, ceiling, c.requires.small) in
    let head : c.deref.result.now ≡ leb (length c.args.body.now) = c.deref.ensures.value ∙ c.in-Ok.ensures.ok ∙ ap (λ (z : List ℕ). z ++ leb (length c.args.body.now)) c.clear.ensures.items in
    rw head (length_fills c.args.body.now short)

pub keep_body-requires-clause-filled : goal.keep_body-requires-clause-filled
keep_body-requires-clause-filled c = body_fills c.args.body.now c.requires.normally

pub invariant_of-self-inside-in-Ok-keep_body : goal.invariant_of-self-inside-in-Ok-keep_body
invariant_of-self-inside-in-Ok-keep_body c =
    let ceiling = ap (λ (g : CodeGrown). g.code.ceiling) c.self.view_is in
    let short : length c.args.body.now < 2 ^ 32 = omega (arith, c.if-size-from.false, c.from.ensures, ceiling, c.requires.small) in
    let head : c.deref.result.now ≡ leb (length c.args.body.now) = c.deref.ensures.value ∙ c.in-Ok.ensures.ok ∙ ap (λ (z : List ℕ). z ++ leb (length c.args.body.now)) c.clear.ensures.items in
    let bytes = c.in-Ok-keep_body.ensures.bytes ∙ ap (λ (z : List ℕ). c.self.inside.pieces.bytes ++ (z ++ c.args.body.now)) head in
    (held_framed c.self.inside.held c.requires.normally short c.in-Some.ensures.1 bytes, tt)

pub returns-in-Ok-keep_body-clause-ok : goal.returns-in-Ok-keep_body-clause-ok
returns-in-Ok-keep_body-clause-ok c =
    let ceiling = ap (λ (g : CodeGrown). g.code.ceiling) c.self.view_is in
    let short : length c.args.body.now < 2 ^ 32 = omega (arith, c.if-size-from.false, c.from.ensures, ceiling, c.requires.small) in
    let head : c.deref.result.now ≡ leb (length c.args.body.now) = c.deref.ensures.value ∙ c.in-Ok.ensures.ok ∙ ap (λ (z : List ℕ). z ++ leb (length c.args.body.now)) c.clear.ensures.items in
    let bytes = c.in-Ok-keep_body.ensures.bytes ∙ ap (λ (z : List ℕ). c.self.inside.pieces.bytes ++ (z ++ c.args.body.now)) head in
    let rows = held_framed_is c.self.inside.held c.requires.normally short _ c.in-Some.ensures.1 bytes in
    let made : List Tree → CodeRows = λ z. record { ceiling = c.self.inside.ceiling; rows = z } in
    rw (← c.self.view_is) (gains_row c.requires.normally _ _ (ap made rows))

pub returns-in-Err-keep_body-clause-err : goal.returns-in-Err-keep_body-clause-err
returns-in-Err-keep_body-clause-err c =
    let made : Grown → List Tree → CodeGrown = λ g z. record { input = g.input; code = record { ceiling = c.self.inside.ceiling; rows = z }; kept = g.kept } in
    ap₂ made c.in-Err-keep_body.ensures.err (held_same_is c.self.inside.held code_sound _ (ap Grown.bytes c.in-Err-keep_body.ensures.err)) ∙ c.self.view_is
