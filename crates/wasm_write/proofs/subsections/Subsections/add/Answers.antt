use Rattle.std.proofs.Common.{◌≡◌, ◌+◌, ◌<◌, ◌^◌, length, length-append, ◌∙◌, arith}
use Rattle.wasm_write.specs.Names.{behind, body_of}
use Rattle.wasm_write.proofs.HeldSubsections.{subsections_grown, subsections_grown_is, subsections_same_is}
use Rattle.wasm_write.proofs.subsections.Subsections.add.Goals as goal

pub invariant_of-self-inside : goal.invariant_of-self-inside
invariant_of-self-inside g c =
    let front = c.args.front.now in
    let rest = behind c.args.number c.args.bytes.now in
    let long : length front + c.len_behind.result ≡ length (body_of front c.args.number c.args.bytes.now) = omega (arith, c.len_behind.ensures.value, length-append front rest) in
    let small : length (body_of front c.args.number c.args.bytes.now) < 2 ^ 32 = omega (arith, c.if-size-from.false, c.from.ensures) in
    (subsections_grown c.self.inside.held c.requires.subsection.0 c.requires.subsection.1 (rw long at c.in-Ok.ensures.ok) small, tt)

pub returns-in-Ok-clause-ok : goal.returns-in-Ok-clause-ok
returns-in-Ok-clause-ok g c =
    let front = c.args.front.now in
    let rest = behind c.args.number c.args.bytes.now in
    let long : length front + c.len_behind.result ≡ length (body_of front c.args.number c.args.bytes.now) = omega (arith, c.len_behind.ensures.value, length-append front rest) in
    let small : length (body_of front c.args.number c.args.bytes.now) < 2 ^ 32 = omega (arith, c.if-size-from.false, c.from.ensures) in
    subsections_grown_is c.self.inside.held g.K.SubsectionKind.rows_sound c.self.inside.ceiling _ (rw long at c.in-Ok.ensures.ok) small c.self.view_is

pub returns-in-Err-clause-err : goal.returns-in-Err-clause-err
returns-in-Err-clause-err g c =
    subsections_same_is c.self.inside.held g.K.SubsectionKind.rows_sound c.self.inside.ceiling _ (c.truncate.ensures.items ∙ rw c.len-len.ensures c.in-Err.ensures.err) c.self.view_is
