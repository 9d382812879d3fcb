use Rattle.std.proofs.Common.{length, sym}
use Rattle.std.proofs.lemmas.Bool.Decides.{Decides-eqb}
use Rattle.wasm_reencode.specs.Places.{IsKind}
use Rattle.wasm_reencode.proofs.explain.kind_of.Goals as goal

pub returns-then-is_empty : goal.returns-then-is_empty
returns-then-is_empty c = IsKind.empty ((Decides-eqb (length c.args.bytes.now) 0).0 (sym c.if-is_empty.ensures))

pub returns-then-begins : goal.returns-then-begins
returns-then-begins c = IsKind.cut (sym c.if-begins.ensures)

pub returns-then-begins-2 : goal.returns-then-begins-2
returns-then-begins-2 c = IsKind.gzip (sym c.if-begins-2.ensures)

pub returns-then-begins-3 : goal.returns-then-begins-3
returns-then-begins-3 c = IsKind.zip (sym c.if-begins-3.ensures)

pub returns-then-begins-4 : goal.returns-then-begins-4
returns-then-begins-4 c = IsKind.elf (sym c.if-begins-4.ensures)

pub returns-then-begins-5 : goal.returns-then-begins-5
returns-then-begins-5 c = IsKind.ar (sym c.if-begins-5.ensures)

pub returns-in-Ok : goal.returns-in-Ok
returns-in-Ok c = IsKind.text c.in-Ok.ensures.cases.1

pub returns-in-Err : goal.returns-in-Err
returns-in-Err c = IsKind.other c.in-Err.ensures.cases.0
