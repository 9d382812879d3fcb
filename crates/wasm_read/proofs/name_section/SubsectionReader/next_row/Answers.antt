use Rattle.std.proofs.Common.{ap, length, arith}
use Rattle.std.proofs.lemmas.Bool.Decides.{nat_tests}
use Rattle.wasm_read.proofs.Subsections.{missing}
use Rattle.wasm_read.proofs.name_section.SubsectionReader.next_row.Goals as goal

pub returns-in-None-clause-err : goal.returns-in-None-clause-err
returns-in-None-clause-err g c = (c.place.ensures, rw (← c.self.view_is) (missing c.none_begins.ensures (λ e. let empty = ap length e in grind (arith, nat_tests)) c.in-None.ensures.none))
