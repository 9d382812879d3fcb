use Rattle.std.proofs.Common.{refl, ap, length, arith}
use Rattle.reencode_core.proofs.rows_walked.CompactRows.{names_more, names_all}
use Rattle.reencode_core.proofs.imports.compact_names.Goals as goal

pub names-init : goal.names-init
names-init c = rw c.new-held.ensures refl

pub names-smaller : goal.names-smaller
names-smaller c = let shorter = ap length c.in-Some.ensures.some in omega arith

pub names-preserved : goal.names-preserved
names-preserved c = names_more c.names.held c.in-Some.name c.names.invariant c.in-Some.ensures.some c.in-Ok.ensures.ok

pub returns : goal.returns
returns c = names_all c.names.held c.names.invariant c.in_default.ensures.none.0
