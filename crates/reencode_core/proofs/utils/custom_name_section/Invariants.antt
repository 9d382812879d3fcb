use Rattle.std.proofs.Common.{length}
use Rattle.reencode_core.specs.NameFormats.{core_names}
use Rattle.reencode_core.proofs.names_mapped.SubsectionLoop.{NamesKept}
use Rattle.reencode_core.proofs.utils.custom_name_section.Given as goal

-- the subsections so far are walked and added
abbrev pub invariant-rows : goal.invariant-rows
invariant-rows g l = NamesKept core_names g.T.ReencodeIndices l.fn.ceiling l.initial.rows l.initial.reencoder l.rows l.reencoder l.names

abbrev pub decreases-rows : goal.decreases-rows
decreases-rows g l = length l.rows.rest
