use Rattle.reencode_c.proofs.Endings.{plain_ends}
use Rattle.reencode_c.proofs.reencode_raw_plain.Goals as goal

pub returns-clause-ends : goal.returns-clause-ends
returns-clause-ends c = plain_ends c.rename.ensures.ends
