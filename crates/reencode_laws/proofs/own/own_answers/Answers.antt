use Rattle.reencode_laws.proofs.Itself as laws
use Rattle.reencode_laws.proofs.own.own_answers.Goals as goal

pub returns : goal.returns
returns c = laws.own_answers
