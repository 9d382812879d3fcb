use Rattle.reencode_hooks.proofs.Moments as moment
use Rattle.reencode_hooks.proofs.Walks as walks
use Rattle.reencode_hooks.proofs.laws.moments_are.Goals as goal

pub returns : goal.returns
returns c = record {
  asked = walks.moments_asked;
  closed = moment.closed;
  known = λ t x b p. moment.known t x b p;
  fit = λ t c. (moment.closings_fit t c, moment.fit_closings t c);
}
