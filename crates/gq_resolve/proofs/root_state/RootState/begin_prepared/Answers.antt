use Rattle.gq_resolve.proofs.Polling.{begins-again}
use Rattle.gq_resolve.proofs.root_state.RootState.begin_prepared.Goals as goal

pub returns-in_ok-rooted-clause-fits : goal.returns-in_ok-rooted-clause-fits
returns-in_ok-rooted-clause-fits c = λ plan rooted m fits. record {
  stopped = begins-again plan m c.in_ok-rooted.rooted _ c.new.ensures (c.in_ok-rooted.ensures plan rooted);
  ahead = fits.ahead;
  count = fits.count;
}
