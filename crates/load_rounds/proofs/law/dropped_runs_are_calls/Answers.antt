use Rattle.load_rounds.proofs.Stages.{run-stops}
use Rattle.load_rounds.proofs.law.dropped_runs_are_calls.Goals as goal

pub returns : goal.returns
returns g c = λ begun now run is.
    run-stops g.P.Execute.program g.P.Execute.text_of g.P.Execute.loaders g.P.Execute.fits g.S.LocalSource.may_tell begun now run is
