use Rattle.std.proofs.Common.{◌≡◌, length}
use Rattle.load_rounds.proofs.WorkingAhead.{AreAhead}
use Rattle.load_rounds.proofs.executions.Executions.work_ahead.Given as goal

abbrev pub invariant-loop-at : goal.invariant-loop-at
invariant-loop-at g l = record {
  ahead : AreAhead g.P.Execute.program g.P.Execute.text_of g.P.Execute.loaders g.P.Execute.fits g.P.Execute.left l.steps l.memory l.fn.self l.rest l.self;
  ends : l.at-end ≡ length l.fn.self;
}
