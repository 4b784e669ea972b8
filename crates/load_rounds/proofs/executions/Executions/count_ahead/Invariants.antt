use Rattle.std.proofs.Common.{◌≡◌, ◌+◌, length, take}
use Rattle.load_memory.specs.Pairs.{look}
use Rattle.execution.specs.Loads.{read}
use Rattle.load_rounds.specs.SharedRounds.{requests}
use Rattle.load_rounds.specs.Executions.{plans_in}
use Rattle.load_rounds.specs.Limits.{work_of_all}
use Rattle.load_rounds.proofs.WorkingAhead.{AreAhead}
use Rattle.load_rounds.proofs.executions.Executions.count_ahead.Given as goal

abbrev pub invariant-loop-at : goal.invariant-loop-at
invariant-loop-at g l = record {
  ahead : AreAhead g.P.Execute.program g.P.Execute.text_of g.P.Execute.loaders g.P.Execute.fits g.P.Execute.left l.steps l.memory l.fn.self l.rest l.self;
  done : l.left + work_of_all (requests g.P.Execute.program g.P.Execute.text_of (take l.at (plans_in l.fn.self))) (read l.memory.modes (look l.memory.pairs)) ≡ l.most;
  ends : l.at-end ≡ length l.fn.self;
}
