use Rattle.std.proofs.Common.{◌≡◌, ◌+◌, length, take}
use Rattle.load_rounds.specs.Sessions.{state_of}
use Rattle.load_rounds.specs.SharedRounds.{requests}
use Rattle.load_rounds.specs.Executions.{plans_in}
use Rattle.load_rounds.specs.Limits.{work_in}
use Rattle.load_rounds.proofs.rounds.Rounds.is_work_over.Given as goal

abbrev pub invariant-loop-at : goal.invariant-loop-at
invariant-loop-at g l = record {
  done : l.left + work_in (state_of l.session) (requests g.P.Execute.program g.P.Execute.text_of (take l.at (plans_in l.self.parts))) ≡ l.most;
  ends : l.at-end ≡ length l.self.parts;
}
