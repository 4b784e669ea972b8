use Rattle.std.proofs.Common.{◌≡◌, ◌-◌, ◌^◌, [], ◌∷◌}
use Rattle.load_rounds.specs.declared.rounds.Stage.TheVariants.{Ready}
use Rattle.load_rounds.specs.Sessions.{state_of}
use Rattle.load_rounds.specs.Executions.{plans_in}
use Rattle.load_rounds.specs.Runs.{Holds, IsRun}
use Rattle.load_rounds.proofs.session.Session.answer.Given as goal

abbrev pub invariant-loop-rounds : goal.invariant-loop-rounds
invariant-loop-rounds g l = record {
  ready : l.rounds.stage ≡ Ready;
  holds : Holds g.P.Execute.program g.P.Execute.text_of g.P.Execute.loaders g.P.Execute.fits l.rounds l.self;
  is : IsRun g.P.Execute.program g.P.Execute.text_of g.S.LocalSource.may_tell (state_of l.fn.self) (state_of l.self) l.rounds;
  plans : plans_in l.rounds.parts ≡ l.fn.plan ∷ [];
}

abbrev pub decreases-loop-rounds : goal.decreases-loop-rounds
decreases-loop-rounds g l = 2 ^ 32 - l.rounds.rounds
