use Rattle.std.proofs.Common.{◌≡◌, ◌-◌, ◌^◌, ◌∷◌, []}
use Rattle.load_rounds.specs.declared.rounds.Stage.TheVariants.{Ready}
use Rattle.load_rounds.specs.Histories.{any_tell}
use Rattle.load_rounds.specs.Sessions.{state_of}
use Rattle.load_rounds.specs.Executions.{plans_in}
use Rattle.load_rounds.specs.Runs.{Holds, IsRun}
use Rattle.example_totals.proofs.by_hand.answer_by_hand.Given as goal

-- no round is out, and the session is as the run has left it
abbrev pub invariant-loop-rounds : goal.invariant-loop-rounds
invariant-loop-rounds g l = record {
  ready : l.rounds.stage ≡ Ready;
  plans : plans_in l.rounds.parts ≡ l.plan ∷ [];
  holds : Holds g.P.Execute.program g.P.Execute.text_of g.P.Execute.loaders g.P.Execute.fits l.rounds l.session;
  is : IsRun g.P.Execute.program g.P.Execute.text_of any_tell (state_of l.fn.session) (state_of l.session) l.rounds;
}

abbrev pub decreases-loop-rounds : goal.decreases-loop-rounds
decreases-loop-rounds g l = 2 ^ 32 - l.rounds.rounds
