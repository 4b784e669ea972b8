use Rattle.std.proofs.Common.{◌≡◌, ◌-◌, ◌^◌}
use Rattle.load_rounds.specs.declared.rounds.Stage.TheVariants.{Ready}
use Rattle.load_rounds.specs.Sessions.{state_of}
use Rattle.load_rounds.specs.Executions.{plans_in}
use Rattle.load_rounds.specs.Runs.{Holds, GoesOnFrom}
use Rattle.load_rounds.specs.Limits.{IsWithin, AsksInTime}
use Rattle.batch_workers.proofs.answer.run.Given as goal

abbrev pub invariant-loop-excess : goal.invariant-loop-excess
invariant-loop-excess g l = record {
  ready : l.rounds.stage ≡ Ready;
  holds : Holds g.P.Execute.program g.P.Execute.text_of g.P.Execute.loaders g.P.Execute.fits l.rounds l.session;
  run : GoesOnFrom g.P.Execute.program g.P.Execute.text_of g.S.Source.may_answer (state_of l.fn.session) (state_of l.session) l.fn.rounds l.rounds;
  in_time : AsksInTime g.P.Execute.program g.P.Execute.text_of g.S.Source.may_answer l.limits (state_of l.fn.session) (state_of l.session) l.fn.rounds l.rounds;
  within : IsWithin l.limits.rounds l.rounds.rounds;
  plans : plans_in l.rounds.parts ≡ plans_in l.fn.rounds.parts;
}

abbrev pub decreases-loop-excess : goal.decreases-loop-excess
decreases-loop-excess g l = 2 ^ 32 - l.rounds.rounds
