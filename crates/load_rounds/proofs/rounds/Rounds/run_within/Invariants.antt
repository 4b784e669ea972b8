use Rattle.std.proofs.Common.{◌≡◌, ◌-◌, ◌^◌}
use Rattle.load_rounds.specs.declared.rounds.Stage.TheVariants.{Ready}
use Rattle.load_rounds.specs.Sessions.{state_of}
use Rattle.load_rounds.specs.Executions.{plans_in}
use Rattle.load_rounds.specs.Runs.{Holds, GoesOnFrom}
use Rattle.load_rounds.specs.Limits.{IsWithin, AsksInTime}
use Rattle.load_rounds.proofs.rounds.Rounds.run_within.Given as goal

abbrev pub invariant-loop-excess : goal.invariant-loop-excess
invariant-loop-excess g l = record {
  ready : l.self.stage ≡ Ready;
  holds : Holds g.P.Execute.program g.P.Execute.text_of g.P.Execute.loaders g.P.Execute.fits l.self l.session;
  run : GoesOnFrom g.P.Execute.program g.P.Execute.text_of g.S.LocalSource.may_tell (state_of l.fn.session) (state_of l.session) l.fn.self l.self;
  in_time : AsksInTime g.P.Execute.program g.P.Execute.text_of g.S.LocalSource.may_tell l.limits (state_of l.fn.session) (state_of l.session) l.fn.self l.self;
  within : IsWithin l.limits.rounds l.self.rounds;
  plans : plans_in l.self.parts ≡ plans_in l.fn.self.parts;
}

abbrev pub decreases-loop-excess : goal.decreases-loop-excess
decreases-loop-excess g l = 2 ^ 32 - l.self.rounds
