use Rattle.std.proofs.Common.{subst, refl}
use Rattle.load_rounds.specs.declared.rounds.Stage.TheVariants.{Ready}
use Rattle.load_rounds.specs.Sessions.{state_of}
use Rattle.load_rounds.specs.Runs.{RunOf, GoesOnFrom}
use Rattle.load_rounds.proofs.Stages.{turned, loses, takes-holds}
use Rattle.load_rounds.proofs.rounds.Rounds.turn.Goals as goal

pub returns-in_err-run-clause-run : goal.returns-in_err-run-clause-run
returns-in_err-run-clause-run g c = λ begun is.
    let mid = state_of c.advance.new.session in
    let middle : RunOf _ _ = record { parts = c.self.inside.executions; rounds = c.self.inside.rounds; stage = c.self.inside.stage } in
    let next = rw (c.in-Some.is, ← c.self.view_is) at c.in_ok-orders.ensures.next in
    loses g.P.Execute.program g.P.Execute.text_of g.P.Execute.loaders g.P.Execute.fits g.S.LocalSource.may_tell mid (state_of c.run.new.self) middle c.advance.new.self c.self.view_is c.in_err-run.ensures.kept next.2 begun (c.in_ok-orders.ensures.run begun is)

pub returns-clause-turned : goal.returns-clause-turned
returns-clause-turned g c =
    let old = state_of c.args.session.now in
    let mid = state_of c.advance.new.session in
    let middle : RunOf _ _ = record { parts = c.self.inside.executions; rounds = c.self.inside.rounds; stage = c.self.inside.stage } in
    let next = rw (c.in-Some.is, ← c.self.view_is) at c.in_ok-orders.ensures.next in
    let plans = rw (← c.self.view_is) at c.in_ok-orders.ensures.kept.plans in
    let done = turned g.P.Execute.program g.P.Execute.text_of g.P.Execute.loaders g.P.Execute.fits g.S.LocalSource.may_tell old mid (state_of c.run.new.self) c.args.self.now middle c.in-Some.orders.items next.0 next.2 plans c.run.ensures.limited c.in_ok-run.ensures.ran in
    (next.0.lacks, done.0, next.1, refl)

pub returns-clause-holds : goal.returns-clause-holds
returns-clause-holds g c =
    let middle : RunOf _ _ = record { parts = c.self.inside.executions; rounds = c.self.inside.rounds; stage = c.self.inside.stage } in
    let next = rw (c.in-Some.is, ← c.self.view_is) at c.in_ok-orders.ensures.next in
    let holds = rw (← c.self.view_is) at c.in_ok-orders.ensures.holds in
    let ran = c.in_ok-run.ensures.ran in
    takes-holds g.P.Execute.program g.P.Execute.text_of g.P.Execute.loaders g.P.Execute.fits c.advance.new.session c.run.new.self middle ran.replies next.2 ran.stored holds

pub returns-clause-run : goal.returns-clause-run
returns-clause-run g c = λ begun is.
    let old = state_of c.args.session.now in
    let mid = state_of c.advance.new.session in
    let middle : RunOf _ _ = record { parts = c.self.inside.executions; rounds = c.self.inside.rounds; stage = c.self.inside.stage } in
    let next = rw (c.in-Some.is, ← c.self.view_is) at c.in_ok-orders.ensures.next in
    let plans = rw (← c.self.view_is) at c.in_ok-orders.ensures.kept.plans in
    let done = turned g.P.Execute.program g.P.Execute.text_of g.P.Execute.loaders g.P.Execute.fits g.S.LocalSource.may_tell old mid (state_of c.run.new.self) c.args.self.now middle c.in-Some.orders.items next.0 next.2 plans c.run.ensures.limited c.in_ok-run.ensures.ran in
    let goes = subst (λ r. GoesOnFrom g.P.Execute.program g.P.Execute.text_of g.S.LocalSource.may_tell mid (state_of c.run.new.self) r (record middle { stage = Ready })) c.self.view_is done.1 in
    goes begun (c.in_ok-orders.ensures.run begun is)
