use Rattle.std.proofs.Common.{refl}
use Rattle.load_rounds.specs.declared.rounds.Stage.TheVariants.{Ready}
use Rattle.load_rounds.proofs.Stages.{begins}
use Rattle.load_rounds.proofs.session.Session.begin_all.Goals as goal

pub returns-clause-begun : goal.returns-clause-begun
returns-clause-begun g c =
    rw c.over.ensures (begins g.P.Execute.program g.P.Execute.text_of g.P.Execute.loaders g.P.Execute.fits g.S.LocalSource.may_tell c.args.self.now c.forget.new.self c.args.plans.items (record { parts = c.in_ok-of.field-0; rounds = 0; stage = Ready }) c.forget.ensures.after c.in_ok-of.ensures refl refl c.requires)
