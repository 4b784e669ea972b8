use Rattle.std.proofs.Common.{◌≤◌, length, refl, [], ◌∷◌}
use Rattle.std.proofs.lemmas.List.Elements.{All-nil, All-cons}
use Rattle.load_rounds.specs.declared.rounds.Stage.TheVariants.{Ready}
use Rattle.load_rounds.proofs.Stages.{begins}
use Rattle.load_rounds.proofs.session.Session.begin.Goals as goal

pub returns-clause-begun : goal.returns-clause-begun
returns-clause-begun g c =
    let old = c.args.self.now in
    let plan = c.args.plan.now in
    let begun = rw c.of.ensures at c.of_one.ensures in
    let enough = All-cons (λ p. g.P.Execute.loaders p ≤ length old.loaders) plan [] c.requires (All-nil (λ p. g.P.Execute.loaders p ≤ length old.loaders)) in
    rw c.over.ensures (begins g.P.Execute.program g.P.Execute.text_of g.P.Execute.loaders g.P.Execute.fits g.S.LocalSource.may_tell old c.forget.new.self (plan ∷ []) (record { parts = c.of_one.result; rounds = 0; stage = Ready }) c.forget.ensures.after begun refl refl enough)
