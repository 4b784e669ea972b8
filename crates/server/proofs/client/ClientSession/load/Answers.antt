use Rattle.std.proofs.Common.{◌≤◌, ◌∷◌, [], sym, subst, length}
use Rattle.load_memory.specs.Keys.{key_of}
use Rattle.load_memory.specs.Outcomes.{outcome_of}
use Rattle.load_rounds.specs.Histories.{Loading, StoppedLoading}
use Rattle.server.proofs.Outcomes.{called-many}
use Rattle.server.proofs.client.ClientSession.load.Goals as goal

pub invariant_of-self : goal.invariant_of-self
invariant_of-self g c =
    let keys = key_of c.args.key ∷ [] in
    let e = c.load.ensures in
    let many = called-many g.S.LocalSource.may_tell c.self.inside.session c.load.new.self (λ outcome. Loading c.args.loader keys (outcome_of outcome ∷ [])) (StoppedLoading c.args.loader keys) c.load.result e.refused e.no_memory e.loaded in
    subst (λ n. length c.self.inside.queries.bindings.loaders ≤ n) (sym many) c.self.invariant
