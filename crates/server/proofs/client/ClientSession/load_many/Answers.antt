use Rattle.std.proofs.Common.{◌≤◌, map, sym, subst, length}
use Rattle.load_memory.specs.Keys.{key_of}
use Rattle.load_memory.specs.Outcomes.{outcome_of}
use Rattle.load_rounds.specs.Histories.{Loading, StoppedLoading}
use Rattle.server.proofs.Outcomes.{called-many}
use Rattle.server.proofs.client.ClientSession.load_many.Goals as goal

pub invariant_of-self : goal.invariant_of-self
invariant_of-self g c =
    let keys = map key_of c.args.keys.now in
    let e = c.load_many.ensures in
    let many = called-many g.S.LocalSource.may_tell c.self.inside.session c.load_many.new.self (λ outcomes. Loading c.args.loader keys (map outcome_of outcomes.items)) (StoppedLoading c.args.loader keys) c.load_many.result e.refused e.no_memory e.loaded in
    subst (λ n. length c.self.inside.queries.bindings.loaders ≤ n) (sym many) c.self.invariant

pub returns-clause-no_memory : goal.returns-clause-no_memory
returns-clause-no_memory g c = rw (← c.self.view_is) c.load_many.ensures.no_memory
