use Rattle.std.proofs.Common.{refl}
use Rattle.load_rounds.proofs.Lending.{held-set}
use Rattle.load_rounds.proofs.executions.Executions.execution_mut.Goals as goal

pub returns : goal.returns
returns g c =
    let at = rw (← c.self.view_is) at c.requires in
    ((refl, λ w. rw (← c.self.view_is) (held-set c.self.inside.held c.args.at w at)), record { lends = tt; value = rw (← c.self.view_is) c.execution_mut.ensures.value })
