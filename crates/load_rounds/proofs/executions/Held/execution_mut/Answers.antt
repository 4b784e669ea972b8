use Rattle.std.proofs.Common.{refl}
use Rattle.load_rounds.proofs.executions.Held.execution_mut.Goals as goal

pub returns-in-Several : goal.returns-in-Several
returns-in-Several g c =
    let value = rw c.in-Several.is at c.index_mut.ensures.value in
    rw c.in-Several.is ((refl, λ w. refl), record { lends = tt; value = value })
