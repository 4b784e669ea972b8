use Rattle.std.proofs.Common.{rules}
use Rattle.rudzkvano_c.proofs.Holding.{copies_held}
use Rattle.rudzkvano_c.proofs.keys.rz_log_sizes.Goals as goal

pub returns-clause-sizes : goal.returns-clause-sizes
returns-clause-sizes c =
    (c.tell_sizes.result, search rules, copies_held _ _ _ _ c.on_client-told.result _ c.tell_sizes.result (search rules) (λ x y k. search rules) _ _ c.on_client-told.ensures)
