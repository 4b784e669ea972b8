use Rattle.std.proofs.Common.{rules}
use Rattle.rudzkvano_c.proofs.Holding.{makes_held}
use Rattle.rudzkvano_c.proofs.keys.rz_prime.Goals as goal

pub returns : goal.returns
returns c =
    (c.tell.result, search rules, makes_held _ _ _ _ c.on_client-added.result _ c.tell.result (search rules) (λ x y k. search rules) _ _ c.on_client-added.ensures)
