use Rattle.std.proofs.Common.{rules}
use Rattle.rudzkvano_c.proofs.Holding.{made_held}
use Rattle.rudzkvano_c.proofs.queries.rz_queries.Goals as goal

pub returns-clause-made : goal.returns-clause-made
returns-clause-made c =
    (c.on_object-made.result, made_held _ _ _ _ _ _ (λ x y k. search rules) _ _ c.on_object-made.ensures, (c.put_made.result, search rules, c.put_made.ensures))
