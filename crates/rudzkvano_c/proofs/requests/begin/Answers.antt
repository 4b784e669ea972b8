use Rattle.std.proofs.Common.{rules}
use Rattle.rudzkvano_c.proofs.Holding.{makes_held}
use Rattle.rudzkvano_c.proofs.requests.begin.Goals as goal

pub returns-clause-begun : goal.returns-clause-begun
returns-clause-begun c = (_, search rules, makes_held _ _ _ _ _ _ _ (λ e. e) (λ x y k. search rules) _ _ c.on_client.ensures)
