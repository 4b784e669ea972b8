use Rattle.std.proofs.Common.{rules}
use Rattle.rudzkvano_c.proofs.Holding.{makes_held}
use Rattle.rudzkvano_c.proofs.requests.rz_next.Goals as goal

pub returns : goal.returns
returns c = (_, search rules, makes_held _ _ _ _ _ _ _ (λ e. e) (λ x y k. search rules) _ _ c.on_client.ensures)
