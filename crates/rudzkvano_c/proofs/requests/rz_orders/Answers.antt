use Rattle.std.proofs.Common.{rules}
use Rattle.rudzkvano_c.proofs.Holding.{copies_held, keeps_held}
use Rattle.rudzkvano_c.proofs.requests.rz_orders.Goals as goal

pub returns-clause-copied : goal.returns-clause-copied
returns-clause-copied c = (_, search rules, copies_held _ _ _ _ _ _ _ (λ e. e) (λ x y k. search rules) _ _ c.on_client.ensures)

pub returns-clause-kept : goal.returns-clause-kept
returns-clause-kept c = keeps_held _ _ _ _ _ (λ x y k. search rules) _ _ c.on_client.ensures
