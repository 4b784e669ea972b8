use Rattle.std.proofs.Common.{rules}
use Rattle.rudzkvano_c.proofs.Holding.{made_held}
use Rattle.rudzkvano_c.proofs.servers.rz_loaders.Goals as goal

pub returns-clause-copied : goal.returns-clause-copied
returns-clause-copied c = (_, search rules, made_held _ _ _ _ _ _ (λ x y k. search rules) _ _ c.on_object.ensures)
