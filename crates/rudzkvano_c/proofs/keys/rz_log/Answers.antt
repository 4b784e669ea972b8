use Rattle.std.proofs.Common.{rules, Err}
use Rattle.host_clients.specs.declared.fault.Fault.TheVariants as fault
use Rattle.rudzkvano_c.proofs.Holding.{copies_held}
use Rattle.rudzkvano_c.proofs.keys.rz_log.Goals as goal

pub returns-in-Err-clause-copied : goal.returns-in-Err-clause-copied
returns-in-Err-clause-copied c =
    (Err c.in-Err.fault, search rules, copies_held _ _ _ _ c.on_client.result _ (Err c.in-Err.fault) (search rules) (λ x y k. tt) _ _ c.on_client.ensures)

pub returns-then-not-has_rounds-clause-copied : goal.returns-then-not-has_rounds-clause-copied
returns-then-not-has_rounds-clause-copied c =
    (Err fault.BadSize, search rules, copies_held _ _ _ _ c.on_client.result _ (Err fault.BadSize) (search rules) (λ x y k. tt) _ _ c.on_client.ensures)

pub returns-in-Err-copy_keys-clause-copied : goal.returns-in-Err-copy_keys-clause-copied
returns-in-Err-copy_keys-clause-copied c =
    (Err c.in-Err-copy_keys.fault, search rules, copies_held _ _ _ _ c.on_client.result _ (Err c.in-Err-copy_keys.fault) (search rules) (λ x y k. tt) _ _ c.on_client.ensures)

pub returns-clause-copied : goal.returns-clause-copied
returns-clause-copied c =
    (c.copy_rounds.result, search rules, copies_held _ _ _ _ c.on_client.result _ c.copy_rounds.result (search rules) (λ x y k. search rules) _ _ c.on_client.ensures)
