-- The outcomes of the keys that a client loaded last, which are copied in two steps. Assumes nothing.
use Rattle.std.proofs.Common.{◌≡◌, ◌∙◌, Ok, Err, List, ap, subst, sym}
use Rattle.std.specs.Prelude.{ℕ, Result}
use Rattle.load_memory.specs.Outcomes.{OutcomeOf}
use Rattle.flat_outcomes.specs.Said.{outcomes_said}
use Rattle.host_clients.specs.Loads.{AreOutcomesOf}
use Rattle.host_clients.specs.declared.client.HostClient.{HostClient}
use Rattle.host_clients.specs.declared.client.HostClient.TheVariants.{Idle, Asked, Answered, Loading, Loaded}
use Rattle.host_clients.specs.declared.fault.Fault.{Fault}
use Rattle.rudzkvano_c.specs.Held.{CopiesOutcomes}
use Rattle.rudzkvano_c.specs.Loads.{CopiesFaults, CopiesFaultsAfter, CopiesRows}

module _ (counts widths : List ℕ) (texts faults : List (List ℕ)) where
  abbrev all_said : List OutcomeOf
  all_said = outcomes_said counts widths texts faults

  -- both were copied
  both_copied : (c : HostClient) (done : Result (Unit {0}) Fault) → CopiesRows counts widths texts c (Ok tt) → CopiesFaults faults c done → CopiesOutcomes all_said c done
  both_copied (Loaded d) (Ok copied) rows are =
      let is : all_said ≡ d.outcomes = ap (λ fs. outcomes_said counts widths texts fs) are ∙ rows.0 in
      (is, subst (AreOutcomesOf d.client.server d.asked) (sym is) rows.1)
  both_copied (Loaded d) (Err e) rows are = tt
  both_copied (Idle c) done rows are = are
  both_copied (Asked u) done rows are = are
  both_copied (Answered a) done rows are = are
  both_copied (Loading l) done rows are = are

  -- the rows were refused
  none_copied : (c : HostClient) (e : Fault) → CopiesRows counts widths texts c (Err e) → CopiesOutcomes all_said c (Err e)
  none_copied (Loaded d) e rows = tt
  none_copied (Idle c) e rows = rows
  none_copied (Asked u) e rows = rows
  none_copied (Answered a) e rows = rows
  none_copied (Loading l) e rows = rows

  pub outcomes_copied : (c : HostClient) (rows done : Result (Unit {0}) Fault) → CopiesRows counts widths texts c rows → CopiesFaultsAfter rows faults c done
      → CopiesOutcomes all_said c done
  outcomes_copied c (Ok copied) done rows are = both_copied c done rows are
  outcomes_copied c (Err e) done rows are = subst (CopiesOutcomes all_said c) (sym are) (none_copied c e rows)
