-- Definitions of how the outcomes of the keys that a client loaded last are copied: first the rows, and
-- then the faults.
use Rattle.std.specs.Prelude.{ℕ, ◌≡◌, List, Result, Ok, Err, OnOk}
use Rattle.load_memory.specs.Outcomes.{OutcomeOf}
use Rattle.flat_outcomes.specs.Said.{outcomes_said}
use Rattle.flat_outcomes.specs.Written.{all_faults}
use Rattle.host_clients.specs.Loads.{AreOutcomesOf}
use Rattle.host_clients.specs.declared.client.HostClient.{HostClient}
use Rattle.host_clients.specs.declared.client.HostClient.TheVariants.{Loaded}
use Rattle.host_clients.specs.declared.fault.Fault.{Fault}
use Rattle.host_clients.specs.declared.fault.Fault.TheVariants as fault

-- a client has these outcomes, which are those of the keys that it loaded last
abbrev pub HasOutcomes : List OutcomeOf → HostClient → Type 0
HasOutcomes outcomes (Loaded d) = (outcomes ≡ d.outcomes)
    × AreOutcomesOf d.client.server d.asked outcomes
HasOutcomes outcomes client = ⊥

-- says why a client has none
abbrev pub LacksOutcomes : HostClient → Fault → Type 0
LacksOutcomes (Loaded d) e = ⊥
LacksOutcomes client e = e ≡ fault.Idle

-- with the client's faults these numbers and texts say its outcomes
abbrev pub CopiesRows : List ℕ → List ℕ → List (List ℕ)
    → HostClient → Result (Unit {0}) Fault → Type 0
CopiesRows counts widths texts (Loaded d) done =
    OnOk done ((outcomes_said counts widths texts (all_faults d.outcomes) ≡ d.outcomes)
    × AreOutcomesOf d.client.server d.asked d.outcomes)
CopiesRows counts widths texts client done = done ≡ Err fault.Idle

-- the texts are the client's faults
abbrev pub CopiesFaults : List (List ℕ) → HostClient → Result (Unit {0}) Fault → Type 0
CopiesFaults faults (Loaded d) done = OnOk done (faults ≡ all_faults d.outcomes)
CopiesFaults faults client done = done ≡ Err fault.Idle

-- says the same once the rows were copied, unless that was refused
abbrev pub CopiesFaultsAfter : Result (Unit {0}) Fault
    → List (List ℕ) → HostClient → Result (Unit {0}) Fault → Type 0
CopiesFaultsAfter (Ok copied) faults client done = CopiesFaults faults client done
CopiesFaultsAfter (Err e) faults client done = done ≡ Err e
