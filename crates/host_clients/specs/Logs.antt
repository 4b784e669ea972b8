-- Definitions of what a loader was asked, as C is told.
use Rattle.std.specs.Prelude.{ℕ, ◌≡◌, List, Option, MatchOption, map, option_map, slice_get, if◌then◌else◌}
use Rattle.load_memory.specs.Keys.{KeyOf}
use Rattle.load_queue.specs.Loaders.{AskedOf, LoaderOf}
use Rattle.server.specs.Clients.{ClientOf}
use Rattle.rounds_by_hand.specs.declared.handed_in.HandedIn.{HandedIn}
use Rattle.host_clients.specs.Clients.{client_in}
use Rattle.host_clients.specs.declared.client.HostClient.{HostClient}

abbrev pub round_in : AskedOf → ℕ
round_in a = a.round

-- 1 where the replies were stored
abbrev pub stored_in : AskedOf → ℕ
stored_in a = if a.stored then 1 else 0

abbrev pub keys_in : AskedOf → List KeyOf
keys_in a = a.keys

-- the batches that a loader was asked for, if there is a loader of that number
abbrev pub log_in : ClientOf HandedIn → ℕ → Option (List AskedOf)
log_in c loader = option_map (λ (l : LoaderOf HandedIn). l.log) (slice_get c.session.loaders loader)

-- for each batch its round, whether its replies were stored, and its keys
pub record AreBatches (log : List AskedOf) (rounds stored : List ℕ)
    (keys : List (List KeyOf)) : Type 0 where
  pub rounds_are : rounds ≡ map round_in log
  pub stored_are : stored ≡ map stored_in log
  pub keys_are : keys ≡ map keys_in log

-- of the log of a client's loader this holds
abbrev pub LogHolds : (List AskedOf → Type 0) → HostClient → ℕ → Type 0
LogHolds holds client loader = MatchOption (log_in (client_in client) loader) ⊥ holds
