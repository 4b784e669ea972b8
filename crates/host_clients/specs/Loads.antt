-- Keys that a client loads, how far that is, and their outcomes.
use Rattle.std.specs.Prelude.{ℕ, ◌≡◌, List, map}
use Rattle.load_memory.specs.Cells.{cut}
use Rattle.load_memory.specs.Keys.{KeyOf}
use Rattle.load_memory.specs.Outcomes.{OutcomeOf}
use Rattle.load_queue.specs.Orders.{OrderOf}
use Rattle.flat_orders.specs.Written.{keys_said}
use Rattle.load_rounds.specs.Histories.{Loading, any_tell}
use Rattle.plan_requests.specs.Servers.{ServerOf}
use Rattle.load_rounds.specs.Reading.{KeysOf}
use Rattle.rounds_by_hand.specs.Hands.{pending_in}
use Rattle.rounds_by_hand.specs.Pending.{order_in}
use Rattle.server.specs.Clients.{ClientOf, IsClientCall}
use Rattle.server.specs.LoadsByHand.{LoadByHandOf, IsLoadUnderway}
use Rattle.rounds_by_hand.specs.declared.handed_in.HandedIn.{HandedIn}
use Rattle.host_clients.specs.UnderWay.{HoldsWork}

-- the keys of a host's texts, which end at these places: for each key the number of its texts
abbrev pub keys_in : List ℕ → List ℕ → List ℕ → List KeyOf
keys_in shapes ends bytes = keys_said shapes (cut bytes 0 ends)

-- the orders of the round that is out
abbrev pub load_orders : LoadByHandOf HandedIn → List OrderOf
load_orders hand = map order_in (pending_in hand.far)

-- says what holds between calls
abbrev pub HoldsLoading : LoadByHandOf HandedIn → List OrderOf → Type 0
HoldsLoading hand orders = HoldsWork hand.client.server hand.far
    (λ c. IsLoadUnderway any_tell c.session hand) (λ c. Unit {0}) orders

-- a client with the outcomes of the keys that it loaded last
pub record LoadedOf : Type 0 where
  pub client : ClientOf HandedIn
  pub asked : KeysOf
  pub outcomes : List OutcomeOf

-- The outcomes are those of the keys, one for each, as `load_many` gives them: in the session of some client of this server, from one state
-- to a later one, in which the keys that weren't known were asked for in one round.
pub record AreOutcomesOf (server : ServerOf) (asked : KeysOf)
    (outcomes : List OutcomeOf) : Type 0 where
  pub begun : ClientOf HandedIn
  pub later : ClientOf HandedIn
  pub of_server : begun.server ≡ server
  pub loads : IsClientCall any_tell (Loading asked.loader asked.keys outcomes) begun later
