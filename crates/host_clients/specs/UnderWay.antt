-- Definitions of what a client was asked, how far that is, and what answers it.
use Rattle.std.specs.Prelude.{ℕ, ◌≡◌, List, map}
use Rattle.load_queue.specs.Orders.{OrderOf}
use Rattle.load_rounds.specs.Histories.{any_tell}
use Rattle.load_rounds.specs.Sessions.{SessionOf}
use Rattle.load_rounds.specs.SharedRounds.{ReportOf}
use Rattle.load_rounds.specs.declared.limits.Limits.{Limits}
use Rattle.plan_requests.specs.Servers.{ServerOf}
use Rattle.rounds_by_hand.specs.Hands.{FarOf, pending_in}
use Rattle.rounds_by_hand.specs.Pending.{order_in}
use Rattle.server.specs.Clients.{ClientOf}
use Rattle.server.specs.Hands.{ByHandOf, IsUnderway}
use Rattle.rounds_by_hand.specs.declared.handed_in.HandedIn.{HandedIn}
use Rattle.host_clients.specs.Asked.{HostAsked, PlansHost, AnswersHost}

-- says what a client was asked, by which server it was planned, and how far that is
pub record UnderWayOf : Type 0 where
  pub hand : ByHandOf HandedIn
  pub server : ServerOf
  pub asked : HostAsked

-- What is on its way was begun on some client of this server, as it was then, of which the last holds. Since then nothing but its rounds was
-- made in the client's session. These are the orders of the round that is out.
pub record HoldsWork {P E : Type 0} (server : ServerOf) (far : FarOf P E)
    (has_gone is_for : ClientOf HandedIn → Type 0) (orders : List OrderOf) : Type 0 where
  pub begun : ClientOf HandedIn
  pub of_server : begun.server ≡ server
  pub underway : has_gone begun
  pub planned : is_for begun
  pub orders_are : orders ≡ map order_in (pending_in far)

-- says what holds of a request between calls: it is planned for the client that it was begun on
abbrev pub HoldsUnderWay : ServerOf → ByHandOf HandedIn → HostAsked → List OrderOf → Type 0
HoldsUnderWay server hand asked orders =
    HoldsWork server hand.far (λ c. IsUnderway any_tell c hand)
    (λ c. PlansHost c.server c.most asked hand.planned) orders

-- the orders of the round that is out
abbrev pub orders_out : ByHandOf HandedIn → List OrderOf
orders_out hand = map order_in (pending_in hand.far)

-- a client with the answer to what it was asked last, and the server that it was planned by
pub record AnsweredOf : Type 0 where
  pub client : ClientOf HandedIn
  pub server : ServerOf
  pub asked : HostAsked
  pub text : List ℕ
  pub rounds : ℕ

-- the report of it, with how many loads it read, which the client doesn't keep
abbrev pub report_in : AnsweredOf → ℕ → ReportOf
report_in a loads = record { text = a.text; rounds = a.rounds; loads = loads }

-- The text answers what was asked, by the definitions of serving: in the session of some client of this server, with these limits, from one
-- state to a later one, in which the loaders were asked exactly the batches of a lawful log.
pub record IsAnswerOf (server : ServerOf) (limits : Limits) (asked : HostAsked)
    (text : List ℕ) (rounds : ℕ) : Type 0 where
  pub begun : ClientOf HandedIn
  pub later : SessionOf HandedIn
  pub of_server : begun.server ≡ server
  pub limits_are : begun.limits ≡ limits
  pub loads : ℕ
  pub answers : AnswersHost any_tell begun asked
      (record { text = text; rounds = rounds; loads = loads }) later
