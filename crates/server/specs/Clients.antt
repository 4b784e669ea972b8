-- Definitions of what a contract sees of a client's session.
use Rattle.std.specs.Prelude.{◌≡◌, ◌≤◌, ℕ, List, Option, length}
use Rattle.load_memory.specs.Keys.{KeyOf}
use Rattle.load_memory.specs.Outcomes.{ItemOf, OutcomeOf}
use Rattle.load_memory.specs.Pairs.{PairOf, look}
use Rattle.load_queue.specs.Answers.{AnswerOf}
use Rattle.execution.specs.Rounds.{without_failed}
use Rattle.execution.specs.Sessions.{Cell}
use Rattle.plan_requests.specs.Servers.{ServerOf}
use Rattle.load_rounds.specs.Calls.{cell_at, pair_at}
use Rattle.load_rounds.specs.Histories.{Call, IsCallOf}
use Rattle.load_rounds.specs.Sessions.{SessionOf, restarted, state_of}
use Rattle.load_rounds.specs.declared.limits.Limits.{Limits}

-- the server that answers the client, how many bytes an answer has at most, within which limits what is asked together is answered, and the
-- session in which it is answered
pub record ClientOf (S : Type 0) : Type 0 where
  pub server : ServerOf
  pub most : Option ℕ
  pub limits : Limits
  pub session : SessionOf S

module _ {S : Type 0} where
  -- the session has a loader for each of the server's
  abbrev pub HasLoaders : ServerOf → SessionOf S → Type 0
  HasLoaders server session = length server.bindings.loaders ≤ length session.loaders

  abbrev pub client_of : ServerOf → Option ℕ → Limits → SessionOf S → ClientOf S
  client_of server most limits session =
      record { server = server; most = most; limits = limits; session = session }

  -- the client, whose session starts again
  abbrev pub begun : ClientOf S → ClientOf S
  begun c = client_of c.server c.most c.limits (restarted c.session)

  -- it is answered by the same server, and within the same limits
  pub record IsSameClient (old new : ClientOf S) : Type 0 where
    pub server : new.server ≡ old.server
    pub most : new.most ≡ old.most
    pub limits : new.limits ≡ old.limits

  -- a loader's key as the client's memory has it
  abbrev pub client_cell : ClientOf S → ℕ → KeyOf → Cell
  client_cell c loader key = cell_at (state_of c.session) loader key

  -- the pair of that key and an item
  abbrev pub client_pair : ClientOf S → ℕ → KeyOf → ItemOf → PairOf
  client_pair c loader key item = pair_at (state_of c.session) loader key item

  -- gives what is known of that key once failed batches are forgotten
  abbrev pub known_of : ClientOf S → ℕ → KeyOf → Option OutcomeOf
  known_of c loader key = without_failed (look c.session.pairs) loader (client_cell c loader key).1

  -- says what a call makes of the client's session
  abbrev pub IsClientCall : (S → List KeyOf → AnswerOf → Type 0)
      → Call → ClientOf S → ClientOf S → Type 0
  IsClientCall may call old new = IsCallOf may call old.session new.session
