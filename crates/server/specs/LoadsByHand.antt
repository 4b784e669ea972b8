-- Keys that a client loads by hand: a hand whose one program reads them, in the client's session, and what was done there since it was begun.
use Rattle.std.specs.Prelude.{◌≡◌, ◌≢◌, ◌⊎◌, List, [], ◌∷◌, Result, IfSome, map}
use Rattle.std.specs.Global.{Vec}
use Rattle.load_memory.specs.Keys.{KeyOf}
use Rattle.load_memory.specs.Outcomes.{outcome_of}
use Rattle.load_memory.specs.declared.outcome.Item.{Item}
use Rattle.load_memory.specs.declared.outcome.Outcome.{Outcome}
use Rattle.load_queue.specs.Answers.{AnswerOf}
use Rattle.load_queue.specs.declared.source.FetchFault.{FetchFault}
use Rattle.execution.specs.Rounds.{AreLimited}
use Rattle.load_rounds.specs.Calls.{AreKnown}
use Rattle.load_rounds.specs.Histories.{Loading, StoppedLoading}
use Rattle.load_rounds.specs.Limits.{no_limits}
use Rattle.load_rounds.specs.Reading.{KeysOf, keys_fits, keys_loaders, keys_program, keys_text}
use Rattle.load_rounds.specs.Sessions.{SessionOf, state_of, rules_of}
use Rattle.load_rounds.specs.declared.answer.Answer.{Answer}
use Rattle.plan_requests.specs.Servers.{ServerOf}
use Rattle.rounds_by_hand.specs.Hands.{FarOf, HandOf, handed, AsksAndMoves, HasGone, Holds, IsOver, IsReady, Moves, StoresAskedFrom, StoresFrom}
use Rattle.rounds_by_hand.specs.Pending.{order_in, MayReply}
use Rattle.rounds_by_hand.specs.Progress.{done_in}
use Rattle.rounds_by_hand.specs.declared.pending.Pending.{Pending}
use Rattle.rounds_by_hand.specs.declared.progress.Progress.{Progress}
use Rattle.rounds_by_hand.specs.declared.progress.Progress.TheVariants.{Round, Working}
use Rattle.server.specs.Clients.{ClientOf, HasLoaders, IsClientCall}

-- the client as it is, the keys that it loads, and how far that is
pub record LoadByHandOf (S : Type 0) : Type 0 where
  pub client : ClientOf S
  pub keys : KeysOf
  pub far : FarOf KeysOf (Unit {0})

module _ {S : Type 0} where
  abbrev pub load_by_hand_of : ClientOf S → KeysOf → FarOf KeysOf (Unit {0}) → LoadByHandOf S
  load_by_hand_of client keys far = record { client = client; keys = keys; far = far }

  -- says what a call did, and one that asks the source; a load has at most one round, and no call leaves steps
  abbrev pub AdvancesLoad : LoadByHandOf S → LoadByHandOf S → Progress (Vec Outcome) → Type 0
  AdvancesLoad old new did = Moves old.far new.far (IsOver new.far) (new ≡ old) did
      × (did ≡ Round → old.far ≡ handed) × (did ≢ Working)

  abbrev pub AsksAndAdvancesLoad : LoadByHandOf S
      → LoadByHandOf S → Progress (Vec Outcome) → Type 0
  AsksAndAdvancesLoad old new did = AsksAndMoves old.far new.far (IsOver new.far) (new ≡ old) did
      × (did ≡ Round → old.far ≡ handed) × (did ≢ Working)

  -- What the client knows after a step: what it knew before, with just what the replies to the round say that was out.
  abbrev pub ClientStores : LoadByHandOf S → ClientOf S → Type 0
  ClientStores old client = StoresFrom old.far old.client.session client.session

  -- No public clause names it. Says what is made of the answer of the hand: the outcomes that the session knows.
  abbrev pub TellsOutcomes : SessionOf S → KeysOf → Vec Answer → Vec Outcome → Type 0
  TellsOutcomes now keys answers outcomes =
      AreKnown (state_of now) keys.loader keys.keys (map outcome_of outcomes.items)

  -- No public clause names it. What holds between calls: the client has its loaders, of which no limit is 0, and the hand reads the keys,
  -- without limits, so that no steps are left.
  pub record HoldsLoad (server : ServerOf) (keys : KeysOf)
      (hand : HandOf S KeysOf (Unit {0})) : Type 0 where
    pub has : HasLoaders server hand.session
    pub limited : AreLimited (rules_of (state_of hand.session))
    pub plans : hand.plans ≡ keys ∷ []
    pub unlimited : hand.limits ≡ no_limits
    pub whole : ¬ (IsReady hand.far)
    pub holds : Holds keys_program keys_text keys_loaders keys_fits
        hand.session hand.plans hand.limits hand.far

  module _ (may : S → List KeyOf → AnswerOf → Type 0) where
    -- The load was begun on this session, as it was then. Since then nothing but its round was made in it, and each order has a reply that
    -- its source may give, or none yet.
    abbrev pub IsLoadUnderway : SessionOf S → LoadByHandOf S → Type 0
    IsLoadUnderway begun b =
        HasGone keys_program keys_text may begun b.client.session (b.keys ∷ []) no_limits b.far

    -- says what was so before a call is so after it, from whichever session the load was begun on
    abbrev pub LoadGoesOn : LoadByHandOf S → LoadByHandOf S → Type 0
    LoadGoesOn old new = (begun : SessionOf S) → IsLoadUnderway begun old → IsLoadUnderway begun new

    -- says the same where an order gets a reply, if it is one that the order's source may give
    abbrev pub LoadGoesOnIfMay : Result (Vec Item) FetchFault
        → LoadByHandOf S → LoadByHandOf S → Pending → Type 0
    LoadGoesOnIfMay given old new one =
        MayReply may old.client.session.loaders (order_in one) given → LoadGoesOn old new

    -- What it knows after a step in which the source was asked for the orders without a reply.
    abbrev pub ClientAsksAndStores : LoadByHandOf S → ClientOf S → Type 0
    ClientAsksAndStores old client =
        StoresAskedFrom may old.far old.client.session client.session

    -- The keys were loaded, from whichever client the load was begun in: all that was done in its session is a call that loads them.
    abbrev pub ClientLoads : LoadByHandOf S → LoadByHandOf S → Progress (Vec Outcome) → Type 0
    ClientLoads old new did = IfSome (done_in did) (λ outcomes. (c : ClientOf S)
        → IsLoadUnderway c.session old → IsClientCall may
        (Loading old.keys.loader old.keys.keys (map outcome_of outcomes.items)) c new.client)

    -- The client as it is when the load is given up: nothing was done in its session, or what a call does that stops.
    abbrev pub ClientStopsLoad : LoadByHandOf S → ClientOf S → Type 0
    ClientStopsLoad old client =
        (c : ClientOf S) → IsLoadUnderway c.session old → (client.session ≡ c.session)
        ⊎ IsClientCall may (StoppedLoading old.keys.loader old.keys.keys) c client
