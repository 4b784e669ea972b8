-- A client that is answered by hand: what contracts see of it, and what was done in its session since.
use Rattle.std.specs.Prelude.{◌≡◌, ◌⊎◌, ℕ, Bool, true, List, map, option_map, string_bytes, Option, Some, None, IfOk, IfSome, OnErr, Result}
use Rattle.std.specs.Global.{Vec}
use Rattle.load_memory.specs.Keys.{KeyOf}
use Rattle.load_memory.specs.declared.outcome.Item.{Item}
use Rattle.std.specs.declared.alloc.AllocError.{AllocError}
use Rattle.load_queue.specs.Answers.{AnswerOf}
use Rattle.load_queue.specs.declared.source.FetchFault.{FetchFault}
use Rattle.gq_resolve.specs.declared.root_state.RootState.{RootState}
use Rattle.load_rounds.specs.SharedRounds.{report_of}
use Rattle.load_rounds.specs.declared.answer.Answer.{Answer}
use Rattle.rounds_by_hand.specs.Hands.{FarOf, HandOf, handed, hand_of, AsksAndMoves, Holds, HasGone, IsOver, Moves, Nears as HandNears, StoresAskedFrom, StoresFrom}
use Rattle.rounds_by_hand.specs.Pending.{order_in, MayReply}
use Rattle.rounds_by_hand.specs.Progress.{done_in}
use Rattle.rounds_by_hand.specs.declared.pending.Pending.{Pending}
use Rattle.rounds_by_hand.specs.declared.progress.Progress.{Progress}
use Rattle.server.specs.Plans.{limited_program, limited_text, limited_loaders, limited_fits, limited_left}
use Rattle.server.specs.Clients.{ClientOf, HasLoaders, IsSameClient}
use Rattle.server.specs.Planned.{AskedOf, PlannedOf, PlansAsked, AnswersAsked, StopsAsked, IsResponseOf, is_refused}
use Rattle.gq_resolve.specs.PreparedPlans.{LimitedPlanOf}
use Rattle.server.specs.declared.planned.ResponseForm.{ResponseForm}

-- the client as it is, what it is asked, and how far that is
pub record ByHandOf (S : Type 0) : Type 0 where
  pub client : ClientOf S
  pub planned : PlannedOf
  pub far : FarOf LimitedPlanOf RootState

-- says what is made of the answers to the plans: a response of this form
abbrev pub MakesResponse : Bool → List (Option (List ℕ)) → Vec Answer → Answer → Type 0
MakesResponse many refusals answers answer =
    IsResponseOf many refusals (map report_of answers.items) (report_of answer)

-- the refusals of a response
abbrev pub refusals_in : ResponseForm → List (Option (List ℕ))
refusals_in form = map (option_map string_bytes) form.refusals

-- what is planned, by its parts
abbrev pub planned_of : ResponseForm → ℕ → List LimitedPlanOf → PlannedOf
planned_of form loaders plans = record {
  many = form.is_array;
  refusals = refusals_in form;
  plans = plans;
  loaders = loaders;
}

module _ {S : Type 0} where
  abbrev pub by_hand_of : ClientOf S → PlannedOf → FarOf LimitedPlanOf RootState → ByHandOf S
  by_hand_of client planned far = record { client = client; planned = planned; far = far }

  -- the plans in the client's session, within its limits, and how far they are
  abbrev pub hand_in : ByHandOf S → HandOf S LimitedPlanOf RootState
  hand_in b = hand_of b.client.session b.planned.plans b.client.limits b.far

  -- Gives what holds between calls: the client has its loaders and the limits of the hand, and nothing is asked for a refused request.
  pub record HoldsByHand (client : ClientOf S) (planned : PlannedOf) (refuses : Bool)
      (hand : HandOf S LimitedPlanOf RootState) : Type 0 where
    pub loaders : HasLoaders client.server client.session
    pub limits : hand.limits ≡ client.limits
    pub refuses_is : refuses ≡ is_refused planned
    pub holds : Holds limited_program limited_text limited_loaders limited_fits
        hand.session hand.plans hand.limits hand.far
    pub refused : is_refused planned ≡ true → hand.far ≡ handed

  -- it is over, or what is asked is one request that is refused, for which nothing is done
  abbrev pub Ends : ByHandOf S → ByHandOf S → Type 0
  Ends old new = ((is_refused old.planned ≡ true) × (new ≡ old)) ⊎ IsOver new.far

  -- says what a call did, and one that asks the sources
  abbrev pub Steps : ByHandOf S → ByHandOf S → Progress Answer → Type 0
  Steps old new = Moves old.far new.far (Ends old new) (new ≡ old)

  abbrev pub AsksAndSteps : ByHandOf S → ByHandOf S → Progress Answer → Type 0
  AsksAndSteps old new = AsksAndMoves old.far new.far (Ends old new) (new ≡ old)

  -- A call left steps: the client has a limit on those. Where some were left before it, its session is as it was, and fewer are left. So such
  -- calls in a row come to an end.
  abbrev pub Nears : ByHandOf S → ByHandOf S → Progress Answer → Type 0
  Nears old new = HandNears limited_left (hand_in old) (hand_in new)

  -- it is one request that is refused, and the client stays as it is
  abbrev pub StaysRefused : ByHandOf S → ClientOf S → Type 0
  StaysRefused old client = (is_refused old.planned ≡ true) × (client ≡ old.client)

  -- What the client knows after a step: what it knew before, with just what the replies to the round say that was out.
  abbrev pub StoresReplies : ByHandOf S → ClientOf S → Type 0
  StoresReplies old client = StaysRefused old client
      ⊎ StoresFrom old.far old.client.session client.session

  -- a future that hasn't answered yet
  abbrev pub CanPoll : Option (ByHandOf S) → Type 0
  CanPoll None = ⊥
  CanPoll (Some b) = ¬ (IsOver b.far)

  module _ (may : S → List KeyOf → AnswerOf → Type 0) where
    -- It was begun on this client, within its limits and on its session, as it was then. Since then nothing but its rounds was made there, and
    -- each order has a reply that its source may give, or none yet.
    pub record IsUnderway (begun : ClientOf S) (b : ByHandOf S) : Type 0 where
      pub limits : b.client.limits ≡ begun.limits
      pub gone : HasGone limited_program limited_text may begun.session
          b.client.session b.planned.plans b.client.limits b.far

    -- says what was so before a call is so after it, from whichever client it was begun on
    abbrev pub GoesOn : ByHandOf S → ByHandOf S → Type 0
    GoesOn old new = (begun : ClientOf S) → IsUnderway begun old → IsUnderway begun new

    -- says the same where an order gets a reply, if it is one that the order's source may give
    abbrev pub GoesOnIfMay : Result (Vec Item) FetchFault
        → ByHandOf S → ByHandOf S → Pending → Type 0
    GoesOnIfMay given old new one = MayReply may old.client.session.loaders (order_in one) given
        → GoesOn old new

    -- What it knows after a step in which the sources were asked for the orders without a reply.
    abbrev pub AsksAndStores : ByHandOf S → ClientOf S → Type 0
    AsksAndStores old client = StaysRefused old client
        ⊎ StoresAskedFrom may old.far old.client.session client.session

    -- says what answers it answers what was asked of the client that it was begun on, in the client's session as it is now
    abbrev pub Responds : ByHandOf S → ByHandOf S → Progress Answer → Type 0
    Responds old new did = IfSome (done_in did) (λ answer. (c : ClientOf S) (asked : AskedOf)
        → IsUnderway c old → PlansAsked c asked old.planned
        → AnswersAsked may c asked (report_of answer) new.client.session)

    -- it is given up: the finished rounds of what was asked stay in the session, and perhaps one more was lost
    abbrev pub GivesUp : ByHandOf S → ClientOf S → Type 0
    GivesUp b client = (c : ClientOf S) (asked : AskedOf) → IsUnderway c b
        → PlansAsked c asked b.planned → StopsAsked may c asked client.session

    -- ---- as a future

    -- gives what comes of it: the client is handed back with what answers what was asked, or memory ran out at it
    pub record GivesFrom (b : ByHandOf S)
        (out : ClientOf S × Result Answer AllocError) : Type 0 where
      pub answered : (c : ClientOf S) (asked : AskedOf)
          → IsUnderway c b → PlansAsked c asked b.planned
          → IfOk out.1 (λ answer. AnswersAsked may c asked (report_of answer) out.0.session)
      pub stopped : (c : ClientOf S) (asked : AskedOf)
          → IsUnderway c b → PlansAsked c asked b.planned
          → OnErr out.1 (StopsAsked may c asked out.0.session)
      pub same : IsSameClient b.client out.0

    -- gives the same, and nothing comes of a future that has answered
    abbrev pub Gives : Option (ByHandOf S) → ClientOf S × Result Answer AllocError → Type 0
    Gives None out = ⊥
    Gives (Some b) out = GivesFrom b out
