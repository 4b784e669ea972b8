-- Definitions of what contracts see of rounds by hand, and what was done since they were begun.
use Rattle.std.specs.Prelude.{◌≡◌, ◌≤◌, ◌<◌, ◌⊎◌, ℕ, Bool, true, false, List, [], Option, Some, None, Result, Ok, IfSome, IsSome, map, length, All}
use Rattle.std.specs.List.{list_all}
use Rattle.std.specs.Global.{Vec}
use Rattle.load_memory.specs.Keys.{KeyOf}
use Rattle.load_memory.specs.Pairs.{MemoryOf}
use Rattle.load_memory.specs.declared.outcome.Item.{Item}
use Rattle.load_queue.specs.Answers.{AnswerOf}
use Rattle.load_queue.specs.declared.source.FetchFault.{FetchFault}
use Rattle.execution.specs.Program.{Program}
use Rattle.execution.specs.Completion.{AnsweredOf}
use Rattle.execution.specs.Rounds.{any_answer, may_at}
use Rattle.load_queue.specs.Loaders.{AreOnRecord}
use Rattle.load_rounds.specs.Sessions.{SessionOf, StateOf, state_of, rules_of, memory_of}
use Rattle.load_rounds.specs.Headline.{StopsAnswering}
use Rattle.load_rounds.specs.declared.answer.Answer.{Answer}
use Rattle.load_rounds.specs.ByHand.{orders_in, IsAsked, RunsAsked}
use Rattle.load_rounds.specs.SharedRounds.{requests, joint}
use Rattle.load_rounds.specs.Executions.{plans_in, left_in}
use Rattle.load_rounds.specs.Runs.{RunOf, IsRun, Holds as HoldsRun, GoesOnFrom, program_of}
use Rattle.load_rounds.specs.Limits.{AreAnswersWithin, AreAskedInTime, AreOver, AreRefused, AreWithin, IsWithin, MayGoOn}
use Rattle.load_rounds.specs.declared.limits.Limits.{Limits}
use Rattle.load_rounds.specs.declared.limits.Overrun.{Overrun}
use Rattle.load_rounds.specs.declared.rounds.Stage.TheVariants as stage
use Rattle.rounds_by_hand.specs.declared.fault.HandFault.{HandFault}
use Rattle.rounds_by_hand.specs.declared.fault.HandFault.TheVariants as fault
use Rattle.rounds_by_hand.specs.declared.hand.Far.{Far}
use Rattle.rounds_by_hand.specs.declared.hand.Far.TheVariants as rust
use Rattle.rounds_by_hand.specs.declared.pending.Pending.{Pending}
use Rattle.rounds_by_hand.specs.declared.progress.Progress.{Progress}
use Rattle.rounds_by_hand.specs.declared.progress.Progress.TheVariants.{Done, Round, Working, Waiting, Over}
use Rattle.rounds_by_hand.specs.Pending.{order_in, CanAsk, is_in, replies_in, IsReplied, MayReply}
use Rattle.rounds_by_hand.specs.Progress.{done_in}
use Rattle.rounds_by_hand.specs.Stored.{ForgetsFailed, KnowsTheSame, Stores, StoresRound}

-- says how far they are: nothing is done yet, or a run is ready to go on and has steps left, or a round of a run is out with its orders, or
-- nothing more can be done
pub data FarOf (P E : Type 0) : Type 0 where
  handed : FarOf P E
  ready : RunOf P E → FarOf P E
  out : RunOf P E → List Pending → FarOf P E
  over : FarOf P E

-- the session, what is answered in it, within which limits, and how far that is
pub record HandOf (S P E : Type 0) : Type 0 where
  pub session : SessionOf S
  pub plans : List P
  pub limits : Limits
  pub far : FarOf P E

abbrev pub hand_of : {S P E : Type 0} → SessionOf S → List P → Limits → FarOf P E → HandOf S P E
hand_of session plans limits far =
    record { session = session; plans = plans; limits = limits; far = far }

-- No public clause names it. What contracts see of how far they are.
abbrev pub far_of : {P E : Type 0} → Far P E → FarOf P E
far_of (rust.Handed plans) = handed
far_of (rust.Ready run) = ready run.value
far_of (rust.Out run pending) = out run.value pending.items
far_of rust.Over = over

-- No public clause names it. Where nothing is done yet, these are the plans.
abbrev pub AreHanded : {P E : Type 0} → Far P E → List P → Type 0
AreHanded (rust.Handed plans) seen = plans.items ≡ seen
AreHanded (rust.Ready run) seen = Unit {0}
AreHanded (rust.Out run pending) seen = Unit {0}
AreHanded rust.Over seen = Unit {0}

module _ {P E : Type 0} where
  -- the orders of the round that is out
  abbrev pub pending_in : FarOf P E → List Pending
  pending_in handed = []
  pending_in (ready run) = []
  pending_in (out run pending) = pending
  pending_in over = []

  -- nothing is done yet, or a run is ready, or each order of the round has a reply
  abbrev pub can_advance : FarOf P E → Bool
  can_advance handed = true
  can_advance (ready run) = true
  can_advance (out run pending) = list_all is_in pending
  can_advance over = false

  -- a round is out, none of whose orders has a reply
  abbrev pub IsNewRound : FarOf P E → Type 0
  IsNewRound handed = ⊥
  IsNewRound (ready run) = ⊥
  IsNewRound (out run pending) = All (λ one. is_in one ≡ false) pending
  IsNewRound over = ⊥

  -- a round is out, some of whose orders have no reply
  abbrev pub IsWaiting : FarOf P E → Type 0
  IsWaiting handed = ⊥
  IsWaiting (ready run) = ⊥
  IsWaiting (out run pending) = list_all is_in pending ≡ false
  IsWaiting over = ⊥

  -- a run is ready to go on, and has steps left
  abbrev pub IsReady : FarOf P E → Type 0
  IsReady handed = ⊥
  IsReady (ready run) = Unit {0}
  IsReady (out run pending) = ⊥
  IsReady over = ⊥

  abbrev pub IsOver : FarOf P E → Type 0
  IsOver far = far ≡ over

  -- how far they are once what is on its way is given up
  abbrev pub given_up : FarOf P E → FarOf P E
  given_up handed = handed
  given_up (ready run) = over
  given_up (out run pending) = over
  given_up over = over

module _ {T P E : Type 0} (old new : FarOf P E) (ended same : Type 0) where
  -- says what a call did, by how far they were before it and after it: one that gave what was asked for has `ended`, and of one that did
  -- nothing all is the `same`
  abbrev pub Moves : Progress T → Type 0
  Moves (Done done) = (can_advance old ≡ true) × ended
  Moves Round = (can_advance old ≡ true) × IsNewRound new
  Moves Working = (can_advance old ≡ true) × IsReady new
  Moves Waiting = IsWaiting old × same
  Moves Over = IsOver old × same

  -- says the same of a call that asks the sources for the orders without a reply: it never waits
  abbrev pub AsksAndMoves : Progress T → Type 0
  AsksAndMoves (Done done) = ¬ (IsOver old) × ended
  AsksAndMoves Round = ¬ (IsOver old) × IsNewRound new
  AsksAndMoves Working = ¬ (IsOver old) × IsReady new
  AsksAndMoves Waiting = ⊥
  AsksAndMoves Over = IsOver old × same

-- the loaders of a session stay, with their modes and limits, and each order that is made of one stands in its log
pub record KeepsLoaders {S : Type 0} (old new : StateOf S) : Type 0 where
  pub rules : rules_of new ≡ rules_of old
  pub recorded : AreOnRecord old.loaders new.loaders

module _ {S P : Type 0} (program : P → Program) (text_of : P → AnsweredOf → List ℕ)
    (may : S → List KeyOf → AnswerOf → Type 0) where
  -- from whichever session they were begun: the answers have the headline, and are within the limits
  abbrev pub TellsFrom : (SessionOf S → Type 0)
      → SessionOf S → List P → Limits → Option (Vec Answer) → Type 0
  TellsFrom from now plans limits given =
      IfSome given (λ answers. (begun : SessionOf S) → from begun → AreAnswersWithin may
      (state_of begun) (state_of now) limits (requests program text_of plans) (Ok answers))

module _ {S P E : Type 0} where
  -- says what a call of a hand did, and one that asks the sources
  abbrev pub Advances : HandOf S P E → HandOf S P E → Progress (Vec Answer) → Type 0
  Advances old new = Moves old.far new.far (IsOver new.far) (new ≡ old)

  abbrev pub AsksAndAdvances : HandOf S P E → HandOf S P E → Progress (Vec Answer) → Type 0
  AsksAndAdvances old new = AsksAndMoves old.far new.far (IsOver new.far) (new ≡ old)

  -- No public clause names it. A hand as it is where this run is ready in it.
  abbrev pub with_run : HandOf S P E → RunOf P E → HandOf S P E
  with_run h run = record h { far = ready run }

  -- how many steps a run that is ready has left, over what is known
  abbrev pub steps_in : (P → E → MemoryOf → ℕ) → SessionOf S → FarOf P E → ℕ
  steps_in left session handed = 0
  steps_in left session (ready run) = left_in left run.parts (memory_of session)
  steps_in left session (out run pending) = 0
  steps_in left session over = 0

  -- Of a call that leaves steps: there is a limit on them, and where some were left before it, the session is as it was, and fewer are left
  -- than were. So such calls in a row come to an end.
  abbrev pub Nears : {T : Type 0} → (P → E → MemoryOf → ℕ)
      → HandOf S P E → HandOf S P E → Progress T → Type 0
  Nears left old new Working = IsSome new.limits.steps
      × (IsReady old.far → (new.session ≡ old.session)
      × (steps_in left new.session new.far < steps_in left old.session old.far))
  Nears left old new (Done done) = Unit {0}
  Nears left old new Round = Unit {0}
  Nears left old new Waiting = Unit {0}
  Nears left old new Over = Unit {0}

  -- says what is known after a step, by how far they were before: of a round that was out, what its replies say and no more
  abbrev pub StoresFrom : FarOf P E → SessionOf S → SessionOf S → Type 0
  StoresFrom handed old new = ForgetsFailed old new
  StoresFrom (ready run) old new = KnowsTheSame old new
  StoresFrom (out run pending) old new = Stores old new (replies_in pending)
  StoresFrom over old new = KnowsTheSame old new

  -- What is known after a step in which each order of the round had a reply. A new round adds nothing to it.
  abbrev pub StoresReplies : HandOf S P E → HandOf S P E → Type 0
  StoresReplies old new = StoresFrom old.far old.session new.session

  module _ (may : S → List KeyOf → AnswerOf → Type 0) where
    -- says the same where the sources are asked for the orders without a reply
    abbrev pub StoresAskedFrom : FarOf P E → SessionOf S → SessionOf S → Type 0
    StoresAskedFrom handed old new = ForgetsFailed old new
    StoresAskedFrom (ready run) old new = KnowsTheSame old new
    StoresAskedFrom (out run pending) old new = StoresRound may old new pending
    StoresAskedFrom over old new = KnowsTheSame old new

    abbrev pub AsksAndStores : HandOf S P E → HandOf S P E → Type 0
    AsksAndStores old new = StoresAskedFrom old.far old.session new.session

  module _ (program : P → Program) (text_of : P → AnsweredOf → List ℕ) where
    -- A round is out, the latest of the session. Its orders are the batches of all that is needed and missing, each of which the session's
    -- own loader cut, and the reply to each that has one has an outcome for each key.
    pub record IsOutWith (s : StateOf S) (run : RunOf P E)
        (pending : List Pending) : Type 0 where
      pub stage : run.stage ≡ stage.Out
      pub latest : IsAsked (program_of program text_of run) s
      pub orders : map order_in pending ≡ orders_in s (program_of program text_of run)
      pub own : All (CanAsk s.loaders) pending
      pub replies : All (IsReplied any_answer) pending

    -- Where a round is out, it was asked within the limits: what is known without its replies is within them, and the rounds are, with
    -- this one. Where a run is ready, its rounds are; its work is counted anew.
    abbrev pub IsFarWithin : SessionOf S → List P → Limits → FarOf P E → Type 0
    IsFarWithin session plans limits handed = Unit {0}
    IsFarWithin session plans limits (ready run) = IsWithin limits.rounds run.rounds
    IsFarWithin session plans limits (out run pending) =
        AreWithin limits (requests program text_of plans) (state_of session) run.rounds
    IsFarWithin session plans limits over = Unit {0}

    abbrev pub AsksWithin : HandOf S P E → Type 0
    AsksWithin h = IsFarWithin h.session h.plans h.limits h.far

    module _ (loaders : P → ℕ) (fits : P → E → MemoryOf → Type 0) where
      abbrev pub HoldsFar : SessionOf S → List P → FarOf P E → Type 0
      HoldsFar session plans handed = Unit {0}
      HoldsFar session plans (ready run) = (plans_in run.parts ≡ plans)
          × (run.stage ≡ stage.Ready) × HoldsRun program text_of loaders fits run session
      HoldsFar session plans (out run pending) =
          (plans_in run.parts ≡ plans) × IsOutWith (state_of session) run pending
          × HoldsRun program text_of loaders fits run session
      HoldsFar session plans over = Unit {0}

      -- Gives what holds between calls: the session has the loaders of each plan, and a run that is ready fits it, or the round that is out is
      -- of a run that does, and was asked within the limits.
      pub record Holds (session : SessionOf S) (plans : List P) (limits : Limits)
          (far : FarOf P E) : Type 0 where
        pub enough : All (λ plan. loaders plan ≤ length session.loaders) plans
        pub round : HoldsFar session plans far
        pub within : IsFarWithin session plans limits far

      -- What a step keeps: what holds between calls, the plans, the limits, and the loaders.
      pub record KeepsHand (old new : HandOf S P E) : Type 0 where
        pub holds : Holds new.session new.plans new.limits new.far
        pub plans : new.plans ≡ old.plans
        pub limits : new.limits ≡ old.limits
        pub session : KeepsLoaders (state_of old.session) (state_of new.session)

      -- A reply to an order keeps more: the session is as it was.
      pub record KeepsSession (old new : HandOf S P E) : Type 0 where
        pub holds : Holds new.session new.plans new.limits new.far
        pub plans : new.plans ≡ old.plans
        pub limits : new.limits ≡ old.limits
        pub session : new.session ≡ old.session

    module _ (may : S → List KeyOf → AnswerOf → Type 0) where
      -- the session as it is, by how far they are: where a run is ready, nothing was asked over these limits
      abbrev pub HasGone : SessionOf S → SessionOf S → List P → Limits → FarOf P E → Type 0
      HasGone begun now plans limits handed = now ≡ begun
      HasGone begun now plans limits (ready run) = (plans_in run.parts ≡ plans)
          × IsRun program text_of may (state_of begun) (state_of now) run
          × AreAskedInTime may (state_of begun) (state_of now) limits
          (requests program text_of plans) run.rounds
      HasGone begun now plans limits (out run pending) = (plans_in run.parts ≡ plans)
          × IsRun program text_of may (state_of begun) (state_of now) run
          × All (IsReplied (may_at may now.loaders)) pending
      HasGone begun now plans limits over =
          StopsAnswering may (state_of begun) (state_of now) (joint program text_of plans)

      -- They were begun on this session, as it was then. Since then nothing but their rounds was made in it, and each order has a reply that
      -- its source may give, or none yet.
      abbrev pub IsUnderway : SessionOf S → HandOf S P E → Type 0
      IsUnderway begun h = HasGone begun h.session h.plans h.limits h.far

      -- from whichever session they were begun: they go on in it
      abbrev pub GoesOn : HandOf S P E → HandOf S P E → Type 0
      GoesOn old new = (begun : SessionOf S) → IsUnderway begun old → IsUnderway begun new

      abbrev pub AnswersFrom : HandOf S P E → HandOf S P E → Progress (Vec Answer) → Type 0
      AnswersFrom old new did = TellsFrom program text_of may
          (λ begun. IsUnderway begun old) new.session new.plans new.limits (done_in did)

      -- They are over a limit, by what is known at the return. From whichever session they were begun, they are refused. `can` says how far
      -- they were, and `stored` what is known.
      pub record Refuses (can stored : Type 0) (old new : HandOf S P E)
          (overrun : Overrun) : Type 0 where
        pub could : can
        pub knows : stored
        pub exceeds : AreOver new.limits (requests program text_of new.plans)
            (state_of new.session) overrun.rounds overrun.excess
        pub went : (begun : SessionOf S) → IsUnderway begun old → AreRefused may (state_of begun)
            (state_of new.session) new.limits (requests program text_of new.plans) overrun

      -- says so of a call of a hand that gives no answers, and of one that asks the sources
      abbrev pub Overruns : HandOf S P E → HandOf S P E → HandFault → Type 0
      Overruns old new (fault.Over overrun) =
          Refuses (can_advance old.far ≡ true) (StoresReplies old new) old new overrun
      Overruns old new fault.NoMemory = Unit {0}

      abbrev pub AsksAndOverruns : HandOf S P E → HandOf S P E → HandFault → Type 0
      AsksAndOverruns old new (fault.Over overrun) =
          Refuses (¬ (IsOver old.far)) (AsksAndStores may old new) old new overrun
      AsksAndOverruns old new fault.NoMemory = Unit {0}

      -- says the same where an order gets a reply, if it is one that the order's source may give
      abbrev pub GoesOnIfMay : Result (Vec Item) FetchFault
          → HandOf S P E → HandOf S P E → Pending → Type 0
      GoesOnIfMay given old new one = MayReply may old.session.loaders (order_in one) given
          → GoesOn old new

      -- The session as it is when they are given up: as they were begun on it, or with the finished rounds, and perhaps one more that was
      -- lost.
      abbrev pub GivesUp : HandOf S P E → SessionOf S → Type 0
      GivesUp old now =
          (begun : SessionOf S) → IsUnderway begun old → (now ≡ begun)
          ⊎ StopsAnswering may (state_of begun) (state_of now) (joint program text_of old.plans)

      -- No public clause names it. They weren't over, and now the run of the plans is ready to go on: with it the hand has what holds between
      -- calls, and they go on in the session. Where it was ready before, all is as it was.
      pub record Readies (loaders : P → ℕ) (fits : P → E → MemoryOf → Type 0)
          (old new : HandOf S P E) (run : RunOf P E) : Type 0 where
        pub left : ¬ (IsOver old.far)
        pub kept : KeepsHand loaders fits old (with_run new run)
        pub went : GoesOn old (with_run new run)
        pub same : IsReady old.far → old ≡ with_run new run

      -- No public clause names it. The run of the plans is ready, and within the limits; they are over meanwhile.
      pub record MayTurn (loaders : P → ℕ) (fits : P → E → MemoryOf → Type 0)
          (h : HandOf S P E) (run : RunOf P E) : Type 0 where
        pub over : IsOver h.far
        pub holds : Holds loaders fits h.session h.plans h.limits (ready run)
        pub might : MayGoOn h.limits (requests program text_of h.plans)
            (state_of h.session) run.rounds

      -- No public clause names it. They are over, with the answers, or a new round is out.
      abbrev pub GaveOrAsked : FarOf P E → Option (Vec Answer) → Type 0
      GaveOrAsked far (Some answers) = IsOver far
      GaveOrAsked far None = IsNewRound far

      -- No public clause names it. The run went on: it gave the answers, or made a round, and nothing more is known.
      pub record Turns (old new : HandOf S P E) (did : Option (Vec Answer)) : Type 0 where
        pub far : GaveOrAsked new.far did
        pub answers : TellsFrom program text_of may
            (λ begun. IsUnderway begun old) new.session new.plans new.limits did
        pub stored : KnowsTheSame old.session new.session

      -- The round of the run that is out is stored, from whichever session the run was begun on, where the reply to each order is one that its
      -- source may give.
      abbrev pub GoesOnIfReplied : SessionOf S → RunOf P E
          → SessionOf S → List Pending → RunOf P E → Type 0
      GoesOnIfReplied old run new pending later = All (IsReplied (may_at may old.loaders)) pending
          → GoesOnFrom program text_of may (state_of old) (state_of new) run later

      -- and it was run as if in one piece
      abbrev pub RunsIfReplied : SessionOf S → RunOf P E → SessionOf S → List Pending → Type 0
      RunsIfReplied old run new pending = All (IsReplied (may_at may old.loaders)) pending
          → RunsAsked may (program_of program text_of run) (state_of old) (state_of new)
