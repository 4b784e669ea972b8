-- Rounds that are out: their orders, the replies to these, and what was done since a run was begun, of one program.
use Rattle.std.specs.Prelude.{◌≡◌, ◌≢◌, ◌⊎◌, ◌+◌, ℕ, All, List, [], map, length, IsPermutation}
use Rattle.load_memory.specs.Keys.{KeyOf}
use Rattle.load_memory.specs.Replies.{ReplyOf}
use Rattle.load_memory.specs.Shelves.{IsOn, shown}
use Rattle.load_memory.specs.declared.shelf.Receipt.{Receipt}
use Rattle.load_memory.specs.declared.shelf.Shelf.{Shelf}
use Rattle.load_queue.specs.Answers.{AnswerOf}
use Rattle.load_queue.specs.Loaders.{stored_in}
use Rattle.load_queue.specs.Orders.{OrderOf, CutOf, asks, AreCutBy}
use Rattle.execution.specs.Loads.{Load}
use Rattle.execution.specs.Program.{Program}
use Rattle.execution.specs.Front.{front}
use Rattle.execution.specs.Rounds.{round_orders, may_at, AreReplies, after_round}
use Rattle.execution.specs.Sessions.{Lost}
use Rattle.load_rounds.specs.declared.rounds.Stage.{Stage}
use Rattle.load_rounds.specs.declared.rounds.Stage.TheVariants.{Out}
use Rattle.load_rounds.specs.Sessions.{StateOf, rules_of, session_modes, after_step, AreNumbered}
use Rattle.load_rounds.specs.Calls.{RoundRan, RoundLost}
use Rattle.load_rounds.specs.Headline.{MakesRounds}

-- one reply to each order, in whatever order the replies are
pub record AreReceived (may : ℕ → List KeyOf → AnswerOf → Type 0) (orders : List OrderOf)
    (shown : List ReplyOf) : Type 0 where
  pub replies : List ReplyOf
  pub fit : AreReplies may orders replies
  pub moved : IsPermutation replies shown

module _ {S : Type 0} where
  -- gives what a program needs and the session lacks
  abbrev pub front_in : StateOf S → Program → List Load
  front_in s p = front (session_modes s) p s.memory

  -- its batches, in order of the loaders
  abbrev pub orders_in : StateOf S → Program → List OrderOf
  orders_in s p = round_orders (rules_of s) (front_in s p)

  -- the state once the replies to the latest round are stored: its entries are marked, and those of no other round
  abbrev pub received : StateOf S → List ReplyOf → StateOf S
  received s replies = record {
    loaders = map (λ l. stored_in l s.rounds) s.loaders;
    memory = after_round (rules_of s) s.memory replies;
    rounds = s.rounds;
  }

  -- a reply to each order of the latest round is stored, each as may come of its order
  pub record ReceivesReplies (may : ℕ → List KeyOf → AnswerOf → Type 0) (orders : List OrderOf)
      (old new : StateOf S) : Type 0 where
    pub replies : List ReplyOf
    pub answered : AreReplies may orders replies
    pub stored : new ≡ received old replies

  -- The session as the latest round of a run left it: the round is out, and it asked all that is needed and missing. No entry of an
  -- earlier round bears its number.
  pub record IsAsked (p : Program) (now : StateOf S) : Type 0 where
    pub before : StateOf S
    pub lacks : front_in before p ≢ []
    pub entered : now ≡ after_step before (Lost (front_in before p))
    pub counted : now.rounds ≡ before.rounds + 1
    pub numbered : AreNumbered before.rounds before.loaders

  -- A run at this stage expects replies: its round is out, and the session is as that round left it.
  pub record AwaitsReplies (p : Program) (stage : Stage) (now : StateOf S) : Type 0 where
    pub out : stage ≡ Out
    pub latest : IsAsked p now

  module _ (may : S → List KeyOf → AnswerOf → Type 0) (p : Program) where
    -- one reply to each order of the round, as its source may answer it, in whatever order
    abbrev pub AreReceivedIn : StateOf S → List ReplyOf → Type 0
    AreReceivedIn s shown = AreReceived (may_at may s.loaders) (orders_in s p) shown

    -- The receipts are on the shelf, and show one such reply to each order of the round.
    pub record AreReceiptsIn (s : StateOf S)
        (shelf : Shelf) (receipts : List Receipt) : Type 0 where
      pub on : All (IsOn shelf) receipts
      pub round : AreReceivedIn s (map shown receipts)

    -- It is as if the latest round had been run in one piece: its entries are marked, and those of no other round.
    abbrev pub RunsAsked : StateOf S → StateOf S → Type 0
    RunsAsked old new = (asked : IsAsked p old)
        → RoundRan may asked.before new (front_in asked.before p)

    -- so it is where the replies to it are as the sources may give them
    abbrev pub RunsIfReceived : StateOf S → StateOf S → List ReplyOf → Type 0
    RunsIfReceived old new shown = AreReceivedIn old shown → RunsAsked old new

    -- the order of the replies makes no difference: the state after them is that after the same ones in order of the orders
    abbrev pub TakesInAnyOrder : StateOf S → StateOf S → List ReplyOf → Type 0
    TakesInAnyOrder old new shown = (replies : List ReplyOf)
        → AreReplies (may_at may old.loaders) (orders_in old p) replies
        → IsPermutation replies shown → new ≡ received old replies

    -- says the same of the replies that receipts show
    abbrev pub TakesReceipts : StateOf S → StateOf S → List Receipt → Type 0
    TakesReceipts old new receipts = TakesInAnyOrder old new (map shown receipts)

    -- once the receipts are taken: the round was run as if in one piece, whatever the order of the receipts
    pub record RunsReceipts (old new : StateOf S) (receipts : List Receipt) : Type 0 where
      pub ran : RunsAsked old new
      pub ordered : TakesReceipts old new receipts

  -- Something is missing: the orders are the batches of all that is, each cut by the session's own loader, entered under the number of
  -- the session's next round and not stored. This round is counted.
  pub record IsRound (p : Program) (old new : StateOf S) (orders : List CutOf) : Type 0 where
    pub lacks : front_in old p ≢ []
    pub batches : map asks orders ≡ orders_in old p
    pub cut : AreCutBy new.loaders orders
    pub entered : new ≡ after_step old (Lost (front_in old p))
    pub counted : new.rounds ≡ old.rounds + 1
    pub numbered : AreNumbered old.rounds old.loaders

  -- after want of memory: nothing was entered, or the batches of the first loaders were
  abbrev pub IsUnasked : Program → StateOf S → StateOf S → Type 0
  IsUnasked p old new = (new ≡ old) ⊎ RoundLost old new (front_in old p)

  module _ (may : S → List KeyOf → AnswerOf → Type 0) (p : Program) where
    -- `rounds` rounds were made since the run was begun, and none is out
    pub record IsBetween (begun now : StateOf S) (rounds : ℕ) : Type 0 where
      pub log : List (List ReplyOf)
      pub made : MakesRounds may begun now p log
      pub counted : length log ≡ rounds

    -- and then one more was asked, which is out
    pub record IsOut (begun now : StateOf S) (rounds : ℕ) : Type 0 where
      pub asked : IsAsked p now
      pub made : ℕ
      pub between : IsBetween begun asked.before made
      pub one_more : rounds ≡ made + 1
