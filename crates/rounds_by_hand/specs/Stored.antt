-- Definitions of what a session knows after a step, by what it knew before and by what was given as the replies to the orders of a round.
use Rattle.std.specs.Prelude.{◌≡◌, List}
use Rattle.load_memory.specs.Keys.{KeyOf}
use Rattle.load_memory.specs.Pairs.{look}
use Rattle.load_memory.specs.Replies.{ReplyOf}
use Rattle.load_queue.specs.Answers.{AnswerOf}
use Rattle.execution.specs.Rounds.{may_at, after_round, without_failed}
use Rattle.load_rounds.specs.Sessions.{SessionOf, state_of, rules_of}
use Rattle.rounds_by_hand.specs.declared.pending.Pending.{Pending}
use Rattle.rounds_by_hand.specs.Pending.{AreRepliesFor}

module _ {S : Type 0} where
  -- nothing is known that wasn't known before, and nothing was forgotten
  abbrev pub KnowsTheSame : SessionOf S → SessionOf S → Type 0
  KnowsTheSame old new = look new.pairs ≡ look old.pairs

  -- failed batches were forgotten, and all else is known as before
  abbrev pub ForgetsFailed : SessionOf S → SessionOf S → Type 0
  ForgetsFailed old new = look new.pairs ≡ without_failed (look old.pairs)

  -- what was known before stays known, and each key of these replies that wasn't known has its outcome in them
  abbrev pub Stores : SessionOf S → SessionOf S → List ReplyOf → Type 0
  Stores old new replies =
      look new.pairs ≡ after_round (rules_of (state_of old)) (look old.pairs) replies

  -- a reply to each of these orders is stored: as it was given, or, where none was, as the order's source may answer it
  pub record StoresRound (may : S → List KeyOf → AnswerOf → Type 0) (old new : SessionOf S)
      (pending : List Pending) : Type 0 where
    pub replies : List ReplyOf
    pub replied : AreRepliesFor (may_at may old.loaders) pending replies
    pub stored : Stores old new replies
