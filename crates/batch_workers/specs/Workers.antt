-- Definitions of how many workers there may be, and what they don't change.
use Rattle.std.specs.Prelude.{◌≡◌, ◌<◌, ◌⊎◌, ℕ, List, map, Ok, string_bytes}
use Rattle.std.specs.Global.{Vec}
use Rattle.load_memory.specs.Keys.{KeyOf}
use Rattle.load_queue.specs.Answers.{AnswerOf}
use Rattle.load_queue.specs.Orders.{CutOf, asks, AreCutBy}
use Rattle.execution.specs.Program.{Program}
use Rattle.execution.specs.Completion.{AnsweredOf}
use Rattle.load_rounds.specs.Sessions.{SessionOf, StateOf, state_of}
use Rattle.load_rounds.specs.Headline.{Headline, StopsAnswering}
use Rattle.load_rounds.specs.ByHand.{orders_in}
use Rattle.load_rounds.specs.SharedRounds.{RequestOf}
use Rattle.load_rounds.specs.Limits.{AreAnswersWithin, AreRefused, IsAnswerWithin}
use Rattle.load_rounds.specs.declared.answer.Answer.{Answer}
use Rattle.load_rounds.specs.declared.limits.Limits.{Limits}
use Rattle.batch_workers.specs.declared.fault.WorkFault.{WorkFault}
use Rattle.batch_workers.specs.declared.fault.WorkFault.TheVariants.{BadCount, Over, NoMemory}

-- a number of workers that is refused
abbrev pub IsBadCount : ℕ → Type 0
IsBadCount workers = (workers ≡ 0) ⊎ (16 < workers)

-- Two answers to one program from one state, the first in turn, the second with workers: the same text and rounds, and the same
-- memory and logs after them.
abbrev pub ChangeNothing : {S : Type 0} → (S → List KeyOf → AnswerOf → Type 0) → Type 0
ChangeNothing {S} may = (old turned worked : StateOf S) (p : Program)
    (text_of : AnsweredOf → List ℕ) (turn work : Answer)
    → Headline may old turned p text_of (string_bytes turn.text) turn.rounds
    → Headline may old worked p text_of (string_bytes work.text) work.rounds
    → (string_bytes work.text ≡ string_bytes turn.text)
    × (work.rounds ≡ turn.rounds) × (worked ≡ turned)

module _ {S : Type 0} (may : S → List KeyOf → AnswerOf → Type 0) (old new : SessionOf S)
    (limits : Limits) where
  -- an answer with the headline, within the limits
  abbrev pub AnswersWithin : RequestOf → Answer → Type 0
  AnswersWithin r answer = IsAnswerWithin may (state_of old) (state_of new) limits r (Ok answer)

  -- says the same of answers to several requests
  abbrev pub AnswersAllWithin : List RequestOf → Vec Answer → Type 0
  AnswersAllWithin rs answers =
      AreAnswersWithin may (state_of old) (state_of new) limits rs (Ok answers)

  -- says of answers that are over a limit that they are refused, and of another fault nothing
  abbrev pub Overruns : List RequestOf → WorkFault → Type 0
  Overruns rs BadCount = Unit {0}
  Overruns rs (Over overrun) = AreRefused may (state_of old) (state_of new) limits rs overrun
  Overruns rs NoMemory = Unit {0}

-- When memory ran out, the finished rounds of a session stay, and perhaps one more was lost.
abbrev pub Stops : {S : Type 0} → (S → List KeyOf → AnswerOf → Type 0)
    → SessionOf S → SessionOf S → Program → Type 0
Stops may old new p = StopsAnswering may (state_of old) (state_of new) p

-- No public clause names it. The orders are those of the round that is out, each cut by the session's own loader.
pub record AreOrdersIn {S : Type 0} (s : StateOf S) (p : Program)
    (orders : List CutOf) : Type 0 where
  pub batches : map asks orders ≡ orders_in s p
  pub cut : AreCutBy s.loaders orders
