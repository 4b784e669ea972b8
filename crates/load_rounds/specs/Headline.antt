-- The headline: what every answer promises of the session that it was given, before and after it.
use Rattle.std.specs.Prelude.{◌≡◌, ◌≤◌, ◌⊎◌, ℕ, List, [], ◌∷◌, length, Some, Result, IfOk, OnErr, string_bytes}
use Rattle.load_memory.specs.Keys.{KeyOf}
use Rattle.load_memory.specs.Pairs.{PairOf}
use Rattle.load_memory.specs.Replies.{ReplyOf}
use Rattle.std.specs.declared.alloc.AllocError.{AllocError}
use Rattle.load_queue.specs.Answers.{AnswerOf}
use Rattle.load_queue.specs.Loaders.{AreOnRecord}
use Rattle.execution.specs.Loads.{Memory, read}
use Rattle.execution.specs.Program.{Program, chain}
use Rattle.execution.specs.Completion.{AnsweredOf}
use Rattle.execution.specs.Front.{front}
use Rattle.execution.specs.Rounds.{RuleOf, modes_of, may_at, AreRounds, IsSparing, after_round, without_failed}
use Rattle.execution.specs.Sessions.{Step, Forgot, AskedLoads, AreApart, asked_cells, IsAnsweredIn}
use Rattle.execution.specs.Executes.{IsTextOf}
use Rattle.execution.specs.Reads.{count_read, counted}
use Rattle.load_rounds.specs.Sessions.{StateOf, rules_of, session_modes, after_steps}
use Rattle.load_rounds.specs.Calls.{RoundLost}
use Rattle.load_rounds.specs.declared.answer.Answer.{Answer}

-- the rounds of a log, as steps of a session: each asks exactly the front
abbrev pub asked_steps : List RuleOf → Program → Memory → List (List ReplyOf) → List Step
asked_steps rules p M [] = []
asked_steps rules p M (round ∷ rounds) = AskedLoads (front (modes_of rules) p M) round
    ∷ asked_steps rules p (after_round rules M round) rounds

-- so many loads a program reads over the memory at the return, each as often as it is read
abbrev pub CountsLoads : {S : Type 0} → StateOf S → StateOf S → Program → ℕ → Type 0
CountsLoads old new p loads = loads ≡ counted (count_read p (read (session_modes old) new.memory))

module _ {S : Type 0} (may : S → List KeyOf → AnswerOf → Type 0) where
  -- Failed batches were forgotten. Then these rounds were made and nothing else: each asked exactly the batches of the front,
  -- each batch was answered as its source may, and the logs gained it as stored, under the session's next number.
  pub record MakesRounds (old new : StateOf S) (p : Program)
      (log : List (List ReplyOf)) : Type 0 where
    pub rounds : AreRounds (may_at may old.loaders) (rules_of old) p
        (without_failed old.memory) log new.memory
    pub after : new
        ≡ after_steps old (Forgot ∷ asked_steps (rules_of old) p (without_failed old.memory) log)

  -- The headline, of a program: what is executed. Whoever ran the orders, in whatever order they came back.
  pub record Headline (old new : StateOf S) (p : Program) (text_of : AnsweredOf → List ℕ)
      (text : List ℕ) (rounds : ℕ) : Type 0 where
    -- the text is that of recursive execution, one key at a time, over the memory at the return
    pub answered : IsTextOf text_of p (read (session_modes old) new.memory) text
    -- the log that the session gained is lawful: rounds, until nothing is missing
    pub log : List (List ReplyOf)
    pub made : MakesRounds old new p log
    pub complete : front (session_modes old) p new.memory ≡ []
    -- nothing was asked off the record: each order that was made of a loader in between is in its log
    pub recorded : AreOnRecord old.loaders new.loaders
    -- each pair of the memory was there, primed or kept, or its source answered it in one batch of the log
    pub pairs : (pair : PairOf) → new.memory pair.loader pair.key ≡ Some pair.outcome
        → (without_failed old.memory pair.loader pair.key ≡ Some pair.outcome)
        ⊎ IsAnsweredIn (session_modes old) pair log
    -- no key is asked twice
    pub once : AreApart (asked_cells (rules_of old) p (without_failed old.memory) log)
    -- the rounds are counted, at most the longest chain of dependent loads, and no sparing run is shorter
    pub counted : length log ≡ rounds
    pub chained : rounds ≤ chain p (read (session_modes old) new.memory)
    pub fewest : (Ns : List Memory)
        → IsSparing (session_modes old) p new.memory (without_failed old.memory) Ns
        → rounds ≤ length Ns

  -- an answer with the headline, and the count of its loads
  abbrev pub HasHeadline : StateOf S → StateOf S → Program → (AnsweredOf → List ℕ) → Answer → Type 0
  HasHeadline old new p text_of a = Headline old new p text_of (string_bytes a.text) a.rounds
      × CountsLoads old new p a.loads

  -- When memory ran out, the finished rounds stay, and perhaps one more was lost. Nothing was asked off the record.
  pub record StopsAnswering (old new : StateOf S) (p : Program) : Type 0 where
    pub log : List (List ReplyOf)
    pub mid : StateOf S
    pub made : MakesRounds old mid p log
    pub end : (new ≡ mid) ⊎ RoundLost mid new (front (session_modes old) p mid.memory)
    pub recorded : AreOnRecord old.loaders new.loaders

  -- says what an answering call says: the headline, or after want of memory what stays
  abbrev pub Answers : StateOf S → StateOf S → Program
      → (AnsweredOf → List ℕ) → Result Answer AllocError → Type 0
  Answers old new p text_of result = IfOk result (HasHeadline old new p text_of)
      × OnErr result (StopsAnswering old new p)
