-- Definitions of what contracts see of an answering future, and what it does, poll by poll.
use Rattle.std.specs.Prelude.{◌≡◌, ◌≢◌, ◌≤◌, ℕ, Bool, true, List, [], ◌∷◌, ◌+◌, length, Option, Some, None, Result, IfOk}
use Rattle.load_memory.specs.Keys.{KeyOf}
use Rattle.load_memory.specs.Pairs.{MemoryOf, look}
use Rattle.std.specs.declared.alloc.AllocError.{AllocError}
use Rattle.load_queue.specs.Answers.{AnswerOf}
use Rattle.execution.specs.Loads.{read}
use Rattle.execution.specs.Program.{Program, chain}
use Rattle.execution.specs.Completion.{AnsweredOf}
use Rattle.execution.specs.Front.{front}
use Rattle.execution.specs.Sessions.{Forgot}
use Rattle.futures.specs.Poll.{IfReady, OnPending}
use Rattle.futures.specs.declared.task.Poll.{Poll}
use Rattle.load_rounds.specs.Sessions.{SessionOf, StateOf, state_of, session_modes, after_step}
use Rattle.load_rounds.specs.Calls.{RoundRan}
use Rattle.load_rounds.specs.Headline.{Answers}
use Rattle.load_rounds.specs.Executions.{plans_in}
use Rattle.load_rounds.specs.Runs.{RunOf, Holds, IsRun}
use Rattle.load_rounds.specs.declared.answer.Answer.{Answer}
use Rattle.load_rounds.specs.declared.answering.Far.{Far}
use Rattle.load_rounds.specs.declared.answering.Far.TheVariants.{Unpolled, Polled, Over}
use Rattle.load_rounds.specs.declared.rounds.Stage.TheVariants.{Ready}

-- says how far a future is: the session that was handed in, or the session and its run after some rounds, one for each poll, or it has
-- answered
pub data FarOf (S P E : Type 0) : Type 0 where
  handed : SessionOf S → FarOf S P E
  polled : SessionOf S → RunOf P E → FarOf S P E
  over : FarOf S P E

-- says what is executed, and how far it is
pub record AnsweringOf (S P E : Type 0) : Type 0 where
  pub plan : P
  pub far : FarOf S P E

-- No public clause names it. What contracts see of how far a future is.
abbrev pub far_of : {S P E : Type 0} → Far S P E → FarOf S P E
far_of (Unpolled s) = handed s
far_of (Polled s run) = polled s run
far_of Over = over

module _ {S P E : Type 0} where
  -- the rounds so far, one for each poll
  abbrev pub rounds_of : FarOf S P E → ℕ
  rounds_of (handed s) = 0
  rounds_of (polled s run) = run.rounds
  rounds_of over = 0

  -- gives where the next poll begins: at first failed batches are forgotten
  abbrev pub begun : FarOf S P E → Option (StateOf S)
  begun (handed s) = Some (after_step (state_of s) Forgot)
  begun (polled s run) = Some (state_of s)
  begun over = None

  module _ (program : P → Program) (text_of : P → AnsweredOf → List ℕ) where
    module _ (may : S → List KeyOf → AnswerOf → Type 0) where
      -- the session as it is, by how far the answer is that was begun on it
      abbrev pub IsUnderway : StateOf S → FarOf S P E → Type 0
      IsUnderway old (handed s) = old ≡ state_of s
      IsUnderway old (polled s run) = IsRun program text_of may old (state_of s) run
      IsUnderway old over = ⊥

      -- Says what comes of it: the session that is handed back with the answer, which say what an answering call says of the
      -- session that was handed in, from whichever state the rounds so far were made.
      abbrev pub Gives : P → FarOf S P E → SessionOf S × Result Answer AllocError → Type 0
      Gives plan far out = (old : StateOf S) → IsUnderway old far
          → Answers may old (state_of out.0) (program plan) (text_of plan) out.1

      -- says what comes of the second, one poll later, comes of the first too
      abbrev pub GivesNoMore : AnsweringOf S P E → AnsweringOf S P E → Type 0
      GivesNoMore old new = (out : SessionOf S × Result Answer AllocError)
          → Gives new.plan new.far out → Gives old.plan old.far out

    module _ (loaders : P → ℕ) (fits : P → E → MemoryOf → Type 0)
        (may : S → List KeyOf → AnswerOf → Type 0) (plan : P) where
      -- a run of the plan that may go on
      pub record CanTurn (s : SessionOf S) (run : RunOf P E) : Type 0 where
        pub plans : plans_in run.parts ≡ plan ∷ []
        pub ready : run.stage ≡ Ready
        pub holds : Holds program text_of loaders fits run s
        pub old : StateOf S
        pub is : IsRun program text_of may old (state_of s) run

      -- it hasn't answered, its session has the loaders that are asked, and its run so far is of this session
      abbrev pub CanPoll : FarOf S P E → Type 0
      CanPoll (handed s) = loaders plan ≤ length s.loaders
      CanPoll (polled s run) = CanTurn s run
      CanPoll over = ⊥

      -- No public clause names it. What the next poll begins with.
      pub record StartsPoll (far : FarOf S P E) (s : SessionOf S) (run : RunOf P E) : Type 0 where
        pub can : CanTurn s run
        pub begins : begun far ≡ Some (state_of s)
        pub rounds : run.rounds ≡ rounds_of far
        pub since : (old : StateOf S) → IsUnderway may old far
            → IsRun program text_of may old (state_of s) run

  module _ (may : S → List KeyOf → AnswerOf → Type 0) where
    -- A poll that was pending has made exactly one round, which asked the front, and this isn't
    -- empty. The polls so far are within the load chain over the memory after it.
    pub record PollRan (p : Program) (old new : FarOf S P E) : Type 0 where
      pub before : StateOf S
      pub after : SessionOf S
      pub run : RunOf P E
      pub begins : begun old ≡ Some before
      pub ends : new ≡ polled after run
      pub counted : run.rounds ≡ rounds_of old + 1
      pub lacks : front (session_modes before) p before.memory ≢ []
      pub ran : RoundRan may before (state_of after) (front (session_modes before) p before.memory)
      pub within : rounds_of new
          ≤ chain p (read (session_modes (state_of after)) (look after.pairs))

    -- What a poll does beyond what any future promises: the plan stays, and one that is pending has made a round and asked for the next
    -- poll. One that is ready with an answer counts the rounds so far, and has asked nothing itself.
    pub record Polls (p : Program) (old new : AnsweringOf S P E) (woken : Bool)
        (result : Poll (SessionOf S × Result Answer AllocError)) : Type 0 where
      pub plan : new.plan ≡ old.plan
      pub round : OnPending result (PollRan p old.far new.far)
      pub yielded : OnPending result (woken ≡ true)
      pub counted : IfReady result (λ out. IfOk out.1 (λ a. a.rounds ≡ rounds_of old.far))
      pub asks_nothing : IfReady result (λ out.
          IfOk out.1 (λ _. begun old.far ≡ Some (state_of out.0)))
