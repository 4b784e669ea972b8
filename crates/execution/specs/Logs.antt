-- A log as a whole, and what the laws say of one.
use Rattle.std.specs.Prelude.{◌≡◌, ◌++◌, ◌∷◌, [], ℕ, List, Option, Some, length}
use Rattle.load_memory.specs.Keys.{KeyOf}
use Rattle.load_memory.specs.Outcomes.{ItemOf}
use Rattle.load_memory.specs.Pairs.{PairOf}
use Rattle.load_memory.specs.Replies.{ReplyOf}
use Rattle.execution.specs.Loads.{Load, Memory, read, IsOneOf}
use Rattle.execution.specs.Program.{Program, Is, Read, Under, chain}
use Rattle.execution.specs.Completion.{AnsweredOf}
use Rattle.execution.specs.Executed.{exec}
use Rattle.execution.specs.Front.{front}
use Rattle.execution.specs.Rounds.{RuleOf, modes_of, MayAnswer, any_answer, key_by_key, round_orders, AreReplies, after_round, AreRounds, IsLawful, IsSparing, AreLimited, HasLoaders, RespectsCacheKeys, HoldsItems, IsBelow, own_rounds}
use Rattle.execution.specs.Sessions.{Cell, Step, AskedLoads, AreSteps, order_cells, asked_cells, IsAnsweredIn}

-- the loaders' rules, what is executed, the memory at the start, the rounds, and the memory at their end
pub record LogOf : Type 0 where
  pub rules : List RuleOf
  pub program : Program
  pub start : Memory
  pub rounds : List (List ReplyOf)
  pub end : Memory

abbrev pub HasRounds : MayAnswer → LogOf → Type 0
HasRounds may log = AreRounds may log.rules log.program log.start log.rounds log.end

abbrev pub IsLawfulLog : MayAnswer → LogOf → Type 0
IsLawfulLog may log = IsLawful may log.rules log.program log.start log.rounds log.end

-- *Lawful log*, whatever the sources answer, where no limit is 0 and each load has one of the loaders
pub record IsBoundedLog (log : LogOf) : Type 0 where
  pub limited : AreLimited log.rules
  pub within : HasLoaders (length log.rules) log.program
  pub lawful : IsLawfulLog any_answer log

-- steps that ask for no more than is needed, from the log's start towards its end
abbrev pub IsSparingRun : LogOf → List Memory → Type 0
IsSparingRun log steps = IsSparing (modes_of log.rules) log.program log.end log.start steps

-- *Load chain* over the memory at the end
abbrev pub longest_chain : LogOf → ℕ
longest_chain log = chain log.program (read (modes_of log.rules) log.end)

-- the rounds in which something that the program needs was missing
abbrev pub count_of_own : LogOf → ℕ
count_of_own log = own_rounds log.rules log.program log.start log.rounds

-- the second program is a position with others below it, of which the first is one
abbrev pub IsPartOf : Program → Program → Type 0
IsPartOf p (Is own) = ⊥
IsPartOf p (Read load next) = ⊥
IsPartOf p (Under kind programs) = IsBelow p programs

-- the second is the first log as one part of its program sees it
abbrev pub IsOfPart : LogOf → LogOf → Type 0
IsOfPart log part = (p : Program) × IsPartOf p log.program × (part ≡ record log { program = p })

-- the program is a position with others below it, perhaps none
abbrev pub HasParts : Program → Type 0
HasParts (Is own) = ⊥
HasParts (Read load next) = ⊥
HasParts (Under kind programs) = Unit {0}

-- *Shared rounds*: a lawful log of several programs, as the parts of one, whatever the sources answer
pub record IsSharedLog (log : LogOf) : Type 0 where
  pub lawful : IsLawfulLog any_answer log
  pub parts : HasParts log.program

-- the execution over the memory at the end
abbrev pub executed : LogOf → Option AnsweredOf
executed log = exec log.program (read (modes_of log.rules) log.end)

-- sources that answer equal cache keys alike, and a memory at the start that has at most what they would answer
pub record FitsItems (item : ℕ → KeyOf → ItemOf) (log : LogOf) : Type 0 where
  pub alike : RespectsCacheKeys (modes_of log.rules) item
  pub held : HoldsItems (modes_of log.rules) item log.start

-- over sources that answer key by key, the log is lawful, and so are these other rounds from its start to this other end
pub record AreBothLawful (item : ℕ → KeyOf → ItemOf) (log : LogOf) (others : List (List ReplyOf))
    (last : Memory) : Type 0 where
  pub one : IsLawfulLog (key_by_key item) log
  pub other : IsLawful (key_by_key item) log.rules log.program log.start others last

abbrev pub IsSameMemory : Memory → Memory → Type 0
IsSameMemory M N = (loader : ℕ) (key : KeyOf) → M loader key ≡ N loader key

abbrev pub HasPair : Memory → PairOf → Type 0
HasPair M pair = M pair.loader pair.key ≡ Some pair.outcome

-- the pair is in a reply of one of the log's rounds
abbrev pub IsAnsweredBy : LogOf → PairOf → Type 0
IsAnsweredBy log pair = IsAnsweredIn (modes_of log.rules) pair log.rounds

-- gives what the log's rounds ask, one after another
abbrev pub log_cells : LogOf → List Cell
log_cells log = asked_cells log.rules log.program log.start log.rounds

-- one reply to each batch of the front, where no limit is 0
pub record IsLimitedRound (rules : List RuleOf) (p : Program) (M : Memory)
    (round : List ReplyOf) : Type 0 where
  pub limited : AreLimited rules
  pub replies : AreReplies any_answer (round_orders rules (front (modes_of rules) p M)) round

-- the memory after the first replies is that after the second
abbrev pub AgreeAfter : List RuleOf → Memory → List ReplyOf → List ReplyOf → Type 0
AgreeAfter rules M round other =
    IsSameMemory (after_round rules M round) (after_round rules M other)

-- gives what a round that asks for these loads asks
abbrev pub round_cells : List RuleOf → List Load → List Cell
round_cells rules loads = order_cells (modes_of rules) (round_orders rules loads)

-- two rounds of a session, each with its replies, the steps between them, and a cell
pub record TwiceOf : Type 0 where
  pub first : List Load
  pub replies : List ReplyOf
  pub between : List Step
  pub later : List Load
  pub others : List ReplyOf
  pub cell : Cell

-- these are steps from a memory, and both rounds ask for the cell
pub record AsksTwice (rules : List RuleOf) (M : Memory) (t : TwiceOf) : Type 0 where
  pub steps : AreSteps any_answer rules M
      (AskedLoads t.first t.replies ∷ (t.between ++ AskedLoads t.later t.others ∷ []))
  pub first : IsOneOf t.cell (round_cells rules t.first)
  pub later : IsOneOf t.cell (round_cells rules t.later)
