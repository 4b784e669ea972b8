-- Definitions of what an execution over a memory answers.
use Rattle.std.specs.Prelude.{◌≡◌, ◌≢◌, ◌≤◌, ◌<◌, ℕ, List, [], length, Option, Some, None, string_bytes}
use Rattle.load_memory.specs.Pairs.{MemoryOf, look}
use Rattle.load_queue.specs.Wanted.{WantedOf}
use Rattle.execution.specs.Loads.{Reader, read, Extends}
use Rattle.execution.specs.Program.{Program}
use Rattle.execution.specs.Completion.{AnsweredOf}
use Rattle.execution.specs.Executed.{exec}
use Rattle.execution.specs.Front.{front, wanting, modes_wanted}
use Rattle.execution.specs.Reads.{count_read, counted}
use Rattle.execution.specs.declared.execution_result.ExecutionResult.{ExecutionResult}
use Rattle.futures.specs.declared.task.Poll.{Poll}
use Rattle.futures.specs.declared.task.Poll.TheVariants.{Ready, Pending}

-- the text is that of recursive execution, with one load after another answered by the reader
pub record IsTextOf (text_of : AnsweredOf → List ℕ) (p : Program) (R : Reader)
    (text : List ℕ) : Type 0 where
  pub answered : AnsweredOf
  pub executed : exec p R ≡ Some answered
  pub report : text ≡ text_of answered

-- it can be executed over the memory, and what the memory lacks can be wanted
pub record CanExecute (loaders : ℕ) (m : MemoryOf) (wants : List WantedOf) : Type 0 where
  pub enough : loaders ≤ length m.modes
  pub lined_up : modes_wanted wants ≡ m.modes

-- Ready with the text of the execution and the count of its loads exactly where the front is empty, and the wants are as they
-- were. Else the front was added.
abbrev pub IsExecuted : (AnsweredOf → List ℕ) → List WantedOf
    → List WantedOf → Program → MemoryOf → Poll ExecutionResult → Type 0
IsExecuted text_of old new p m (Ready result) = (front m.modes p (look m.pairs) ≡ [])
    × IsTextOf text_of p (read m.modes (look m.pairs)) (string_bytes result.text)
    × (result.loads ≡ counted (count_read p (read m.modes (look m.pairs)))) × (new ≡ old)
IsExecuted text_of old new p m Pending = (front m.modes p (look m.pairs) ≢ [])
    × (new ≡ wanting old (front m.modes p (look m.pairs)))

-- the second memory has each pair of the first, and the same loaders
pub record GrowsTo (m n : MemoryOf) : Type 0 where
  pub modes : n.modes ≡ m.modes
  pub pairs : Extends (look m.pairs) (look n.pairs)

-- it fits each memory that has at least these pairs
abbrev pub FitsFrom : (MemoryOf → Type 0) → MemoryOf → Type 0
FitsFrom fits m = (later : MemoryOf) → GrowsTo m later → fits later

-- What a call leaves to do in steps, of what there was before: less where it says that it isn't done, and no more where it is, with so many
-- of its steps left over.
abbrev pub ComesNearer : (steps old new : ℕ) → Option ℕ → Type 0
ComesNearer steps old new None = new < old
ComesNearer steps old new (Some rest) = (new ≤ old) × (rest ≤ steps)
