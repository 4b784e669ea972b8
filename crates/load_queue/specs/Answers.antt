-- Definitions of what a source may answer, and the outcomes that follow.
use Rattle.std.specs.Prelude.{ℕ, List, ◌++◌, map, length, replicate, ◌==◌, if◌then◌else◌, codes}
use Rattle.std.specs.Fmt.{decimal}
use Rattle.load_memory.specs.Outcomes.{ItemOf, OutcomeOf, known, batch_fault}

-- a list of items, of whatever length, or that the batch failed as a whole
pub data AnswerOf : Type 0 where
  given : List ItemOf → AnswerOf
  failed : List ℕ → AnswerOf

-- gives what is said of n items for m keys
abbrev pub wrong_count : ℕ → ℕ → List ℕ
wrong_count n m =
    codes "the source answered " ++ decimal n ++ codes " results for " ++ decimal m ++ codes " keys"

-- the outcomes of m keys, place by place
abbrev pub outcomes_of : ℕ → AnswerOf → List OutcomeOf
outcomes_of m (given items) = if length items == m then map known items
    else replicate m (batch_fault (wrong_count (length items) m))
outcomes_of m (failed text) = replicate m (batch_fault text)
