-- Logs of rounds over sources that answer key by key.
use Rattle.std.specs.Prelude.{ℕ, List, length}
use Rattle.load_memory.specs.Keys.{KeyOf}
use Rattle.load_memory.specs.Outcomes.{ItemOf}
use Rattle.load_memory.specs.Replies.{ReplyOf}
use Rattle.execution.specs.Loads.{Memory}
use Rattle.execution.specs.Program.{Program}
use Rattle.execution.specs.Rounds.{RuleOf, modes_of, AreLimited, HasLoaders, RespectsCacheKeys, HoldsItems, IsLawful, key_by_key}

-- The loaders of a program are there, and no limit is 0. Equal cache keys have equal items, and what the memory holds are items.
pub record AnswersKeyByKey (item : ℕ → KeyOf → ItemOf) (rules : List RuleOf) (p : Program)
    (M : Memory) : Type 0 where
  pub limited : AreLimited rules
  pub loaders : HasLoaders (length rules) p
  pub alike : RespectsCacheKeys (modes_of rules) item
  pub held : HoldsItems (modes_of rules) item M

-- some rounds are a lawful log of the program from this memory, in which each key is answered by its item
abbrev pub HasLog : (ℕ → KeyOf → ItemOf) → List RuleOf → Program → Memory → Type 0
HasLog item rules p M = (rounds : List (List ReplyOf))
    × (end : Memory) × IsLawful (key_by_key item) rules p M rounds end
