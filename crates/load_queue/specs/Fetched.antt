-- Definitions of what a call of `fetch` says of the source, and what follows from its answer.
use Rattle.std.specs.Prelude.{◌≡◌, ℕ, List, map, string_bytes, Result, Ok, Err, ⊤}
use Rattle.std.specs.Global.{Vec}
use Rattle.load_memory.specs.Outcomes.{OutcomeOf, item_of}
use Rattle.load_memory.specs.declared.outcome.Item.{Item}
use Rattle.load_queue.specs.Answers.{AnswerOf, given, failed, outcomes_of}
use Rattle.load_queue.specs.declared.source.FetchFault.{FetchFault}
use Rattle.load_queue.specs.declared.source.FetchFault.TheVariants.{Failed, NoMemory}

-- the answer is one that may be given
abbrev pub Fetched : (AnswerOf → Type 0) → Result (Vec Item) FetchFault → Type 0
Fetched may (Ok items) = may (given (map item_of items.items))
Fetched may (Err (Failed text)) = may (failed (string_bytes text))
Fetched may (Err NoMemory) = ⊤

-- the outcomes of n keys that follow from the answer; from want of memory none do
abbrev pub Follow : List OutcomeOf → Result (Vec Item) FetchFault → ℕ → Type 0
Follow outcomes (Ok items) n = outcomes ≡ outcomes_of n (given (map item_of items.items))
Follow outcomes (Err (Failed text)) n = outcomes ≡ outcomes_of n (failed (string_bytes text))
Follow outcomes (Err NoMemory) n = ⊥
