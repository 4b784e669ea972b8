-- The weakest contracts of sources, for authors who prove nothing of theirs, and that of a source that is a function.
use Rattle.std.specs.Prelude.{◌≡◌, ⊤, List, length, map, string_bytes, Result, Ok, Err}
use Rattle.std.specs.Global.{Vec}
use denote.Ref.{Bor}
use Rattle.load_memory.specs.Keys.{KeyOf, key_of}
use Rattle.load_memory.specs.Outcomes.{item_of}
use Rattle.load_memory.specs.declared.key.Key.{Key}
use Rattle.load_memory.specs.declared.outcome.Item.{Item}
use Rattle.load_queue.specs.Answers.{AnswerOf, given, failed}
use Rattle.load_queue.specs.declared.source.FetchFault.{FetchFault}
use Rattle.load_queue.specs.declared.source.FetchFault.TheVariants.{Failed, NoMemory}

-- any answer
abbrev pub any_answer : List KeyOf → AnswerOf → Type 0
any_answer keys answer = ⊤

-- an item for each key, or that the batch failed as a whole
abbrev pub item_for_each : List KeyOf → AnswerOf → Type 0
item_for_each keys (given items) = length items ≡ length keys
item_for_each keys (failed text) = ⊤

-- the result is this answer; out of memory is none
abbrev pub Tells : Result (Vec Item) FetchFault → AnswerOf → Type 0
Tells (Ok items) answer = answer ≡ given (map item_of items.items)
Tells (Err (Failed text)) answer = answer ≡ failed (string_bytes text)
Tells (Err NoMemory) answer = ⊥

module _ {F A : Type 0}
    (post : F → A → Bor (List Key) → Result (Vec Item) FetchFault → Type 0) where
  -- a call of the function at these keys may return the answer
  abbrev pub may_return : F → List KeyOf → AnswerOf → Type 0
  may_return f keys answer = (alloc : A) × (shown : Bor (List Key))
      × (result : Result (Vec Item) FetchFault)
      × (map key_of shown.now ≡ keys) × post f alloc shown result × Tells result answer
