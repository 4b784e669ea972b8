-- Keys of a loader as a program: a list that reads each of them, and makes nothing of its outcome.
use Rattle.std.specs.Prelude.{◌<◌, ◌+◌, ℕ, suc, false, List, [], ◌∷◌, length}
use Rattle.load_memory.specs.Keys.{KeyOf}
use Rattle.load_memory.specs.Pairs.{MemoryOf}
use Rattle.load_queue.specs.Answers.{AnswerOf}
use Rattle.execution.specs.Program.{FieldPosition, Item, ListOf, Null, Program, Is, Read, Under, Programs, End, With}
use Rattle.execution.specs.Completion.{AnsweredOf}
use Rattle.execution.specs.Rounds.{AreLimited}
use Rattle.load_rounds.specs.Sessions.{StateOf, rules_of}
use Rattle.load_rounds.specs.Calls.{load_of}
use Rattle.load_rounds.specs.Headline.{Headline}

-- keys of a loader
pub record KeysOf : Type 0 where
  pub loader : ℕ
  pub keys : List KeyOf

abbrev pub keys_of : ℕ → List KeyOf → KeysOf
keys_of loader keys = record { loader = loader; keys = keys }

abbrev pub nth : ℕ → FieldPosition
nth n = record { part = Item n; non_null = false; place = record { line = 1; column = 1 } }

abbrev pub reads_from : ℕ → ℕ → List KeyOf → Programs
reads_from n loader [] = End
reads_from n loader (key ∷ keys) =
    With (nth n) (Read (load_of loader key) (λ outcome. Is Null)) (reads_from (suc n) loader keys)

abbrev pub reading : ℕ → List KeyOf → Program
reading loader keys = Under ListOf (reads_from 0 loader keys)

-- what comes of it has no text
abbrev pub no_text : AnsweredOf → List ℕ
no_text answered = []

-- says of keys what an execution says: their program, its text, the loaders that it asks, and that nothing can be done ahead
abbrev pub keys_program : KeysOf → Program
keys_program k = reading k.loader k.keys

abbrev pub keys_text : KeysOf → AnsweredOf → List ℕ
keys_text k = no_text

abbrev pub keys_loaders : KeysOf → ℕ
keys_loaders k = k.loader + 1

abbrev pub keys_fits : KeysOf → Unit {0} → MemoryOf → Type 0
keys_fits k progress m = Unit {0}

abbrev pub keys_left : KeysOf → Unit {0} → MemoryOf → ℕ
keys_left k progress m = 0

module _ {S : Type 0} where
  -- the session has the loader, and no loader's limit is 0
  pub record CanLoad (s : StateOf S) (loader : ℕ) : Type 0 where
    pub within : loader < length s.loaders
    pub limited : AreLimited (rules_of s)

  -- a run of the program has answered
  pub record HasRead (may : S → List KeyOf → AnswerOf → Type 0) (old new : StateOf S)
      (loader : ℕ) (keys : List KeyOf) : Type 0 where
    pub text : List ℕ
    pub rounds : ℕ
    pub headline : Headline may old new (reading loader keys) no_text text rounds
