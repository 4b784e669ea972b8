-- Sessions over sources that answer key by key.
use Rattle.std.specs.Prelude.{◌≡◌, ℕ, List, [], map, Option, Some, None, All, slice_get}
use Rattle.load_memory.specs.Keys.{KeyOf, folded}
use Rattle.load_memory.specs.Outcomes.{ItemOf, rows}
use Rattle.load_memory.specs.declared.key.KeyMode.{KeyMode}
use Rattle.load_queue.specs.Answers.{AnswerOf, given}
use Rattle.load_queue.specs.Loaders.{LoaderOf}
use Rattle.execution.specs.Completion.{AnsweredOf}
use Rattle.execution.specs.Program.{Program}
use Rattle.execution.specs.Rounds.{IsLawful, key_by_key, direct, HoldsItems, without_failed}
use Rattle.load_rounds.specs.Sessions.{StateOf, rules_of, session_modes}
use Rattle.load_rounds.specs.Headline.{Headline}
use Rattle.execution.specs.Executes.{IsTextOf}

module _ {S : Type 0} where
  -- whatever a source may answer has one item for each key, which follows from that key alone
  abbrev pub AnswerKeyByKey : (S → List KeyOf → AnswerOf → Type 0) → (S → KeyOf → ItemOf) → Type 0
  AnswerKeyByKey may item = (source : S) (keys : List KeyOf) (answer : AnswerOf)
      → may source keys answer → answer ≡ given (map (item source) keys)

  -- keys that are one for a source have one item
  abbrev pub RespectModes : (S → KeyMode) → (S → KeyOf → ItemOf) → Type 0
  RespectModes mode_of item = (source : S) (j k : KeyOf)
      → folded (mode_of source) j ≡ folded (mode_of source) k → item source j ≡ item source k

  -- each loader compares keys as its source does
  abbrev pub CompareAlike : (S → KeyMode) → List (LoaderOf S) → Type 0
  CompareAlike mode_of loaders = All (λ l. l.mode ≡ mode_of l.source) loaders

  -- the item of a key from the source of a loader; a loader that isn't there has none
  abbrev pub item_of_loader : (S → KeyOf → ItemOf) → Option (LoaderOf S) → KeyOf → ItemOf
  item_of_loader item None key = rows []
  item_of_loader item (Some l) key = item l.source key

  -- the item of a key from the source of the loader of this number
  abbrev pub item_over : (S → KeyOf → ItemOf) → List (LoaderOf S) → ℕ → KeyOf → ItemOf
  item_over item loaders loader key = item_of_loader item (slice_get loaders loader) key

module _ {S : Type 0} (may : S → List KeyOf → AnswerOf → Type 0) where
  -- the log of each answer is the lawful one, if its sources answer by these items
  abbrev pub HasLawfulLog : (S → KeyOf → ItemOf) → Type 0
  HasLawfulLog item = (old new : StateOf S) (p : Program) (text_of : AnsweredOf → List ℕ)
      (text : List ℕ) (rounds : ℕ)
      → (h : Headline may old new p text_of text rounds)
      → IsLawful (key_by_key (item_over item old.loaders)) (rules_of old) p
      (without_failed old.memory) h.log new.memory

  -- two answers from one state are one: the same text, rounds, memory and logs
  abbrev pub IsAnsweredAlike : Type 0
  IsAnsweredAlike = (old new other : StateOf S) (p : Program) (text_of : AnsweredOf → List ℕ)
      (text more : List ℕ) (rounds count : ℕ)
      → Headline may old new p text_of text rounds → Headline may old other p text_of more count
      → (new ≡ other) × (text ≡ more) × (rounds ≡ count)

  -- The text is that of direct execution by the sources' items, if the loaders compare keys as their sources do and the memory has at
  -- first what the sources would answer.
  abbrev pub IsAnsweredDirectly : (S → KeyOf → ItemOf) → (S → KeyMode) → Type 0
  IsAnsweredDirectly item mode_of = (old new : StateOf S) (p : Program)
      (text_of : AnsweredOf → List ℕ) (text : List ℕ) (rounds : ℕ)
      → CompareAlike mode_of old.loaders
      → HoldsItems (session_modes old) (item_over item old.loaders) (without_failed old.memory)
      → Headline may old new p text_of text rounds
      → IsTextOf text_of p (direct (item_over item old.loaders)) text
