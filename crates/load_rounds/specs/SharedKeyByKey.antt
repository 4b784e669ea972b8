-- Answers to several requests over sources that answer key by key.
use Rattle.std.specs.Prelude.{◌≡◌, List}
use Rattle.load_memory.specs.Keys.{KeyOf}
use Rattle.load_memory.specs.Outcomes.{ItemOf}
use Rattle.load_memory.specs.declared.key.KeyMode.{KeyMode}
use Rattle.load_queue.specs.Answers.{AnswerOf}
use Rattle.execution.specs.Rounds.{direct, HoldsItems, without_failed}
use Rattle.load_rounds.specs.Sessions.{StateOf, session_modes}
use Rattle.load_rounds.specs.KeyByKey.{CompareAlike, item_over}
use Rattle.load_rounds.specs.SharedRounds.{RequestOf, ReportOf, AreTexts, SharedHeadline}

module _ {S : Type 0} (may : S → List KeyOf → AnswerOf → Type 0) where
  -- two times the answers to the same requests from one state are the same, and leave the same state
  abbrev pub AreAnsweredAlike : Type 0
  AreAnsweredAlike =
      (old new other : StateOf S) (rs : List RequestOf) (reports more : List ReportOf)
      → SharedHeadline may old new rs reports
      → SharedHeadline may old other rs more → (new ≡ other) × (reports ≡ more)

  -- Each text is that of direct execution by the sources' items, if the loaders compare keys as their sources do and the memory has at
  -- first what the sources would answer.
  abbrev pub AreAnsweredDirectly : (S → KeyOf → ItemOf) → (S → KeyMode) → Type 0
  AreAnsweredDirectly item mode_of = (old new : StateOf S) (rs : List RequestOf)
      (reports : List ReportOf) → CompareAlike mode_of old.loaders
      → HoldsItems (session_modes old) (item_over item old.loaders) (without_failed old.memory)
      → SharedHeadline may old new rs reports
      → AreTexts rs (direct (item_over item old.loaders)) reports
