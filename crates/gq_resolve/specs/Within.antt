-- The text of an answer, where a limit may be given.
use Rattle.std.specs.Prelude.{◌≡◌, ℕ, false, List, Option, Some, None, String, string_bytes}
use Rattle.std.specs.declared.alloc.Global.{Global}
use Rattle.execution.specs.Completion.{AnsweredOf, is_open}
use Rattle.execution.specs.Executed.{completed}
use Rattle.execution.specs.Program.{tree}
use Rattle.load_memory.specs.Pairs.{MemoryOf}
use Rattle.gq_check.specs.Plans.{PlanOf}
use Rattle.plan_program.specs.PlanPrograms.{plan_program}
use Rattle.gq_resolve.specs.Answered.{answer_text}
use Rattle.gq_resolve.specs.Limited.{AnswersWithin, limited_text}
use Rattle.plan_walk.specs.Reading.{lookup}

-- the text of an answer: without a limit that of its response, and else its limited text
abbrev pub text_within : Option ℕ → AnsweredOf → List ℕ
text_within None = answer_text
text_within (Some most) = λ answered. limited_text most (answer_text answered)

-- a text is written within a limit: the given one, or any where none is given
abbrev pub IsLimit : Option ℕ → ℕ → Type 0
IsLimit None limit = Unit {0}
IsLimit (Some most) limit = limit ≡ most

-- what was written of a plan's answer within its limit: its text, or none where it is longer
pub record IsWritten (most : Option ℕ) (plan : PlanOf) (m : MemoryOf)
    (text : Option (String Global)) : Type 0 where
  pub limit : ℕ
  pub given : IsLimit most limit
  pub answers : AnswersWithin limit (plan_program plan) (lookup m) text

-- the text of a plan's answer, of which nothing is missing
abbrev pub IsAnswerText : Option ℕ → PlanOf → MemoryOf → String Global → Type 0
IsAnswerText most plan m text = is_open (tree (plan_program plan) (lookup m)) ≡ false
    → string_bytes text ≡ text_within most (completed (tree (plan_program plan) (lookup m)))
