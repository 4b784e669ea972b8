-- The headline, of plans.
use Rattle.std.specs.Prelude.{ℕ, List}
use Rattle.load_memory.specs.Keys.{KeyOf}
use Rattle.load_queue.specs.Answers.{AnswerOf}
use Rattle.gq_check.specs.Plans.{PlanOf}
use Rattle.gq_check.specs.Planned.{IsPlan}
use Rattle.plan_program.specs.PlanPrograms.{plan_program}
use Rattle.gq_resolve.specs.Answered.{answer_text}
use Rattle.load_rounds.specs.Sessions.{StateOf}
use Rattle.load_rounds.specs.Headline.{Headline}

module _ {S : Type 0} (may : S → List KeyOf → AnswerOf → Type 0) where
  -- The headline, of a plan: it is of a document that keeps every rule, and is executed as its program.
  pub record AnswersPlan (old new : StateOf S) (plan : PlanOf) (text : List ℕ)
      (rounds : ℕ) : Type 0 where
    pub valid : IsPlan plan
    pub headline : Headline may old new (plan_program plan) answer_text text rounds

  -- the headline, of the program of a plan
  abbrev pub ExecutesPlan : StateOf S → StateOf S → PlanOf → List ℕ → ℕ → Type 0
  ExecutesPlan old new plan text rounds =
      Headline may old new (plan_program plan) answer_text text rounds
