-- Definitions of what contracts see of plans with a limit, and of plans that are prepared ahead.
use Rattle.std.specs.Prelude.{ℕ, Option}
use Rattle.gq_check.specs.Plans.{PlanParts}

-- a plan, and how many bytes the text of its answer may have
pub record LimitedPlanOf : Type 0 where
  pub plan : PlanParts
  pub most : Option ℕ

-- gives the plan within a limit
abbrev pub within : PlanParts → Option ℕ → LimitedPlanOf
within plan most = record { plan = plan; most = most }
