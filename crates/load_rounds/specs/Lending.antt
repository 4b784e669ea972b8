-- An execution that is lent out of those of a run. No public clause names it.
use Rattle.std.specs.Prelude.{ℕ, List, slice_set}
use Rattle.std.specs.Borrow.{Lends, MutBor, Fml, RattleType}
use Rattle.load_rounds.specs.contracts.executions.Executions as executions
use Rattle.load_rounds.specs.contracts.executions.Held as held
use Rattle.load_rounds.specs.contracts.plan_execution.PlanExecution as execution
use Rattle.load_rounds.specs.declared.executions.Held.{Held}
use Rattle.load_rounds.specs.Executions.{PartOf}
use Rattle.load_rounds.specs.Held.{held_with}

module _ (P E : RattleType) where
  -- once the loan ends, the place has what was left there
  abbrev pub LendsHeld : MutBor (Held P.Denot E.Denot)
      → ℕ → MutBor (PartOf P.Denot E.Denot) → Fml
  LendsHeld lender at lent =
      Lends (held.the_row P E) (execution.the_row P E) lender lent (held_with lender.now at)

  abbrev pub LendsExecution : MutBor (List (PartOf P.Denot E.Denot))
      → ℕ → MutBor (PartOf P.Denot E.Denot) → Fml
  LendsExecution lender at lent =
      Lends (executions.the_row P E) (execution.the_row P E) lender lent (slice_set lender.now at)
