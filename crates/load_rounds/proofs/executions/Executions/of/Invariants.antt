use Rattle.std.proofs.Common.{◌≡◌, ◌++◌, []}
use Rattle.load_memory.specs.Pairs.{MemoryOf}
use Rattle.load_rounds.specs.Executions.{plans_in, reports_in, FitParts}
use Rattle.load_rounds.proofs.executions.Executions.of.Given as goal

abbrev pub invariant-loop-plan : goal.invariant-loop-plan
invariant-loop-plan g l = record {
  same : plans_in l.executions.items ++ l.plan-iterator.rest.items ≡ l.fn.plans.items;
  unreported : reports_in l.executions.items ≡ [];
  fitting : (m : MemoryOf) → FitParts g.P.Execute.program g.P.Execute.text_of g.P.Execute.loaders g.P.Execute.fits l.executions.items m;
}
