use Rattle.std.proofs.Common.{length, arith}
use Rattle.plan_laws.proofs.Entered.{collects-alike, enters}
use Rattle.plan_laws.proofs.law.collection_ends.Goals as goal

pub returns-clause-more : goal.returns-clause-more
returns-clause-more c = λ plan ty left le so_far ss. collects-alike plan ty left (length plan.fragments) so_far ss le (omega arith)

pub returns-clause-enters : goal.returns-clause-enters
returns-clause-enters c = λ plan ty so_far name entered. enters plan ty so_far name entered
