use Rattle.plan_laws.proofs.Bound.{read-bound, read-there}
use Rattle.plan_laws.proofs.law.fields_are_bound.Goals as goal

pub returns-clause-bound : goal.returns-clause-bound
returns-clause-bound c = λ defs b read ty name d object field. read-bound defs read.text b ty name d read.accepts object field

pub returns-clause-loaders : goal.returns-clause-loaders
returns-clause-loaders c = λ defs b read ty name binding e. read-there defs read.text b ty name binding read.accepts e
