use Rattle.std.proofs.Common.{refl}
use Rattle.std.proofs.lemmas.Bool.{false≢true}
use Rattle.flat_rows.specs.Faults.{not_utf8, bad_ends}
use Rattle.flat_rows.proofs.texts.FlatTexts.new.Goals as goal

pub returns-in-Err-clause-fault : goal.returns-in-Err-clause-fault
returns-in-Err-clause-fault c = not_utf8 c.in-Err.ensures.cases.0

pub returns-else-rises-clause-fault : goal.returns-else-rises-clause-fault
returns-else-rises-clause-fault c = bad_ends c.in-Ok.ensures.cases.1 (λ cut. false≢true (c.if-rises.ensures.1 (rw c.in-Ok.ensures.cases.0 cut)))

pub returns-then-rises-clause-whole : goal.returns-then-rises-clause-whole
returns-then-rises-clause-whole c = (c.in-Ok.ensures.cases.1, rw (← c.in-Ok.ensures.cases.0) (c.if-rises.ensures.0 refl))
