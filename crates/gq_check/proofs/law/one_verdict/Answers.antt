use Rattle.gq_check.proofs.Unique.{verdict-unique}
use Rattle.gq_check.proofs.law.one_verdict.Goals as goal

pub returns : goal.returns
returns c = verdict-unique c.one_set_is_reported.ensures
