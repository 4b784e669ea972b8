use Rattle.execution.proofs.StoreLaws.{look-all_primed}
use Rattle.execution.proofs.law.stored_is_primed.Goals as goal

pub returns : goal.returns
returns c = λ pairs more loader key. look-all_primed pairs more loader key
