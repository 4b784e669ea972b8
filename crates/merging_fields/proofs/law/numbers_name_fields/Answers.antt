use Rattle.merging_fields.proofs.Naming.{sets-named, own-named}
use Rattle.merging_fields.proofs.law.numbers_name_fields.Goals as goal

pub returns-clause-sets : goal.returns-clause-sets
returns-clause-sets c = sets-named

pub returns-clause-own : goal.returns-clause-own
returns-clause-own c = own-named
