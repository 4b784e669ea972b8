use Rattle.merging_fields.proofs.Unique.{merging-unique}
use Rattle.merging_fields.proofs.law.one_set_is_reported.Goals as goal

pub returns : goal.returns
returns c = merging-unique
