use Rattle.merging_fields.proofs.Listed.{listed-written}
use Rattle.merging_fields.proofs.law.fields_are_listed_as_written.Goals as goal

pub returns : goal.returns
returns c = listed-written
