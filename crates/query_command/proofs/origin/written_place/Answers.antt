use Rattle.std.proofs.Common.{append_assoc}
use Rattle.query_command.proofs.origin.written_place.Goals as goal

pub returns : goal.returns
returns c = simp append_assoc c.in_ok-format.ensures.ok
