use Rattle.std.proofs.Common.{append_assoc}
use Rattle.load_queue.proofs.outcomes.wrong_count_text.Goals as goal

pub returns : goal.returns
returns c = simp append_assoc c.in_ok-format.ensures.ok
