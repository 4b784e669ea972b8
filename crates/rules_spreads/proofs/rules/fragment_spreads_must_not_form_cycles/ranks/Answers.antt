use Rattle.rules_spreads.proofs.RankLaws.{alike}
use Rattle.rules_spreads.proofs.rules.fragment_spreads_must_not_form_cycles.ranks.Goals as goal

pub returns-else-is_ordered : goal.returns-else-is_ordered
returns-else-is_ordered c = alike c.args.graph.now
