use Rattle.std.proofs.Common.{◌∙◌, sym}
use Rattle.rules_spreads.proofs.RankLaws.{no-cycle}
use Rattle.rules_spreads.proofs.rules.fragment_spreads_must_not_form_cycles.is_cyclic.Goals as goal

pub returns-then-are_under : goal.returns-then-are_under
returns-then-are_under c =
    sym (no-cycle c.args.ranks.now c.args.graph.now c.args.fragment c.requires (rw (← c.rank_of.ensures, ← c.row.ensures.row) (sym c.are_under.ensures ∙ c.if-are_under.true)))
