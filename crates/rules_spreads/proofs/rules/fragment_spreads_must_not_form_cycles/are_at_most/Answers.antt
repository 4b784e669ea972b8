use Rattle.std.proofs.Common.{rules, tests, nat_le}
use Rattle.std.proofs.lemmas.Iterator.{YieldsList-from_slice}
use Rattle.std.proofs.lemmas.Iterator.Search.{all_from_yields_List}
use Rattle.rules_spreads.specs.Ranks.{rank_of}
use Rattle.rules_spreads.proofs.rules.fragment_spreads_must_not_form_cycles.are_at_most.Goals as goal

pub returns : goal.returns
returns c =
    all_from_yields_List (λ y. nat_le (rank_of c.args.ranks.now y) c.args.rank) _ _ c.all.result c.all.ensures.ran (YieldsList-from_slice c.args.fragments.now cc) (λ x b q k. search (rules, tests))
