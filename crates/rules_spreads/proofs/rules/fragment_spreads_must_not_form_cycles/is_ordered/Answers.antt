use Rattle.std.proofs.Common.{◌∙◌, sym, refl, length, arith, rules, tests}
use Rattle.std.proofs.lemmas.Iterator.{YieldsList-from_range}
use Rattle.std.proofs.lemmas.Iterator.Search.{all_from_yields_List}
use Rattle.rules_parts.specs.declared.part.Owner.TheVariants as owner
use Rattle.rules_spreads.specs.Graphs.{row}
use Rattle.rules_spreads.specs.Ranks.{rank_of, are_at_most}
use Rattle.rules_spreads.proofs.RankLaws.{each-ordered}
use Rattle.rules_spreads.proofs.rules.fragment_spreads_must_not_form_cycles.is_ordered.Goals as goal

pub returns : goal.returns
returns c =
    let each = all_from_yields_List (λ x. are_at_most c.args.ranks.now (rank_of c.args.ranks.now x) (row c.args.graph.now (owner.Fragment x))) _ _ c.all.result c.all.ensures.ran (YieldsList-from_range 0 c.len.result (length c.args.graph.now.fragments) refl (omega (arith, c.len.ensures))) (λ x b q k. search (rules, tests)) in
    λ ordered. each-ordered c.args.ranks.now c.args.graph.now (sym each ∙ ordered)
