use Rattle.std.proofs.Common.{rules, tests, is_some}
use Rattle.std.proofs.lemmas.Iterator.{YieldsList-from_slice}
use Rattle.std.proofs.lemmas.Iterator.Search.{all_from_yields_List}
use Rattle.rules_spreads.proofs.levels.is_full.Goals as goal

pub returns : goal.returns
returns c =
    all_from_yields_List is_some _ _ c.all.result c.all.ensures.ran (YieldsList-from_slice c.args.table.now cc) (λ x b q k. search (rules, tests))
