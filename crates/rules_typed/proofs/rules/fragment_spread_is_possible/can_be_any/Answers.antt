use Rattle.std.proofs.Common.{◌∙◌, string_bytes, rules, tests}
use Rattle.std.specs.Prelude.{String}
use Rattle.std.specs.Global.{Global}
use Rattle.std.proofs.lemmas.Iterator.{YieldsList-from_slice}
use Rattle.std.proofs.lemmas.Iterator.Search.{any_from_yields_List}
use Rattle.gq_schema.specs.Types.{tree_of, can_be}
use Rattle.rules_typed.proofs.FindLaws.{any-map}
use Rattle.rules_typed.proofs.rules.fragment_spread_is_possible.can_be_any.Goals as goal

pub returns : goal.returns
returns c =
    let test = can_be (tree_of c.args.schema.now) c.args.ty.now in
    any_from_yields_List (λ (name : String Global). test (string_bytes name)) _ _ c.any.result c.any.ensures.ran (YieldsList-from_slice c.args.names.now cc) (λ x b q k. search (rules, tests))
    ∙ any-map string_bytes test c.args.names.now
