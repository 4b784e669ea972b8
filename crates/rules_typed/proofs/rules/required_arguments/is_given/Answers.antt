use Rattle.std.proofs.Common.{◌≡◌, ◌∙◌, sym, ap, Bool, false, not, Option, Some, None, rules, tests}
use Rattle.std.specs.Borrow.{Bor}
use Rattle.std.specs.Option.{MatchOption, option_map, option_copied}
use Rattle.std.proofs.lemmas.Iterator.{YieldsList-from_slice}
use Rattle.std.proofs.lemmas.Iterator.Search.{find_from_yields_List}
use Rattle.gq_parser.specs.declared.tree.Argument.{Argument}
use Rattle.gq_parser.specs.Tree.{argument_of}
use Rattle.rules_typed.specs.RequiredArguments.{is_null, is_called, is_value}
use Rattle.rules_typed.proofs.FindLaws.{find-map}
use Rattle.rules_typed.proofs.rules.required_arguments.is_given.Goals as goal

value-of : (Q : Bor Argument → Type 0) (found : Option (Bor Argument)) (r : Bool) → MatchOption found (r ≡ false) Q
    → ((a : Bor Argument) → Q a → r ≡ not (is_null (argument_of a.now).value)) → r ≡ is_value (option_map argument_of (option_copied found))
value-of Q None r of_found is = of_found
value-of Q (Some a) r of_found is = is a of_found

pub returns : goal.returns
returns c =
    let test = is_called c.args.name.now in
    let arguments = c.args.arguments.now in
    let found = find_from_yields_List (λ (a : Argument). test (argument_of a)) _ _ c.find.result c.find.ensures.ran (YieldsList-from_slice arguments cc) (λ x b q k. search (rules, tests)) in
    value-of _ c.find.result c.is_some_and.result c.is_some_and.ensures (λ a q. search rules)
    ∙ ap is_value (ap (option_map argument_of) found ∙ sym (find-map argument_of test arguments))
