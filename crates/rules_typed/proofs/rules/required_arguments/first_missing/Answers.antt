use Rattle.std.proofs.Common.{◌≡◌, ◌∙◌, sym, ap, ℕ, List, Option, Some, None, rules, tests}
use Rattle.std.specs.Borrow.{Bor}
use Rattle.std.specs.Option.{MatchOption, IsSomeAnd, option_map, option_copied}
use Rattle.std.proofs.lemmas.Iterator.{YieldsList-from_slice}
use Rattle.std.proofs.lemmas.Iterator.Search.{find_from_yields_List}
use Rattle.schema_syntax.specs.declared.tree.ArgumentDefinition.{ArgumentDefinition}
use Rattle.gq_parser.specs.Tree.{arguments_of}
use Rattle.schema_syntax.specs.Tree.{argument_of}
use Rattle.rules_typed.specs.RequiredArguments.{is_missing, name_of}
use Rattle.rules_typed.proofs.FindLaws.{find-map}
use Rattle.rules_typed.proofs.rules.required_arguments.first_missing.Goals as goal

name-of : (Q : Bor ArgumentDefinition → Bor (List ℕ) → Type 0) (found : Option (Bor ArgumentDefinition)) (r : Option (Bor (List ℕ))) → MatchOption found (r ≡ None) (λ a. IsSomeAnd r (Q a))
    → ((a : Bor ArgumentDefinition) (name : Bor (List ℕ)) → Q a name → name.now ≡ name_of (argument_of a.now)) → option_copied r ≡ option_map name_of (option_map argument_of (option_copied found))
name-of Q None r of_found is = ap option_copied of_found
name-of Q (Some a) None of_found is = absurd of_found
name-of Q (Some a) (Some name) of_found is = ap (λ (n : List ℕ). Some n) (is a name of_found)

pub returns : goal.returns
returns c =
    let test = is_missing (arguments_of c.args.arguments.now) in
    let defined = c.args.defined.now in
    let found = find_from_yields_List (λ (a : ArgumentDefinition). test (argument_of a)) _ _ c.find.result c.find.ensures.ran (YieldsList-from_slice defined cc) (λ x b q k. search (rules, tests)) in
    name-of _ c.find.result c.map.result c.map.ensures.cases (λ a name q. search rules)
    ∙ ap (option_map name_of) (ap (option_map argument_of) found ∙ sym (find-map argument_of test defined))
