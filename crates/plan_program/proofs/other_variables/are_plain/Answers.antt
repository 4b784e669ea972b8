use Rattle.std.proofs.Common.{◌≡◌, ◌∙◌, List, [], ◌∷◌, refl, ap, rules, tests}
use Rattle.std.specs.List.{list_all}
use Rattle.std.proofs.lemmas.Iterator.{YieldsList-from_slice}
use Rattle.std.proofs.lemmas.Iterator.Search.{all_from_yields_List}
use Rattle.gq_parser.specs.declared.tree.Argument.{Argument}
use Rattle.gq_parser.specs.Tree.{literal_of, argument_of, arguments_of}
use Rattle.gq_parser.specs.Tree as literal
use Rattle.gq_parser.proofs.Views.{of_argument}
use Rattle.plan_program.specs.OtherVariables.{is_plain, are_plain}
use Rattle.plan_program.proofs.other_variables.are_plain.Goals as goal

value-seen : (a : Argument) → (argument_of a).value ≡ literal_of a.value
value-seen a = ap (λ (x : literal.Argument). x.value) (of_argument a.place a.name a.value)

of-arguments : (given : List Argument) → list_all (λ (a : Argument). is_plain (literal_of a.value)) given ≡ are_plain (arguments_of given)
of-arguments [] = refl
of-arguments (a ∷ as') = rw (of-arguments as', value-seen a) refl

pub returns : goal.returns
returns c =
    all_from_yields_List (λ (a : Argument). is_plain (literal_of a.value)) _ _ c.all.result c.all.ensures.ran (YieldsList-from_slice c.args.given.now cc) (λ x b q k. search (rules, tests))
    ∙ of-arguments c.args.given.now
