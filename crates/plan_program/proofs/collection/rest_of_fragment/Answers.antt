use Rattle.std.proofs.Common.{◌≡◌, sym, ◌∙◌, ap, List, arith}
use Rattle.gq_parser.specs.declared.tree.SelectionSet.{SelectionSet}
use Rattle.gq_parser.specs.declared.tree.Selection.{Selection}
use Rattle.gq_parser.specs.Tree.{set_at, set_of, fragment_of, map_selections}
use Rattle.gq_parser.proofs.Views.{of_set}
use Rattle.gq_check.specs.Plans.{plan_of}
use Rattle.plan_program.proofs.Rests.{steps-entered}
use Rattle.plan_program.proofs.collection.rest_of_fragment.Goals as goal

pub returns-clause-steps : goal.returns-clause-steps
returns-clause-steps c =
    let set : SelectionSet = c.in-Some.fragment.now.selection_set in
    let is : set_of set ≡ set_at set.place (map_selections c.deref.result.now) = of_set set.place set.selections ∙ ap (λ (ss : List Selection). set_at set.place (map_selections ss)) (sym c.deref.ensures.value) in
    steps-entered (plan_of c.args.plan.now).fragments c.args.enterable c.args.name.now (fragment_of c.in-Some.fragment.now) set.place (map_selections c.deref.result.now) (omega arith) c.in-Some.ensures is
