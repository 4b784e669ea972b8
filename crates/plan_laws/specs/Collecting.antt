-- Collection, however many fragments may be entered, one inside another.
use Rattle.std.specs.Prelude.{◌≡◌, ℕ, List, true, length}
use Rattle.gq_parser.specs.Tree.{Selections}
use Rattle.gq_check.specs.Plans.{PlanOf, fragment_in}
use Rattle.plan_program.specs.Groups.{Collected, has_entered, enter_fragment, entering, collect_all, collect_from}

-- all selections collect, where `left` fragments may be entered, what they do where as many may be as the plan has
abbrev pub CollectsTheSame : PlanOf → List ℕ → ℕ → Type 0
CollectsTheSame plan ty left = (so_far : Collected) (ss : Selections)
    → collect_all plan ty (entering plan ty left) so_far ss ≡ collect_from plan ty so_far ss

-- a fragment that is entered collects what its selections collect, with fragments in them entered in the same way
abbrev pub CollectsBySelections : PlanOf → List ℕ → Type 0
CollectsBySelections plan ty = (so_far : Collected) (name : List ℕ)
    → has_entered so_far name ≡ true →
    let enter = entering plan ty (length plan.fragments) in
    enter so_far name ≡ enter_fragment plan ty enter so_far (fragment_in plan.fragments name)
