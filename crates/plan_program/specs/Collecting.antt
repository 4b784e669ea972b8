-- Definitions of what a collection holds, and what is left to collect.
use Rattle.std.specs.Prelude.{◌≡◌, ℕ, List, [], ◌∷◌, Option, Some, None}
use Rattle.plan_program.specs.declared.collected.CollectedFields as rust
use Rattle.plan_program.specs.declared.collection.Rest.{Rest}
use Rattle.gq_parser.specs.Tree.{Selection, map_selections}
use Rattle.gq_check.specs.Plans.{PlanOf}
use Rattle.plan_program.specs.Groups.{Collected, collect_one, collect_all, entering}
use Rattle.plan_program.specs.Seen.{groups_of}
use Rattle.plan_program.specs.Finding.{texts_of}

abbrev pub collected_of : rust.CollectedFields → Collected
collected_of c = record { groups = groups_of c.groups.items; entered = texts_of c.entered.keys }

-- gives what selections that are left collect
abbrev pub collect_rest : PlanOf → List ℕ → Collected → Rest → Collected
collect_rest plan ty so_far r =
    collect_all plan ty (entering plan ty r.enterable) so_far (map_selections r.selections.now)

abbrev pub collect_rest_if : PlanOf → List ℕ → Collected → Option Rest → Collected
collect_rest_if plan ty so_far None = so_far
collect_rest_if plan ty so_far (Some r) = collect_rest plan ty so_far r

-- says what a selection collected, with what is left inside it, is all that it collects
abbrev pub Collects : PlanOf → List ℕ → ℕ → Selection
    → rust.CollectedFields → rust.CollectedFields → Option Rest → Type 0
Collects plan ty enterable s old new inner = collect_rest_if plan ty (collected_of new) inner
    ≡ collect_one plan ty (entering plan ty enterable) (collected_of old) s

-- gives the same of several, the last of which comes first
abbrev pub collect_rests : PlanOf → List ℕ → Collected → List Rest → Collected
collect_rests plan ty so_far [] = so_far
collect_rests plan ty so_far (r ∷ rs) = collect_rest plan ty (collect_rests plan ty so_far rs) r

-- gives what comes next collects, and then what is left; with nothing next, nothing is left
abbrev pub collect_left : PlanOf → List ℕ → Collected → Option Rest → List Rest → Collected
collect_left plan ty so_far None left = so_far
collect_left plan ty so_far (Some r) left =
    collect_rests plan ty (collect_rest plan ty so_far r) left

-- after some of rest was collected, what comes next and what is left then collect the same as before
abbrev pub CollectsFirst : PlanOf → List ℕ → Rest → rust.CollectedFields
    → rust.CollectedFields → List Rest → List Rest → Option Rest → Type 0
CollectsFirst plan ty rest old new left after next =
    collect_left plan ty (collected_of new) next after
    ≡ collect_left plan ty (collected_of old) (Some rest) left
