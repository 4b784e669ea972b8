use Rattle.std.proofs.Common.{◌≡◌, ◌∙◌, List, [], ◌∷◌, refl, rules, tests}
use Rattle.std.specs.List.{list_all}
use Rattle.std.proofs.lemmas.Iterator.{YieldsList-from_slice}
use Rattle.std.proofs.lemmas.Iterator.Search.{all_from_yields_List}
use Rattle.plan_program.specs.OtherVariables.{is_fixed, are_fixed}
use Rattle.plan_program.specs.Seen.{group_of, groups_of}
use Rattle.plan_program.specs.declared.group.Group.{Group}
use Rattle.plan_walk.proofs.loading_fields.are_fixed.Goals as goal

of-groups : (gs : List Group) → list_all (λ (g : Group). is_fixed (group_of g)) gs ≡ are_fixed (groups_of gs)
of-groups [] = refl
of-groups (g ∷ gs) = rw (of-groups gs) refl

pub returns : goal.returns
returns c =
    all_from_yields_List (λ (g : Group). is_fixed (group_of g)) _ _ c.all.result c.all.ensures.ran (YieldsList-from_slice c.args.collected.now cc) (λ x b q k. search (rules, tests))
    ∙ of-groups c.args.collected.now
