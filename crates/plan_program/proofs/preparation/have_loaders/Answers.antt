use Rattle.std.proofs.Common.{◌≡◌, ◌∙◌, ℕ, List, [], ◌∷◌, map, refl, rules, tests}
use Rattle.std.specs.Prelude.{nat_lt}
use Rattle.std.specs.List.{list_all}
use Rattle.std.proofs.lemmas.Iterator.{YieldsList-from_slice}
use Rattle.std.proofs.lemmas.Iterator.Search.{all_from_yields_List}
use Rattle.gq_bindings.specs.declared.binding.ViaLoader.{ViaLoader}
use Rattle.gq_bindings.specs.Seen.{step_of}
use Rattle.plan_program.specs.FieldValues.{have_loaders}
use Rattle.plan_program.proofs.preparation.have_loaders.Goals as goal

of-steps : (n : ℕ) (steps : List ViaLoader) → list_all (λ (s : ViaLoader). nat_lt s.loader n) steps ≡ have_loaders (map step_of steps) n
of-steps n [] = refl
of-steps n (s ∷ ss) = rw (of-steps n ss) refl

pub returns : goal.returns
returns c =
    all_from_yields_List (λ (s : ViaLoader). nat_lt s.loader c.args.loaders) _ _ c.all.result c.all.ensures.ran (YieldsList-from_slice c.args.steps.now cc) (λ x b q k. search (rules, tests))
    ∙ of-steps c.args.loaders c.args.steps.now
