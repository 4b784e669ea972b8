use Rattle.std.proofs.Common.{◌≡◌, ◌∙◌, ℕ, Bool, true, false, List, [], ◌∷◌, map, ap, refl, rules, tests}
use Rattle.std.specs.Option.{option_map}
use Rattle.std.specs.List.{find}
use Rattle.std.proofs.lemmas.Iterator.{YieldsList-from_slice}
use Rattle.std.proofs.lemmas.Iterator.Search.{find_from_yields_List}
use Rattle.schema_syntax.specs.declared.tree.ArgumentDefinition.{ArgumentDefinition}
use Rattle.schema_syntax.specs.Tree.{argument_of}
use Rattle.gq_schema.specs.Types.{is_argument}
use Rattle.rules_parts.proofs.arguments.definition.Goals as goal

of-definitions : (name : List ℕ) (ds : List ArgumentDefinition) → option_map argument_of (find (λ d. is_argument name (argument_of d)) ds) ≡ find (is_argument name) (map argument_of ds)
of-definitions name [] = refl
of-definitions name (d ∷ ds) = go (is_argument name (argument_of d)) refl (of-definitions name ds)
  where
    Same : List ArgumentDefinition → Type 0
    Same rest = option_map argument_of (find (λ d. is_argument name (argument_of d)) rest) ≡ find (is_argument name) (map argument_of rest)

    go : (b : Bool) → is_argument name (argument_of d) ≡ b → Same ds → Same (d ∷ ds)
    go true e rest = rw e refl
    go false e rest = rw e rest

pub returns : goal.returns
returns c =
    ap (option_map argument_of) (find_from_yields_List (λ d. is_argument c.args.name.now (argument_of d)) _ _ c.find.result c.find.ensures.ran (YieldsList-from_slice c.args.definitions.now cc) (λ x b q k. search (rules, tests)))
    ∙ of-definitions c.args.name.now c.args.definitions.now
