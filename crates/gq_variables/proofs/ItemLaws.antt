-- JSON arrays that are coerced item by item.
use Rattle.std.proofs.Common.{◌≡◌, ◌∙◌, sym, ap, List, [], ◌∷◌, ◌++◌, map, Option, Some}
use Rattle.serde_json.specs.Data.{Data, Items, item}
use Rattle.gq_schema.specs.declared.input.Input as rust
use Rattle.gq_schema.specs.Inputs.{Input, Inputs, input_of, before}
use Rattle.gq_schema.specs.Coercion.{and_items}
use Rattle.gq_schema.proofs.InputLaws.{before-push}
use Rattle.gq_variables.specs.JsonCoercion.{all_data}

-- one more item was coerced
pub before-data : (each : Data → Option Input) (xs : List rust.Input) (x : rust.Input) (d : Data) (rest : Items) (all : Option Inputs) → each d ≡ Some (input_of x)
    → before (map input_of xs) (all_data each (item d rest)) ≡ all → before (map input_of (xs ++ x ∷ [])) (all_data each rest) ≡ all
before-data each xs x d rest all here h = before-push xs x (all_data each rest) ∙ (ap (λ (i : Option Input). before (map input_of xs) (and_items i (all_data each rest))) (sym here) ∙ h)
