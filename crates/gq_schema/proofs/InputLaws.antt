-- Lists of coerced values.
use Rattle.std.proofs.Common.{◌≡◌, ◌∙◌, sym, ap, List, [], ◌∷◌, ◌++◌, map, Option, Some, None, refl}
use Rattle.std.specs.Global.{Vec}
use Rattle.gq_parser.specs.Tree.{Value, Values, and_value}
use Rattle.gq_schema.specs.declared.input.Input as rust
use Rattle.gq_schema.specs.declared.input.Input.TheVariants as variant
use Rattle.gq_schema.specs.declared.input.Input.TheOpen as open-input
use Rattle.gq_schema.specs.declared.input.Input.TheFolds.{fold-roll-Input}
use Rattle.gq_schema.specs.Inputs.{Input, Items, Inputs, no_input, and_input, inputs_then, inputs_of, input_step, input_of, before}
use Rattle.gq_schema.specs.Coercion.{and_items, all_items, list_input}

pub input_list : (v : Vec rust.Input) → input_of (variant.List v) ≡ Items (inputs_of (map input_of v.items))
input_list v = ap input_of (sym (variant.rolls-List v)) ∙ fold-roll-Input Input input_step (open-input.List v)

inputs_then-push : (xs : List rust.Input) (x : rust.Input) (is : Inputs) → inputs_then (map input_of (xs ++ x ∷ [])) is ≡ inputs_then (map input_of xs) (and_input (input_of x) is)
inputs_then-push [] x is = refl
inputs_then-push (y ∷ ys) x is = ap (and_input (input_of y)) (inputs_then-push ys x is)

pub before-push : (xs : List rust.Input) (x : rust.Input) (others : Option Inputs) → before (map input_of (xs ++ x ∷ [])) others ≡ before (map input_of xs) (and_items (Some (input_of x)) others)
before-push xs x None = refl
before-push xs x (Some is) = ap (λ (i : Inputs). Some i) (inputs_then-push xs x is)

-- one more item was coerced
pub before-step : (item : Value → Option Input) (xs : List rust.Input) (x : rust.Input) (v : Value) (rest : Values) (all : Option Inputs) → item v ≡ Some (input_of x)
    → before (map input_of xs) (all_items item (and_value v rest)) ≡ all → before (map input_of (xs ++ x ∷ [])) (all_items item rest) ≡ all
before-step item xs x v rest all here h = before-push xs x (all_items item rest) ∙ (ap (λ (i : Option Input). before (map input_of xs) (and_items i (all_items item rest))) (sym here) ∙ h)

pub list_input-done : (v : Vec rust.Input) (all : Option Inputs) → before (map input_of v.items) (Some no_input) ≡ all → Some (input_of (variant.List v)) ≡ list_input all
list_input-done v all h = ap (λ (i : Input). Some i) (input_list v) ∙ ap list_input h
