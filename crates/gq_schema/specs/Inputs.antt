-- Coerced values, without where they lie in memory.
use Rattle.std.specs.Prelude.{◌≡◌, ℕ, ℤ, Bool, List, [], ◌∷◌, Option, Some, None, Result, IfOk}
use Rattle.std.specs.Option.{option_map}
use Rattle.gq_schema.specs.declared.input.Input as rust
use Rattle.gq_schema.specs.declared.input.Input.TheOpen as open-input
use Rattle.gq_schema.specs.declared.input.Input.TheFolds.{fold-Input}

mutual
  pub data Input : Type 0 where
    Null : Input
    Int : ℤ → Input
    Text : List ℕ → Input
    Boolean : Bool → Input
    Items : Inputs → Input

  pub data Inputs : Type 0 where
    no_input : Inputs
    and_input : Input → Inputs → Inputs

-- these inputs, and then others
abbrev pub inputs_then : List Input → Inputs → Inputs
inputs_then [] others = others
inputs_then (i ∷ is) others = and_input i (inputs_then is others)

abbrev pub inputs_of : List Input → Inputs
inputs_of is = inputs_then is no_input

abbrev pub input_step : open-input.Input-F Input → Input
input_step open-input.Null = Null
input_step (open-input.Int z) = Int z
input_step (open-input.Text s) = Text s
input_step (open-input.Bool b) = Boolean b
input_step (open-input.List is) = Items (inputs_of is.items)

abbrev pub input_of : rust.Input → Input
input_of = fold-Input Input input_step

-- the result is this value, if there is one
abbrev pub Coerces : {E : Type 0} → Option Input → Result (Option rust.Input) E → Type 0
Coerces want result = IfOk result (λ input. option_map input_of input ≡ want)

-- these inputs before others, where there are such
abbrev pub before : List Input → Option Inputs → Option Inputs
before is None = None
before is (Some others) = Some (inputs_then is others)
