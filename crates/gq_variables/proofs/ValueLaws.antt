-- Variables that are coerced one after the other.
use Rattle.std.proofs.Common.{◌≡◌, ap, List, [], ◌∷◌, ◌++◌, Result, Ok, Err, refl}
use Rattle.gq_variables.specs.declared.variable.Variable as rust
use Rattle.gq_variables.specs.Variables.{VariableOf, variable_of, variables_of}
use Rattle.gq_variables.specs.Values.{FaultOf, before, variables_before}

append-one : (xs : List rust.Variable) (x : rust.Variable) (others : List VariableOf) → variables_of (xs ++ x ∷ []) ++ others ≡ variables_of xs ++ variable_of x ∷ others
append-one [] x others = refl
append-one (y ∷ ys) x others = ap (λ (vs : List VariableOf). variable_of y ∷ vs) (append-one ys x others)

-- one more variable has a value
pub variables_before-push : (xs : List rust.Variable) (x : rust.Variable) (others : Result (List VariableOf) FaultOf) → variables_before (variables_of (xs ++ x ∷ [])) others ≡ variables_before (variables_of xs) (before (variable_of x) others)
variables_before-push xs x (Ok others) = ap (λ (vs : List VariableOf). Ok vs) (append-one xs x others)
variables_before-push xs x (Err e) = refl

append-nothing : (vs : List VariableOf) → vs ++ [] ≡ vs
append-nothing [] = refl
append-nothing (v ∷ vs) = ap (λ (ws : List VariableOf). v ∷ ws) (append-nothing vs)

pub variables_before-nothing : (vs : List VariableOf) → variables_before vs (Ok []) ≡ Ok vs
variables_before-nothing vs = ap (λ (ws : List VariableOf). Ok ws) (append-nothing vs)
