-- Lemmas on how plans are prepared.
use Rattle.std.proofs.Common.{◌≡◌, ◌∙◌, ap, ℕ, List, Option, Result, Ok, Err}
use Rattle.serde_json.specs.Data.{Data}
use Rattle.gq_parser.specs.Tree.{Operation}
use Rattle.schema_syntax.specs.Tree.{Definition}
use Rattle.gq_variables.specs.Variables.{VariableOf}
use Rattle.gq_variables.specs.Values as values
use Rattle.gq_check.specs.Plans.{PlanOf}
use Rattle.gq_check.specs.Planned.{IsChosen, IsPlan}
use Rattle.gq_check.specs.Prepared.{PreparedOf, FaultOf, chosen_operation, with_variables, prepared_operation, prepared}

-- an operation was chosen, and its variables have values
pub prepares-with : (defs : List Definition) (os : List Operation) (name : Option (List ℕ)) (given : Data) (o : Operation) (vs : List VariableOf)
    → chosen_operation os name ≡ Ok o → values.coerced_variables defs o.variables given ≡ Ok vs
    → prepared defs os name given ≡ Ok (record { operation = o; variables = vs })
prepares-with defs os name given o vs chosen coerced =
    ap (λ (r : Result Operation FaultOf). prepared_operation defs given r) chosen
    ∙ ap (λ (r : Result (List VariableOf) values.FaultOf). with_variables o r) coerced

-- ---- the same operation with other values

ok-operation : (one : PreparedOf) (p : PreparedOf) → ◌≡◌ {A = Result PreparedOf FaultOf} (Ok one) (Ok p) → one.operation ≡ p.operation
ok-operation one p e = cc e

values-keep : (o : Operation) (p : PreparedOf) (coerced : Result (List VariableOf) values.FaultOf) → with_variables o coerced ≡ Ok p → o ≡ p.operation
values-keep o p (Ok vs) e = ok-operation (record { operation = o; variables = vs }) p e
values-keep o p (Err values.not_object) e = cc e
values-keep o p (Err (values.bad_variable name)) e = cc e

result-chosen : (defs : List Definition) (given : Data) (p : PreparedOf) (r : Result Operation FaultOf) → prepared_operation defs given r ≡ Ok p → r ≡ Ok p.operation
result-chosen defs given p (Err fault) e = cc e
result-chosen defs given p (Ok o) e = ap Ok (values-keep o p (values.coerced_variables defs o.variables given) e)

-- what was prepared is the operation that is asked for
pub prepares-chosen : (defs : List Definition) (os : List Operation) (name : Option (List ℕ)) (given : Data) (p : PreparedOf) → prepared defs os name given ≡ Ok p → chosen_operation os name ≡ Ok p.operation
prepares-chosen defs os name given p e = result-chosen defs given p (chosen_operation os name) e

-- With other values the same operation is prepared.
pub again-prepares : (defs : List Definition) (os : List Operation) (name : Option (List ℕ)) (given other : Data) (p : PreparedOf) → prepared defs os name given ≡ Ok p
    → prepared defs os name other ≡ prepared_operation defs other (Ok p.operation)
again-prepares defs os name given other p e = ap (λ (r : Result Operation FaultOf). prepared_operation defs other r) (prepares-chosen defs os name given p e)

-- A plan's operation was chosen from a valid document.
pub plan-chosen : (p : PlanOf) → IsPlan p → IsChosen p.definitions p.operation p.fragments
plan-chosen p is = record {
  document = is.document;
  valid = is.valid;
  same = is.same;
  name = is.name;
  chosen = prepares-chosen p.definitions is.document.operations is.name is.given (record { operation = p.operation; variables = p.variables }) is.prepares;
}
