-- A plan's operation has no path of more fields than its program has levels.
use Rattle.std.proofs.Common.{◌≡◌, ◌∙◌, sym, ap, subst, refl, ℕ, ◌<◌, ◌≤◌, false, List, [], ◌∷◌, inl, length, Option, Some, None, Result, Ok, Err, arith}
use Rattle.gq_parser.specs.Tree.{Operation, Fragment, Document}
use Rattle.schema_syntax.specs.Tree.{Definition}
use Rattle.serde_json.specs.Data.{Data}
use Rattle.rules_parts.specs.Listing.{parts_of}
use Rattle.rules_spreads.specs.Graphs.{graph_of}
use Rattle.rules_spreads.specs.Reach.{is_cyclic}
use Rattle.rules_spreads.specs.Levels.{levels_named, levels_expanded, levels_of}
use Rattle.rules_spreads.specs.Rules.{deep_operation}
use Rattle.merging_fields.proofs.Acyclic.{free-of}
use Rattle.gq_variables.specs.Variables.{VariableOf}
use Rattle.gq_variables.specs.Values as values
use Rattle.gq_check.specs.Plans.{PlanOf}
use Rattle.gq_check.specs.Planned.{IsPlan}
use Rattle.gq_check.specs.Prepared.{PreparedOf, FaultOf as Fault, is_operation, chosen_operation, with_variables, prepared_operation, prepared}
use Rattle.gq_check.specs.Valid.{KeepsRules}
use Rattle.gq_check.proofs.Validity.{valid-keeps}
use Rattle.plan_program.specs.PlanPrograms.{most_levels, plan_program}
use Rattle.plan_laws.specs.Levels.{program_with}
use Rattle.execution.specs.Loads.{IsOneOf}
use Rattle.plan_laws.proofs.Options.{found-one, none-kept}
use Rattle.std.proofs.lemmas.Bool.Decides.{nat_tests}
use Rattle.plan_laws.proofs.Leveled.{AreLevels, more-levels}
use Rattle.plan_laws.proofs.Expanded.{levels-hold}

-- ---- the operation of a plan is one of its document's

chosen-among : (os : List Operation) (name : Option (List ℕ)) (o : Operation) → chosen_operation os name ≡ Ok o → IsOneOf o os
chosen-among os (Some name) o h = (found-one (is_operation name) os o (grind arith)).0
chosen-among [] None o h = absurd (cc h)
chosen-among (p ∷ []) None o h = inl (cc)
chosen-among (p ∷ q ∷ os) None o h = absurd (cc h)

with-own : (o : Operation) (vs : Result (List VariableOf) values.FaultOf) (p : PreparedOf) → with_variables o vs ≡ Ok p → o ≡ p.operation
with-own o vs p h = grind arith

pub prepared-among : (defs : List Definition) (os : List Operation) (name : Option (List ℕ)) (given : Data) (p : PreparedOf) → prepared defs os name given ≡ Ok p → IsOneOf p.operation os
prepared-among defs os name given p h = go (chosen_operation os name) refl h
  where
    go : (r : Result Operation Fault) → chosen_operation os name ≡ r → prepared_operation defs given r ≡ Ok p → IsOneOf p.operation os
    go (Err e) c k = absurd (cc k)
    go (Ok o) c k = let same = with-own o (values.coerced_variables defs o.variables given) p k in chosen-among os name p.operation (c ∙ ap (λ q. Ok q) same)

-- ---- and has no more levels than there may be

shallow : (fs : List Fragment) (o : Operation) → deep_operation fs o ≡ None → levels_of fs o ≤ most_levels
shallow fs o h = grind (arith, nat_tests)

-- the program of a plan is the same over any more levels
pub plan-levels : (plan : PlanOf) → IsPlan plan → (levels : ℕ) → most_levels ≤ levels → program_with plan levels ≡ plan_program plan
plan-levels plan is levels le =
    let d : Document = is.document in
    let keeps : KeepsRules (parts_of plan.definitions is.document) = valid-keeps (parts_of plan.definitions is.document) is.valid in
    let free : (k : ℕ) → k < length is.document.fragments → is_cyclic (graph_of (parts_of plan.definitions is.document)) k ≡ false = free-of plan.definitions is.document keeps.cycles in
    let spread : List ℕ → ℕ = levels_named (levels_expanded (length is.document.fragments) is.document.fragments) is.document.fragments in
    let held : AreLevels is.document.fragments (levels_named (levels_expanded (length is.document.fragments) is.document.fragments) is.document.fragments) = levels-hold plan.definitions is.document free in
    let P : List Fragment → Type 0 = λ fs. AreLevels fs (levels_named (levels_expanded (length is.document.fragments) is.document.fragments) is.document.fragments) in
    let among = prepared-among plan.definitions is.document.operations is.name is.given (record { operation = plan.operation; variables = plan.variables }) is.prepares in
    let few = shallow is.document.fragments plan.operation (none-kept (deep_operation is.document.fragments) is.document.operations plan.operation keeps.levels among) in
    more-levels plan (levels_named (levels_expanded (length is.document.fragments) is.document.fragments) is.document.fragments) (subst P (sym is.same) held) levels few le
