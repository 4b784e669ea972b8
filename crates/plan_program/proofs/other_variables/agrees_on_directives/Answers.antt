use Rattle.std.proofs.Common.{◌≡◌, List, false, Some, refl, subst}
use Rattle.std.specs.List.{All}
use Rattle.gq_schema.specs.Inputs.{input_of}
use Rattle.gq_check.specs.Plans.{plan_of}
use Rattle.gq_variables.specs.declared.variable.Variable.{Variable}
use Rattle.gq_variables.specs.Variables.{variable_of}
use Rattle.plan_program.specs.Chosen.{is_true_input}
use Rattle.plan_program.specs.OtherVariables.{AgreesAt}
use Rattle.plan_program.proofs.OtherVariables.{agrees-by-names, agrees-untrue}
use Rattle.plan_program.proofs.other_variables.agrees_on_directives.Goals as goal

-- the variables that were gone over are all of a plan
gone-over : (P : Variable → Type 0) (seen own : List Variable) → seen ≡ own → All P seen → All P own
gone-over P seen own same each = subst (All P) same each

pub returns-then-is_none_true-2 : goal.returns-then-is_none_true-2
returns-then-is_none_true-2 c agreed =
    let plan = c.args.plan.now in
    let other = c.args.other.now in
    let untrue : Variable → Type 0 = λ v. is_true_input (Some (input_of v.value)) ≡ false in
    agrees-untrue variable_of (plan_of plan) plan.variables other.variables refl
    (gone-over untrue c.variables-own.result.now plan.variables c.variables-own.ensures (c.is_none_true.ensures c.if-is_none_true.true))
    (gone-over untrue c.variables-others.result.now other.variables c.variables-others.ensures (c.is_none_true-then-is_none_true.ensures c.if-is_none_true-2.true))

pub returns-then-agrees_at_each : goal.returns-then-agrees_at_each
returns-then-agrees_at_each c agreed =
    let plan = c.args.plan.now in
    let other = c.args.other.now in
    let agrees : Variable → Type 0 = λ v. AgreesAt (plan_of plan) (plan_of other).variables v.name in
    agrees-by-names variable_of (plan_of plan) plan.variables other.variables refl
    (gone-over agrees c.variables-own.result.now plan.variables c.variables-own.ensures (c.agrees_at_each.ensures c.if-agrees_at_each.true))
    (gone-over agrees c.variables-others.result.now other.variables c.variables-others.ensures (c.agrees_at_each-then-agrees_at_each.ensures agreed))
