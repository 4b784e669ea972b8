use Rattle.std.proofs.Common.{◌≡◌, drop}
use Rattle.gq_variables.specs.Variables.{variables_of, value_in}
use Rattle.gq_check.proofs.variables.value_among.Given as goal

abbrev pub invariant-loop-variable : goal.invariant-loop-variable
invariant-loop-variable l = value_in (variables_of (drop l.variable-index l.variables)) l.name ≡ value_in (variables_of l.variables) l.name
