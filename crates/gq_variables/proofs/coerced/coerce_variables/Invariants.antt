use Rattle.std.proofs.Common.{◌≡◌, drop}
use Rattle.serde_json.specs.View.{view}
use Rattle.gq_parser.specs.Tree as tree
use Rattle.gq_schema.specs.Types.{tree_of}
use Rattle.gq_variables.specs.Variables.{variables_of}
use Rattle.gq_variables.specs.Values.{values_of, variables_before}
use Rattle.gq_variables.proofs.coerced.coerce_variables.Given as goal

abbrev pub invariant-loop-definition : goal.invariant-loop-definition
invariant-loop-definition l =
    variables_before (variables_of l.variables.items) (values_of (tree_of l.schema) (view l.given) (tree.variables_of (drop l.definition-index l.definitions)))
    ≡ values_of (tree_of l.schema) (view l.given) (tree.variables_of l.definitions)
