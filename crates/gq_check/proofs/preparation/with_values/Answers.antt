use Rattle.std.proofs.Common.{◌≡◌, Ok, arith}
use Rattle.serde_json.specs.View.{view}
use Rattle.gq_parser.specs.Tree.{operation_of}
use Rattle.gq_schema.specs.Types.{tree_of}
use Rattle.gq_variables.specs.Values as values
use Rattle.gq_variables.specs.Variables.{variables_of}
use Rattle.std.specs.Arc.{arc_value}
use Rattle.gq_check.proofs.Planning.{prepares-with}
use Rattle.gq_check.proofs.preparation.with_values.Goals as goal

pub of-requires-2 : goal.of-requires-2
of-requires-2 c =
    let is = c.requires in
    let given = view c.args.variables.now in
    let o = operation_of (arc_value c.args.operation) in
    let coerced : values.coerced_variables (tree_of (arc_value c.args.schema)) o.variables given ≡ Ok (variables_of c.in_ok-variables.variables.items) = grind arith in
    record {
      document = is.document;
      valid = is.valid;
      same = is.same;
      name = is.name;
      given = given;
      prepares = rw c.in_ok-variables-2.ensures (prepares-with (tree_of (arc_value c.args.schema)) is.document.operations is.name given o (variables_of c.in_ok-variables.variables.items) is.chosen coerced);
    }
