-- Variable Uniqueness (October 2021, section 5.8.1): no two variables of an operation have one name.
use Rattle.std.specs.Prelude.{List, map, flat_map}
use Rattle.gq_parser.specs.Tree.{Operation}
use Rattle.rules_parts.specs.Broken.{BrokenOf}
use Rattle.rules_parts.specs.Parts.{PartsOf}
use Rattle.rules_untyped.specs.Named.{named_variable}
use Rattle.rules_untyped.specs.Repeated.{repeated}

-- the variables of an operation whose name an earlier one of it has
abbrev pub repeated_variables : Operation → List BrokenOf
repeated_variables o = repeated (map named_variable o.variables)

abbrev pub variable_uniqueness : PartsOf → List BrokenOf
variable_uniqueness p = flat_map repeated_variables p.document.operations
