-- Definitions of what contracts see of the value of a variable.
use Rattle.gq_schema.specs.Inputs.{input_of}
use Rattle.gq_variables.specs.declared.coerced.CoercedVariable as rust
use Rattle.gq_variables.specs.declared.coerced.CoercedVariable.TheVariants as coerced
use Rattle.gq_variables.specs.Values.{ValueOf, a_value, no_value, bad_value}

abbrev pub value_seen : rust.CoercedVariable → ValueOf
value_seen (coerced.Value i) = a_value (input_of i)
value_seen coerced.Absent = no_value
value_seen coerced.Bad = bad_value
