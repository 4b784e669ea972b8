-- Definitions of what contracts see of an argument that is coerced, and of its fault.
use Rattle.std.specs.Prelude.{◌≡◌, string_bytes}
use Rattle.gq_schema.specs.Inputs.{input_of}
use Rattle.plan_program.specs.declared.arguments.CoercedArgument as rust
use Rattle.plan_program.specs.declared.arguments.CoercedArgument.TheVariants as variant
use Rattle.plan_program.specs.declared.arguments.ArgFault.{ArgFault}
use Rattle.plan_program.specs.declared.arguments.ArgFault.TheVariants.{NullArgument, NoMemory}
use Rattle.plan_program.specs.Arguments.{Coerced, absent, present, refused, ArgumentsOf, null_argument}

abbrev pub coerced_seen : rust.CoercedArgument → Coerced
coerced_seen variant.Absent = absent
coerced_seen (variant.Present i) = present (input_of i)
coerced_seen variant.Refused = refused

-- the fault that is reported where arguments are wanted; of memory this says nothing
abbrev pub Refuses : ArgFault → ArgumentsOf → Type 0
Refuses (NullArgument name) want = want ≡ null_argument (string_bytes name)
Refuses NoMemory want = Unit {0}
