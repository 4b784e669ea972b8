use Rattle.std.proofs.Common.{◌≡◌, drop, map}
use Rattle.plan_program.specs.FieldValues.{input_named}
use Rattle.plan_program.specs.Seen.{value_of}
use Rattle.plan_program.proofs.preparation.input_named.Given as goal

abbrev pub invariant-loop-own_name : goal.invariant-loop-own_name
invariant-loop-own_name l = input_named l.name (map value_of (drop l.own_name-index l.own_name-items)) ≡ input_named l.name (map value_of l.own_name-items)
