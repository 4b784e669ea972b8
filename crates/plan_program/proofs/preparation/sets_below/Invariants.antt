use Rattle.std.proofs.Common.{◌≡◌, ◌++◌, drop, map}
use Rattle.gq_parser.specs.Tree.{below_of}
use Rattle.plan_program.specs.Fields.{fields_seen}
use Rattle.plan_program.specs.FieldValues.{sets_below}
use Rattle.plan_program.proofs.preparation.sets_below.Given as goal

abbrev pub invariant-loop-field : goal.invariant-loop-field
invariant-loop-field l = map below_of l.sets ++ sets_below (fields_seen (drop l.field-index l.fields)) ≡ sets_below (fields_seen l.fields)
