use Rattle.std.proofs.Common.{◌≡◌, map, take}
use Rattle.gq_schema.specs.Inputs.{input_of}
use Rattle.plan_program.proofs.arguments.+copied.Given as goal

abbrev pub invariant-copy_all-loop-input : goal.invariant-copy_all-loop-input
invariant-copy_all-loop-input l = map input_of l.copies.items ≡ map input_of (take l.input-index l.input-items)
