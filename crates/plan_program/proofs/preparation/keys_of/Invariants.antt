use Rattle.std.proofs.Common.{◌≡◌, ◌++◌, drop, map}
use Rattle.gq_schema.specs.Inputs.{input_of, inputs_of}
use Rattle.plan_program.specs.FieldValues.{keys_of}
use Rattle.plan_program.specs.Prepared.{keys_seen}
use Rattle.plan_program.proofs.preparation.keys_of.Given as goal

abbrev pub invariant-loop-input : goal.invariant-loop-input
invariant-loop-input l = keys_seen l.keys.items ++ keys_of (inputs_of (map input_of (drop l.input-index l.input-items))) ≡ keys_of (inputs_of (map input_of l.input-items))
