use Rattle.std.proofs.Common.{◌≡◌, map, take}
use Rattle.answer_json.specs.Answer.{part_of}
use Rattle.gq_resolve.proofs.bounded.copy_path.Given as goal

abbrev pub invariant-loop-step : goal.invariant-loop-step
invariant-loop-step l = map part_of l.copy.items ≡ map part_of (take l.step-index l.path)
