use Rattle.std.proofs.Common.{◌-◌, map, drop, length}
use Rattle.gq_bindings.specs.Seen.{step_of}
use Rattle.plan_walk.specs.Reading.{lookup}
use Rattle.plan_walk.specs.Steps.{last_steps}
use Rattle.plan_walk.proofs.Stepping.{Reaches}
use Rattle.plan_walk.proofs.following.follow_steps.Given as goal

abbrev pub invariant-loop-number : goal.invariant-loop-number
invariant-loop-number l = Reaches (lookup l.memory) (last_steps l.left (map step_of l.steps)) l.from (l.number - (length l.steps - l.left)) (drop l.number (map step_of l.steps)) l.row
