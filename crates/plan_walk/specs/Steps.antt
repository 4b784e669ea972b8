-- The later loaders of a `via`.
use Rattle.std.specs.Prelude.{ℕ, ◌-◌, List, length, drop}
use Rattle.gq_bindings.specs.Tree.{StepOf}

-- the last `left` steps
abbrev pub last_steps : ℕ → List StepOf → List StepOf
last_steps left steps = drop (length steps - left) steps
