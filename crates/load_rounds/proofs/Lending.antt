-- One of the executions of a run is replaced.
use Rattle.std.proofs.Common.{◌≡◌, ◌<◌, ℕ, zero, suc, length, refl, arith}
use Rattle.std.specs.Prelude.{slice_set}
use Rattle.load_rounds.specs.declared.executions.Held.{Held}
use Rattle.load_rounds.specs.declared.executions.Held.TheVariants.{One, Several}
use Rattle.load_rounds.specs.Executions.{PartOf}
use Rattle.load_rounds.specs.Held.{executions_held, held_with}

pub held-set : {P E : Type 0} (held : Held P E) (at : ℕ) (other : PartOf P E) → at < length (executions_held held) → executions_held (held_with held at other) ≡ slice_set (executions_held held) at other
held-set (One execution) zero other lt = refl
held-set (One execution) (suc at) other lt = absurd (omega (arith, lt))
held-set (Several executions) at other lt = refl
