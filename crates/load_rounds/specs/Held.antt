-- Where the executions of a run stand, of which contracts see the list. No public clause names it.
use Rattle.std.specs.Prelude.{ℕ, List, [], ◌∷◌}
use Rattle.std.specs.Vec.{with_item}
use Rattle.load_rounds.specs.Executions.{PartOf}
use Rattle.load_rounds.specs.declared.executions.Held.{Held}
use Rattle.load_rounds.specs.declared.executions.Held.TheVariants.{One, Several}

module _ {P E : Type 0} where
  abbrev pub executions_held : Held P E → List (PartOf P E)
  executions_held (One execution) = execution ∷ []
  executions_held (Several executions) = executions.items

  -- the same with another execution at a place that they have
  abbrev pub held_with : Held P E → ℕ → PartOf P E → Held P E
  held_with (One execution) at other = One other
  held_with (Several executions) at other = Several (with_item executions at other)
