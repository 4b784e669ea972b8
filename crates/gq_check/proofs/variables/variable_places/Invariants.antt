use Rattle.std.proofs.Common.{◌≡◌, ℕ, List, drop}
use Rattle.std.specs.HashMap.{get_by_text}
use Rattle.gq_schema.specs.Scan.{or_else}
use Rattle.gq_schema.specs.Places.{place_from}
use Rattle.gq_variables.specs.Variables.{variables_of, is_variable}
use Rattle.gq_check.proofs.variables.variable_places.Given as goal

abbrev pub invariant-loop-i : goal.invariant-loop-i
invariant-loop-i l = (q : List ℕ) → or_else (get_by_text l.places q) (place_from l.i (is_variable q) (variables_of (drop l.i l.variables))) ≡ place_from 0 (is_variable q) (variables_of l.variables)
