use Rattle.flat_rows.proofs.PlaceLaws.{Rise}
use Rattle.flat_rows.proofs.keyed.are_places.Given as goal

abbrev pub invariant-loop-place : goal.invariant-loop-place
invariant-loop-place l = Rise l.keys l.places l.place-index l.least
