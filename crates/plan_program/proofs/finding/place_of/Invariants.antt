use Rattle.std.proofs.Common.{◌≡◌, ◌<◌, ℕ, get_or, [], false}
use Rattle.std.specs.Prelude.{bytes_eq}
use Rattle.plan_program.specs.Finding.{keys_in}
use Rattle.plan_program.proofs.finding.place_of.Given as goal

abbrev pub invariant-loop-place : goal.invariant-loop-place
invariant-loop-place l = (k : ℕ) → k < l.place → bytes_eq l.key (get_or (keys_in l.groups) k []) ≡ false
