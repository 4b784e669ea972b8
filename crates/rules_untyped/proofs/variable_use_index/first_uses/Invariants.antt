use Rattle.std.proofs.Common.{◌≡◌, ℕ, List, map, drop, bytes_eq}
use Rattle.std.specs.HashMap.{get_by}
use Rattle.std.specs.Borrow.{Bor}
use Rattle.gq_schema.specs.Scan.{or_else}
use Rattle.gq_schema.specs.Places.{place_from}
use Rattle.rules_parts.specs.Parts.{use_of}
use Rattle.rules_untyped.specs.VariableUseIndex.{is_use, number_in}
use Rattle.rules_untyped.proofs.variable_use_index.first_uses.Given as goal

abbrev pub invariant-loop-place : goal.invariant-loop-place
invariant-loop-place l = (q : List ℕ) → or_else (get_by (λ (k : Bor (List ℕ)). bytes_eq q k.now) l.names) (place_from l.place (is_use q) (map use_of (drop l.place l.uses))) ≡ number_in (map use_of l.uses) q
