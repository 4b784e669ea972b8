use Rattle.std.proofs.Common.{◌≡◌, ℕ, List, drop, map}
use Rattle.std.specs.Prelude.{fold, All, IfSome}
use Rattle.std.specs.Option.{option_map}
use Rattle.merging_members.specs.SetMembers.{clashing_of, IsInside}
use Rattle.merging_fields.specs.Reports.{with_set, earliest_set}
use Rattle.merging_fields.proofs.rules.field_selection_merging.earliest_set.Given as goal

abbrev pub invariant-loop-set : goal.invariant-loop-set
invariant-loop-set l = record {
  set : (spread : List ℕ → List ℕ) → fold with_set (option_map (clashing_of spread) l.earliest) (map (clashing_of spread) (drop l.set-index l.sets)) ≡ earliest_set (map (clashing_of spread) l.sets);
  inside : (many : ℕ) → All (IsInside many) l.sets → IfSome l.earliest (IsInside many);
}
