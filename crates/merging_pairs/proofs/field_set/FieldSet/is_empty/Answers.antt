use Rattle.std.proofs.Common.{Bool, true, false, not, refl, ℕ, List}
use Rattle.std.specs.Bool.{MatchBool}
use Rattle.merging_pairs.specs.Sets.{Meets, IsEmpty}
use Rattle.merging_pairs.proofs.field_set.FieldSet.is_empty.Goals as goal

-- a row that doesn't meet itself has no number
empty-by : (words : List ℕ) (met : Bool) → Meets words words met → MatchBool (not met) (IsEmpty words) (IsEmpty words → ⊥)
empty-by words true meets = λ none. let m = meets.found refl in none m.place m.first
empty-by words false meets = λ i e. meets.none refl (record { place = i; first = e; second = e })

pub returns : goal.returns
returns c = empty-by c.args.self.now c.meets.result c.meets.ensures
