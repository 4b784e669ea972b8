use Rattle.std.proofs.Common.{◌≡◌, ◌∙◌, sym, ap, subst, ◌+◌, ◌∷◌, drop, map, Option, Some}
use Rattle.std.specs.Prelude.{fold}
use Rattle.std.specs.Option.{option_map}
use Rattle.merging_members.specs.declared.visiting.ClashingSet.{ClashingSet}
use Rattle.merging_members.specs.Members.{SetOf}
use Rattle.merging_members.specs.SetMembers.{clashing_of, IsInside}
use Rattle.merging_fields.specs.Reports.{with_set, earliest_set}
use Rattle.merging_fields.proofs.Joining.{next-of}
use Rattle.merging_fields.proofs.rules.field_selection_merging.earliest_set.Goals as goal
use Rattle.merging_fields.proofs.rules.field_selection_merging.earliest_set.Goals.{in-Some, in-None}

pub loop-set-preserved : goal.loop-set-preserved
loop-set-preserved c =
    let xs = c.args.sets.now in
    let i = c.loop-set.set-index in
    let x = c.set-item.result in
    let before = c.loop-set.invariant in
    record {
      set = λ spread.
          let as_set = clashing_of spread in
          let rest = map as_set (drop (i + 1) xs) in
          let left : map as_set (drop i xs) ≡ as_set x ∷ rest = next-of as_set xs i x c.loop-set-test.true c.set-item.is in
          let so_far : fold with_set (option_map as_set c.loop-set.earliest) (as_set x ∷ rest) ≡ earliest_set (map as_set xs) = ap (fold with_set (option_map as_set c.loop-set.earliest)) (sym left) ∙ before.set spread in
          elim c.match-earliest.branch [
            | in-Some w ↦ rw w.earliest-is (ap (λ (s : SetOf). fold with_set (Some s) rest) (w.earlier.ensures.set spread) ∙ (ap (λ (o : Option ClashingSet). fold with_set (option_map as_set o) (as_set x ∷ rest)) (sym w.in-Some.is) ∙ so_far))
            | in-None w ↦ rw w.earliest-is (ap (λ (o : Option ClashingSet). fold with_set (option_map as_set o) (as_set x ∷ rest)) (sym w.in-None.is) ∙ so_far)
          ];
      inside = λ many all.
          let here : IsInside many x = subst (IsInside many) (sym c.set-item.is) (all i x c.loop-set-test.true) in
          elim c.match-earliest.branch [
            | in-Some w ↦ rw w.earliest-is (w.earlier.ensures.inside many (rw w.in-Some.is at (before.inside many all)) here)
            | in-None w ↦ rw w.earliest-is here
          ];
    }

pub returns-clause-inside : goal.returns-clause-inside
returns-clause-inside c = c.loop-set.invariant.inside
