use Rattle.std.proofs.Common.{◌≡◌, ◌≢◌, ◌∙◌, ◌&&◌, ◌||◌, ap, sym, ℕ, eqb, arith, ⊎_elim}
use Rattle.std.proofs.lemmas.Bool.{cases_eq, ne_eqb}
use Rattle.std.proofs.lemmas.List.{get_or_read}
use Rattle.rules_parts.specs.declared.part.Owner.{Owner}
use Rattle.rules_parts.specs.declared.part.VariableUse.{VariableUse}
use Rattle.rules_spreads.specs.Reach.{is_among}
use Rattle.rules_spreads.specs.Graphs.{row}
use Rattle.rules_spreads.specs.OwnerLists.{owner_rows, is_same_owner}
use Rattle.rules_typed.proofs.PlaceLaws.{place_more, place_added, place_kept}
use Rattle.rules_typed.proofs.use_places.places_of.Goals as goal

pub loop-i-preserved : goal.loop-i-preserved
loop-i-preserved c =
    let uses = c.args.uses.now in
    let i = c.loop-i.i in
    let item = c.index-uses-i.result in
    let old = owner_rows c.loop-i.places in
    let more = λ (o : Owner) (k : ℕ). place_more (row old o) (row (owner_rows c.add.new.self) o) (is_same_owner o item.owner) i k (c.in_ok-add.ensures o) in
    let here = λ (o : Owner) (d : VariableUse). more o i
    ∙ (ap (λ r. (is_same_owner o item.owner && eqb i i) || r) (c.loop-i.invariant.beyond o i (omega arith))
    ∙ (place_added (is_same_owner o item.owner) i ∙ ap (λ (u : VariableUse). is_same_owner o u.owner) (get_or_read uses i item c.loop-i-test.true c.index-uses-i.is d))) in
    let kept = λ (o : Owner) (k : ℕ) (apart : i ≢ k). more o k ∙ place_kept (is_same_owner o item.owner) (is_among k (row old o)) i k (ne_eqb i k apart) in
    record {
      within = λ o k d lt. ⊎_elim (λ e. rw e (here o d)) (λ apart. kept o k (λ e. apart (sym e)) ∙ c.loop-i.invariant.within o k d (omega arith)) (cases_eq k i);
      beyond = λ o k past. kept o k (λ e. omega arith) ∙ c.loop-i.invariant.beyond o k (omega arith);
    }
