use Rattle.std.proofs.Common.{◌≡◌, ◌∙◌, [], ap, inr, false, sym}
use Rattle.std.proofs.lemmas.Bool.{both_ways}
use Rattle.merging_pairs.specs.Sets.{has}
use Rattle.merging_pairs.specs.declared.field.Field.{Field}
use Rattle.merging_pairs.proofs.TableLaws.{at-get}
use Rattle.merging_pairs.proofs.table.joined_fails.Goals as goal
use Rattle.merging_pairs.proofs.table.joined_fails.Goals.{then-has, else-has}

pub returns-else-has-2 : goal.returns-else-has-2
returns-else-has-2 c =
    let members = at-get (λ f. f.members) [] c.args.fields.now c.args.a c.index-fields-a.result c.requires.a c.index-fields-a.is ∙ ap (λ (f : Field). f.members) c.index-fields-a.is in
    let neither : (has c.args.inner.now c.args.a ≡ false) × (has c.args.inner.now c.args.b ≡ false) =
    elim c.if-has.branch [
      | then-has w ↦ absurd (both_ways c.if-has.value c.if-has-2.false (w.value-is ∙ w.if-has.true))
      | else-has w ↦ (sym c.has.ensures ∙ w.if-has.false, sym w.has-else-has.ensures ∙ sym w.value-is ∙ c.if-has-2.false)
    ] in
    rw members (record { found = λ e. inr (inr (c.meets.ensures.found e)); none = λ e. (neither.0, neither.1, c.meets.ensures.none e) })
