use Rattle.std.proofs.Common.{◌∙◌, subst, sym, ℕ, ◌-◌, ◌<◌, ◌≤◌, inl, inr, arith}
use Rattle.std.proofs.lemmas.Bool.{cases_eq}
use Rattle.merging_members.specs.Placed.{HasPlace}
use Rattle.merging_members.proofs.numbering.place_all.Goals as goal

pub loop-field-preserved : goal.loop-field-preserved
loop-field-preserved c =
    let inv = c.loop-field.invariant in
    let x = c.loop-field.field - 1 in
    let first : c.args.first ≤ x = let test = c.loop-field-test.true in omega (arith, test) in
    let last : x < c.args.end = let test = c.loop-field-test.true in let most = c.loop-field.auto.field in omega (arith, test, most) in
    let order = c.place.new.numbering.order.items in
    let numbers = c.place.new.numbering.numbers.items in
    record {
      len = c.place.ensures.len ∙ inv.len;
      own = λ a le lt. elim (cases_eq a x) [
        | inl same ↦ subst (λ (y : ℕ). HasPlace order numbers y) (sym same) c.in_ok-place.ensures.own
        | inr ne ↦ c.in_ok-place.ensures.kept a (inv.own a (omega (arith, le, ne)) lt)
      ];
      kept = λ a h. c.in_ok-place.ensures.kept a (inv.kept a h);
      placed = λ d p ready. c.in_ok-place.ensures.placed d (inv.placed d p ready) (λ y inside. elim (ready x y first last inside) [
        | inl r ↦ let after = r.0 in inv.own y (omega (arith, after)) r.1
        | inr h ↦ inv.kept y h
      ]);
    }
