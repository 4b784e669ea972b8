use Rattle.std.proofs.Common.{◌≡◌, ℕ, true, sym, subst, inl, inr, arith}
use Rattle.std.proofs.lemmas.Bool.{cases_eq}
use Rattle.rules_parts.specs.declared.part.Owner.TheVariants as owner
use Rattle.rules_spreads.specs.Graphs.{row}
use Rattle.rules_spreads.specs.SpreadReaches.{IsMarked}
use Rattle.merging_fields.specs.Orders.{are_marked}
use Rattle.merging_fields.proofs.Ordering.{more-marked}
use Rattle.merging_fields.proofs.ranks.take_all.Goals as goal

pub loop-fragment-preserved : goal.loop-fragment-preserved
loop-fragment-preserved c =
    let old = c.args.taken.now.items in
    let g = c.args.graph.now in
    let i = c.loop-fragment.fragment in
    record {
      part = c.in_ok-take_next.ensures.part;
      kept = λ x h. c.in_ok-take_next.ensures.kept x (c.loop-fragment.invariant.kept x h);
      taken = λ x lt ready. elim (cases_eq x i) [
        | inl same ↦ subst (λ (y : ℕ). IsMarked c.take_next.new.taken.items y) (sym same) (c.in_ok-take_next.ensures.taken (omega (arith, c.loop-fragment-test.true, c.len-fragment-end.ensures))
            (more-marked old c.loop-fragment.taken.items c.loop-fragment.invariant.kept (row g (owner.Fragment i)) (subst (λ (y : ℕ). are_marked old (row g (owner.Fragment y)) ≡ true) same ready)))
        | inr ne ↦ c.in_ok-take_next.ensures.kept x (c.loop-fragment.invariant.taken x (omega (arith, lt, ne)) ready)
      ];
    }
