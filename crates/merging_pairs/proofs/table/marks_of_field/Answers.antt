use Rattle.std.proofs.Common.{◌≡◌, ◌==◌, true, inl, inr, arith, refl, sym, ap, ◌∙◌, eq-eqb, eqb-true}
use Rattle.std.proofs.lemmas.Bool.{or_cases}
use Rattle.merging_pairs.specs.Table.{fail, entry}
use Rattle.merging_pairs.proofs.ReachLaws.{or-none}
use Rattle.merging_pairs.proofs.TableLaws.{entry-within}
use Rattle.merging_pairs.proofs.table.marks_of_field.Goals as goal

pub returns : goal.returns
returns c = record {
  only = λ k e. record { other = c.args.field; member = or-none (c.args.field == c.args.field) ∙ eq-eqb c.args.field c.args.field refl; fails = c.loop-d.invariant.only k e };
  all = λ k d m e.
      let same : d ≡ c.args.field = eqb-true d c.args.field (sym (or-none (d == c.args.field)) ∙ m) in
      let e' : fail c.args.rows.now k c.args.field ≡ true = sym (ap (fail c.args.rows.now k) same) ∙ e in
      elim (or_cases (entry c.args.rows.now k c.args.field) (entry c.args.rows.now c.args.field k) e') [
        | inl h ↦ let within = entry-within c.args.rows.now k c.args.field h in c.loop-d.invariant.earlier k (omega arith) h
        | inr h ↦ c.loop-d.invariant.later k h
      ];
}
