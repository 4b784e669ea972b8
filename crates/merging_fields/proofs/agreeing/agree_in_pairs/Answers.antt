use Rattle.std.proofs.Common.{◌≤◌, length, subst, sym, ℕ, inl, inr, arith}
use Rattle.std.proofs.lemmas.Bool.{cases_eq}
use Rattle.std.proofs.lemmas.List.{length-map}
use Rattle.rules_parts.specs.Parts.{parts_in, field_part_of}
use Rattle.merging_fields.specs.Agreeing.{AgreeUnderOneKey}
use Rattle.merging_fields.proofs.Seen.{pairs-all}
use Rattle.merging_fields.proofs.agreeing.agree_in_pairs.Goals as goal

pub loop-earlier-preserved : goal.loop-earlier-preserved
loop-earlier-preserved c = λ a lt. elim (cases_eq a c.loop-earlier.earlier) [
  | inl same ↦ subst (λ (k : ℕ). AgreeUnderOneKey (parts_in c.args.parts.now) k c.loop-number.number) (sym same) (c.agree_under_one_key.ensures c.if-not-agree_under_one_key.false)
  | inr ne ↦ c.loop-earlier.invariant a (omega (arith, lt, ne))
]

pub loop-number-preserved : goal.loop-number-preserved
loop-number-preserved c = λ a b lt below. elim (cases_eq b c.loop-number.number) [
  | inl same ↦ subst (λ (k : ℕ). AgreeUnderOneKey (parts_in c.args.parts.now) a k) (sym same) (c.loop-earlier.invariant a (let past = c.loop-earlier-test.false in omega (arith, past, lt, same)))
  | inr ne ↦ c.loop-number.invariant a b lt (omega (arith, below, ne))
]

pub returns : goal.returns
returns c = λ _.
    let p = parts_in c.args.parts.now in
    let fields = c.args.parts.now.fields in
    let past = c.loop-number-test.false in
    let end = c.len-number-end.ensures in
    let many = length-map fields.items field_part_of in
    let own = fields.ok.0 in
    let le : length p.fields ≤ c.loop-number.number = omega (arith, past, end, many, own) in
    pairs-all p c.loop-number.number le c.loop-number.invariant
