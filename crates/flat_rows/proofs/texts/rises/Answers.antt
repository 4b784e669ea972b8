use Rattle.std.proofs.Common.{false, IsTrue, length, refl, arith}
use Rattle.std.proofs.lemmas.Bool.{eqb-true, eq-eqb, false≢true}
use Rattle.flat_rows.proofs.EndLaws.{rest-more, rest-low, rest-inside, rest-all}
use Rattle.flat_rows.proofs.texts.rises.Goals as goal
use Rattle.flat_rows.proofs.texts.rises.Goals.{then-end-start-via-then-end-start, then-end-start-via-else-end-start+then-not-is_char_boundary}

never : {P : Type 0} → ¬ P → (IsTrue false → P) × (P → IsTrue false)
never fails = (λ wrong. absurd (false≢true wrong), λ p. absurd (fails p))

pub loop-end-preserved : goal.loop-end-preserved
loop-end-preserved c =
    rest-more c.args.text.now c.args.ends.now c.loop-end.start c.loop-end.end-index c.loop-end-test.true c.utf8.text c.if-end-start.false (c.if-not-is_char_boundary.ensures.test.0 refl) c.loop-end.invariant

pub returns-then-end-start : goal.returns-then-end-start
returns-then-end-start c = elim c.then-end-start.branch [
  | then-end-start-via-then-end-start w ↦ never (rest-low c.args.text.now c.args.ends.now c.loop-end.start c.loop-end.end-index c.loop-end-test.true (λ low. absurd (omega (arith, low, w.if-end-start.true))) c.loop-end.invariant)
  | then-end-start-via-else-end-start+then-not-is_char_boundary w ↦ never (rest-inside c.args.text.now c.args.ends.now c.loop-end.start c.loop-end.end-index c.loop-end-test.true (λ inside. false≢true (w.if-not-is_char_boundary.ensures.test.1 inside)) c.loop-end.invariant)
]

pub returns : goal.returns
returns c =
    let all = rest-all c.args.text.now c.args.ends.now c.loop-end.start c.loop-end.end-index c.loop-end-test.false c.loop-end.invariant in
    (λ same. all.1 (eqb-true c.loop-end.start (length c.args.text.now) same), λ cut. eq-eqb c.loop-end.start (length c.args.text.now) (all.0 cut))
