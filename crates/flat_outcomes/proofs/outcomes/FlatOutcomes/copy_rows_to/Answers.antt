use Rattle.std.proofs.Common.{◌∙◌, refl, subst, arith}
use Rattle.std.proofs.lemmas.Bool.{false≢true}
use Rattle.flat_outcomes.specs.Written.{AreWritten}
use Rattle.flat_outcomes.proofs.Adding.{sizes-of}
use Rattle.flat_outcomes.proofs.outcomes.FlatOutcomes.copy_rows_to.Goals as goal
use Rattle.flat_outcomes.proofs.outcomes.FlatOutcomes.copy_rows_to.Goals.{then-counts-len-via-then-counts-len, then-counts-len-via-else-counts-len+then-widths-len}

pub returns-then-counts-len-clause-sizes : goal.returns-then-counts-len-clause-sizes
returns-then-counts-len-clause-sizes c =
    let own = c.self.inside.buffers in
    let w = subst (λ os. AreWritten os own.counts.items own.widths.items own.texts own.faults) c.self.view_is c.self.invariant in
    let s = sizes-of _ _ _ _ _ w in
    elim c.then-counts-len.branch [
      | then-counts-len-via-then-counts-len w ↦ (
        λ wrong. absurd (false≢true wrong),
        λ h. absurd (omega (arith, w.if-counts-len.true, c.len.ensures, own.counts.ok.0, s.0, h.0)),
      )
      | then-counts-len-via-else-counts-len+then-widths-len w ↦ (
        λ wrong. absurd (false≢true wrong),
        λ h. absurd (omega (arith, w.if-widths-len.true, w.len-else-counts-len.ensures, own.widths.ok.0, s.1, h.1)),
      )
    ]

pub returns-clause-sizes : goal.returns-clause-sizes
returns-clause-sizes c =
    let own = c.self.inside.buffers in
    let w = subst (λ os. AreWritten os own.counts.items own.widths.items own.texts own.faults) c.self.view_is c.self.invariant in
    let s = sizes-of _ _ _ _ _ w in
    let texts = c.in_ok-copy_to.ensures.sizes.0 refl in (
      λ yes. (
        omega (arith, c.if-counts-len.false, c.len.ensures, own.counts.ok.0, s.0),
        omega (arith, c.if-widths-len.false, c.len-else-counts-len.ensures, own.widths.ok.0, s.1),
        texts.0 ∙ s.2,
        texts.1 ∙ s.3,
      ),
      λ h. refl,
    )
