use Rattle.std.proofs.Common.{map, take, refl}
use Rattle.std.proofs.lemmas.List.{take_all}
use Rattle.std.proofs.lemmas.List.Elements.{All-nil}
use Rattle.load_memory.specs.Outcomes.{outcome_of}
use Rattle.flat_outcomes.specs.Written.{last_row, row_before, texts_of, widths_of}
use Rattle.flat_outcomes.proofs.Adding.{outcome-next, written-more, last-more}
use Rattle.flat_outcomes.proofs.Writing.{IsFewOf, written-said, said-back}
use Rattle.flat_outcomes.proofs.outcomes.FlatOutcomes.of.Goals as goal

pub loop-outcome-preserved : goal.loop-outcome-preserved
loop-outcome-preserved c =
    let now = c.loop-outcome.invariant in let outcomes = c.args.outcomes.now in let i = c.loop-outcome.outcome-index in
    let o = c.outcome-item.result in let last = row_before c.loop-outcome.last in let os = map outcome_of (take i outcomes) in
    let more = outcome-next outcome_of outcomes i o c.loop-outcome-test.true c.outcome-item.is in
    let put = c.in_ok-last.ensures in
    record {
      written = rw (put.count, put.widths, put.texts, put.faults, more) (written-more os last now.last (outcome_of o) _ _ _ _ now.written put.few);
      last = rw (put.last, more) (last-more os last now.last (outcome_of o));
    }

pub invariant_of-result : goal.invariant_of-result
invariant_of-result c =
    let written = rw (take_all c.loop-outcome.outcome-index c.args.outcomes.now c.loop-outcome-test.false) at c.loop-outcome.invariant.written in
    written-said _ _ _ _ _ written

pub returns : goal.returns
returns c =
    let written = rw (take_all c.loop-outcome.outcome-index c.args.outcomes.now c.loop-outcome-test.false) at c.loop-outcome.invariant.written in
    said-back _ _ _ _ _ written

pub loop-outcome-init : goal.loop-outcome-init
unfolding widths_of texts_of last_row
loop-outcome-init c = record {
  written = record {
    few = All-nil IsFewOf;
    counts_are = c.in_ok-with_capacity.ensures.items;
    widths_are = c.new.ensures.items;
    texts_are = c.new-2.ensures;
    faults_are = c.new-3.ensures;
  };
  last = refl;
}
