use Rattle.std.proofs.Common.{[], length, ap, ◌∙◌}
use Rattle.std.proofs.lemmas.List.{length-map}
use Rattle.flat_orders.specs.Written.{size_of}
use Rattle.flat_outcomes.specs.Buffers.{said_by}
use Rattle.flat_outcomes.specs.Written.{all_rows, count_of}
use Rattle.flat_outcomes.proofs.Adding.{length-widths}
use Rattle.flat_outcomes.proofs.outcomes.FlatOutcomes.sizes.Goals as goal

pub returns-clause-keys : goal.returns-clause-keys
returns-clause-keys c =
    let b = c.self.inside.buffers in
    rw (← c.self.view_is) (c.len.ensures ∙ b.counts.ok.0 ∙ ap length c.self.invariant.counts_are ∙ length-map (said_by b) count_of)

pub returns-clause-rows : goal.returns-clause-rows
returns-clause-rows c =
    let b = c.self.inside.buffers in
    rw (← c.self.view_is) (c.len-2.ensures ∙ b.widths.ok.0 ∙ ap length c.self.invariant.widths_are ∙ length-widths [] (all_rows (said_by b)))

pub returns-clause-texts : goal.returns-clause-texts
returns-clause-texts c = rw (← c.self.view_is) (c.len-3.ensures ∙ ap length c.self.invariant.texts_are)

pub returns-clause-bytes : goal.returns-clause-bytes
returns-clause-bytes c = rw (← c.self.view_is) (c.byte_len.ensures ∙ ap size_of c.self.invariant.texts_are)

pub returns-clause-faults : goal.returns-clause-faults
returns-clause-faults c = rw (← c.self.view_is) (c.len-4.ensures ∙ ap length c.self.invariant.faults_are)

pub returns-clause-fault_bytes : goal.returns-clause-fault_bytes
returns-clause-fault_bytes c = rw (← c.self.view_is) (c.byte_len-2.ensures ∙ ap size_of c.self.invariant.faults_are)
