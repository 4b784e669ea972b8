use Rattle.gq_schema.specs.Seen.{has_text}
use Rattle.gq_schema.proofs.Bools.{noted-text}
use Rattle.gq_schema.proofs.rules.repeated.note.Goals as goal

pub returns-clause-noted : goal.returns-clause-noted
returns-clause-noted c = λ q.
    noted-text (has_text c.insert.new.self q) (has_text c.args.seen.now q) _ _ q c.as_str.ensures.value (c.in_ok-first.ensures.updates.0 (record { ref_ptr = (0, 0); now = q }))
