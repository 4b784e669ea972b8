use Rattle.rules_parts.specs.Parts.{parts_in}
use Rattle.merging_members.specs.Fragments.{target_at}
use Rattle.merging_fields.specs.Agreeing.{AreSeen}
use Rattle.merging_fields.proofs.agreeing.agree_by_key.Given as goal

abbrev pub invariant-loop-number : goal.invariant-loop-number
invariant-loop-number l = AreSeen (parts_in l.parts) (target_at l.seen) l.number
