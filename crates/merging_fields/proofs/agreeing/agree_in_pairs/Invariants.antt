use Rattle.std.proofs.Common.{ℕ, ◌<◌}
use Rattle.rules_parts.specs.Parts.{parts_in}
use Rattle.merging_fields.specs.Agreeing.{AgreeUnderOneKey}
use Rattle.merging_fields.proofs.agreeing.agree_in_pairs.Given as goal

abbrev pub invariant-loop-number : goal.invariant-loop-number
invariant-loop-number l = (a b : ℕ) → a < b → b < l.number → AgreeUnderOneKey (parts_in l.parts) a b

abbrev pub invariant-loop-earlier : goal.invariant-loop-earlier
invariant-loop-earlier l = (a : ℕ) → a < l.earlier → AgreeUnderOneKey (parts_in l.parts) a l.number
