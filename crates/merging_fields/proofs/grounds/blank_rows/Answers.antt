use Rattle.std.proofs.Common.{◌∙◌, ap, refl, ◌+◌, ℕ, length, arith}
use Rattle.std.proofs.lemmas.Bool.{both_ways}
use Rattle.merging_pairs.specs.Table.{entry}
use Rattle.merging_pairs.proofs.Bits.{has-empty}
use Rattle.merging_fields.proofs.Joining.{blank-more, length-more}
use Rattle.merging_fields.proofs.grounds.blank_rows.Goals as goal

pub loop-init : goal.loop-init
loop-init c = rw c.in_ok-rows.ensures.items (refl, λ b a. has-empty a)

pub loop-preserved : goal.loop-preserved
loop-preserved c = (
  ap length c.in_ok-push.ensures.items ∙ (length-more c.loop.rows.items c.new.result ∙ ap (λ (n : ℕ). n + 1) c.loop.invariant.0),
  rw c.in_ok-push.ensures.items (blank-more c.loop.rows.items c.new.result c.new.ensures c.loop.invariant.1),
)

pub returns-clause-len : goal.returns-clause-len
returns-clause-len c =
    let len = c.loop.invariant.0 in let past = c.loop-test.false in let end = c.loop.auto.counter-end in omega (arith, len, past, end)

pub returns-clause-below : goal.returns-clause-below
returns-clause-below c = λ b a e. absurd (both_ways (entry c.loop.rows.items b a) (c.loop.invariant.1 b a) e)
