use Rattle.std.proofs.Common.{arith, rules}
use Rattle.merging_pairs.proofs.Bits.{met-at, none-met}
use Rattle.merging_pairs.proofs.field_set.FieldSet.meets.Goals as goal

pub returns-then-self-k-ne0 : goal.returns-then-self-k-ne0
returns-then-self-k-ne0 c = rw (← c.self.view_is, ← c.other.view_is) (record { found = λ e. met-at c.self.inside.words c.other.inside.words c.loop-k.k (search rules) c.if-self-k-ne0.true; none = λ e m. cc })

pub returns : goal.returns
returns c = rw (← c.self.view_is, ← c.other.view_is) (record { found = λ e. cc; none = λ e. none-met c.self.inside.words c.other.inside.words c.self.told c.other.told (λ j h. c.loop-k.invariant j (omega arith)) })
