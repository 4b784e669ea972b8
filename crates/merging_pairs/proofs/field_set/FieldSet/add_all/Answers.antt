use Rattle.std.proofs.Common.{◌∙◌, refl, arith}
use Rattle.merging_pairs.proofs.Bits.{has-or, each-word}
use Rattle.merging_pairs.proofs.field_set.FieldSet.add_all.Goals as goal

pub returns : goal.returns
returns c = λ i.
    has-or c.self.inside.words c.loop-k.self-inside.words c.other.inside.words (each-word c.self.inside.words c.loop-k.self-inside.words c.other.inside.words c.self.told c.loop-k.invariant.len c.other.told (λ j h. c.loop-k.invariant.done j (omega arith))) i
    ∙ rw (c.self.view_is, c.other.view_is) refl
