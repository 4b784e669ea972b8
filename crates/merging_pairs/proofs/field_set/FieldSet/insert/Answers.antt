use Rattle.std.proofs.Common.{◌∙◌, ◌||◌, ◌==◌, ap}
use Rattle.merging_pairs.specs.Sets.{has}
use Rattle.merging_pairs.proofs.Bits.{has-insert}
use Rattle.merging_pairs.proofs.field_set.FieldSet.insert.Goals as goal

pub returns : goal.returns
returns c = λ i. has-insert c.self.inside.words c.args.field i c.self.told c.requires ∙ ap (λ w. has w i || (i == c.args.field)) c.self.view_is
